use Rattle.std.proofs.Common.{◌≡◌, ◌∙◌, Some, ap, refl, sym, subst}
use Rattle.std.specs.Option.{is_none}
use Rattle.slate_types.specs.declared.options.ReadOptions.{ReadOptions}
use Rattle.slate_types.specs.declared.scan_options.ScanOptions.{ScanOptions}
use Rattle.slate_reads.specs.Bound.{read_bound}
use Rattle.slate_reads.specs.Read.{read_at}
use Rattle.slate_model.specs.Handle.{accepted}
use Rattle.slate_model.specs.Known.{known}
use Rattle.slate_model.specs.Object.{Handle as AHandle}
use Rattle.slate_model.specs.Read.{Gives, ReadsUnlessClosed}
use Rattle.slate_model.specs.Stores.{kept_rows}
use Rattle.slate_writer.specs.Scanned.{BeginsScanOf}
use Rattle.slate_live.specs.Calls.{asks_operator}
use Rattle.slate_live.proofs.Closed.{either-reads, taken-of}
use Rattle.slate_live.proofs.handles.read.Goals as goal

pub returns-in-Get-clause-does : goal.returns-in-Get-clause-does
returns-in-Get-clause-does g c settings handle writes lawful =
    let h = c.args.writer.now in
    let before = known g.S.Store.objects g.S.Store.faults c.args.store.now in
    let after = known g.S.Store.objects g.S.Store.faults c.get.new.store in
    rw c.in-Get.is (
      record {
        result = c.get.result;
        replied = c.read_reply.ensures;
        does = rw (← c.as_slice.ensures) (subst (λ (o : ReadOptions). ReadsUnlessClosed h.result h.view.manifest.tables (kept_rows (g.S.Store.objects c.args.store.now) (AHandle h)) (λ rows answer. answer ≡ read_at settings.merge rows (read_bound c.args.snapshot h.durable (accepted h) o.durability_filter o.dirty) c.as_slice.result.now) before c.get.result after) c.read_options-options.ensures (either-reads h.result (λ open_. c.get.ensures.read settings.merge (lawful (ap (asks_operator (Some (AHandle h))) c.in-Get.is ∙ ap is_none open_))) c.get.ensures.by_any));
      },
      refl {a = h},
      refl,
      refl {a = writes},
    )

pub returns-in-Scan-clause-does : goal.returns-in-Scan-clause-does
returns-in-Scan-clause-does g c settings handle writes lawful =
    let h = c.args.writer.now in
    let before = known g.S.Store.objects g.S.Store.faults c.args.store.now in
    let after = known g.S.Store.objects g.S.Store.faults c.scan-scan.new.store in
    let scans = subst (λ (o : ScanOptions). ReadsUnlessClosed h.result h.view.manifest.tables (kept_rows (g.S.Store.objects c.args.store.now) (AHandle h)) (Gives (BeginsScanOf h settings.merge c.args.snapshot o c.as_ref.result.now)) before c.scan-scan.result after) c.scan_options-options.ensures (either-reads h.result (λ open_. c.scan-scan.ensures.scan settings.merge (lawful (ap (asks_operator (Some (AHandle h))) c.in-Scan.is ∙ ap is_none open_))) c.scan-scan.ensures.by_any) in
    rw c.in-Scan.is (rw (sym c.as_ref.ensures) (taken-of c.scan-scan.result c.all_rows.result c.rows_reply.result scans c.all_rows.ensures c.rows_reply.ensures), refl {a = h}, refl, refl {a = writes})

pub returns-in-Seek-clause-does : goal.returns-in-Seek-clause-does
returns-in-Seek-clause-does g c settings handle writes lawful =
    let h = c.args.writer.now in
    let before = known g.S.Store.objects g.S.Store.faults c.args.store.now in
    let after = known g.S.Store.objects g.S.Store.faults c.scan-scan-in-Seek.new.store in
    let scans = subst (λ (o : ScanOptions). ReadsUnlessClosed h.result h.view.manifest.tables (kept_rows (g.S.Store.objects c.args.store.now) (AHandle h)) (Gives (BeginsScanOf h settings.merge c.args.snapshot o c.as_ref-range.result.now)) before c.scan-scan-in-Seek.result after) c.scan_options-options-in-Seek.ensures (either-reads h.result (λ open_. c.scan-scan-in-Seek.ensures.scan settings.merge (lawful (ap (asks_operator (Some (AHandle h))) c.in-Seek.is ∙ ap is_none open_))) c.scan-scan-in-Seek.ensures.by_any) in
    rw c.in-Seek.is (rw (sym c.as_ref-range.ensures) (taken-of c.scan-scan-in-Seek.result c.rows_with_seek.result c.rows_reply-in-Seek.result scans c.rows_with_seek.ensures c.rows_reply-in-Seek.ensures), refl {a = h}, refl, refl {a = writes})
