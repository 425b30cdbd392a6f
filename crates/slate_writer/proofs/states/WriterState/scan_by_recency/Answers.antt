use Rattle.std.proofs.Common.{◌≡◌, ◌∙◌, ◌∷◌, List, map, None, ap, sym, subst, false}
use Rattle.slate_types.specs.declared.batches.Batch.{Batch}
use Rattle.slate_reads.specs.Bound.{read_bound}
use Rattle.slate_rows.specs.Recency.{IsRecency, source_entries}
use Rattle.slate_rows.specs.declared.entries.RowEntry.{RowEntry}
use Rattle.slate_store.specs.declared.objects.VersionedManifest.{VersionedManifest}
use Rattle.slate_model.specs.Handle.{Handle, accepted}
use Rattle.slate_model.specs.Known.{known}
use Rattle.slate_model.specs.Recency.{span_two}
use Rattle.slate_writer.proofs.Recent.{lists-recent}
use Rattle.slate_writer.proofs.states.WriterState.scan_by_recency.Goals as goal

pub returns-clause-scan : goal.returns-clause-scan
returns-clause-scan g c =
    let objects = g.S.Store.objects in
    let h : Handle = c.args.self.now in
    let options = c.args.options.now in
    let prefix = c.args.prefix.now in
    let v = c.in_ok-tables.ensures in
    let live : h.result ≡ None = sym c.closed.ensures ∙ c.in_default.is in
    let single : span_two prefix h.view.manifest.segments ≡ false =
    ap (λ (m : VersionedManifest). span_two prefix m.manifest.segments) (sym c.view.ensures) ∙ (ap (span_two prefix) (sym c.as_slice.ensures) ∙ (sym c.span_two.ensures ∙ c.if-span_two.false))
    in
    let bound = read_bound None h.durable (accepted h) options.durability_filter options.dirty in
    let bound_is : c.prepare_max_seq-bound.result ≡ bound =
    c.prepare_max_seq-bound.ensures ∙ (ap (λ n. read_bound None n c.accepted.result options.durability_filter options.dirty) c.durable.ensures.value
    ∙ ap (λ n. read_bound None h.durable n options.durability_filter options.dirty) c.accepted.ensures.value)
    in
    let memory_is : c.as_indexed-memory.result.now ≡ h.line.batches = c.as_indexed-memory.ensures ∙ (c.in_ok-memory.ensures ∙ ap (λ (h : Handle). h.line.batches) c.self.view_is) in
    let lists_are =
    ap (λ bound. map (source_entries bound prefix) (c.as_indexed-memory.result.now ∷ c.as_slice-tables.result.now)) bound_is
    ∙ (ap (λ (memory : List Batch). map (source_entries bound prefix) (memory ∷ c.as_slice-tables.result.now)) memory_is
    ∙ ap (λ (tables : List (List Batch)). map (source_entries bound prefix) (h.line.batches ∷ tables)) c.as_slice-tables.ensures.value)
    in
    lists-recent h options prefix (known objects g.S.Store.faults c.args.store.now) (known objects g.S.Store.faults c.read_newest_first.new.store) c.in_ok-tables.tables.items c.in_ok-list_recent.field-0 live single
    v.faults.stays v.kept (λ none. ap (known objects g.S.Store.faults) (v.untouched none)) v.each
    (subst (λ (lists : List (List RowEntry)). IsRecency options.order lists c.in_ok-list_recent.field-0) lists_are c.in_ok-list_recent.ensures)
