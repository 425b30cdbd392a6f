use Rattle.std.proofs.Common.{◌≡◌, None, subst, sym, ◌∙◌}
use Rattle.slate_types.specs.declared.scan_options.IterationOrder.TheVariants.{Ascending}
use Rattle.slate_rows.specs.Scan.{IsScan}
use Rattle.slate_model.specs.Object.{Handle as AHandle}
use Rattle.slate_model.specs.Stores.{kept_rows}
use Rattle.slate_model.specs.Known.{known}
use Rattle.slate_jobs.proofs.Openable.{passing-foreign, rest-refused, scan-refused}
use Rattle.slate_jobs.specs.declared.jobs.JobRefusal.TheVariants as refusals
use Rattle.slate_jobs.proofs.Opened.{rows-foreign, rows-read}
use Rattle.slate_jobs.proofs.stores.all_rows.Goals as goal

pub returns-in-Ok-clause-rows : goal.returns-in-Ok-clause-rows
returns-in-Ok-clause-rows g c =
    let d = ((c.in-Ok.ensures.scan None tt).read c.requires).plain in
    rows-read (kept_rows (g.S.Store.objects c.args.store.now) (AHandle c.args.writer.now)) d.0 d.1 c.in-Ok.rows.rows c.in-Ok.rows.fault
    (subst (λ range. IsScan None d.0 None range Ascending c.in-Ok.rows.rows c.in-Ok.rows.fault) c.full-range.ensures.bounds d.2.plain) c.rest_of.result c.rest_of.ensures.rows

pub returns-in-Ok-clause-foreign : goal.returns-in-Ok-clause-foreign
returns-in-Ok-clause-foreign g c =
    let d = ((c.in-Ok.ensures.scan None tt).read c.requires).plain in
    rows-foreign (kept_rows (g.S.Store.objects c.args.store.now) (AHandle c.args.writer.now)) d.0 d.1 c.in-Ok.rows.rows c.in-Ok.rows.fault
    (subst (λ range. IsScan None d.0 None range Ascending c.in-Ok.rows.rows c.in-Ok.rows.fault) c.full-range.ensures.bounds d.2.plain) c.rest_of.result c.rest_of.ensures.foreign

pub returns-in-Ok-clause-refused : goal.returns-in-Ok-clause-refused
returns-in-Ok-clause-refused g c = rest-refused _ (g.S.Store.objects c.args.store.now) c.args.writer.now.view.manifest.tables c.rest_of.result c.rest_of.ensures.refused

pub returns-clause-foreign : goal.returns-clause-foreign
returns-clause-foreign g c = λ no. absurd (passing-foreign c.in-Err.error (sym c.passing.ensures ∙ (let same : c.passing.result ≡ refusals.Foreign = cc in same)))

pub returns-clause-refused : goal.returns-clause-refused
returns-clause-refused g c =
    let before = known g.S.Store.objects g.S.Store.faults c.args.store.now in
    let after = known g.S.Store.objects g.S.Store.faults c.scan.new.store in
    scan-refused _ _ _ before after c.in-Err.error c.passing.result c.passing.ensures ((c.in-Err.ensures.scan None tt).read c.requires)
