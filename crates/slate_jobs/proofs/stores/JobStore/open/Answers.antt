use Rattle.std.proofs.Common.{◌≡◌, None, Err, ap, sym, subst, ◌∙◌}
use Rattle.slate_jobs.specs.Decoding.{AreRows}
use Rattle.slate_jobs.proofs.Openable.{rows-fit, rows-ready, rows-refused}
use Rattle.slate_store.specs.Content.{content}
use Rattle.slate_jobs.specs.declared.jobs.JobRefusal.TheVariants as refusals
use Rattle.slate_jobs.proofs.Reread.{never-foreign}
use Rattle.slate_jobs.proofs.Opened.{fault-opens, of-rows-opens}
use Rattle.slate_jobs.proofs.stores.JobStore.open.Goals as goal

pub returns-in-Ok-all_rows-clause-opens : goal.returns-in-Ok-all_rows-clause-opens
returns-in-Ok-all_rows-clause-opens g c = λ o is sound.
    let w = c.in-Ok.ensures.opens o is sound in
    let d = c.in-Ok-all_rows.ensures.rows in (
      w.0,
      c.all_rows.ensures.kept ∙ w.1,
      of-rows-opens o w.0 c.in-Ok.writer w.2 (g.S.Store.objects c.open_writer.new.store) w.1 c.as_slice.result.now d.0 d.1
          (subst (λ rows. AreRows d.0 rows None) (sym c.as_slice.ensures) d.2) c.of_rows.ensures.bytes c.of_rows.result c.of_rows.ensures.queue c.of_rows.ensures.refused,
    )

pub returns-in-Err-all_rows-clause-opens : goal.returns-in-Err-all_rows-clause-opens
returns-in-Err-all_rows-clause-opens g c = λ o is sound.
    let w = c.in-Ok.ensures.opens o is sound in (
      w.0,
      c.all_rows.ensures.kept ∙ w.1,
      fault-opens o w.0 c.in-Ok.writer w.2 (g.S.Store.objects c.open_writer.new.store) w.1 c.in-Err-all_rows.refusal
          (λ same. c.in-Err-all_rows.ensures.foreign (ap Err same)),
    )

pub returns-in-Ok-all_rows-clause-causes : goal.returns-in-Ok-all_rows-clause-causes
returns-in-Ok-all_rows-clause-causes g c = λ o is sound. rows-fit o _ (c.in-Ok.ensures.causes o is sound).fits _ _ c.of_rows.result c.of_rows.ensures.queue c.of_rows.ensures.refused

pub returns-in-Ok-all_rows-clause-ready : goal.returns-in-Ok-all_rows-clause-ready
returns-in-Ok-all_rows-clause-ready g c = rows-ready c.in-Ok.writer c.in-Ok.ensures.takes _ c.of_rows.result c.of_rows.ensures.queue

pub returns-in-Err-all_rows-clause-causes : goal.returns-in-Err-all_rows-clause-causes
returns-in-Err-all_rows-clause-causes g c = λ o is sound.
    let w = c.in-Ok.ensures.opens o is sound in
    rows-refused o w.0 _ _ _ c.open_writer.ensures.faults c.in-Ok.writer.view.manifest.tables w.2.tabled (g.S.Store.objects c.open_writer.new.store) w.1 (c.in-Ok.ensures.causes o is sound).fits c.in-Err-all_rows.refusal c.in-Err-all_rows.ensures.refused

pub returns-in-Ok-all_rows-clause-known : goal.returns-in-Ok-all_rows-clause-known
returns-in-Ok-all_rows-clause-known g c = λ o machine is sound holds foreign. never-foreign (content o).batches machine holds ((returns-in-Ok-all_rows-clause-opens g c o is sound).2.foreign foreign)

pub returns-in-Err-all_rows-clause-known : goal.returns-in-Err-all_rows-clause-known
returns-in-Err-all_rows-clause-known g c = λ o machine is sound holds foreign. never-foreign (content o).batches machine holds ((returns-in-Err-all_rows-clause-opens g c o is sound).2.foreign foreign)

pub returns-in-Err-clause-known : goal.returns-in-Err-clause-known
returns-in-Err-clause-known g c = λ o machine is sound holds foreign. (c.in-Err.ensures.opens o is sound).2.foreign (let same : c.in-Err.refusal ≡ refusals.Foreign = cc in ap Err same)
