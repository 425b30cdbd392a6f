use Rattle.std.proofs.Common.{None}
use Rattle.std.proofs.Common.{refl, sym, ◌∙◌}
use Rattle.slate_jobs.proofs.Openable.{fresh-takes, passing-foreign, writer-fits, writer-refused}
use Rattle.slate_jobs.proofs.Opened.{handle-opens, refused-opens}
use Rattle.slate_jobs.proofs.stores.open_writer.Goals as goal

pub returns-in-Ok-clause-opens : goal.returns-in-Ok-clause-opens
returns-in-Ok-clause-opens g c = λ o is sound. let d = c.in-Ok.ensures.opens None tt in handle-opens o _ _ d.0 _ _ c.in-Ok.writer is sound d.1

pub returns-in-Ok-clause-causes : goal.returns-in-Ok-clause-causes
returns-in-Ok-clause-causes g c = λ o is sound. let d = c.in-Ok.ensures.opens None tt in writer-fits o sound _ _ is d.0 _ _ c.in-Ok.writer d.1

pub returns-in-Ok-clause-takes : goal.returns-in-Ok-clause-takes
returns-in-Ok-clause-takes g c = fresh-takes _ _ c.in-Ok.writer refl (c.in-Ok.ensures.opens None tt).1.fresh

pub returns-in-Err-clause-opens : goal.returns-in-Err-clause-opens
returns-in-Err-clause-opens g c = λ o is sound.
    let d = c.in-Err.ensures.opens None tt in
    refused-opens o _ _ d.0 _ _ c.in-Err.error c.passing.result is sound d.1 (λ no. passing-foreign c.in-Err.error (sym c.passing.ensures ∙ no))

pub returns-in-Err-clause-causes : goal.returns-in-Err-clause-causes
returns-in-Err-clause-causes g c = λ o is sound.
    let d = c.in-Err.ensures.opens None tt in
    writer-refused o sound _ _ is d.0 _ _ c.in-Err.error d.1 c.passing.result c.passing.ensures
