use Rattle.std.proofs.Common.{arith}
use Rattle.slate_jobs.proofs.Noting.{noted-after}
use Rattle.slate_jobs.proofs.job_lists.JobList.make.Goals as goal

pub invariant_of-self : goal.invariant_of-self
invariant_of-self c =
    noted-after c.self.inside.jobs.items c.make.new.jobs.items c.args.change c.self.inside.turns c.renote.result c.make.ensures c.self.invariant
    c.as_slice.result.now c.len.result c.changed_place-place.result c.take.result c.as_slice.ensures.value (omega arith) c.changed_place-place.ensures c.take.ensures.value c.renote.ensures
