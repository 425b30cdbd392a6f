use Rattle.std.proofs.Common.{ap, ◌∙◌, subst}
use Rattle.std.proofs.lemmas.Int.{to_z-of_z}
use Rattle.std.specs.Int.{w64}
use Rattle.slate_jobs.specs.JobLists.{AreNoted, Listed}
use Rattle.slate_jobs.specs.Machine.{first_claimable}
use Rattle.slate_jobs.proofs.Noting.{first-noted}
use Rattle.slate_jobs.proofs.job_lists.JobList.first_claimable.Goals as goal

pub returns-in-Some-clause-place : goal.returns-in-Some-clause-place
returns-in-Some-clause-place c =
    (rw (to_z-of_z w64 c.args.moment c.ranges.moment) at c.first.ensures.place) ∙ (first-noted c.args.moment c.self.inside.jobs.items c.in-Some.turns (subst (AreNoted c.self.inside.jobs.items) c.in-Some.is c.self.invariant) ∙ ap (λ (l : Listed). first_claimable l.items c.args.moment) c.self.view_is)
