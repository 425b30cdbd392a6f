use Rattle.std.proofs.Common.{◌≡◌, take}
use Rattle.slate_jobs.specs.JobLists.{turns_of}
use Rattle.slate_jobs.proofs.job_lists.note.Given as goal

abbrev pub invariant-loop-place : goal.invariant-loop-place
invariant-loop-place l = l.turns ≡ take l.place (turns_of l.jobs)
