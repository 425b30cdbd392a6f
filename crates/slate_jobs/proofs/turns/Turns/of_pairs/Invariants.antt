use Rattle.std.proofs.Common.{◌≡◌, take}
use Rattle.slate_jobs.specs.Turns.{pairs}
use Rattle.slate_jobs.proofs.turns.Turns.of_pairs.Given as goal

abbrev pub invariant-loop-place : goal.invariant-loop-place
invariant-loop-place l = l.above.items ≡ take l.place (pairs l.turns)
