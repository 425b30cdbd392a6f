use Rattle.std.proofs.Common.{◌≡◌, drop}
use Rattle.slate_seqtrack.specs.Tracker.{extended}
use Rattle.slate_seqtrack.proofs.tracker.SequenceTracker.extend_from.Given as goal

abbrev pub invariant-loop-place : goal.invariant-loop-place
invariant-loop-place l = extended l.self (drop l.place l.other.pairs) ≡ extended l.fn.self l.other.pairs
