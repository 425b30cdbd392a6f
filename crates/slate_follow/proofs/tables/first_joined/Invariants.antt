use Rattle.std.proofs.Common.{◌≤◌, length}
use Rattle.slate_follow.proofs.tables.first_joined.Given as goal

abbrev pub invariant-loop-first : goal.invariant-loop-first
invariant-loop-first l = l.first ≤ length l.tables

abbrev pub decreases-loop-first : goal.decreases-loop-first
decreases-loop-first l = l.first
