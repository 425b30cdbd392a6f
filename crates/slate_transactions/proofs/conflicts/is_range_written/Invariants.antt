use Rattle.std.proofs.Common.{◌≡◌, false, take}
use Rattle.std.specs.List.{list_any}
use Rattle.slate_transactions.specs.Transaction.{is_newer_in}
use Rattle.slate_transactions.proofs.conflicts.is_range_written.Given as goal

abbrev pub invariant-loop-range : goal.invariant-loop-range
invariant-loop-range l = list_any (is_newer_in l.number l.writes.writes) (take l.range-index l.ranges) ≡ false
