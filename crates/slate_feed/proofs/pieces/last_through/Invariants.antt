use Rattle.std.proofs.Common.{◌≤◌, ◌-◌, length}
use Rattle.slate_feed.specs.Taking.{IsThrough}
use Rattle.slate_feed.proofs.pieces.last_through.Given as goal

abbrev pub invariant-loop-high : goal.invariant-loop-high
invariant-loop-high l = record {
  through : IsThrough l.number l.low l.batches;
  ordered : l.low ≤ l.high;
  within : l.high ≤ length l.batches;
}

abbrev pub decreases-loop-high : goal.decreases-loop-high
decreases-loop-high l = l.high - l.low
