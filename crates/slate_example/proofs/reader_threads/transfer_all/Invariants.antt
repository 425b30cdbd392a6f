use Rattle.std.proofs.Common.{◌≤◌}
use Rattle.slate_published.specs.States.{last_of}
use Rattle.slate_example.proofs.reader_threads.transfer_all.Given as goal

-- no state with a higher number than the last one was published
abbrev pub invariant-loop-balances : goal.invariant-loop-balances
invariant-loop-balances g l = (last_of l.publisher.states).number ≤ l.last
