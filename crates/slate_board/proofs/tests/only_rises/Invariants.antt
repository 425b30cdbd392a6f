use Rattle.std.proofs.Common.{◌≡◌}
use Rattle.slate_board.proofs.tests.only_rises.Given as goal

abbrev pub invariant-loop : goal.invariant-loop
invariant-loop l = l.seat.board ≡ l.board
