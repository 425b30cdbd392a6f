use Rattle.std.proofs.Common.{◌≡◌, IsTrue}
use Rattle.slate_board.proofs.tests.advance.Given as goal

abbrev pub invariant-loop-number : goal.invariant-loop-number
invariant-loop-number l = record { same_board : l.lead.board ≡ l.board; lead : IsTrue l.lead.lead }
