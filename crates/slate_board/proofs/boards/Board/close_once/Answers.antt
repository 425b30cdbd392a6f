use Rattle.std.proofs.Common.{rules}
use Rattle.slate_board.proofs.Allowed.{exchanges_close}
use Rattle.slate_board.proofs.boards.Board.close_once.Goals as goal

pub compare_exchange-requires : goal.compare_exchange-requires
compare_exchange-requires c = (search rules, search rules, exchanges_close _ _ _ _ _ (search rules) (search rules) c.requires.code.0 c.requires.code.1)
