use Rattle.std.proofs.Common.{rules, arith}
use Rattle.slate_board.proofs.Allowed.{looks}
use Rattle.slate_board.proofs.boards.Board.load.Goals as goal

pub load-requires : goal.load-requires
load-requires c = (search rules, search rules, looks _ _ 0 _ (omega arith))

pub load-durable-requires : goal.load-durable-requires
load-durable-requires c = (search rules, search rules, looks _ _ 1 _ (omega arith))

pub load-close-requires : goal.load-close-requires
load-close-requires c = (search rules, search rules, looks _ _ 2 _ (omega arith))
