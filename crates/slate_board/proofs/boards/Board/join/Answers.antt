use Rattle.std.proofs.Common.{rules}
use Rattle.slate_board.proofs.Allowed.{joins_seat}
use Rattle.slate_board.proofs.boards.Board.join.Goals as goal

pub join_seat-requires : goal.join_seat-requires
join_seat-requires c = (search rules, search rules, search rules, search rules, joins_seat _ _ _ _ (search rules))
