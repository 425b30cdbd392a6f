use Rattle.std.proofs.Common.{rules}
use Rattle.slate_board.proofs.Allowed.{splits_seat}
use Rattle.slate_board.proofs.boards.Board.split.Goals as goal

pub split_seat-second-requires : goal.split_seat-second-requires
split_seat-second-requires c = (search rules, search rules, splits_seat _ _)
