use Rattle.std.proofs.Common.{rules}
use Rattle.slate_board.proofs.Allowed.{raises_tick}
use Rattle.slate_board.proofs.boards.Board.tick.Goals as goal

pub fetch_max-requires : goal.fetch_max-requires
fetch_max-requires c = (search rules, search rules, raises_tick _ _ _ _ (search rules))
