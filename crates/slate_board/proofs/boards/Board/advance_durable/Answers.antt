use Rattle.std.proofs.Common.{rules}
use Rattle.slate_board.proofs.Allowed.{raises_durable}
use Rattle.slate_board.proofs.boards.Board.advance_durable.Goals as goal

pub fetch_max-before-requires : goal.fetch_max-before-requires
fetch_max-before-requires c = (search rules, search rules, raises_durable _ _ _ _ (search rules))
