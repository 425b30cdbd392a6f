-- What a contract sees of a seat.
use Rattle.std.specs.Prelude.{Bool}
use Rattle.atomic_table.specs.Seated.{TableId}
use Rattle.slate_board.specs.declared.views.BoardView.{BoardView}

-- the board that it belongs to, whether it is the lead, and the numbers that it has seen
pub record SeatState : Type 0 where
  pub board : TableId
  pub lead : Bool
  pub seen : BoardView
