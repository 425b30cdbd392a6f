-- The numbers of a board at two moments.
use Rattle.std.specs.Prelude.{◌≡◌, ℕ, ◌≤◌, ◌≤ℤ◌, ◌⊎◌, ◌==◌, if◌then◌else◌, max}
use Rattle.std.specs.Int.{int_max}
use Rattle.slate_board.specs.declared.views.BoardView.{BoardView}

-- no number is above the other's, and a close code other than 0 is the other's
pub record IsAtMost (x y : BoardView) : Type 0 where
  pub tick : x.tick ≤ℤ y.tick
  pub durable : x.durable ≤ y.durable
  pub close : (x.close ≡ 0) ⊎ (x.close ≡ y.close)

abbrev pub greater_of : BoardView → BoardView → BoardView
greater_of x y = record { tick = int_max x.tick y.tick; durable = max x.durable y.durable; close = max x.close y.close }

-- the close code after a close with this one: the first code stays
abbrev pub first_code : ℕ → ℕ → ℕ
first_code old code = if old == 0 then code else old
