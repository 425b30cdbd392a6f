-- The rule over a board's three words and all that its seats know.
use Rattle.std.specs.Prelude.{◌≡◌, ℕ, ◌≤◌, true, List, [], ◌∷◌, length, slice_index}
use mathlib.Core.Option.{some}
use lib.ListN.{get_elem?}
use Rattle.atomic_table.specs.Table.{State}
use Rattle.slate_board.specs.declared.views.BoardView.{BoardView}
use Rattle.slate_board.specs.declared.rules.SeatView.{SeatView}
use Rattle.slate_board.specs.Views.{IsAtMost}
use Rattle.slate_board.specs.Words.{numbers_of}

-- a board at a moment: its words, and what each seat knows
pub record Standing : Type 0 where
  pub words : List ℕ
  pub views : List SeatView

-- the seat of that number knows this
abbrev pub Knows : List SeatView → ℕ → SeatView → Type 0
Knows views id v = get_elem? views id ≡ some v

-- at most one seat is the lead and its numbers are the words; no seat has seen more than the words
pub record IsRuled (board : Standing) : Type 0 where
  pub three : length board.words ≡ 3
  pub code : slice_index board.words 2 ≤ 3
  pub one_lead : (i j : ℕ) (v w : SeatView) → Knows board.views i v → Knows board.views j w → v.lead ≡ true → w.lead ≡ true → i ≡ j
  pub lead_knows : (i : ℕ) (v : SeatView) → Knows board.views i v → v.lead ≡ true → v.seen ≡ numbers_of board.words
  pub none_ahead : (i : ℕ) (v : SeatView) → Knows board.views i v → IsAtMost v.seen (numbers_of board.words)

abbrev pub IsRuledState : State (Unit {0}) SeatView → Type 0
IsRuledState state = IsRuled record { words = state.words; views = state.views }

-- the lead, which knows these numbers
abbrev pub lead_with : BoardView → SeatView
lead_with numbers = record { lead = true; seen = numbers }

-- a new board has one seat, the lead
abbrev pub new_board : ℕ → ℕ → Standing
new_board tick durable = let words = tick ∷ durable ∷ 0 ∷ [] in record { words = words; views = lead_with (numbers_of words) ∷ [] }
