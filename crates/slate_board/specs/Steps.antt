-- The six kinds of step of a board's seats, and any number of them in any order.
use Rattle.std.specs.Prelude.{◌≡◌, ◌≢◌, ℕ, negsuc, ◌-◌, ◌^◌, ◌<◌, ◌≤◌, max, true, false, List, [], ◌∷◌, ◌++◌, slice_index, slice_set}
use Rattle.slate_board.specs.declared.rules.SeatView.{SeatView}
use Rattle.slate_board.specs.Views.{greater_of, first_code}
use Rattle.slate_board.specs.Words.{with_word}
use Rattle.slate_board.specs.Rule.{Standing, Knows}

-- a seat knows the word in that place, beside what else it has seen
abbrev pub view_with : ℕ → ℕ → SeatView → SeatView
view_with place word v = record { lead = v.lead; seen = with_word place word v.seen }

-- a seat that has seen as much and isn't the lead
abbrev pub follower_of : SeatView → SeatView
follower_of v = record { lead = false; seen = v.seen }

-- a seat that knows the greater of each, and is the lead where the first one is
abbrev pub union_of : SeatView → SeatView → SeatView
union_of v w = record { lead = v.lead; seen = greater_of v.seen w.seen }

-- what is left of a seat that was joined to another: it isn't the lead, and has seen the least numbers
abbrev pub spent_view : SeatView
spent_view = record { lead = false; seen = record { tick = negsuc (2 ^ 63 - 1); durable = 0; close = 0 } }

-- one word becomes this, and one seat, which knew v, knows the word then; no other word and no other view changes
pub record Writes (place word id : ℕ) (v : SeatView) (before after : Standing) : Type 0 where
  pub seat : Knows before.views id v
  pub words : after.words ≡ slice_set before.words place word
  pub views : after.views ≡ slice_set before.views id (view_with place word v)

-- a load, a raise of the tick, a raise of the durable number, a close, a split and a join; the three that change a word
-- are the lead's, a close has a code from 1 to 3, and the seat that is joined to another isn't the lead
pub data IsStep (before after : Standing) : Type 0 where
  loads : (place id : ℕ) (v : SeatView) → place < 3
      → Writes place (slice_index before.words place) id v before after → IsStep before after
  ticks : (tick id : ℕ) (v : SeatView) → v.lead ≡ true
      → Writes 0 (max (slice_index before.words 0) tick) id v before after → IsStep before after
  advances : (number id : ℕ) (v : SeatView) → v.lead ≡ true
      → Writes 1 (max (slice_index before.words 1) number) id v before after → IsStep before after
  closes : (code id : ℕ) (v : SeatView) → v.lead ≡ true → 1 ≤ code → code ≤ 3
      → Writes 2 (first_code (slice_index before.words 2) code) id v before after → IsStep before after
  splits : (id : ℕ) (v : SeatView) → Knows before.views id v
      → after ≡ record before { views = before.views ++ follower_of v ∷ [] } → IsStep before after
  joins : (id other : ℕ) (v w : SeatView) → other ≢ id → Knows before.views id v → Knows before.views other w → w.lead ≡ false
      → after ≡ record before { views = slice_set (slice_set before.views id (union_of v w)) other spent_view } → IsStep before after

-- each of these comes from the one before it by a step
abbrev pub IsRun : Standing → List Standing → Type 0
IsRun before [] = Unit {0}
IsRun before (after ∷ later) = IsStep before after × IsRun after later
