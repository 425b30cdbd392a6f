-- What a step shows the seat that takes it.
use Rattle.std.specs.Prelude.{◌≡◌, ℕ, ◌≤◌, max, true, ◌==◌, if◌then◌else◌}
use Rattle.atomic_table.specs.Table.{Me, Step}
use Rattle.slate_board.specs.declared.rules.SeatView.{SeatView}
use Rattle.slate_board.specs.Views.{IsAtMost}
use Rattle.slate_board.specs.Words.{with_word}
use Rattle.slate_board.specs.Steps.{view_with}

-- of a step on one word: the word as it was found is not behind what the seat had seen, and for the lead is just that;
-- the seat knows the word as the step left it
pub record ShowsWord (place found left : ℕ) (v w : SeatView) : Type 0 where
  pub known : w ≡ view_with place left v
  pub forward : IsAtMost v.seen w.seen
  pub lead_found : v.lead ≡ true → with_word place found v.seen ≡ v.seen
  pub code : w.seen.close ≤ 3

-- of a step, the seat before it, the word that it found and the seat after it
abbrev pub Showing : Type 1
Showing = Step (Unit {0}) → Me (Unit {0}) SeatView → ℕ → Me (Unit {0}) SeatView → Type 0

abbrev pub Looks : Showing
Looks step before found after = ShowsWord step.word found found before.0 after.0 × (after.1 ≡ before.1)

abbrev pub Raises : Showing
Raises step before found after = ShowsWord step.word found (max found step.first) before.0 after.0 × (after.1 ≡ before.1)

-- the word becomes the second operand where it was the first
abbrev pub Exchanges : Showing
Exchanges step before found after = ShowsWord step.word found (if found == step.first then step.second else found) before.0 after.0 × (after.1 ≡ before.1)
