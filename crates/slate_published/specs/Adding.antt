-- The list of the states that are published: its rule, and what its steps tell.
--
-- The list exists in proofs alone. Beside the word of its head there is a cell for each state, which is at home, and one or
-- two that aren't. Who has the right to the first of these, and nobody else, adds the next state, which brings that cell home;
-- so who has it knows the whole list.
use Rattle.std.specs.Prelude.{ℕ, zero, suc, ◌≡◌, ◌==◌, ◌+◌, ◌<◌, ◌≤◌, true, false, List, [], ◌∷◌, ◌++◌, length, MatchBool}
use Rattle.logbook.specs.Pages.{Cell, Step, View, Book, Named, Nib, nib, may_make, may_write}
use Rattle.slate_published.specs.Published.{Published}
use Rattle.slate_published.specs.States.{NeverFall}

-- so many cells at home, before others
abbrev pub homes : ℕ → List Cell → List Cell
homes zero cells = cells
homes (suc count) cells = (0, true) ∷ homes count cells

-- so many cells that aren't
abbrev pub aways : ℕ → List Cell
aways zero = []
aways (suc count) = (0, false) ∷ aways count

-- the head counts the cells that aren't at home; a book has a second word, which is left at 0
abbrev pub cells_of : ℕ → ℕ → List Cell
cells_of home away = (away, true) ∷ (0, true) ∷ homes home (aways away)

-- A list that has a state has a cell that isn't at home. Numbers never fall along it.
pub record IsKeptBook (cells : List Cell) (list : List Published) : Type 0 where
  pub away : ℕ
  pub words : cells ≡ cells_of (length list) away
  pub few : away ≤ 2
  pub held : 0 < length list → 0 < away
  pub rising : NeverFall list

abbrev pub head_of : Book → Named
head_of book = record { tracked = true; key = 0; book = book }

-- the right to add the next state to a list of so many
abbrev pub right_after : ℕ → Nib
right_after count = nib may_write (count + 2) 0

-- where the head was as expected, a cell was added, with the right to make its word; the first one to a list without a state
abbrev pub AddsCell : Step Published → View Published ℕ → ℕ → View Published ℕ → Type 0
AddsCell s v found w = MatchBool (found == s.old) ((w.1.0 ≡ nib may_make ((length w.0 + s.old) + 2) 0) × (s.old ≡ 0 → w.0 ≡ [])) (Unit {0})

-- where the head was as expected, the state was added to all that was known, which was all that there was; else the right stays
abbrev pub AddsState : Step Published → View Published ℕ → ℕ → View Published ℕ → Type 0
AddsState s v found w = MatchBool (found == s.old) ((length v.0 + 2 ≡ v.1.0.key) × (w.0 ≡ v.0 ++ s.ask ∷ []) × NeverFall w.0) (w.1.0 ≡ v.1.0)

-- who has the right to add the next state sees the whole list, and keeps the right
abbrev pub SeesAll : Step Published → View Published ℕ → ℕ → View Published ℕ → Type 0
SeesAll s v found w = (length w.0 + 2 ≤ v.1.0.key) × (w.1.0 ≡ v.1.0)
