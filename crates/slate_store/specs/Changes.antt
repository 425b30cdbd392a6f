-- Changes that are made in their order, all of them or a prefix.
use Rattle.std.specs.Prelude.{◌≡◌, ℕ, ◌≤◌, Bool, MatchBool, List, take, Result, Ok, Err}
use Rattle.slate_store.specs.Objects.{ChangeOf, ObjectsOf, changed_all}

-- the objects after the first so many of these changes
abbrev pub after_part : {L : Type 0} → ℕ → List (ChangeOf L) → ObjectsOf L → ObjectsOf L
after_part made changes objects = changed_all (take made changes) objects

-- How many of an operation's changes were made, in their order: at Ok all of them, at an error that may leave a prefix
-- that many at most, at any other error none.
abbrev pub PartMadeBy : {A E : Type 0} → (leaves_prefix : E → Bool) → Result A E → ℕ → ℕ → Type 0
PartMadeBy leaves_prefix (Ok _) all made = made ≡ all
PartMadeBy leaves_prefix (Err error) all made = MatchBool (leaves_prefix error) (made ≤ all) (made ≡ 0)
