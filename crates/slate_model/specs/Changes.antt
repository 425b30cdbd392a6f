-- How many of an operation's changes are made, by what it answers.
use Rattle.std.specs.Prelude.{◌≡◌, ℕ, ◌≤◌, Bool, true, false, MatchBool, List, take, Result, Ok, Err}
use Rattle.slate_store.specs.Objects.{ObjectsOf, ChangeOf, changed_all}
use Rattle.slate_errors.specs.declared.errors.SlateError.{SlateError}
use Rattle.slate_errors.specs.declared.errors.SlateError.TheVariants.{EmptySegmentPrefix, ObjectStoreError, TransactionalObjectVersionExists, WalTruncated, InvalidDBState, NoMemory}

-- the errors after which a prefix of a command's changes may be made: a fault of the store, log files with a gap, or with a
-- key without a segment, a number at its end, or want of memory
abbrev pub leaves_prefix : SlateError → Bool
leaves_prefix (ObjectStoreError fault) = true
leaves_prefix TransactionalObjectVersionExists = true
leaves_prefix (WalTruncated id) = true
leaves_prefix (EmptySegmentPrefix key) = true
leaves_prefix InvalidDBState = true
leaves_prefix NoMemory = true
leaves_prefix error = false

-- How many of a command's changes were made, in their order: at Ok all of them, at an error of those a prefix, at any
-- other error none.
abbrev pub PartMade : {A : Type 0} → Result A SlateError → ℕ → ℕ → Type 0
PartMade (Ok _) all made = made ≡ all
PartMade (Err error) all made = MatchBool (leaves_prefix error) (made ≤ all) (made ≡ 0)

-- the objects after the first so many of these changes
abbrev pub after_part : {L : Type 0} → ℕ → List (ChangeOf L) → ObjectsOf L → ObjectsOf L
after_part made changes objects = changed_all (take made changes) objects
