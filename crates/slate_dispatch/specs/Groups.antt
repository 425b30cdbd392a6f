-- Groups of tasks, and what a turn makes of them.
use Rattle.std.specs.Prelude.{◌≡◌, ◌||◌, ℕ, ℤ, pos, Bool, true, false, IsTrue, if◌then◌else◌, List, [], ◌∷◌, ◌++◌, filter, Option, Some, None, is_none, Result, Ok, Err, is_err, unwrap_or}
use Rattle.std.specs.List.{AllZip, AllByRecursion as ByRecursion, FoldsTo, list_any}
use Rattle.slate_dispatch.specs.declared.groups.Member.{Member}
use Rattle.slate_dispatch.specs.declared.tasks.TurnAnswer.{TurnAnswer}
pub use Rattle.slate_dispatch.specs.Handlers.{Outcome}
use Rattle.slate_dispatch.specs.Tasks.{TaskCall, Turn, Cancel, Finish, ending_of}

-- a group of tasks under a name
pub record TaskGroup (T : Type 0) : Type 0 where
  pub name : List ℕ
  pub members : List (Member T)
  pub result : Outcome  -- the first error that a member ended with, else Ok

-- the first error, else Ok
abbrev pub first_error : List Outcome → Outcome
first_error [] = Ok tt
first_error (Ok _ ∷ results) = first_error results
first_error (Err fault ∷ results) = Err fault

-- one of these is an error
abbrev pub has_error : List Outcome → Bool
has_error results = list_any is_err results

-- what a close cell holds after these were written to it, one after another: the first stays
abbrev pub after_writes : List Outcome → Option Outcome → Option Outcome
after_writes [] held = held
after_writes (result ∷ results) held = Some (unwrap_or held result)

-- with what a member ended that ran before
abbrev pub ending : (old new : Option Outcome) → Option Outcome
ending (Some result) new = None
ending None new = new

abbrev pub add_ending : Option Outcome → List Outcome → List Outcome
add_ending (Some result) results = result ∷ results
add_ending None results = results

-- the results of the members that ran before and have ended, in order
abbrev pub endings : {T : Type 0} (old new : List (Member T)) → List Outcome
endings [] new = []
endings (m ∷ old) [] = []
endings (m ∷ old) (m' ∷ new) = add_ending (ending m.ended m'.ended) (endings old new)

-- a call that isn't a cancel
abbrev pub is_work : TaskCall → Bool
is_work (Turn moment random answer) = true
is_work Cancel = false
is_work (Finish result) = true

-- the calls, or those of them that aren't cancels
abbrev pub besides : (cancels : Bool) → List TaskCall → List TaskCall
besides true calls = filter is_work calls
besides false calls = calls

-- The calls of a turn that gave this ending, or none, and its end: a member that ended was finished with what the cell
-- holds.
abbrev pub EndsBy : ℤ → ℕ → (held : Option Outcome) → TurnAnswer → Option Outcome → List TaskCall → (ended : Option Outcome) → Type 0
EndsBy moment random held answer None calls ended = (calls ≡ Turn moment random answer ∷ []) × (ended ≡ None)
EndsBy moment random held answer (Some result) calls ended =
    (closed : Outcome)
    × (held ≡ Some closed)
    × (calls ≡ Turn moment random answer ∷ Finish closed ∷ [])
    × (ended ≡ Some result)

-- a member that runs is given one turn, and one that has ended none
abbrev pub Works : ℤ → ℕ → (held : Option Outcome) → (old : Option Outcome) → List TaskCall → (new : Option Outcome) → Type 0
Works moment random held (Some result) calls new = (calls ≡ []) × (new ≡ Some result)
Works moment random held None calls new = (answer : TurnAnswer) × EndsBy moment random held answer (ending_of answer) calls new

-- the first call is a turn
abbrev pub BeginsWithTurn : List TaskCall → Type 0
BeginsWithTurn [] = ⊥
BeginsWithTurn (Turn moment random answer ∷ calls) = Unit {0}
BeginsWithTurn (Cancel ∷ calls) = ⊥
BeginsWithTurn (Finish result ∷ calls) = ⊥

-- a member that ran has ended well
abbrev pub EndsWell : {T : Type 0} → Member T → Member T → Type 0
EndsWell old new = new.ended ≡ Some (unwrap_or old.ended (Ok tt))

-- What a turn makes of a member: its task was called so, besides cancels, where there were some. `held` is what the
-- cell holds in the end. Until a member has failed, the calls of each that runs begin with its turn; a late one, which
-- comes after a failure, ends well.
pub record TurnsMember {T : Type 0} (steps : T → TaskCall → T → Type 0) (moment : ℤ) (random : ℕ) (late cancels : Bool) (held : Option Outcome) (old new : Member T) : Type 0 where
  pub calls : List TaskCall
  pub made : FoldsTo steps old.task calls new.task
  pub work : Works moment random held old.ended (besides cancels calls) new.ended
  pub prompt : late ≡ false → old.ended ≡ None → BeginsWithTurn calls
  pub well : late ≡ true → EndsWell old new

-- whether a member that may have ended has failed
abbrev pub is_failure : Option Outcome → Bool
is_failure (Some result) = is_err result
is_failure None = false

-- What a turn makes of members, one after another: those after one that failed are late, and all are where something
-- had failed before.
abbrev pub TurnsMembers : {T : Type 0} → (T → TaskCall → T → Type 0) → ℤ → ℕ → (late cancels : Bool) → (held : Option Outcome) → (old new : List (Member T)) → Type 0
TurnsMembers steps moment random late cancels held [] [] = Unit {0}
TurnsMembers steps moment random late cancels held [] (m' ∷ new) = ⊥
TurnsMembers steps moment random late cancels held (m ∷ old) [] = ⊥
TurnsMembers steps moment random late cancels held (m ∷ old) (m' ∷ new) =
    TurnsMember steps moment random late cancels held m m'
    × TurnsMembers steps moment random (late || is_failure (ending m.ended m'.ended)) cancels held old new

-- What a pass over members left, where something had failed before or not, and the cell held this before: each had its
-- turn, in order, and wrote its result to the cell as it ended.
pub record Passes {T : Type 0} (steps : T → TaskCall → T → Type 0) (moment : ℤ) (random : ℕ) (failed : Bool) (held : Option Outcome)
    (old new : List (Member T)) (failed' : Bool) (held' : Option Outcome) : Type 0 where
  pub turns : TurnsMembers steps moment random failed failed' held' old new
  pub fails : failed' ≡ (failed || has_error (endings old new))
  pub holds : held' ≡ after_writes (endings old new) held

-- what a turn makes of a group
pub record TurnsGroup {T : Type 0} (steps : T → TaskCall → T → Type 0) (moment : ℤ) (random : ℕ) (late cancels : Bool) (held : Option Outcome) (old new : TaskGroup T) : Type 0 where
  pub name : new.name ≡ old.name
  pub members : TurnsMembers steps moment random late cancels held old.members new.members
  pub result : new.result ≡ first_error (old.result ∷ endings old.members new.members)

-- the results of all members that ran before and have ended, in order of registration
abbrev pub all_endings : {T : Type 0} (old new : List (TaskGroup T)) → List Outcome
all_endings [] new = []
all_endings (g ∷ old) [] = []
all_endings (g ∷ old) (g' ∷ new) = endings g.members g'.members ++ all_endings old new

-- What a turn makes of groups, one after another: the members after one that failed are late, in its group and in later
-- ones.
abbrev pub TurnsInOrder : {T : Type 0} → (T → TaskCall → T → Type 0) → ℤ → ℕ → (late cancels : Bool) → (held : Option Outcome) → (old new : List (TaskGroup T)) → Type 0
TurnsInOrder steps moment random late cancels held [] [] = Unit {0}
TurnsInOrder steps moment random late cancels held [] (g' ∷ new) = ⊥
TurnsInOrder steps moment random late cancels held (g ∷ old) [] = ⊥
TurnsInOrder steps moment random late cancels held (g ∷ old) (g' ∷ new) =
    TurnsGroup steps moment random late cancels held g g'
    × TurnsInOrder steps moment random (late || has_error (endings g.members g'.members)) cancels held old new

-- the same of a pass over groups
pub record PassesGroups {T : Type 0} (steps : T → TaskCall → T → Type 0) (moment : ℤ) (random : ℕ) (failed : Bool) (held : Option Outcome)
    (old new : List (TaskGroup T)) (failed' : Bool) (held' : Option Outcome) : Type 0 where
  pub turns : TurnsInOrder steps moment random failed failed' held' old new
  pub fails : failed' ≡ (failed || has_error (all_endings old new))
  pub holds : held' ≡ after_writes (all_endings old new) held

-- a member whose task was cancelled
pub record CancelsMember {T : Type 0} (steps : T → TaskCall → T → Type 0) (is_cancelled : T → Bool) (old new : Member T) : Type 0 where
  pub step : steps old.task Cancel new.task
  pub flag : IsTrue (is_cancelled new.task)
  pub ended : new.ended ≡ old.ended

-- a group, each of whose members was cancelled
pub record CancelsGroup {T : Type 0} (steps : T → TaskCall → T → Type 0) (is_cancelled : T → Bool) (old new : TaskGroup T) : Type 0 where
  pub name : new.name ≡ old.name
  pub members : AllZip (CancelsMember steps is_cancelled) old.members new.members
  pub result : new.result ≡ old.result

-- each member of each group was cancelled
abbrev pub AreCancelled : {T : Type 0} → (T → Bool) → List (TaskGroup T) → Type 0
AreCancelled is_cancelled groups = ByRecursion (λ group. ByRecursion (λ member. IsTrue (is_cancelled member.task)) group.members) groups

-- A turn of an executor: each member that runs has its turn, in order of registration; the first of the results that
-- the cell is written stays; and an error cancels every member of every group, none before its turn but those that come
-- later, which end well.
pub record TurnsGroups {T : Type 0} (steps : T → TaskCall → T → Type 0) (is_cancelled : T → Bool) (moment : ℤ) (random : ℕ) (held held' : Option Outcome) (old new : List (TaskGroup T)) : Type 0 where
  pub turns : TurnsInOrder steps moment random false (has_error (all_endings old new)) held' old new
  pub holds : held' ≡ after_writes (all_endings old new) held
  pub cancelled : IsTrue (has_error (all_endings old new)) → AreCancelled is_cancelled new

-- a group that is shut down: each member that runs is late, and so ends well by one turn
pub record ShutsGroup {T : Type 0} (steps : T → TaskCall → T → Type 0) (held held' : Option Outcome) (old new : TaskGroup T) : Type 0 where
  pub turns : TurnsGroup steps (pos 0) 0 true true held' old new
  pub holds : held' ≡ after_writes (endings old.members new.members) held

-- a member runs
abbrev pub has_running : {T : Type 0} → List (Member T) → Bool
has_running members = list_any (λ member. is_none member.ended) members

-- the result of a group, once all its members have ended
abbrev pub outcome_of : {T : Type 0} → TaskGroup T → Option Outcome
outcome_of group = if has_running group.members then None else Some group.result
