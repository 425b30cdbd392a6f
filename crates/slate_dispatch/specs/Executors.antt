-- What an executor is, and what its calls make of it.
use Rattle.std.specs.Prelude.{◌≡◌, ℕ, Bool, false, if◌then◌else◌, List, [], ◌∷◌, ◌++◌, map, nat_eq, remove, slice_get, slice_set, Option, Some, None, MatchOption, Result, Ok, Err}
use Rattle.std.specs.Cmp.Lexicographic.{pointwise}
use Rattle.std.specs.List.{position}
use Rattle.slate_errors.specs.declared.errors.SlateError.{SlateError}
use Rattle.slate_errors.specs.declared.errors.SlateError.TheVariants as errors
use Rattle.slate_dispatch.specs.declared.executors.ExecutorRefusal.{ExecutorRefusal}
use Rattle.slate_dispatch.specs.declared.groups.Member.{Member}
use Rattle.slate_dispatch.specs.Groups.{Outcome, TaskGroup, CancelsGroup, ShutsGroup, outcome_of}
use Rattle.slate_dispatch.specs.Tasks.{TaskCall}

pub record Executing (T : Type 0) : Type 0 where
  pub groups : List (TaskGroup T)  -- in order of registration
  pub is_started : Bool

-- the index of the group that is registered under a name
abbrev pub index_of : {T : Type 0} → List ℕ → List (TaskGroup T) → Option ℕ
index_of name groups = position (λ group. pointwise nat_eq group.name name) groups

-- the same, in an executor that was started
abbrev pub started_index : {T : Type 0} → List ℕ → Executing T → Option ℕ
started_index name e = if e.is_started then index_of name e.groups else None

-- the same, in one that wasn't
abbrev pub waiting_index : {T : Type 0} → List ℕ → Executing T → Option ℕ
waiting_index name e = if e.is_started then None else index_of name e.groups

-- a task that runs
abbrev pub new_member : {T : Type 0} → T → Member T
new_member task = record { task = task; ended = None }

abbrev pub new_group : {T : Type 0} → List ℕ → List T → TaskGroup T
new_group name tasks = record { name = name; members = map new_member tasks; result = Ok tt }

-- what a registration is refused with, where the name is registered or isn't
abbrev pub refusal_by : List ℕ → Option ℕ → SlateError
refusal_by name (Some index) = errors.BackgroundTaskExists name
refusal_by name None = errors.NoMemory

abbrev pub refusal_of : {T : Type 0} → List ℕ → Executing T → SlateError
refusal_of name e = if e.is_started then errors.BackgroundTaskExecutorStarted else refusal_by name (index_of name e.groups)

-- A registration: it takes place only where the executor wasn't started and the name is new.
abbrev pub Registers : {T : Type 0} → List ℕ → List T → Executing T → Result (Unit {0}) (ExecutorRefusal T) → Executing T → Type 0
Registers name tasks old (Ok _) new =
    (old.is_started ≡ false)
    × (index_of name old.groups ≡ None)
    × (new ≡ record old { groups = old.groups ++ new_group name tasks ∷ [] })
Registers name tasks old (Err refusal) new = (refusal.error ≡ refusal_of name old) × (refusal.members.items ≡ tasks) × (new ≡ old)

-- the group at an index becomes one that R relates to it
abbrev pub ChangesAt : {T : Type 0} → ℕ → (TaskGroup T → TaskGroup T → Type 0) → Executing T → Executing T → Type 0
ChangesAt {T} index R old new =
    (group group' : TaskGroup T)
    × (slice_get old.groups index ≡ Some group)
    × R group group'
    × (new ≡ record old { groups = slice_set old.groups index group' })

-- a started group is cancelled; any other name changes nothing
abbrev pub CancelsTask : {T : Type 0} → (T → TaskCall → T → Type 0) → (T → Bool) → List ℕ → Executing T → Executing T → Type 0
CancelsTask steps is_cancelled name old new =
    MatchOption (started_index name old) (new ≡ old) (λ index. ChangesAt index (CancelsGroup steps is_cancelled) old new)

-- the result of a started group; that of any other name is Ok
abbrev pub Joins : {T : Type 0} → List ℕ → Executing T → Option Outcome → Type 0
Joins {T} name e result =
    MatchOption (started_index name e) (result ≡ Some (Ok tt))
    (λ index. (group : TaskGroup T) × (slice_get e.groups index ≡ Some group) × (result ≡ outcome_of group))

-- A started group is shut down, and its result is answered. For any other name nothing changes, and the answer is Ok.
abbrev pub ShutsTask : {T : Type 0} → (T → TaskCall → T → Type 0) → List ℕ → (held held' : Option Outcome) → Executing T → Outcome → Executing T → Type 0
ShutsTask steps name held held' old result new =
    MatchOption (started_index name old) ((result ≡ Ok tt) × (held' ≡ held) × (new ≡ old))
    (λ index. ChangesAt index (λ group group'. ShutsGroup steps held held' group group' × (result ≡ group'.result)) old new)

-- a group that wasn't started is taken out; any other name is shut down
abbrev pub TakesOut : {T : Type 0} → (T → TaskCall → T → Type 0) → List ℕ → (held held' : Option Outcome) → Executing T → Option Outcome → Executing T → Type 0
TakesOut steps name held held' old answer new =
    MatchOption (waiting_index name old)
    ((result : Outcome) × (answer ≡ Some result) × ShutsTask steps name held held' old result new)
    (λ index. (answer ≡ None) × (held' ≡ held) × (new ≡ record old { groups = remove old.groups index }))
