-- Which groups of an executor run.
use Rattle.std.specs.Prelude.{◌≡◌, ℕ, ◌⊎◌, Bool, if◌then◌else◌, List, [], ◌∷◌, Option, Some, None}
use Rattle.std.specs.List.{AllByRecursion}
use Rattle.slate_errors.specs.declared.endings.TaskName.{TaskName}
use Rattle.slate_dispatch.specs.Executors.{Executing}
use Rattle.slate_dispatch.specs.Groups.{Outcome, TaskGroup, has_running}

-- tasks that run under their names, in the order in which they were registered
pub record Running : Type 0 where
  pub names : List TaskName
  pub told : Option Outcome  -- the result that those were told that have ended, once some were to end

-- the names of the groups that run, in order of registration
abbrev pub running_names : {T : Type 0} → List (TaskGroup T) → List (List ℕ)
running_names [] = []
running_names (group ∷ groups) = if has_running group.members then group.name ∷ running_names groups else running_names groups

-- a group has this name
abbrev pub HasName : {T : Type 0} → List ℕ → List (TaskGroup T) → Type 0
HasName name [] = ⊥
HasName name (group ∷ groups) = (group.name ≡ name) ⊎ HasName name groups

-- no two groups have one name
abbrev pub AreDistinct : {T : Type 0} → List (TaskGroup T) → Type 0
AreDistinct [] = Unit {0}
AreDistinct (group ∷ groups) = (HasName group.name groups → ⊥) × AreDistinct groups

-- a task that has ended was finished with the result that was to be told
abbrev pub WasTold : (ended told finished : Option Outcome) → Type 0
WasTold None told finished = Unit {0}
WasTold (Some result) told finished = (outcome : Outcome) × (told ≡ Some outcome) × (finished ≡ Some outcome)

-- so was each task of these groups; `finished` says with what a task was
abbrev pub AreTold : {T : Type 0} → (T → Option Outcome) → Option Outcome → List (TaskGroup T) → Type 0
AreTold finished told groups = AllByRecursion (λ group. AllByRecursion (λ member. WasTold member.ended told (finished member.task)) group.members) groups

-- an executor, started or not, in which the groups with these names run
pub record Runs {T : Type 0} (started : Bool) (names : List (List ℕ)) (executor : Executing T) : Type 0 where
  pub started_is : executor.is_started ≡ started
  pub distinct : AreDistinct executor.groups
  pub running : running_names executor.groups ≡ names
