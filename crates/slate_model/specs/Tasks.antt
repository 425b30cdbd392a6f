-- The tasks that a handle runs by its options, in the order in which a close ends them.
use Rattle.std.specs.Prelude.{Bool, if◌then◌else◌, List, [], ◌∷◌, ◌++◌}
use Rattle.slate_errors.specs.declared.endings.TaskName.{TaskName}
use Rattle.slate_errors.specs.declared.endings.TaskName.TheVariants.{BatchWriter, CompactionWorker, Compactor, GarbageCollector, MemtableFlusher}

-- a task that is run only where this holds
abbrev pub task_if : Bool → TaskName → List TaskName
task_if runs task = if runs then task ∷ [] else []

abbrev pub handle_tasks : (compactor worker collector : Bool) → List TaskName
handle_tasks compactor worker collector =
    MemtableFlusher ∷ (task_if compactor Compactor ++ task_if worker CompactionWorker ++ task_if collector GarbageCollector ++ BatchWriter ∷ [])
