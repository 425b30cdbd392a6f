-- The text of a task's name.
use Rattle.std.specs.Prelude.{ℕ, List, codes}
use Rattle.slate_errors.specs.declared.endings.TaskName.{TaskName}
use Rattle.slate_errors.specs.declared.endings.TaskName.TheVariants as tasks

abbrev pub task_text : TaskName → List ℕ
task_text tasks.MemtableFlusher = codes "memtable_flusher"
task_text tasks.Compactor = codes "compactor"
task_text tasks.CompactionWorker = codes "compaction_worker"
task_text tasks.GarbageCollector = codes "garbage_collector"
task_text tasks.BatchWriter = codes "batch_writer"
task_text tasks.ManifestPoller = codes "manifest_poller"
