-- The tasks that run for a handle by its options.
use Rattle.std.specs.Prelude.{List}
use Rattle.slate_errors.specs.declared.endings.TaskName.{TaskName}
use Rattle.slate_model.specs.Tasks.{handle_tasks}
use Rattle.slate_writer.specs.declared.opens.WriterOptions.{WriterOptions}

abbrev pub tasks_of : WriterOptions → List TaskName
tasks_of options = handle_tasks options.compactor options.compaction_worker options.collector
