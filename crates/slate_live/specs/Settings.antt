-- What a run is given for all its commands.
use Rattle.std.specs.Prelude.{List, Option}
use Rattle.slate_types.specs.Operator.{Merge}
use Rattle.slate_errors.specs.declared.endings.TaskName.{TaskName}
use Rattle.slate_model.specs.Segments.{Extractor}
use Rattle.slate_model.specs.Tasks.{handle_tasks}
use Rattle.slate_script.specs.declared.options.Options.{Options}

-- what commands are run with: the operator and the extractor, where there are any, and the options of the handles
pub record Settings : Type 0 where
  pub merge : Option Merge
  pub extractor : Option Extractor
  pub options : Options

-- the tasks that run for a handle by the options
abbrev pub option_tasks : Options → List TaskName
option_tasks options = handle_tasks options.compactor options.compaction_worker options.collector
