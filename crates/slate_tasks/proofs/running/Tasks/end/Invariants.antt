-- the tasks run that are still to be ended, none is listed any more, and those that have ended were told what the cell holds
use Rattle.std.proofs.Common.{◌≡◌, true, [], drop, map, Some}
use Rattle.std.specs.Prelude.{unwrap_or}
use Rattle.slate_errors.specs.Tasks.{task_text}
use Rattle.slate_tasks.specs.Running.{AreTold, Runs}
use Rattle.slate_tasks.proofs.running.Tasks.end.Given as goal

abbrev pub invariant-loop-name : goal.invariant-loop-name
invariant-loop-name l = record {
  listed : l.self-inside.running ≡ [];
  first : l.self-inside.told ≡ Some (unwrap_or l.fn.self.told l.fn.outcome);
  holds : l.cell ≡ Some (unwrap_or l.fn.self.told l.fn.outcome);
  runs : Runs true (map task_text (drop l.name-index l.name-items)) l.self-inside.executor;
  told : AreTold (λ d. d.finished) (Some (unwrap_or l.fn.self.told l.fn.outcome)) l.self-inside.executor.groups;
}
