-- the names so far run, in an executor that isn't started yet, and were told nothing
use Rattle.std.proofs.Common.{◌≡◌, false, take, map, None}
use Rattle.slate_errors.specs.Tasks.{task_text}
use Rattle.slate_tasks.specs.Running.{AreTold, Runs}
use Rattle.slate_tasks.proofs.running.Tasks.start.Given as goal

abbrev pub invariant-loop-name : goal.invariant-loop-name
invariant-loop-name l = record {
  listed : l.running ≡ take l.name-index l.names;
  runs : Runs false (map task_text l.running) l.executor;
  told : AreTold (λ d. d.finished) None l.executor.groups;
}
