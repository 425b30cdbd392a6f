use Rattle.std.proofs.Common.{Some, subst}
use Rattle.slate_errors.specs.Tasks.{task_text}
use Rattle.slate_dispatch.specs.Executors.{ShutsTask}
use Rattle.slate_dispatch.specs.Tasks.{TaskCall}
use Rattle.slate_dispatch.specs.Turns.{DispatcherSteps, Dispatching}
use Rattle.slate_tasks.specs.declared.handlers.NoWork.{NoWork}
use Rattle.slate_tasks.proofs.Ending.{shut-first}
use Rattle.slate_tasks.proofs.Telling.{tells-group}
use Rattle.slate_tasks.proofs.running.shut.Goals as goal

abbrev steps : Dispatching NoWork (Unit {0}) → TaskCall → Dispatching NoWork (Unit {0}) → Type 0
steps = DispatcherSteps (λ _ _ _. Unit {0}) (λ (h : NoWork). h.tickers.now) (λ h. h.ready.now) (λ h. h.answered)

pub returns-clause-runs : goal.returns-clause-runs
returns-clause-runs c = λ rest runs.
    let s = c.shutdown_task-result in
    let shuts = subst (λ n. ShutsTask steps n c.args.cell.now s.new.cell c.args.executor.now s.result s.new.self) c.as_str.ensures s.ensures in
    shut-first steps (task_text c.args.name) rest c.args.cell.now s.new.cell c.args.executor.now s.new.self s.result runs shuts

pub returns-clause-told : goal.returns-clause-told
returns-clause-told c = λ outcome held told.
    let s = c.shutdown_task-result in
    let shuts = subst (λ h. ShutsTask steps c.as_str.result.now h s.new.cell c.args.executor.now s.result s.new.self) held s.ensures in
    tells-group (λ _ _ _. Unit {0}) (λ (h : NoWork). h.tickers.now) (λ h. h.ready.now) (λ h. h.answered) c.as_str.result.now s.new.cell c.args.executor.now s.new.self s.result outcome shuts told
