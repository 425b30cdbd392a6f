use Rattle.std.proofs.Common.{◌≡◌, ◌<◌, [], ◌∷◌, ◌++◌, false, length, None, subst, rules}
use Rattle.slate_errors.specs.Tasks.{task_text}
use Rattle.slate_dispatch.specs.Executors.{Registers}
use Rattle.slate_tasks.specs.Running.{Runs}
use Rattle.slate_tasks.proofs.Ending.{registered-runs}
use Rattle.slate_tasks.proofs.Telling.{registered-told}
use Rattle.slate_tasks.proofs.running.register.Goals as goal

pub returns-clause-runs : goal.returns-clause-runs
returns-clause-runs c = λ names runs.
    let tasks = c.push.new.self.items in
    let old = c.args.executor.now in
    let new = c.add_handlers.new.self in
    let text : c.of-text.result ≡ task_text c.args.name = search rules in
    let some : 0 < length tasks = search rules in
    let registers = subst (λ r. Registers c.of-text.result tasks old r new) c.in-Ok.is c.add_handlers.ensures in
    subst (λ name. Runs false (names ++ name ∷ []) new) text
    (registered-runs c.of-text.result tasks names old new some runs registers.1 registers.2)

pub returns-clause-told : goal.returns-clause-told
returns-clause-told c = λ told.
    let tasks = c.push.new.self.items in
    let registers = subst (λ r. Registers c.of-text.result tasks c.args.executor.now r c.add_handlers.new.self) c.in-Ok.is c.add_handlers.ensures in
    registered-told (λ d. d.finished) None c.of-text.result tasks c.args.executor.now c.add_handlers.new.self registers.2 told
