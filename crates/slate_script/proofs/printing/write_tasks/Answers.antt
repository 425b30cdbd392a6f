use Rattle.slate_text.proofs.AppendLemmas.{kept_front, always_on_err}
use Rattle.slate_script.specs.Replies.{tasks_text}
use Rattle.std.proofs.Common.{take}
use Rattle.slate_script.proofs.printing.write_tasks.Goals as goal

pub returns-in_err-write_task-clause-err : goal.returns-in_err-write_task-clause-err
returns-in_err-write_task-clause-err c =
    always_on_err _ (kept_front c.args.out.now.items (tasks_text (take c.loop-name.name-index c.args.names.now)) c.loop-name.out.items c.write_task.new.out.items c.loop-name.invariant c.in_err-write_task.ensures.err)
