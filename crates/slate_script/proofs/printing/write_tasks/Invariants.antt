-- the names so far are written behind the old text
use Rattle.std.proofs.Common.{◌≡◌, ◌++◌, take}
use Rattle.slate_script.specs.Replies.{tasks_text}
use Rattle.slate_script.proofs.printing.write_tasks.Given as goal

abbrev pub invariant-loop-name : goal.invariant-loop-name
invariant-loop-name l = l.out.items ≡ l.fn.out.items ++ tasks_text (take l.name-index l.names)
