use Rattle.std.proofs.Common.{◌++◌, append_assoc, ap, ◌∙◌}
use Rattle.std.specs.Prelude.{codes}
use Rattle.slate_text.proofs.AppendLemmas.{kept_front, always_on_err}
use Rattle.slate_script.specs.Replies.{fault_text}
use Rattle.slate_script.proofs.printing.write_ended.Goals as goal

pub returns-in_err-write_tasks-clause-err : goal.returns-in_err-write_tasks-clause-err
returns-in_err-write_tasks-clause-err c =
    let fault = fault_text c.args.fault.now in
    always_on_err _ (kept_front c.args.out.now.items (fault ++ codes "ended") c.write_text.new.out.items c.write_tasks.new.out.items
    (c.in_ok-write_text.ensures.ok ∙ (ap (λ xs. xs ++ codes "ended") c.in_ok-write_fault.ensures.ok ∙ append_assoc c.args.out.now.items fault (codes "ended")))
    c.in_err-write_tasks.ensures.err)
