use Rattle.std.proofs.Common.{◌≡◌, sym, ◌∙◌, ap, ◌<◌, ◌+◌, length, vec_len, vec_capacity, length-append, add-one, arith, rules}
use Rattle.slate_dispatch.proofs.executors.enrol.Goals as goal

pub prove-unreachable-requires : goal.prove-unreachable-requires
prove-unreachable-requires g c =
    let rest : length c.loop-task.task-iterator.rest.items ≡ length c.next.new.self.rest.items + 1 =
    ap length c.in-Some.ensures.steps.0 ∙ sym (add-one _) in
    let whole : length c.args.tasks.items ≡ length c.loop-task.yielded + length c.loop-task.task-iterator.rest.items =
    ap length c.loop-task.invariant.whole ∙ length-append _ _ in
    let room : vec_len c.loop-task.enrolled < vec_capacity c.loop-task.enrolled = omega (arith, rest, whole, c.loop-task.invariant.count, c.loop-task.invariant.room) in
    search rules
