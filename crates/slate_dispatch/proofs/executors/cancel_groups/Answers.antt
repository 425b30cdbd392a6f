use Rattle.std.proofs.Common.{◌<◌, arith, length, sym, subst}
use Rattle.slate_dispatch.specs.Groups.{TaskGroup, CancelsGroup}
use Rattle.slate_dispatch.proofs.GroupLemmas.{writes-next, zip-next}
use Rattle.slate_dispatch.proofs.executors.cancel_groups.Goals as goal

pub loop-group-preserved : goal.loop-group-preserved
loop-group-preserved g c =
    let within : c.loop-group.group-index < length c.loop-group.groups = omega (arith, c.loop-group.auto.groups) in
    let wrote = writes-next c.args.groups.now c.loop-group.groups c.loop-group.group-index c.group-item.result c.cancel.new.self within c.loop-group.auto.groups c.loop-group.invariant.rest c.group-item.is in
    record {
      so_far =
          zip-next _ _ _ _ _ _ wrote c.loop-group.invariant.so_far
          (subst (λ (group : TaskGroup g.row.T.Denot). CancelsGroup g.T.Task.steps g.T.Task.is_cancelled group c.cancel.new.self) (sym c.group-item.is) c.cancel.ensures);
      rest = wrote.rest;
    }
