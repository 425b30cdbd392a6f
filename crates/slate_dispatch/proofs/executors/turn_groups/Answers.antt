use Rattle.std.proofs.Common.{◌<◌, arith, length}
use Rattle.slate_dispatch.proofs.GroupLemmas.{writes-next, groups-next}
use Rattle.slate_dispatch.proofs.executors.turn_groups.Goals as goal

pub loop-group-preserved : goal.loop-group-preserved
loop-group-preserved g c =
    let within : c.loop-group.group-index < length c.loop-group.groups = omega (arith, c.loop-group.auto.groups) in
    let wrote = writes-next c.args.groups.now c.loop-group.groups c.loop-group.group-index c.group-item.result c.turn-has_failed.new.self within c.loop-group.auto.groups c.loop-group.invariant.rest c.group-item.is in
    record {
      passes =
          groups-next _ _ _ _ _ _ _ _ _ _ _ _ _ _ _ wrote c.loop-group.invariant.passes c.group-item.is c.turn-has_failed.ensures.name c.turn-has_failed.ensures.passes c.turn-has_failed.ensures.first;
      rest = wrote.rest;
    }
