use Rattle.std.proofs.Common.{◌≡◌, false, take, drop}
use Rattle.slate_dispatch.specs.Groups.{PassesGroups}
use Rattle.slate_dispatch.proofs.executors.turn_groups.Given as goal

abbrev pub invariant-loop-group : goal.invariant-loop-group
invariant-loop-group g l =
    record {
      passes : PassesGroups g.T.Task.steps l.fn.moment l.fn.random false l.initial.cell (take l.group-index l.initial.groups) (take l.group-index l.groups) l.has_failed l.cell;
      rest : drop l.group-index l.groups ≡ drop l.group-index l.initial.groups;
    }
