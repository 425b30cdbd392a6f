use Rattle.std.proofs.Common.{◌≡◌, take, drop}
use Rattle.std.specs.List.{AllZip}
use Rattle.slate_dispatch.specs.Groups.{CancelsGroup}
use Rattle.slate_dispatch.proofs.executors.cancel_groups.Given as goal

abbrev pub invariant-loop-group : goal.invariant-loop-group
invariant-loop-group g l =
    record {
      so_far : AllZip (CancelsGroup g.T.Task.steps g.T.Task.is_cancelled) (take l.group-index l.initial.groups) (take l.group-index l.groups);
      rest : drop l.group-index l.groups ≡ drop l.group-index l.initial.groups;
    }
