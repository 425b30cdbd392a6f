use Rattle.std.proofs.Common.{◌≡◌, take, drop}
use Rattle.std.specs.List.{AllZip}
use Rattle.slate_dispatch.specs.Groups.{CancelsMember}
use Rattle.slate_dispatch.proofs.groups.cancel_members.Given as goal

abbrev pub invariant-loop-member : goal.invariant-loop-member
invariant-loop-member g l =
    record {
      so_far : AllZip (CancelsMember g.T.Task.steps g.T.Task.is_cancelled) (take l.member-index l.initial.members) (take l.member-index l.members);
      rest : drop l.member-index l.members ≡ drop l.member-index l.initial.members;
    }
