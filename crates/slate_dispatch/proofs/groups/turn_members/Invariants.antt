use Rattle.std.proofs.Common.{◌≡◌, ◌∷◌, take, drop}
use Rattle.slate_dispatch.specs.Groups.{Passes, endings, first_error}
use Rattle.slate_dispatch.proofs.groups.turn_members.Given as goal

abbrev pub invariant-loop-member : goal.invariant-loop-member
invariant-loop-member g l =
    let old = take l.member-index l.initial.members in
    let new = take l.member-index l.members in
    record {
      passes : Passes g.T.Task.steps l.fn.moment l.fn.random l.initial.has_failed l.initial.cell old new l.has_failed l.cell;
      first : l.result_so_far ≡ first_error (l.initial.result_so_far ∷ endings old new);
      rest : drop l.member-index l.members ≡ drop l.member-index l.initial.members;
    }
