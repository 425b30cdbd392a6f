use Rattle.std.proofs.Common.{◌≡◌, ◌<◌, ◌∙◌, ◌||◌, ◌∷◌, arith, length}
use Rattle.std.specs.Option.{option_to_list}
use Rattle.slate_dispatch.specs.Groups.{first_error, is_failure}
use Rattle.slate_dispatch.proofs.GroupLemmas.{writes-next, passes-next, first-next, fails-Some, fails-None, fails-before, first-Some, first-None}
use Rattle.slate_dispatch.proofs.groups.turn_members.Goals as goal
use Rattle.slate_dispatch.proofs.groups.turn_members.Goals.{in-Some+else-has_failed, in-Some+then-has_failed, in_default}

pub loop-member-preserved : goal.loop-member-preserved
loop-member-preserved g c =
    let within : c.loop-member.member-index < length c.loop-member.members = omega (arith, c.loop-member.auto.members) in
    let wrote = writes-next c.args.members.now c.loop-member.members c.loop-member.member-index c.member-item.result c.visit.new.self within c.loop-member.auto.members c.loop-member.invariant.rest c.member-item.is in
    let fails : c.match-visit.has_failed ≡ (c.loop-member.has_failed || is_failure c.visit.result) =
    elim c.match-visit.branch [
      | in-Some+then-has_failed w ↦ fails-before _ _ _ w.if-has_failed.true w.has_failed-is
      | in-Some+else-has_failed w ↦ fails-Some _ _ _ _ w.in-Some.is w.if-has_failed.false (w.has_failed-is ∙ w.is_err.ensures.value)
      | in_default w ↦ fails-None _ _ _ w.in_default.is w.has_failed-is
    ] in
    let first : c.match-visit.result_so_far ≡ first_error (c.loop-member.result_so_far ∷ option_to_list c.visit.result) =
    elim c.match-visit.branch [
      | in-Some+then-has_failed w ↦ first-Some _ _ _ _ w.in-Some.is (w.result_so_far-is ∙ w.and.ensures)
      | in-Some+else-has_failed w ↦ first-Some _ _ _ _ w.in-Some.is (w.result_so_far-is ∙ w.and.ensures)
      | in_default w ↦ first-None _ _ _ w.in_default.is w.result_so_far-is
    ] in
    record {
      passes =
          passes-next _ _ _ _ _ _ _ _ _ _ _ _ _ _ _ _ wrote c.loop-member.invariant.passes c.member-item.is c.visit.ensures.turns c.visit.ensures.ended c.visit.ensures.holds fails;
      first = first-next _ _ _ _ _ _ _ _ _ _ _ _ _ _ _ _ _ wrote c.loop-member.invariant.passes c.member-item.is c.visit.ensures.ended c.loop-member.invariant.first first;
      rest = wrote.rest;
    }
