use Rattle.std.proofs.Common.{◌<◌, arith, length, sym, ap, subst}
use Rattle.slate_dispatch.specs.declared.groups.Member.{Member}
use Rattle.slate_dispatch.specs.Tasks.{Cancel}
use Rattle.slate_dispatch.proofs.GroupLemmas.{writes-next, zip-next}
use Rattle.slate_dispatch.proofs.groups.cancel_members.Goals as goal

pub loop-member-preserved : goal.loop-member-preserved
loop-member-preserved g c =
    let within : c.loop-member.member-index < length c.loop-member.members = omega (arith, c.loop-member.auto.members) in
    let wrote = writes-next c.args.members.now c.loop-member.members c.loop-member.member-index c.member-item.result _ within c.loop-member.auto.members c.loop-member.invariant.rest c.member-item.is in
    record {
      so_far =
          zip-next _ _ _ _ _ _ wrote c.loop-member.invariant.so_far
          (record {
            step = subst (λ (m : Member g.row.T.Denot). g.T.Task.steps m.task Cancel c.cancel.new.self) (sym c.member-item.is) c.cancel.ensures.step;
            flag = c.cancel.ensures.flag;
            ended = sym (ap (λ (m : Member g.row.T.Denot). m.ended) c.member-item.is);
          });
      rest = wrote.rest;
    }
