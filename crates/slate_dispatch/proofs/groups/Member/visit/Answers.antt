use Rattle.std.proofs.Common.{◌≡◌, refl, w64, to_z, of_z}
use Rattle.std.proofs.lemmas.Int.{to_z-of_z}
use Rattle.slate_dispatch.proofs.GroupLemmas.{turns-cancelled}
use Rattle.slate_dispatch.proofs.groups.Member.visit.Goals as goal
use Rattle.slate_dispatch.proofs.groups.Member.visit.Goals.{then-cancels, else-cancels}

pub returns-clause-turns : goal.returns-clause-turns
returns-clause-turns g c =
    let moment_back : to_z w64 (of_z w64 c.args.moment) ≡ c.args.moment = to_z-of_z w64 _ c.ranges.moment in
    elim c.if-cancels.branch [
      | then-cancels w ↦
          rw w.if-cancels.true
          (turns-cancelled g.T.Task.steps c.args.moment c.args.random _ _ _ _ w.cancel.ensures.step refl
          (rw (moment_back, w.self-is) at c.turn.ensures.turns) ((rw (w.self-is) at c.turn.ensures.well) w.cancel.ensures.flag))
      | else-cancels w ↦ rw w.if-cancels.false (rw (moment_back, w.self-is) at c.turn.ensures.turns)
    ]
