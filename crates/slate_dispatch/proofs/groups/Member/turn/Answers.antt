use Rattle.std.proofs.Common.{◌≡◌, sym, ◌∙◌, ap, Some, w64, unwrap_or}
use Rattle.std.proofs.lemmas.Int.{to_z-of_z}
use Rattle.slate_dispatch.specs.Tasks.{ending_of}
use Rattle.slate_dispatch.proofs.GroupLemmas.{turns-on, turns-end, not_ended, ending-none}
use Rattle.slate_dispatch.proofs.groups.Member.turn.Goals as goal
use Rattle.slate_dispatch.proofs.groups.Member.turn.Goals.{in-Cancelled, in-Failed}

pub returns-in-Handled-clause-turns : goal.returns-in-Handled-clause-turns
returns-in-Handled-clause-turns g c =
    turns-on g.T.Task.steps c.args.moment _ c.args.random _ _ _ c.turn.result (to_z-of_z w64 _ c.ranges.moment)
    (not_ended _ _ c.is_some.ensures c.if-is_some.false)
    (ending-none _ c.in-Handled.is)
    c.turn.ensures.step

pub returns-clause-turns : goal.returns-clause-turns
returns-clause-turns g c =
    let end : ending_of c.turn.result ≡ Some c.match-turn.outcome =
    elim c.match-turn.branch [
      | in-Cancelled w ↦ ap ending_of w.in-Cancelled.is ∙ ap Some (sym w.outcome-is)
      | in-Failed w ↦ ap ending_of w.in-Failed.is ∙ ap Some (sym w.outcome-is)
    ] in
    turns-end g.T.Task.steps c.args.moment _ c.args.random _ _ c.turn.new.self _ c.turn.result _ c.unwrap_or.result (to_z-of_z w64 _ c.ranges.moment)
    (not_ended _ _ c.is_some.ensures c.if-is_some.false)
    end
    (c.write.ensures.kept ∙ ap Some (sym (c.unwrap_or.ensures ∙ ap (λ o. unwrap_or o c.match-turn.outcome) (c.read.ensures ∙ c.write.ensures.kept))))
    c.turn.ensures.step
    c.finish.ensures.step
