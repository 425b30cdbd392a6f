use Rattle.std.proofs.Common.{◌≡◌, sym, ◌∙◌, ap, refl, Some, w64}
use Rattle.std.proofs.lemmas.Int.{to_z-of_z}
use Rattle.slate_dispatch.specs.Turns.{Acts, Dispatching}
use Rattle.slate_dispatch.proofs.TurnLemmas.{acts-cancelled, acts-live}
use Rattle.slate_dispatch.proofs.dispatchers.DispatcherTask.turn.Goals as goal
use Rattle.slate_dispatch.proofs.dispatchers.DispatcherTask.turn.Goals.{then-self, else-self}

pub returns-clause-step : goal.returns-clause-step
returns-clause-step g c =
    let flag : c.args.self.now.is_cancelled ≡ c.self.inside.is_cancelled = sym (ap (λ d. d.is_cancelled) c.self.view_is) in
    let acts : Acts g.H.MessageHandler.steps g.H.MessageHandler.schedule g.H.MessageHandler.ready g.H.MessageHandler.last_answer c.args.moment c.args.random c.args.self.now.is_cancelled c.args.self.now c.if-self.answer c.if-self.self =
    elim c.if-self.branch [
      | then-self w ↦ acts-cancelled g.H.MessageHandler.steps g.H.MessageHandler.schedule g.H.MessageHandler.ready g.H.MessageHandler.last_answer c.args.moment c.args.random c.args.self.now.is_cancelled _ _ _ (flag ∙ w.if-self.true) w.answer-is w.self-is
      | else-self w ↦
          acts-live g.H.MessageHandler.steps g.H.MessageHandler.schedule g.H.MessageHandler.ready g.H.MessageHandler.last_answer c.args.moment _ c.args.random c.args.self.now.is_cancelled _ _ _ _ _ _ (flag ∙ w.if-self.false) (to_z-of_z w64 _ c.ranges.moment) refl (sym w.self-is) (sym w.answer-is)
          w.handle_next-answer.ensures.acts
    ] in
    (c.if-self.self, acts, ap (λ (d : Dispatching g.row.H.Denot g.row.H-Message.Denot). record d { last_answer = Some c.if-self.answer }) c.self-2.view_is)
