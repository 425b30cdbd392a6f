use Rattle.std.proofs.Common.{◌≡◌, ◌∙◌, Option, Err, ap, rules, subst, sym}
use Rattle.slate_types.proofs.Modelled.{modelled_as}
use Rattle.slate_store.specs.Objects.{Objects}
use Rattle.slate_follow.specs.Rebuilding.{poll_error}
use Rattle.slate_follow.specs.Stepping.{FailsFrom, StepFails}
use Rattle.slate_follow.specs.declared.machines.Turn.TheVariants.{Goes}
use Rattle.slate_follow.proofs.Arriving.{arrival-failed, arrival-lacks, call-lacks}
use Rattle.slate_errors.specs.declared.errors.SlateError.TheVariants.{InvalidDBState}
use Rattle.slate_model.specs.Begun.{taken}
use Rattle.slate_model.specs.declared.answers.PollAnswer.{PollAnswer}
use Rattle.slate_types.specs.Modelled.{WhereModelled}
use Rattle.slate_follow.proofs.Refusing.{err-same, segment-key}
use Rattle.slate_follow.proofs.machines.PollMachine.take_step.Goals as goal

pub returns-in-Err-clause-steps : goal.returns-in-Err-clause-steps
returns-in-Err-clause-steps g c =
    let reader = c.args.state.now in
    let old = c.args.self.now in
    let e = c.in-Err.error in
    let other : c.in_ok-turn.turn ≡ Goes → ⊥ = search rules in
    let all = modelled_as (λ (o o' : Objects). StepFails (poll_error e) reader old o o') c.in_ok-turn.ensures.next.meets
    (λ o o' m. arrival-failed reader old c.call.new.self c.in_ok-turn.turn e o o' c.in-Err.ensures.kind other m) in
    let is : c.poll_error.result ≡ poll_error e = search rules in
    rw is all

pub returns-in_err-turn-clause-lacks : goal.returns-in_err-turn-clause-lacks
returns-in_err-turn-clause-lacks g c x lawful is =
    let e = c.in_err-turn.field-0.0 in
    let got : c.from_residual.result ≡ Err e = search rules in
    let invalid : e ≡ InvalidDBState = err-same (Option PollAnswer) e InvalidDBState (sym got ∙ is) in
    let reader = c.args.state.now in
    let old = c.args.self.now in
    call-lacks x reader old (subst (λ e. WhereModelled (λ (o o' : Objects). FailsFrom old.stage reader (taken old) o e o') (g.S.Store.objects c.args.store.now) (g.S.Store.objects c.call.new.store)) invalid c.in_err-turn.ensures.next.failed)

pub returns-in-Err-clause-lacks : goal.returns-in-Err-clause-lacks
returns-in-Err-clause-lacks g c x lawful is =
    let e = c.in-Err.error in
    let key = segment-key e c.in-Err.ensures.kind (sym c.poll_error.ensures ∙ err-same (Option PollAnswer) c.poll_error.result InvalidDBState is) in
    let other : c.in_ok-turn.turn ≡ Goes → ⊥ = search rules in
    arrival-lacks x c.args.state.now c.args.self.now c.call.new.self c.in_ok-turn.turn other c.in_ok-turn.ensures.next.meets (c.in-Err.ensures.lacks x key.0 lawful (ap Err key.1))
