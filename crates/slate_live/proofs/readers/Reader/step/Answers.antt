use Rattle.std.proofs.Common.{◌∙◌, Option, Result, Ok, Err, sym, ap}
use Rattle.std.specs.Result.{IfErr}
use Rattle.slate_errors.specs.declared.errors.SlateError.{SlateError}
use Rattle.slate_model.specs.Known.{known}
use Rattle.slate_model.specs.declared.answers.PollAnswer.{PollAnswer}
use Rattle.slate_live.specs.Replies.{reply_to}
use Rattle.slate_live.specs.Stepping.{StepsOf, poll_left, stepped_reply}
use Rattle.slate_live.proofs.Doing.{some-if, steps-of}
use Rattle.slate_live.proofs.readers.Reader.step.Goals as goal

-- the first of what holds of an error
failed-by : (P Q : SlateError → Type 0) (r : Result (Option PollAnswer) SlateError) → IfErr r (λ e. P e × Q e) → IfErr r P
failed-by P Q (Ok answer) both = tt
failed-by P Q (Err e) both = both.0

pub returns-in-Ok-None-clause-steps : goal.returns-in-Ok-None-clause-steps
returns-in-Ok-None-clause-steps g c x extracts =
    let before = known g.S.Store.objects g.S.Store.faults c.args.store.now in
    let after = known g.S.Store.objects g.S.Store.faults c.step.new.store in
    some-if (λ begun. StepsOf x c.args.self.now.state begun before _ c.step.new.state _ after) c.args.self.now.poll c.in-Some.machine (rw (← c.self.view_is) (sym c.take.ensures.value ∙ c.in-Some.is))
    (rw (← c.self.view_is) (
    steps-of x c.self.inside.state c.in-Some.machine before c.step.result c.step.new.state c.step.new.self after _ _ (sym (ap (reply_to stepped_reply) (c.in-Ok-None.is ∙ ap Ok c.in-Ok-None.field-0-is))) (sym (ap (λ r. poll_left r c.step.new.self) (c.in-Ok-None.is ∙ ap Ok c.in-Ok-None.field-0-is)))
    (λ pinned. let p = c.step.ensures.pinned pinned in (p.0, p.1, ap (known g.S.Store.objects g.S.Store.faults) p.2))
    (λ free. record { faults = c.step.ensures.faults; kinds = c.step.ensures.errors; steps = c.step.ensures.steps free; failed = failed-by _ _ c.step.result c.step.ensures.failed; lacks = c.step.ensures.lacks x extracts free; segments = c.step.ensures.segments x extracts })
    ))

pub returns-in-Ok-Some-clause-steps : goal.returns-in-Ok-Some-clause-steps
returns-in-Ok-Some-clause-steps g c x extracts =
    let before = known g.S.Store.objects g.S.Store.faults c.args.store.now in
    let after = known g.S.Store.objects g.S.Store.faults c.step.new.store in
    some-if (λ begun. StepsOf x c.args.self.now.state begun before _ c.step.new.state _ after) c.args.self.now.poll c.in-Some.machine (rw (← c.self.view_is) (sym c.take.ensures.value ∙ c.in-Some.is))
    (rw (← c.self.view_is) (
    steps-of x c.self.inside.state c.in-Some.machine before c.step.result c.step.new.state c.step.new.self after _ _ (c.polled_reply.ensures ∙ sym (ap (reply_to stepped_reply) (c.in-Ok-Some.is ∙ ap Ok c.in-Ok-Some.field-0-is))) (c.take.ensures.after ∙ sym (ap (λ r. poll_left r c.step.new.self) (c.in-Ok-Some.is ∙ ap Ok c.in-Ok-Some.field-0-is)))
    (λ pinned. let p = c.step.ensures.pinned pinned in (p.0, p.1, ap (known g.S.Store.objects g.S.Store.faults) p.2))
    (λ free. record { faults = c.step.ensures.faults; kinds = c.step.ensures.errors; steps = c.step.ensures.steps free; failed = failed-by _ _ c.step.result c.step.ensures.failed; lacks = c.step.ensures.lacks x extracts free; segments = c.step.ensures.segments x extracts })
    ))

pub returns-in-Err-clause-steps : goal.returns-in-Err-clause-steps
returns-in-Err-clause-steps g c x extracts =
    let before = known g.S.Store.objects g.S.Store.faults c.args.store.now in
    let after = known g.S.Store.objects g.S.Store.faults c.step.new.store in
    some-if (λ begun. StepsOf x c.args.self.now.state begun before _ c.step.new.state _ after) c.args.self.now.poll c.in-Some.machine (rw (← c.self.view_is) (sym c.take.ensures.value ∙ c.in-Some.is))
    (rw (← c.self.view_is) (
    steps-of x c.self.inside.state c.in-Some.machine before c.step.result c.step.new.state c.step.new.self after _ _ (c.refusal.ensures ∙ sym (ap (reply_to stepped_reply) c.in-Err.is)) (c.take.ensures.after ∙ sym (ap (λ r. poll_left r c.step.new.self) c.in-Err.is))
    (λ pinned. let p = c.step.ensures.pinned pinned in (p.0, p.1, ap (known g.S.Store.objects g.S.Store.faults) p.2))
    (λ free. record { faults = c.step.ensures.faults; kinds = c.step.ensures.errors; steps = c.step.ensures.steps free; failed = failed-by _ _ c.step.result c.step.ensures.failed; lacks = c.step.ensures.lacks x extracts free; segments = c.step.ensures.segments x extracts })
    ))
