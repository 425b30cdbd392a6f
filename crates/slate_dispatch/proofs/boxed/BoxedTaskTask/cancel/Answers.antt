use Rattle.std.proofs.Common.{◌∙◌, ap}
use Rattle.slate_dispatch.proofs.BoxLemmas.{boxed-step}
use Rattle.slate_dispatch.proofs.boxed.BoxedTaskTask.cancel.Goals as goal

pub returns-clause-step : goal.returns-clause-step
returns-clause-step g c =
    boxed-step (λ i. (g.dyn-1.0.entry i).1.steps) c.args.self.now.0 _ c.cancel.new.self _ c.deref_box_mut-1.ensures.value.1 c.cancel.ensures.0

pub returns-clause-answer : goal.returns-clause-answer
returns-clause-answer g c =
    c.cancel.ensures.1.1.0 ∙ ap (λ p. (g.dyn-1.0.entry p.0).1.last_answer p.1) c.deref_box_mut-1.ensures.value.1

pub returns-clause-finished : goal.returns-clause-finished
returns-clause-finished g c =
    c.cancel.ensures.1.1.1 ∙ ap (λ p. (g.dyn-1.0.entry p.0).1.finished p.1) c.deref_box_mut-1.ensures.value.1
