use mathlib.Core.List.{mem-append_right}
use Rattle.std.proofs.Common.{◌∙◌, ap, sym, subst, refl}
use Rattle.slate_dispatch.specs.Tasks.{HasEnded}
use Rattle.slate_dispatch.proofs.BoxLemmas.{boxed-step}
use Rattle.slate_dispatch.proofs.boxed.BoxedTaskTask.finish.Goals as goal

pub finish-requires : goal.finish-requires
finish-requires g c κs =
    let ended = subst (λ p. HasEnded ((g.dyn-1.0.entry p.0).1.last_answer p.1)) (sym c.deref_box_mut-1.ensures.value.1) c.requires in
    (refl, λ within. (tt, (λ a m. within a (mem-append_right κs.0 m), ended)))

pub returns-clause-step : goal.returns-clause-step
returns-clause-step g c =
    boxed-step (λ i. (g.dyn-1.0.entry i).1.steps) c.args.self.now.0 _ c.finish.new.self _ c.deref_box_mut-1.ensures.value.1 c.finish.ensures.0

pub returns-clause-flag : goal.returns-clause-flag
returns-clause-flag g c =
    c.finish.ensures.1.1.0 ∙ ap (λ p. (g.dyn-1.0.entry p.0).1.is_cancelled p.1) c.deref_box_mut-1.ensures.value.1

pub returns-clause-answer : goal.returns-clause-answer
returns-clause-answer g c =
    c.finish.ensures.1.1.1 ∙ ap (λ p. (g.dyn-1.0.entry p.0).1.last_answer p.1) c.deref_box_mut-1.ensures.value.1
