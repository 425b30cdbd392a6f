use Rattle.std.proofs.Common.{◌≡◌, ◌∙◌, ap, sym, subst, IsTrue, w64, to_z, of_z}
use Rattle.std.proofs.lemmas.Int.{to_z-of_z}
use Rattle.slate_dispatch.proofs.BoxLemmas.{boxed-step}
use Rattle.slate_dispatch.proofs.boxed.BoxedTaskTask.turn.Goals as goal

pub returns-clause-step : goal.returns-clause-step
returns-clause-step g c =
    let moment_back : to_z w64 (of_z w64 c.args.moment) ≡ c.args.moment = to_z-of_z w64 _ c.ranges.moment in
    boxed-step (λ i. (g.dyn-1.0.entry i).1.steps) c.args.self.now.0 _ c.turn.new.self _ c.deref_box_mut-1.ensures.value.1 (rw moment_back at c.turn.ensures.0)

pub returns-clause-cancelled : goal.returns-clause-cancelled
returns-clause-cancelled g c =
    let same = ap (λ p. (g.dyn-1.0.entry p.0).1.is_cancelled p.1) c.deref_box_mut-1.ensures.value.1 in
    (λ says. subst IsTrue same (c.turn.ensures.1.1.0.0 says), λ flag. c.turn.ensures.1.1.0.1 (subst IsTrue (sym same) flag))

pub returns-clause-flag : goal.returns-clause-flag
returns-clause-flag g c =
    c.turn.ensures.1.1.1.0 ∙ ap (λ p. (g.dyn-1.0.entry p.0).1.is_cancelled p.1) c.deref_box_mut-1.ensures.value.1

pub returns-clause-finished : goal.returns-clause-finished
returns-clause-finished g c =
    c.turn.ensures.1.1.1.1 ∙ ap (λ p. (g.dyn-1.0.entry p.0).1.finished p.1) c.deref_box_mut-1.ensures.value.1
