use Rattle.std.proofs.Common.{◌≡◌, arith, ◌∙◌, true, false, subst, below_more, get_or, refl}
use Rattle.std.proofs.lemmas.Option.{get_or_from_slice_get}
use Rattle.slate_dispatch.proofs.FirstReady.{first-none}
use Rattle.slate_dispatch.proofs.TurnLemmas.{takes_first}
use Rattle.slate_dispatch.proofs.dispatchers.poll_notifiers.Goals as goal

pub returns-in-Some-clause-some : goal.returns-in-Some-clause-some
returns-in-Some-clause-some g c =
    takes_first g.H.MessageHandler.steps g.H.MessageHandler.ready _ _ _ _ _
    c.loop-index.invariant.same
    c.in-Some.ensures.step
    (omega (arith, c.loop-index.invariant.count))
    c.loop-index.invariant.passed
    (λ e. let no : true ≡ false = c.in-Some.ensures.none.1 e in cc)

pub loop-index-preserved : goal.loop-index-preserved
loop-index-preserved g c =
    record {
      same = c.in_default.ensures.unchanged ∙ c.loop-index.invariant.same;
      count = c.loop-index.invariant.count;
      passed =
          below_more _ _ c.loop-index.invariant.passed
          (subst (λ h. get_or (g.H.MessageHandler.ready h) c.loop-index.index false ≡ false) c.loop-index.invariant.same
          (get_or_from_slice_get (g.H.MessageHandler.ready c.loop-index.handler) c.loop-index.index false false (c.in_default.ensures.none.0 refl)));
    }

pub returns-clause-none : goal.returns-clause-none
returns-clause-none g c =
    (c.loop-index.invariant.same, first-none _ _ c.notifier_count-index-end.ensures (λ k below. c.loop-index.invariant.passed k (omega arith)))
