use Rattle.std.proofs.Common.{arith, drop, refl}
use Rattle.slate_check.specs.Named.{batch_list}
use Rattle.slate_check.proofs.References.{same-all, same-at, same-next}
use Rattle.slate_check.proofs.batches.begin.Goals as goal

pub returns-then-not-is_same : goal.returns-then-not-is_same
returns-then-not-is_same c = (
  λ h. absurd (cc),
  λ p. c.if-not-is_same.ensures.1
      (same-at c.args.batches.now c.args.others.now c.loop-i.i c.index-batches-i.result c.index-others-i.result p.0 c.loop-i-test.true (omega arith) c.index-batches-i.is c.index-others-i.is p.1),
)

pub loop-i-preserved : goal.loop-i-preserved
loop-i-preserved c =
    same-next c.args.batches.now c.args.others.now c.loop-i.i c.index-batches-i.result c.index-others-i.result c.loop-i-test.true (omega arith) c.index-batches-i.is c.index-others-i.is
    c.loop-i.invariant (c.if-not-is_same.ensures.0 refl)

pub returns : goal.returns
returns c = (λ _. (batch_list (drop c.loop-i.i c.args.others.now), same-all c.args.batches.now c.args.others.now c.loop-i.i c.loop-i-test.false c.loop-i.invariant), λ _. refl)
