use Rattle.std.proofs.Common.{◌≡◌, ◌<◌, suc, arith, drop, get_or, length, refl, subst, sym, take}
use Rattle.slate_types.specs.Line.{AreNumberedFrom}
use Rattle.slate_types.proofs.Lines.{numbered-push}
use Rattle.slate_check.specs.Named.{batch_list}
use Rattle.slate_check.proofs.References.{length-front, list-around, list-next}
use Rattle.slate_check.proofs.named.Named.find_unnumbered.Goals as goal

pub returns-then-batch-eq0 : goal.returns-then-batch-eq0
returns-then-batch-eq0 c =
    let xs = c.args.self.now.batches.items in
    let i = c.loop-batch.batch-index in
    let x = c.batch-item.result in
    let value = c.deref-batch-items.ensures.value in
    let less : i < length xs = subst (λ l. i < length l) value c.loop-batch-test.true in
    let is : x ≡ get_or xs i x = subst (λ l. x ≡ get_or l i x) value c.batch-item.is in
    let zero_is : x.now.number ≡ 0 = c.if-batch-eq0.true in
    (batch_list (take i xs), x.now, batch_list (drop (suc i) xs), list-around xs i x less is, c.loop-batch.invariant.numbered, sym zero_is, λ e. omega arith)

pub returns-then-batch-before : goal.returns-then-batch-before
returns-then-batch-before c =
    let xs = c.args.self.now.batches.items in
    let i = c.loop-batch.batch-index in
    let x = c.batch-item.result in
    let value = c.deref-batch-items.ensures.value in
    let less : i < length xs = subst (λ l. i < length l) value c.loop-batch-test.true in
    let is : x ≡ get_or xs i x = subst (λ l. x ≡ get_or l i x) value c.batch-item.is in
    let count = length-front xs i (omega arith) in
    (batch_list (take i xs), x.now, batch_list (drop (suc i) xs), list-around xs i x less is, c.loop-batch.invariant.numbered, refl, λ e. c.if-batch-before.true (omega (arith, count, c.loop-batch.invariant.reached)))

pub loop-batch-preserved : goal.loop-batch-preserved
loop-batch-preserved c =
    let xs = c.args.self.now.batches.items in
    let i = c.loop-batch.batch-index in
    let x = c.batch-item.result in
    let value = c.deref-batch-items.ensures.value in
    let less : i < length xs = subst (λ l. i < length l) value c.loop-batch-test.true in
    let is : x ≡ get_or xs i x = subst (λ l. x ≡ get_or l i x) value c.batch-item.is in
    let count = length-front xs i (omega arith) in
    let positive : 0 < x.now.number = omega (arith, c.if-batch-eq0.false) in
    record {
      numbered = subst (AreNumberedFrom c.args.self.now.floor) (sym (list-next xs i x less is))
          (numbered-push c.args.self.now.floor (batch_list (take i xs)) x.now c.loop-batch.invariant.numbered (omega (arith, count, positive, c.if-batch-before.false, c.loop-batch.invariant.reached)));
      reached = omega (arith, positive, c.if-batch-before.false, c.loop-batch.invariant.reached);
    }
