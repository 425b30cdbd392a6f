use Rattle.std.proofs.Common.{◌≡◌, ℕ, ◌+◌, ◌-◌, min, List, length, ap, sym, ◌∙◌, arith, subst}
use Rattle.slate_types.specs.declared.batches.Batch.{Batch}
use Rattle.slate_types.specs.Line.{AreNumberedFrom, batches_above}
use Rattle.slate_model.specs.Handle.{accepted}
use Rattle.slate_model.specs.Unflushed.{most_bytes}
use Rattle.slate_reads.specs.Size.{size_of}
use Rattle.slate_writer.specs.Kept.{IsKeptHandle}
use Rattle.slate_writer.specs.declared.states.WriterState.TheInside.{Inside}
use Rattle.slate_writer.proofs.Counted.{IsCounted, counted-beyond, counted-kept}
use Rattle.slate_writer.proofs.Memory.{fewer-above, numbered-above}
use Rattle.slate_writer.proofs.Tracking.{ends-later}
use Rattle.slate_segments.proofs.Prefixes.{rising-kept}
use Rattle.slate_status.specs.Segments.{PrefixesRise}
use Rattle.std.specs.Prelude.{Vec}
use Rattle.std.specs.declared.alloc.Global.{Global}
use Rattle.slate_writer.proofs.states.WriterState.drop_flushed.Goals as goal

pub overflow_sub-self : goal.overflow_sub-self
overflow_sub-self c =
    let end_is : c.accepted-accepted.result ≡ c.self.inside.floor + length c.self.inside.memory = c.accepted-accepted.ensures.value ∙ ap accepted (sym c.self.view_is) in
    let same = ap length (c.batches.ensures.value ∙ c.drop_through.ensures) in
    let fewer = fewer-above c.self.inside.floor c.view.result.now.manifest.last_l0_seq c.self.inside.memory c.self.invariant.numbered in
    omega (arith, end_is, same, fewer)

-- what is kept once the batches up to a number are dropped
forgotten : (a : Inside) (n end unlogged : ℕ) (memory bs : List Batch) (segments : Vec (List ℕ) Global) → PrefixesRise segments.items → IsKeptHandle a → end ≡ a.floor + length a.memory → memory ≡ batches_above n a.memory → bs ≡ memory → IsCounted a.counted memory unlogged →
    IsKeptHandle (record a { floor = end - length bs; memory = memory; segments = segments; unlogged = unlogged })
forgotten a n end unlogged memory bs segments rising kept end_is left same counted =
    let many = ap length left in
    let all = ap length same in
    let fewer = fewer-above a.floor n a.memory kept.numbered in
    let from : a.floor + length a.memory - length (batches_above n a.memory) ≡ end - length bs = omega (arith, end_is, many, all) in
    record {
      numbered = subst (AreNumberedFrom (end - length bs)) (sym left) (subst (λ f. AreNumberedFrom f (batches_above n a.memory)) from (numbered-above a.floor n a.memory kept.numbered));
      fits = omega (arith, end_is, many, all, fewer, kept.fits);
      durable = omega (arith, end_is, many, all, fewer, kept.durable);
      tracked = ends-later _ _ a.tracker.pairs (omega (arith, end_is, many, all, fewer)) kept.tracked;
      rising = rising;
      stored = kept.stored;
      seated = kept.seated;
      told = kept.told;
      counted = counted;
    }

pub invariant_of-self : goal.invariant_of-self
invariant_of-self c =
    let n = c.view.result.now.manifest.last_l0_seq in
    let left = c.drop_through.ensures in
    let below = c.if-self-tabled.true in
    forgotten c.self.inside n _ _ _ _ _ (rising-kept _ _ _ c.self.invariant.rising c.clear_unless.ensures) c.self.invariant (c.accepted-accepted.ensures.value ∙ ap accepted (sym c.self.view_is)) left c.batches.ensures.value
    (subst (λ bs. IsCounted c.self.inside.counted bs c.size-self-inside.result) (sym left)
    (counted-beyond c.self.inside.counted n c.self.inside.memory _ (omega (arith, below)) (c.size-self-inside.ensures ∙ ap (λ bs. min (size_of bs) most_bytes) left)))

pub invariant_of-self-else-self-tabled : goal.invariant_of-self-else-self-tabled
invariant_of-self-else-self-tabled c =
    let n = c.view.result.now.manifest.last_l0_seq in
    let left = c.drop_through.ensures in
    forgotten c.self.inside n _ _ _ _ _ (rising-kept _ _ _ c.self.invariant.rising c.clear_unless.ensures) c.self.invariant (c.accepted-accepted.ensures.value ∙ ap accepted (sym c.self.view_is)) left c.batches.ensures.value
    (subst (λ bs. IsCounted c.self.inside.counted bs c.self.inside.unlogged) (sym left)
    (counted-kept c.self.inside.counted n c.self.inside.memory _ c.if-self-tabled.false c.self.invariant.counted))
