use Rattle.std.proofs.Common.{◌≡◌, ◌+◌, ◌∙◌, length, drop, ap, subst, arith}
use Rattle.slate_reads.specs.Index.{Forgets, place_of}
use Rattle.slate_reads.proofs.Keeping.{ops-of-table, IsTable-dropped}
use Rattle.slate_reads.proofs.tables.IndexedTable.drop_first.Goals as goal

pub take_first-batch-requires-clause-fits : goal.take_first-batch-requires-clause-fits
take_first-batch-requires-clause-fits c = omega (arith, c.self.invariant.batches_fit, ap length c.self.view_is, c.requires)

pub forget-requires : goal.forget-requires
forget-requires c =
    let within = ops-of-table c.self.inside.batches c.self.inside.entries c.self.inside.latest c.self.inside.order c.self.inside.size c.take_first-batch.result c.take_first-batch.new.self.items c.take_first-batch.ensures.items c.self.invariant in
    omega (arith, within, c.self.invariant.entries_fit, c.start.ensures)

pub skip-requires-clause-fits : goal.skip-requires-clause-fits
skip-requires-clause-fits c =
    let within = ops-of-table c.self.inside.batches c.self.inside.entries c.self.inside.latest c.self.inside.order c.self.inside.size c.take_first-batch.result c.take_first-batch.new.self.items c.take_first-batch.ensures.items c.self.invariant in
    omega (arith, within, c.self.invariant.entries_fit, ap length c.as_slice.ensures)

pub skip-requires-clause-within : goal.skip-requires-clause-within
skip-requires-clause-within c =
    let within = ops-of-table c.self.inside.batches c.self.inside.entries c.self.inside.latest c.self.inside.order c.self.inside.size c.take_first-batch.result c.take_first-batch.new.self.items c.take_first-batch.ensures.items c.self.invariant in
    omega (arith, within, ap length c.as_slice.ensures)

pub invariant_of-self : goal.invariant_of-self
invariant_of-self c =
    let ops : length c.as_slice.result.now ≡ length c.take_first-batch.result.ops = ap length c.as_slice.ensures in
    IsTable-dropped c.self.inside.batches c.take_first-batch.new.self c.self.inside.entries c.skip.new.self c.self.inside.latest c.forget.new.latest c.self.inside.order c.forget.new.order
    c.self.inside.size c.batch_size.result c.take_first-batch.result c.take_first-batch.ensures.items c.take_first-batch.ensures.start (c.skip.ensures.start ∙ ap (λ n. c.self.inside.entries.start + n) ops) (c.skip.ensures.items ∙ ap (λ n. drop n c.self.inside.entries.items) ops)
    (λ key. subst (λ s. Forgets (s + length c.take_first-batch.result.ops) (place_of c.self.inside.latest key) (place_of c.forget.new.latest key)) c.start.ensures (c.forget.ensures.forgets key)) c.forget.ensures.ordered c.batch_size.ensures c.self.invariant
