use Rattle.slate_reads.proofs.Undoing.{IsTable-undone}
use Rattle.slate_reads.proofs.tables.IndexedTable.take_last.Goals as goal

pub invariant_of-self-2 : goal.invariant_of-self-2
invariant_of-self-2 c =
    IsTable-undone c.self.inside.batches c.pop.new.self c.self.inside.entries c.take_entries.new.entries c.self.inside.latest c.take_entries.new.latest c.self.inside.order c.take_entries.new.order
    c.self.inside.size c.batch_size.result c.in-Some.batch c.in-Some.ensures.start c.in-Some.ensures.cases c.take_entries.ensures.start c.take_entries.ensures.fewer
    (c.take_entries.ensures.index c.pop.new.self c.self.inside.batches) c.take_entries.ensures.ordered c.batch_size.ensures c.self.invariant
