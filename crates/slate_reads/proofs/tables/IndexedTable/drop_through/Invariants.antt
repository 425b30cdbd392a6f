use Rattle.std.proofs.Common.{◌≡◌, length}
use Rattle.slate_types.specs.Line.{batches_above}
use Rattle.slate_reads.proofs.tables.IndexedTable.drop_through.Given as goal

abbrev pub invariant-loop-self : goal.invariant-loop-self
invariant-loop-self l = batches_above l.number l.self ≡ batches_above l.number l.initial.self

abbrev pub decreases-loop-self : goal.decreases-loop-self
decreases-loop-self l = length l.self
