use Rattle.std.proofs.Common.{◌≡◌, ◌++◌, take}
use Rattle.slate_reads.proofs.tables.IndexedTable.push_all.Given as goal

abbrev pub invariant-loop-batch : goal.invariant-loop-batch
invariant-loop-batch l = l.self ≡ l.fn.self ++ take l.batch-index l.fn.batches
