use Rattle.std.proofs.Common.{◌≡◌, ◌++◌, take}
use Rattle.slate_store.proofs.compactions.add_copies.Given as goal

abbrev pub invariant-loop-batch : goal.invariant-loop-batch
invariant-loop-batch l = l.table ≡ l.fn.table ++ take l.batch-index l.fn.batches
