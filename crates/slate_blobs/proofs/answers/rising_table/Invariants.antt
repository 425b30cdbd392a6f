use Rattle.std.proofs.Common.{◌≡◌, take}
use Rattle.slate_blobs.proofs.answers.rising_table.Given as goal

-- the table has the batches so far
abbrev pub invariant-loop-batch : goal.invariant-loop-batch
invariant-loop-batch l = l.table ≡ take l.batch-index l.batches
