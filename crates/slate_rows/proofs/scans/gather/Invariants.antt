use Rattle.std.proofs.Common.{take}
use Rattle.slate_rows.specs.Gathered.{AreGathered}
use Rattle.slate_reads.specs.Read.{history}
use Rattle.slate_rows.proofs.scans.gather.Given as goal

abbrev pub invariant-loop-batch : goal.invariant-loop-batch
invariant-loop-batch l = AreGathered (history (take l.batch-index l.batches) l.bound) l.range l.held.items
