use Rattle.std.proofs.Common.{take}
use Rattle.slate_reads.specs.Tails.{IsTail}
use Rattle.slate_reads.specs.Read.{history}
use Rattle.slate_reads.proofs.reads.tail_of.Given as goal

abbrev pub invariant-loop-batch : goal.invariant-loop-batch
invariant-loop-batch l = IsTail l.key (history (take l.batch-index l.batches) l.bound l.key) l.versions.items
