use Rattle.std.proofs.Common.{◌≡◌, min, take}
use Rattle.slate_model.specs.Unflushed.{most_bytes}
use Rattle.slate_reads.specs.Size.{size_of}
use Rattle.slate_writer.proofs.sizes.size_of.Given as goal

abbrev pub invariant-loop-batch : goal.invariant-loop-batch
invariant-loop-batch l = l.size ≡ min (size_of (take l.batch-index l.batches)) most_bytes
