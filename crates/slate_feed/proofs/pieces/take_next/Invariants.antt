use Rattle.std.proofs.Common.{◌+◌, ◌<◌, ◌^◌, length, take}
use Rattle.slate_types.specs.Line.{batches_above}
use Rattle.slate_feed.proofs.Leading.{SoFar}
use Rattle.slate_feed.proofs.pieces.take_next.Given as goal

abbrev pub invariant-loop-batch : goal.invariant-loop-batch
invariant-loop-batch l = record {
  so_far : SoFar l.cursor (batches_above l.above l.batches) (batches_above l.above (take l.batch-index l.batches)) l.fn.found l.found;
  fits : l.cursor + length l.found.batches.items < 2 ^ 64;
  room : length l.found.batches.items < l.limit;
}
