use Rattle.std.proofs.Common.{◌≡◌, ◌+◌, ◌<◌, ◌^◌, ◌++◌, List, length, take}
use Rattle.std.specs.List.{Contains}
use Rattle.slate_types.specs.Line.{AreNumberedFrom}
use Rattle.slate_types.specs.declared.batches.Batch.{Batch}
use Rattle.slate_store.specs.Logs.{HaveNoGap}
use Rattle.slate_replay.proofs.Appending.{Begins}
use Rattle.slate_replay.specs.Replay.{AreFrom}
use Rattle.slate_replay.proofs.replays.append_next.Given as goal

abbrev pub invariant-loop-batch : goal.invariant-loop-batch
invariant-loop-batch l = record {
  numbered : AreNumberedFrom l.floor l.memory;
  fits : l.floor + length l.memory < 2 ^ 64;
  grows : (added : List Batch) × (l.memory ≡ l.fn.memory ++ added);
  begins : Begins l.floor l.fn.memory l.memory l.batches;
  from : AreFrom (Contains l.batches) l.fn.memory l.memory;
  no_gap : HaveNoGap (l.floor + length l.fn.memory) (l.floor + length l.memory) (take l.batch-index l.batches);
}
