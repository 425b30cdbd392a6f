use Rattle.std.proofs.Common.{◌≡◌, ◌≤◌, ◌++◌, [], ◌∷◌, List, length}
use Rattle.slate_types.specs.declared.batches.Batch.{Batch}
use Rattle.slate_types.specs.declared.batches.KeyOp.{KeyOp}
use Rattle.slate_reads.specs.Index.{AreOrdered, IsIndex, place_of}
use Rattle.slate_reads.specs.Run.{Run}
use Rattle.slate_reads.proofs.Index.{IsPart}
use Rattle.slate_reads.proofs.tables.take_entries.Given as goal

abbrev pub invariant-loop-key_op : goal.invariant-loop-key_op
invariant-loop-key_op l = record {
  start : l.entries.start ≡ l.initial.entries.start;
  fewer : length l.entries.items ≤ length l.initial.entries.items;
  ordered : AreOrdered l.initial.latest l.initial.order → AreOrdered l.latest l.order;
  gone : List KeyOp;
  joined : l.left ++ gone ≡ l.batch.ops;
  part : (batches new : Run Batch) → new.start ≡ batches.start → new.items ≡ batches.items ++ l.batch ∷ [] →
      IsIndex new l.initial.entries (place_of l.initial.latest) → IsPart batches new l.batch l.entries (place_of l.latest) (length l.left);
}

abbrev pub decreases-loop-key_op : goal.decreases-loop-key_op
decreases-loop-key_op l = length l.left
