use Rattle.std.proofs.Common.{◌≡◌, ◌<◌, ℕ, List, get_or, IsSome}
use Rattle.std.specs.HashMap.{get}
use Rattle.std.specs.Str.{bytes_eq}
use Rattle.slate_types.specs.declared.batches.KeyOp.{KeyOp}
use Rattle.slate_reads.specs.Index.{AreOrdered, place_of}
use Rattle.slate_reads.proofs.tables.add_keys.Given as goal

abbrev pub invariant-loop-key_op : goal.invariant-loop-key_op
invariant-loop-key_op l = record {
  same : (key : List ℕ) → place_of l.latest key ≡ place_of l.initial.latest key;
  ordered : AreOrdered l.initial.latest l.initial.order → AreOrdered l.latest l.order;
  there : (k : ℕ) (d : KeyOp) → k < l.key_op-index → IsSome (get bytes_eq l.latest (get_or l.batch.ops k d).key);
}
