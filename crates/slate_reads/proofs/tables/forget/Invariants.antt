use Rattle.std.proofs.Common.{◌+◌, ℕ, List}
use Rattle.slate_reads.specs.Index.{AreOrdered, Forgets, place_of}
use Rattle.slate_reads.proofs.tables.forget.Given as goal

abbrev pub invariant-loop-op : goal.invariant-loop-op
invariant-loop-op l = record {
  forgets : (key : List ℕ) → Forgets (l.start + l.op) (place_of l.initial.latest key) (place_of l.latest key);
  ordered : AreOrdered l.initial.latest l.initial.order → AreOrdered l.latest l.order;
}
