use Rattle.std.proofs.Common.{◌≡◌, ◌+◌, ◌≤◌, ◌++◌, [], ◌∷◌, ℕ, List, IsSome, length}
use Rattle.std.specs.Str.{bytes_eq}
use Rattle.std.specs.HashMap.{get}
use Rattle.slate_types.specs.declared.batches.Batch.{Batch}
use Rattle.slate_reads.specs.Index.{IsIndex, place_of}
use Rattle.slate_reads.specs.Run.{Run}
use Rattle.slate_reads.proofs.Index.{IsPart}
use Rattle.slate_reads.proofs.tables.add_entries.Given as goal

abbrev pub invariant-loop-op : goal.invariant-loop-op
invariant-loop-op l = record {
  room : length l.batch.ops ≤ l.entries.room + l.op;
  start : l.entries.start ≡ l.initial.entries.start;
  count : length l.entries.items ≡ length l.initial.entries.items + l.op;
  there : (key : List ℕ) → IsSome (get bytes_eq l.initial.latest key) → IsSome (get bytes_eq l.latest key);
  stays : (key : List ℕ) → IsSome (get bytes_eq l.latest key) → IsSome (get bytes_eq l.initial.latest key);
  part : (batches new : Run Batch) → batches.start + length batches.items ≡ l.place → new.start ≡ batches.start → new.items ≡ batches.items ++ l.batch ∷ [] →
      IsIndex batches l.initial.entries (place_of l.initial.latest) → IsPart batches new l.batch l.entries (place_of l.latest) l.op;
}
