-- The entries of operations on a prefix, and their order by recency.
use Rattle.std.specs.Prelude.{◌≡◌, ℕ, ℤ, nat_eq, List, [], ◌∷◌, ◌++◌, map, filter, reverse, Option, None}
use Rattle.std.specs.List.{flat_map, starts_with}
use Rattle.std.specs.List.Sorted.{IsPermutation, IsSorted, IsStable}
use Rattle.std.specs.declared.cmp.Ordering.{Ordering}
use Rattle.std.specs.Ordering.{nat_cmp, ordering_then}
use Rattle.slate_types.specs.declared.batches.Batch.{Batch}
use Rattle.slate_types.specs.declared.batches.KeyOp.{KeyOp}
use Rattle.slate_types.specs.declared.batches.Op.{Op}
use Rattle.slate_types.specs.declared.batches.Op.TheVariants.{Put, Delete, Merge as MergeOperand}
use Rattle.slate_rows.specs.declared.entries.RowEntry.{RowEntry}
use Rattle.slate_rows.specs.declared.entries.ValueDeletable.{ValueDeletable}
use Rattle.slate_rows.specs.declared.entries.ValueDeletable.TheVariants.{Value, Merge, Tombstone}
use Rattle.slate_types.specs.declared.scan_options.IterationOrder.{IterationOrder}
use Rattle.slate_types.specs.Order.{order_cmp}
use Rattle.slate_reads.specs.Read.{Version, is_within, history}

-- what an operation leaves at its key
abbrev pub value_of : Op → ValueDeletable
value_of (Put value expire_ts) = Value value
value_of Delete = Tombstone
value_of (MergeOperand operand expire_ts) = Merge operand

-- the time at which that expires
abbrev pub expiry_of : Op → Option ℤ
expiry_of (Put value expire_ts) = expire_ts
expiry_of Delete = None
expiry_of (MergeOperand operand expire_ts) = expire_ts

-- an operation of a batch, as an entry
abbrev pub entry_of : Batch → KeyOp → RowEntry
entry_of batch o =
    record { key = o.key; value = value_of o.op; seq = batch.number; create_ts = batch.create_ts; expire_ts = expiry_of o.op }

-- a version of a key, as an entry
abbrev pub version_entry : List ℕ → Version → RowEntry
version_entry key version =
    record { key = key; value = value_of version.op; seq = version.number; create_ts = version.create_ts; expire_ts = expiry_of version.op }

-- the entries of a batch whose keys have a prefix
abbrev pub batch_entries : List ℕ → Batch → List RowEntry
batch_entries prefix batch = map (entry_of batch) (filter (λ o. starts_with nat_eq o.key prefix) batch.ops)

-- those of a source, in its batches up to a bound, oldest first
abbrev pub source_entries : Option ℕ → List ℕ → List Batch → List RowEntry
source_entries bound prefix batches = flat_map (batch_entries prefix) (filter (λ batch. is_within bound batch.number) batches)

-- the entries of keys with a prefix, key by key, of each key the newest first
abbrev pub listed : Option ℕ → List ℕ → List Batch → List (List ℕ) → List RowEntry
listed bound prefix batches keys =
    flat_map (λ key. map (version_entry key) (reverse (history batches bound key))) (filter (λ key. starts_with nat_eq key prefix) keys)

-- keys in the order, and of one key the greatest number first
abbrev pub recency_cmp : IterationOrder → RowEntry → RowEntry → Ordering
recency_cmp order entry other = ordering_then (order_cmp order entry.key other.key) (nat_cmp other.seq entry.seq)

-- The entries of a source, keys in the order, of one key the greatest number first, and of one number the later first.
pub record AreNewestFirst (order : IterationOrder) (oldest_first entries : List RowEntry) : Type 0 where
  pub moved : IsPermutation (reverse oldest_first) entries
  pub sorted : IsSorted (recency_cmp order) entries
  pub stable : IsStable (recency_cmp order) (reverse oldest_first) entries

-- the entries of sources, source by source
abbrev pub IsRecency : IterationOrder → List (List RowEntry) → List RowEntry → Type 0
IsRecency order [] entries = entries ≡ []
IsRecency order (source ∷ sources) entries =
    (front rest : List RowEntry) × (entries ≡ front ++ rest) × AreNewestFirst order source front × IsRecency order sources rest
