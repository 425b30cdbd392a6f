-- What a contract sees of a state that is published.
use Rattle.std.specs.Prelude.{ℕ, List}
use Rattle.std.specs.List.{flat_map}
use Rattle.slate_types.specs.declared.batches.Batch.{Batch}
use Rattle.slate_store.specs.declared.objects.TableId.{TableId}

-- the number of the last batch that is seen, the id of the manifest and its tables, the last number in these, and the batches above it
pub record Published : Type 0 where
  pub number : ℕ
  pub manifest_id : ℕ
  pub tables : List TableId
  pub last_l0_seq : ℕ
  pub memory : List Batch

-- the batches of tables, joined in this order
abbrev pub rows_of : List (List Batch) → List Batch
rows_of tables = flat_map (λ (table : List Batch). table) tables
