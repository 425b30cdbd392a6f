-- The tables that a reader keeps in memory.
use Rattle.std.specs.Prelude.{◌<◌, All, List, length}
use Rattle.std.specs.List.{flat_map}
use Rattle.slate_types.specs.declared.batches.Batch.{Batch}

-- the batches of tables, joined in this order
abbrev pub joined : List (List Batch) → List Batch
joined tables = flat_map (λ table. table) tables

-- each table has a batch
abbrev pub AreFilled : List (List Batch) → Type 0
AreFilled tables = All (λ table. 0 < length table) tables
