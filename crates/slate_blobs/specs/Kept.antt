-- Tables that are kept decoded: which one a look-up finds, and which are dropped.
use Rattle.std.specs.Prelude.{◌≡◌, ◌⊎◌, ℕ, ◌-◌, Bool, ◌&&◌, ◌==◌, not, List, [], ◌∷◌, ◌++◌, Option, Some, filter, nat_lt, if◌then◌else◌}
use Rattle.std.specs.Option.{IfSome, option_map}
use Rattle.std.specs.List.{All, find, sum_by}
use Rattle.slate_types.specs.declared.batches.Batch.{Batch}
use Rattle.slate_store.specs.declared.objects.TableId.{TableId}
use Rattle.slate_store.specs.Objects.{table_cmp}
use Rattle.slate_blobs.specs.Decoded.{each, table_held}
use Rattle.slate_blobs.specs.Entries.{value_at}
use Rattle.slate_blobs.specs.declared.kept_tables.KeptTable.{KeptTable}

-- whether a table is kept under an id
abbrev pub is_of : TableId → KeptTable → Bool
is_of id kept = (kept.id.epoch == id.epoch) && (kept.id.index == id.index)

-- the bytes of all
abbrev pub bytes_of : List KeptTable → ℕ
bytes_of tables = sum_by (λ kept. kept.bytes) tables

-- the table under an id
abbrev pub kept_at : TableId → List KeptTable → Option (List Batch)
kept_at id tables = option_map (λ kept. kept.table) (find (is_of id) tables)

-- those under other ids
abbrev pub others : TableId → List KeptTable → List KeptTable
others id tables = filter (λ kept. not (is_of id kept)) tables

-- those that are left where the oldest are dropped until the bytes of all are within a bound
abbrev pub newest : ℕ → List KeptTable → List KeptTable
newest bound [] = []
newest bound (kept ∷ rest) = if nat_lt bound (bytes_of (kept ∷ rest)) then newest bound rest else kept ∷ rest

-- What is kept once a table came: it is the newest, or it isn't kept, where it is larger than the bound or memory was
-- wanting.
abbrev pub Keeps : ℕ → KeptTable → List KeptTable → List KeptTable → Type 0
Keeps bound kept old new =
    let rest = newest (bound - kept.bytes) (others kept.id old) in
    (new ≡ rest ++ kept ∷ []) ⊎ ((new ≡ rest) ⊎ (new ≡ others kept.id old))

-- where the blobs are modelled, each table that is kept is what is stored under its id
abbrev pub AreStored : List KeptTable → Option (List (TableId × List ℕ)) → Type 0
AreStored tables held = IfSome held (λ blobs. All (λ kept. value_at table_cmp kept.id (each table_held blobs) ≡ Some kept.table) tables)
