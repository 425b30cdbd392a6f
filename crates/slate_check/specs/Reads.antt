-- What reading the objects that a manifest names finds.
use Rattle.std.specs.Prelude.{◌≡◌, ◌≢◌, ℕ, ◌<◌, ◌≤◌, All, List, [], Some, None, Result, Ok, Err}
use Rattle.std.specs.List.{flat_map}
use Rattle.std.specs.Map.{lookup}
use Rattle.std.specs.BTreeMap.{is_at}
use Rattle.slate_types.specs.declared.batches.Batch.{Batch}
use Rattle.slate_store.specs.declared.objects.TableId.{TableId}
use Rattle.slate_store.specs.Content.{StoresTable, table_batches}
use Rattle.slate_store.specs.Logs.{batches_between}
use Rattle.slate_store.specs.Objects.{Objects, entry_at, log_at, table_at, table_cmp}
use Rattle.slate_check.specs.declared.faults.ManifestFault.{ManifestFault}
use Rattle.slate_check.specs.declared.faults.ManifestFault.TheVariants.{TableMissing, TableEmpty}
use Rattle.slate_check.specs.Named.{IsFirstWithout}

-- what was read is stored
pub record AreOf (objects : Objects) (read_tables : List (TableId × List Batch)) (read_logs : List (ℕ × List Batch)) : Type 0 where
  pub tables : (id : TableId) (table : List Batch) → lookup (is_at (table_cmp id)) read_tables ≡ Some table → table_at id objects ≡ Some table
  pub logs : (id : ℕ) (log : List Batch) → entry_at id read_logs ≡ Some log → log_at id objects ≡ Some log

-- the log files above a mark, up to an id, are stored
abbrev pub AreStoredTo : Objects → (mark last : ℕ) → Type 0
AreStoredTo objects mark last = (id : ℕ) → mark < id → id ≤ last → log_at id objects ≢ None

-- what reading tables finds: all of them, or the first that isn't stored or has no batch
abbrev pub FindsTables : Objects → List TableId → Result (List (List Batch)) ManifestFault → Type 0
FindsTables objects ids (Ok tables) = All (StoresTable objects) ids × (flat_map (λ table. table) tables ≡ table_batches objects ids)
FindsTables objects ids (Err (TableMissing id)) = IsFirstWithout (StoresTable objects) ids id × (table_at id objects ≡ None)
FindsTables objects ids (Err (TableEmpty id)) = IsFirstWithout (StoresTable objects) ids id × (table_at id objects ≡ Some [])
FindsTables objects ids (Err fault) = ⊥

-- what reading the log files above a mark, up to an id, finds: all of them, or the first that isn't stored
abbrev pub FindsLogs : Objects → (mark last : ℕ) → Result (List (List Batch)) ℕ → Type 0
FindsLogs objects mark last (Ok logs) = AreStoredTo objects mark last × (flat_map (λ log. log) logs ≡ batches_between mark last objects)
FindsLogs objects mark last (Err id) =
    (mark < id) × (id ≤ last) × ((earlier : ℕ) → mark < earlier → earlier < id → log_at earlier objects ≢ None) × (log_at id objects ≡ None)
