-- What the parts of looking at a store find, one after another.
use Rattle.std.specs.Prelude.{◌≡◌, ◌≢◌, ℕ, ◌+◌, ◌<◌, ◌≤◌, All, List, [], length, map, Some, None}
use Rattle.std.specs.List.{flat_map}
use Rattle.std.specs.List.Sorted.{IsStrictlySortedBy}
use Rattle.slate_types.specs.declared.batches.Batch.{Batch}
use Rattle.slate_types.specs.Line.{IsLine, IsPrefix, Line}
use Rattle.slate_store.specs.declared.objects.Manifest.{Manifest}
use Rattle.slate_store.specs.declared.objects.VersionedManifest.{VersionedManifest}
use Rattle.slate_store.specs.Content.{AreGapless, IdsRise, HasItsLogs, StoresTable, content, logs_above, pinned_content, table_batches}
use Rattle.slate_store.specs.Logs.{batches_between}
use Rattle.slate_store.specs.Objects.{Objects, latest_manifest, log_at, table_at, table_cmp}
use Rattle.slate_check.specs.declared.faults.CheckpointFault.{CheckpointFault}
use Rattle.slate_check.specs.declared.faults.CheckpointFault.TheVariants as of_checkpoint
use Rattle.slate_check.specs.declared.faults.ManifestFault.{ManifestFault}
use Rattle.slate_check.specs.declared.faults.ManifestFault.TheVariants.{TableMissing, TableEmpty, NextLog, LogMissing, TablesEnd}
use Rattle.slate_check.specs.Faults.{HasAll, LacksBy, ids_above}
use Rattle.slate_check.specs.Named.{IsFirstWithout}
use Rattle.slate_check.specs.Reads.{AreStoredTo}

-- the ids of objects rise
pub record IsOrdered (objects : Objects) : Type 0 where
  pub manifests : IdsRise (map (λ entry. entry.0) objects.manifests)
  pub logs : IdsRise (map (λ log. log.0) objects.logs)
  pub tables : IsStrictlySortedBy table_cmp (map (λ table. table.0) objects.tables)

-- the ids fit the latest manifest: no table is of a later epoch, and the log files above its mark have no gap
pub record FitsIds (objects : Objects) (latest : VersionedManifest) : Type 0 where
  pub is : latest_manifest objects ≡ Some latest
  pub ordered : IsOrdered objects
  pub epochs : All (λ table. table.0.epoch ≤ latest.manifest.writer_epoch) objects.tables
  pub gapless : AreGapless latest.manifest.replay_after_wal_id (ids_above objects latest.manifest)

-- the last log file of log files above its mark that have no gap
abbrev pub last_id : Objects → VersionedManifest → ℕ
last_id objects latest = latest.manifest.replay_after_wal_id + length (logs_above latest.manifest.replay_after_wal_id objects)

-- the tables and log files of a manifest that were read, the latter up to an id
pub record AreLoaded (objects : Objects) (manifest : Manifest) (last : ℕ) (read_tables read_logs : List (List Batch)) : Type 0 where
  pub stored : All (StoresTable objects) manifest.tables
  pub joined : flat_map (λ table. table) read_tables ≡ table_batches objects manifest.tables
  pub next : manifest.replay_after_wal_id < manifest.next_wal_id
  pub logs_stored : AreStoredTo objects manifest.replay_after_wal_id last
  pub logged : flat_map (λ log. log) read_logs ≡ batches_between manifest.replay_after_wal_id last objects

-- why they can't be
abbrev pub FailsToLoad : Objects → Manifest → ℕ → ManifestFault → Type 0
FailsToLoad objects manifest last (TableMissing id) = IsFirstWithout (StoresTable objects) manifest.tables id × (table_at id objects ≡ None)
FailsToLoad objects manifest last (TableEmpty id) = IsFirstWithout (StoresTable objects) manifest.tables id × (table_at id objects ≡ Some [])
FailsToLoad objects manifest last NextLog = All (StoresTable objects) manifest.tables × (manifest.next_wal_id ≤ manifest.replay_after_wal_id)
FailsToLoad objects manifest last (LogMissing id) =
    All (StoresTable objects) manifest.tables × (manifest.replay_after_wal_id < manifest.next_wal_id) × (manifest.replay_after_wal_id < id) × (id ≤ last)
    × ((earlier : ℕ) → manifest.replay_after_wal_id < earlier → earlier < id → log_at earlier objects ≢ None) × (log_at id objects ≡ None)
FailsToLoad objects manifest last TablesEnd = ⊥

-- the latest manifest has its tables and log files, and they were read
pub record IsLoaded (objects : Objects) (latest : VersionedManifest) (read_tables read_logs : List (List Batch)) : Type 0 where
  pub fits : FitsIds objects latest
  pub stored : All (StoresTable objects) latest.manifest.tables
  pub has_logs : HasItsLogs objects latest.manifest
  pub joined : flat_map (λ table. table) read_tables ≡ table_batches objects latest.manifest.tables
  pub logged : flat_map (λ log. log) read_logs ≡ flat_map (λ log. log.1) (logs_above latest.manifest.replay_after_wal_id objects)

-- a line is the content of objects with this latest manifest, of which the ids rise
pub record HasContent (objects : Objects) (latest : VersionedManifest) (seen : Line) : Type 0 where
  pub is : latest_manifest objects ≡ Some latest
  pub manifests : IdsRise (map (λ entry. entry.0) objects.manifests)
  pub line : IsLine (content objects)
  pub same : seen ≡ content objects

-- a manifest has all, and what it named begins the content
pub record KeepsAll (objects : Objects) (manifest : Manifest) : Type 0 where
  pub all : HasAll objects manifest
  pub begins : IsPrefix (pinned_content objects manifest) (content objects)

-- or why not
abbrev pub KeepsNot : Objects → Manifest → CheckpointFault → Type 0
KeepsNot objects manifest (of_checkpoint.Manifest fault) = LacksBy objects manifest fault
KeepsNot objects manifest of_checkpoint.Content = HasAll objects manifest × ¬ IsPrefix (pinned_content objects manifest) (content objects)
KeepsNot objects manifest fault = ⊥
