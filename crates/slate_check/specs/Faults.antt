-- What it takes for the objects of a store to be sound, clause by clause, and what is wrong with those that aren't.
use Rattle.std.specs.Prelude.{◌≡◌, ◌≢◌, ℕ, ◌<◌, ◌≤◌, nat_eq, All, List, [], ◌∷◌, map, take, Some, None, IfSome}
use Rattle.std.specs.List.{AllByRecursion, IsDistinct}
use Rattle.std.specs.List.Sorted.{IsStrictlySortedBy}
use Rattle.slate_types.specs.Line.{IsLine, IsPrefix, end}
use Rattle.slate_store.specs.declared.objects.Checkpoint.{Checkpoint}
use Rattle.slate_store.specs.declared.objects.Manifest.{Manifest}
use Rattle.slate_store.specs.declared.objects.VersionedManifest.{VersionedManifest}
use Rattle.slate_store.specs.Checkpoints.{checkpoint_id}
use Rattle.slate_store.specs.Content.{AreGapless, IdsRise, HasItsLogs, IsPinned, IsSound, StoresTable, content, logs_above, pinned_content, table_batches}
use Rattle.slate_store.specs.Objects.{Objects, entry_at, latest_manifest, log_at, table_at, table_cmp}
use Rattle.slate_check.specs.Named.{EndAt, kept_ids, IsFirstGap, IsFirstTwice, IsFirstUnnumbered, IsFirstWithout}
use Rattle.slate_check.specs.declared.faults.CheckpointFault.{CheckpointFault}
use Rattle.slate_check.specs.declared.faults.CheckpointFault.TheVariants as of_checkpoint
use Rattle.slate_check.specs.declared.faults.ManifestFault.{ManifestFault}
use Rattle.slate_check.specs.declared.faults.ManifestFault.TheVariants.{TableMissing, TableEmpty, NextLog, LogMissing, TablesEnd}
use Rattle.slate_check.specs.declared.faults.Soundness.{Soundness}
use Rattle.slate_check.specs.declared.faults.Soundness.TheVariants.{Sound, Unsound}
use Rattle.slate_check.specs.declared.faults.SoundnessFault.{SoundnessFault}
use Rattle.slate_check.specs.declared.faults.SoundnessFault.TheVariants as of_store

-- the joined tables of a manifest end at its last number in tables
abbrev pub EndsRight : Objects → Manifest → Type 0
EndsRight objects manifest = EndAt manifest.last_l0_seq (table_batches objects manifest.tables)

-- a manifest has what it names
pub record HasAll (objects : Objects) (manifest : Manifest) : Type 0 where
  pub stored : All (StoresTable objects) manifest.tables
  pub logs : HasItsLogs objects manifest
  pub joined : EndsRight objects manifest

-- what soundness asks for
pub data Clause : Type 0 where
  ManifestIds : Clause
  LogIds : Clause
  TableIds : Clause
  AManifest : Clause
  Epochs : Clause
  NoGap : Clause
  LatestObjects : Clause
  Numbers : Clause
  Differ : Clause
  Pinned : Clause

-- in this order
abbrev pub clauses : List Clause
clauses = ManifestIds ∷ LogIds ∷ TableIds ∷ AManifest ∷ Epochs ∷ NoGap ∷ LatestObjects ∷ Numbers ∷ Differ ∷ Pinned ∷ []

-- the ids of the log files above the replay mark of a manifest
abbrev pub ids_above : Objects → Manifest → List ℕ
ids_above objects manifest = map (λ log. log.0) (logs_above manifest.replay_after_wal_id objects)

-- What each says of objects; those of the latest manifest say something where there is one.
abbrev pub Says : Objects → Clause → Type 0
Says objects ManifestIds = IdsRise (map (λ entry. entry.0) objects.manifests)
Says objects LogIds = IdsRise (map (λ log. log.0) objects.logs)
Says objects TableIds = IsStrictlySortedBy table_cmp (map (λ table. table.0) objects.tables)
Says objects AManifest = latest_manifest objects ≡ None → (objects.logs ≡ []) × (objects.tables ≡ [])
Says objects Epochs = IfSome (latest_manifest objects) (λ latest. All (λ table. table.0.epoch ≤ latest.manifest.writer_epoch) objects.tables)
Says objects NoGap = IfSome (latest_manifest objects) (λ latest. AreGapless latest.manifest.replay_after_wal_id (ids_above objects latest.manifest))
Says objects LatestObjects = IfSome (latest_manifest objects) (λ latest. HasAll objects latest.manifest)
Says objects Numbers = IsLine (content objects)
Says objects Differ = IfSome (latest_manifest objects) (λ latest. IsDistinct nat_eq (kept_ids latest.manifest.checkpoints))
Says objects Pinned = IfSome (latest_manifest objects) (λ latest. All (IsPinned objects latest) latest.manifest.checkpoints)

-- What a fault says of a manifest that lacks something.
abbrev pub LacksBy : Objects → Manifest → ManifestFault → Type 0
LacksBy objects manifest (TableMissing id) = IsFirstWithout (StoresTable objects) manifest.tables id × (table_at id objects ≡ None)
LacksBy objects manifest (TableEmpty id) = IsFirstWithout (StoresTable objects) manifest.tables id × (table_at id objects ≡ Some [])
LacksBy objects manifest NextLog = All (StoresTable objects) manifest.tables × (manifest.next_wal_id ≤ manifest.replay_after_wal_id)
LacksBy objects manifest (LogMissing id) =
    All (StoresTable objects) manifest.tables × (manifest.replay_after_wal_id < id) × (id < manifest.next_wal_id)
    × ((earlier : ℕ) → manifest.replay_after_wal_id < earlier → earlier < id → log_at earlier objects ≢ None) × (log_at id objects ≡ None)
LacksBy objects manifest TablesEnd = All (StoresTable objects) manifest.tables × HasItsLogs objects manifest × ¬ EndsRight objects manifest

-- What a fault says of a checkpoint that isn't pinned.
abbrev pub UnpinnedBy : Objects → VersionedManifest → Checkpoint → CheckpointFault → Type 0
UnpinnedBy objects latest checkpoint of_checkpoint.Id = checkpoint.id ≢ checkpoint_id checkpoint.manifest_id
UnpinnedBy objects latest checkpoint of_checkpoint.Above = (checkpoint.id ≡ checkpoint_id checkpoint.manifest_id) × (latest.id < checkpoint.manifest_id)
UnpinnedBy objects latest checkpoint of_checkpoint.Missing =
    (checkpoint.id ≡ checkpoint_id checkpoint.manifest_id) × (checkpoint.manifest_id ≤ latest.id) × (entry_at checkpoint.manifest_id objects.manifests ≡ None)
UnpinnedBy objects latest checkpoint (of_checkpoint.Manifest fault) =
    (checkpoint.id ≡ checkpoint_id checkpoint.manifest_id) × (checkpoint.manifest_id ≤ latest.id)
    × (manifest : Manifest) × (entry_at checkpoint.manifest_id objects.manifests ≡ Some manifest) × LacksBy objects manifest fault
UnpinnedBy objects latest checkpoint of_checkpoint.Content =
    (checkpoint.id ≡ checkpoint_id checkpoint.manifest_id) × (checkpoint.manifest_id ≤ latest.id)
    × (manifest : Manifest) × (entry_at checkpoint.manifest_id objects.manifests ≡ Some manifest) × HasAll objects manifest
    × ¬ IsPrefix (pinned_content objects manifest) (content objects)

-- the first checkpoint that isn't pinned keeps this manifest, and why it isn't
abbrev pub IsFirstUnpinned : Objects → VersionedManifest → ℕ → CheckpointFault → Type 0
IsFirstUnpinned objects latest id fault =
    (checkpoint : Checkpoint) × IsFirstWithout (IsPinned objects latest) latest.manifest.checkpoints checkpoint
    × (checkpoint.manifest_id ≡ id) × UnpinnedBy objects latest checkpoint fault

-- what a fault says of a latest manifest
abbrev pub IsOfLatest : Objects → VersionedManifest → SoundnessFault → Type 0
IsOfLatest objects latest (of_store.TableEpoch id) =
    IsFirstWithout (λ id. id.epoch ≤ latest.manifest.writer_epoch) (map (λ table. table.0) objects.tables) id × (latest.manifest.writer_epoch < id.epoch)
IsOfLatest objects latest (of_store.LogGap after) = IsFirstGap latest.manifest.replay_after_wal_id (ids_above objects latest.manifest) after
IsOfLatest objects latest (of_store.Manifest id fault) = (id ≡ latest.id) × LacksBy objects latest.manifest fault
IsOfLatest objects latest (of_store.Numbers number) = IsFirstUnnumbered (content objects) number
IsOfLatest objects latest (of_store.CheckpointTwice id) = IsFirstTwice (kept_ids latest.manifest.checkpoints) id
IsOfLatest objects latest (of_store.Checkpoint id fault) = IsFirstUnpinned objects latest id fault
IsOfLatest objects latest fault = ⊥

-- What a fault says of objects: which clause isn't so, and where.
abbrev pub ShowsFault : Objects → SoundnessFault → Type 0
ShowsFault objects of_store.ManifestIds = ¬ IdsRise (map (λ entry. entry.0) objects.manifests)
ShowsFault objects of_store.LogIds = ¬ IdsRise (map (λ log. log.0) objects.logs)
ShowsFault objects of_store.TableIds = ¬ IsStrictlySortedBy table_cmp (map (λ table. table.0) objects.tables)
ShowsFault objects of_store.NoManifest = (latest_manifest objects ≡ None) × ¬ ((objects.logs ≡ []) × (objects.tables ≡ []))
ShowsFault objects fault = (latest : VersionedManifest) × (latest_manifest objects ≡ Some latest) × IsOfLatest objects latest fault

-- how many clauses come before the one that a fault is of
abbrev pub place : SoundnessFault → ℕ
place of_store.ManifestIds = 0
place of_store.LogIds = 1
place of_store.TableIds = 2
place of_store.NoManifest = 3
place (of_store.TableEpoch id) = 4
place (of_store.LogGap after) = 5
place (of_store.Manifest id fault) = 6
place (of_store.Numbers number) = 7
place (of_store.CheckpointTwice id) = 8
place (of_store.Checkpoint id fault) = 9

-- a fault is the first one of objects: the clauses before it hold of them, and it shows that its own doesn't
pub record IsFirst (objects : Objects) (fault : SoundnessFault) : Type 0 where
  pub earlier : AllByRecursion (Says objects) (take (place fault) clauses)
  pub shown : ShowsFault objects fault

-- What is answered of objects: that they are sound, with the number of their last batch, or their first fault, and then
-- they aren't.
abbrev pub IsJudged : Objects → Soundness → Type 0
IsJudged objects (Sound number) = IsSound objects × (number ≡ end (content objects))
IsJudged objects (Unsound fault) = IsFirst objects fault × ¬ IsSound objects
