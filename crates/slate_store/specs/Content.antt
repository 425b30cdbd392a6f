-- The content of a store, and which objects are sound.
use Rattle.std.specs.Prelude.{◌≡◌, ◌≢◌, ℕ, ◌+◌, ◌-◌, ◌<◌, ◌≤◌, nat_lt, nat_eq, All, List, [], ◌∷◌, ◌++◌, length, filter, map, Option, Some, None, unwrap_or, IfSome}
use Rattle.std.specs.List.{flat_map, AllByRecursion, IsDistinct}
use Rattle.std.specs.List.Sorted.{IsStrictlySortedBy}
use Rattle.std.specs.Ordering.{eq_by_cmp}
use Rattle.slate_types.specs.declared.batches.Batch.{Batch}
use Rattle.slate_types.specs.Line.{Line, IsLine, IsPrefix, batches_above}
use Rattle.slate_store.specs.declared.objects.Checkpoint.{Checkpoint}
use Rattle.slate_store.specs.declared.objects.Manifest.{Manifest}
use Rattle.slate_store.specs.declared.objects.TableId.{TableId}
use Rattle.slate_store.specs.declared.objects.VersionedManifest.{VersionedManifest}
use Rattle.slate_store.specs.Checkpoints.{checkpoint_id}
use Rattle.slate_store.specs.Logs.{batches_between}
use Rattle.slate_store.specs.Objects.{Objects, ObjectsOf, entry_at, latest_manifest, log_at, table_at, table_cmp}

-- each of these tables is stored
abbrev pub AreStored : {L : Type 0} → ObjectsOf L → List TableId → Type 0
AreStored objects ids = All (λ id. table_at id objects ≢ None) ids

-- the batches of tables, joined in this order
abbrev pub table_batches : Objects → List TableId → List Batch
table_batches objects ids = flat_map (λ id. unwrap_or (table_at id objects) []) ids

-- the log files above a replay mark
abbrev pub logs_above : {L : Type 0} → ℕ → ObjectsOf L → List (ℕ × L)
logs_above mark objects = filter (λ log. nat_lt mark log.0) objects.logs

-- what those log files have that isn't in the tables
abbrev pub logged : Objects → Manifest → List Batch
logged objects manifest =
    batches_above manifest.last_l0_seq (flat_map (λ log. log.1) (logs_above manifest.replay_after_wal_id objects))

-- the number before the first of these batches, or another where there is none
abbrev pub number_before : List Batch → ℕ → ℕ
number_before [] otherwise = otherwise
number_before (batch ∷ batches) otherwise = batch.number - 1

-- the batches that a manifest names: those of its tables in order, then those of the logs above its replay mark
abbrev pub content_by : Objects → Option VersionedManifest → Line
content_by objects None = record { floor = 0; batches = [] }
content_by objects (Some latest) = let m = latest.manifest in
    record {
      floor = number_before (table_batches objects m.tables) m.last_l0_seq;
      batches = table_batches objects m.tables ++ logged objects m;
    }

-- the content of a store, by its latest manifest; without one, the empty line
abbrev pub content : Objects → Line
content objects = content_by objects (latest_manifest objects)

-- each id is above those before it
abbrev pub IdsRise : List ℕ → Type 0
IdsRise [] = Unit {0}
IdsRise (id ∷ ids) = AllByRecursion (λ later. id < later) ids × IdsRise ids

-- ids without gaps: the first follows this one, and each later one the one before it
abbrev pub AreGapless : ℕ → List ℕ → Type 0
AreGapless before [] = Unit {0}
AreGapless before (id ∷ ids) = (id ≡ before + 1) × AreGapless id ids

-- a table is stored under this id, and has a batch
abbrev pub StoresTable : Objects → TableId → Type 0
StoresTable objects id = (first : Batch) × (rest : List Batch) × (table_at id objects ≡ Some (first ∷ rest))

-- The tables of a manifest are stored and differ, and each has a batch; joined in order, they end at its last number in
-- tables.
pub record HasItsTables (objects : Objects) (manifest : Manifest) : Type 0 where
  pub stored : All (StoresTable objects) manifest.tables
  pub differ : IsDistinct (eq_by_cmp table_cmp) manifest.tables
  pub joined : let joined = table_batches objects manifest.tables in
      number_before joined manifest.last_l0_seq + length joined ≡ manifest.last_l0_seq

-- The log files above the replay mark of a manifest and below the id that it says is next are stored.
pub record HasItsLogs (objects : Objects) (manifest : Manifest) : Type 0 where
  pub next : manifest.replay_after_wal_id < manifest.next_wal_id
  pub stored : (id : ℕ) → manifest.replay_after_wal_id < id → id < manifest.next_wal_id → log_at id objects ≢ None

-- What a manifest named when it was put, while what it protects is stored: the batches of its tables in order, then
-- those of its log files below the id that it says is next.
abbrev pub pinned_content : Objects → Manifest → Line
pinned_content objects manifest =
    let joined = table_batches objects manifest.tables in
    let logged = batches_between manifest.replay_after_wal_id (manifest.next_wal_id - 1) objects in
    record {
      floor = number_before joined manifest.last_l0_seq;
      batches = joined ++ batches_above manifest.last_l0_seq logged;
    }

-- A checkpoint of the latest manifest: its id is that of the manifest that it keeps, which is stored with its tables
-- and log files, and what that manifest named begins the content.
pub record IsPinned (objects : Objects) (latest : VersionedManifest) (checkpoint : Checkpoint) : Type 0 where
  pub id : checkpoint.id ≡ checkpoint_id checkpoint.manifest_id
  pub within : checkpoint.manifest_id ≤ latest.id
  pub manifest : Manifest
  pub kept : entry_at checkpoint.manifest_id objects.manifests ≡ Some manifest
  pub tables : HasItsTables objects manifest
  pub logs : HasItsLogs objects manifest
  pub begins : IsPrefix (pinned_content objects manifest) (content_by objects (Some latest))

-- The latest manifest has its tables and log files, these without a gap. No table has an epoch above its own, and its
-- checkpoints differ, each pinned.
pub record HasItsObjects (objects : Objects) (latest : VersionedManifest) : Type 0 where
  pub tables : HasItsTables objects latest.manifest
  pub logs : HasItsLogs objects latest.manifest
  pub gapless : AreGapless latest.manifest.replay_after_wal_id (map (λ log. log.0) (logs_above latest.manifest.replay_after_wal_id objects))
  pub epochs : All (λ table. table.0.epoch ≤ latest.manifest.writer_epoch) objects.tables
  pub differ : IsDistinct nat_eq (map (λ checkpoint. checkpoint.manifest_id) latest.manifest.checkpoints)
  pub pinned : All (IsPinned objects latest) latest.manifest.checkpoints

-- Objects that the commands of a database leave. Without a manifest there is no log file and no table.
pub record IsSound (objects : Objects) : Type 0 where
  pub manifests : IdsRise (map (λ entry. entry.0) objects.manifests)
  pub logs : IdsRise (map (λ log. log.0) objects.logs)
  pub tables : IsStrictlySortedBy table_cmp (map (λ table. table.0) objects.tables)
  pub nothing : latest_manifest objects ≡ None → (objects.logs ≡ []) × (objects.tables ≡ [])
  pub line : IsLine (content objects)
  pub latest : IfSome (latest_manifest objects) (HasItsObjects objects)

-- where the manifest that a checkpoint keeps was stored, it is stored still, and what it named when it was put is as it was
abbrev pub ReadsSame : Objects → Objects → Checkpoint → Type 0
ReadsSame objects objects' checkpoint =
    (manifest : Manifest) → entry_at checkpoint.manifest_id objects.manifests ≡ Some manifest →
    (entry_at checkpoint.manifest_id objects'.manifests ≡ Some manifest) × (pinned_content objects' manifest ≡ pinned_content objects manifest)

-- each checkpoint that there is afterwards keeps what it kept
abbrev pub KeepsPins : Objects → Objects → Type 0
KeepsPins objects objects' = IfSome (latest_manifest objects') (λ latest. All (ReadsSame objects objects') latest.manifest.checkpoints)
