-- What is protected, and what a sweep removes.
use Rattle.std.specs.Prelude.{◌≡◌, ℕ, ℤ, ◌+◌, ◌≤◌, ◌==◌, ◌||◌, Bool, true, not, nat_lt, if◌then◌else◌, Contains, List, [], ◌∷◌, ◌++◌, filter, length, map, Option, Some, None, Result, Ok, Err}
use Rattle.std.specs.List.{flat_map, list_any}
use Rattle.std.specs.Option.{option_map_or, option_to_list}
use Rattle.std.specs.Ordering.{eq_by_cmp}
use Rattle.slate_types.specs.declared.store_errors.StoreFault.TheVariants.{NotFound, Unavailable}
use Rattle.slate_store.specs.declared.objects.Checkpoint.{Checkpoint}
use Rattle.slate_store.specs.declared.objects.Manifest.{Manifest}
use Rattle.slate_store.specs.declared.objects.TableId.{TableId}
use Rattle.slate_store.specs.declared.objects.VersionedManifest.{VersionedManifest}
use Rattle.slate_store.specs.declared.refusals.StoreRefusal.{StoreRefusal}
use Rattle.slate_store.specs.declared.refusals.StoreRefusal.TheVariants.{LatestTransactionalObjectVersionMissing, InvalidDBState, ObjectStoreError, TransactionalObjectVersionExists, NoMemory}
use Rattle.slate_store.specs.Changes.{after_part}
use Rattle.slate_store.specs.Checkpoints.{is_expired, with_checkpoints}
use Rattle.slate_store.specs.Objects.{ChangeOf, ObjectsOf, PutManifest, RemoveLog, RemoveManifest, RemoveTable, changed_all, entry_at, is_present, latest_manifest, table_cmp}
use Rattle.slate_store.specs.Refusals.{PartMade}

-- the manifests that protect what they name: the latest one, and those that its checkpoints keep
abbrev pub protecting : {L : Type 0} → VersionedManifest → ObjectsOf L → List Manifest
protecting latest objects =
    latest.manifest ∷ flat_map (λ checkpoint. option_to_list (entry_at checkpoint.manifest_id objects.manifests)) latest.manifest.checkpoints

-- a manifest is protected that is the latest one, or kept by one of its checkpoints
abbrev pub keeps_manifest : VersionedManifest → ℕ → Bool
keeps_manifest latest id = (id == latest.id) || list_any (λ checkpoint. checkpoint.manifest_id == id) latest.manifest.checkpoints

-- a log file that is above the replay mark of one of these
abbrev pub keeps_log : List Manifest → ℕ → Bool
keeps_log manifests id = list_any (λ manifest. nat_lt manifest.replay_after_wal_id id) manifests

-- and a table that one of these names
abbrev pub keeps_table : List Manifest → TableId → Bool
keeps_table manifests id = list_any (λ manifest. list_any (eq_by_cmp table_cmp id) manifest.tables) manifests

-- what is protected of these objects, where this is the latest manifest
abbrev pub protected : {L : Type 0} → VersionedManifest → ObjectsOf L → ObjectsOf L
protected latest objects =
    record {
      manifests = filter (λ entry. keeps_manifest latest entry.0) objects.manifests;
      logs = filter (λ log. keeps_log (protecting latest objects) log.0) objects.logs;
      tables = filter (λ table. keeps_table (protecting latest objects) table.0) objects.tables;
    }

-- the removals that leave it, in rising order: tables, log files, manifests
abbrev pub removals : {L : Type 0} → VersionedManifest → ObjectsOf L → List (ChangeOf L)
removals latest objects =
    map (λ table. RemoveTable table.0) (filter (λ table. not (keeps_table (protecting latest objects) table.0)) objects.tables)
    ++ (map (λ log. RemoveLog log.0) (filter (λ log. not (keeps_log (protecting latest objects) log.0)) objects.logs)
    ++ map (λ entry. RemoveManifest entry.0) (filter (λ entry. not (keeps_manifest latest entry.0)) objects.manifests))

abbrev pub has_expired : ℤ → VersionedManifest → Bool
has_expired moment latest = list_any (is_expired moment) latest.manifest.checkpoints

-- the latest manifest once the expired checkpoints are taken out, where there are any
abbrev pub without_expired : ℤ → VersionedManifest → VersionedManifest
without_expired moment latest =
    if has_expired moment latest then with_checkpoints (filter (λ checkpoint. not (is_expired moment checkpoint)) latest.manifest.checkpoints) latest
    else latest

-- taking them out
abbrev pub expiries : {L : Type 0} → ℤ → VersionedManifest → List (ChangeOf L)
expiries moment latest =
    if has_expired moment latest then (PutManifest (without_expired moment latest).id (without_expired moment latest).manifest ∷ []) else []

-- the changes of a sweep at a moment: the expired checkpoints are taken out, and what isn't protected then is removed
abbrev pub sweep_changes_by : {L : Type 0} → ℤ → ObjectsOf L → Option VersionedManifest → List (ChangeOf L)
sweep_changes_by moment objects None = []
sweep_changes_by moment objects (Some latest) =
    expiries moment latest ++ removals (without_expired moment latest) (changed_all (expiries moment latest) objects)

abbrev pub sweep_changes : {L : Type 0} → ℤ → ObjectsOf L → List (ChangeOf L)
sweep_changes moment objects = sweep_changes_by moment objects (latest_manifest objects)

-- The most calls of the store that a sweep makes: it reads the latest manifest and lists what is stored, makes each of
-- its changes, and reads the manifest of each checkpoint that is left.
abbrev pub sweep_calls : {L : Type 0} → ℤ → ObjectsOf L → ℕ
sweep_calls moment objects =
    option_map_or (λ latest. 2 + length (sweep_changes moment objects) + length (without_expired moment latest).manifest.checkpoints) (latest_manifest objects) 1

-- what is stored after a sweep, where this was the latest manifest
abbrev pub swept : {L : Type 0} → ℤ → VersionedManifest → ObjectsOf L → ObjectsOf L
swept moment latest objects = protected (without_expired moment latest) (changed_all (expiries moment latest) objects)

-- Why a sweep refuses, over a store that is modelled.
abbrev pub SweepCause : {L : Type 0} → ℤ → ObjectsOf L → StoreRefusal → Type 0
SweepCause moment objects LatestTransactionalObjectVersionMissing = latest_manifest objects ≡ None
SweepCause moment objects InvalidDBState =
    (latest : VersionedManifest) × (latest_manifest objects ≡ Some latest) × (has_expired moment latest ≡ true) × (18446744073709551615 ≤ latest.id)
SweepCause moment objects (ObjectStoreError NotFound) =
    (latest : VersionedManifest) × (checkpoint : Checkpoint) × (latest_manifest objects ≡ Some latest)
    × Contains latest.manifest.checkpoints checkpoint × (entry_at checkpoint.manifest_id objects.manifests ≡ None)
SweepCause moment objects TransactionalObjectVersionExists =
    (latest : VersionedManifest) × (latest_manifest objects ≡ Some latest) × (has_expired moment latest ≡ true)
    × (is_present (PutManifest (latest.id + 1) latest.manifest) objects ≡ true)
SweepCause moment objects (ObjectStoreError Unavailable) = Unit {0}
SweepCause moment objects NoMemory = Unit {0}
SweepCause moment objects refusal = ⊥

-- A sweep that answers Ok leaves what is protected, and answers how many objects it removed.
abbrev pub SweepAnswer : {L : Type 0} → ℤ → ObjectsOf L → Result ℕ StoreRefusal → ObjectsOf L → Type 0
SweepAnswer moment objects (Ok count) objects' =
    (latest : VersionedManifest) × (latest_manifest objects ≡ Some latest) × (objects' ≡ swept moment latest objects)
    × (count ≡ length (removals (without_expired moment latest) (changed_all (expiries moment latest) objects)))
SweepAnswer moment objects (Err refusal) objects' = SweepCause moment objects refusal

-- A sweep at a moment: its answer has its cause, and so many of its changes were made.
pub record Sweeps {L : Type 0} (moment : ℤ) (objects : ObjectsOf L) (result : Result ℕ StoreRefusal) (made : ℕ) (objects' : ObjectsOf L) : Type 0 where
  pub answer : SweepAnswer moment objects result objects'
  pub part : PartMade result (length (sweep_changes moment objects)) made
  pub after : objects' ≡ after_part made (sweep_changes moment objects) objects
