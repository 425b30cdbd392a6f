-- The manifest that a follower goes by, and which log files it reads.
use Rattle.std.specs.Prelude.{◌≡◌, ℕ, ◌-◌, ◌||◌, Bool, if◌then◌else◌, not, true, false, Option, Some, None, is_some}
use Rattle.std.specs.Option.{option_map}
use Rattle.slate_store.specs.declared.objects.Checkpoint.{Checkpoint}
use Rattle.slate_store.specs.declared.objects.VersionedManifest.{VersionedManifest}
use Rattle.slate_store.specs.declared.reader_modes.DbReaderMode.{DbReaderMode}
use Rattle.slate_store.specs.declared.reader_modes.DbReaderMode.TheVariants as modes
use Rattle.slate_store.specs.Checkpoints.{found}
use Rattle.slate_store.specs.Objects.{ObjectsOf, entry_at, last_log, latest_manifest, versioned}
use Rattle.slate_errors.specs.declared.errors.SlateError.{SlateError}
use Rattle.slate_errors.specs.declared.errors.SlateError.TheVariants as errors
use Rattle.slate_model.specs.Segments.{Extractor, extractor_refusal}

-- Whether a database can be followed by its latest manifest: an opening wants it initialised.
abbrev pub can_follow : (opening : Bool) → VersionedManifest → Bool
can_follow opening latest = latest.manifest.initialized || not opening

-- Why a database isn't followed by its latest manifest, where it isn't: an opening wants it initialised, and the extractor to fit
-- it.
abbrev pub follow_refusal : Option Extractor → (opening : Bool) → VersionedManifest → Option SlateError
follow_refusal extractor false latest = None
follow_refusal extractor true latest = if latest.manifest.initialized then extractor_refusal extractor latest.manifest else Some errors.InvalidDBState

-- the latest manifest of objects is refused so, or not
abbrev pub RefusesLatest : {L : Type 0} → Option Extractor → (opening : Bool) → ObjectsOf L → Option SlateError → Type 0
RefusesLatest extractor opening objects refusal =
    (latest : VersionedManifest) × (latest_manifest objects ≡ Some latest) × (follow_refusal extractor opening latest ≡ refusal)

-- whether a manifest has the checkpoint at which a reader in this mode stays
abbrev pub finds : DbReaderMode → VersionedManifest → Bool
finds (modes.Checkpoint id) latest = is_some (found id latest)
finds mode latest = true

-- the manifest that a checkpoint keeps, where it is stored
abbrev pub kept_by : {L : Type 0} → ObjectsOf L → Option Checkpoint → Option VersionedManifest
kept_by objects None = None
kept_by objects (Some checkpoint) = option_map (λ m. versioned (checkpoint.manifest_id, m)) (entry_at checkpoint.manifest_id objects.manifests)

-- the manifest that a reader goes by where this one is the latest: the one that its checkpoint keeps, or the latest
abbrev pub view_under : {L : Type 0} → DbReaderMode → ObjectsOf L → VersionedManifest → Option VersionedManifest
view_under (modes.Checkpoint id) objects latest = kept_by objects (found id latest)
view_under mode objects latest = Some latest

-- a reader in this mode can follow the objects of a store, and goes by this manifest
abbrev pub IsView : {L : Type 0} → DbReaderMode → (opening : Bool) → ObjectsOf L → VersionedManifest → Type 0
IsView mode opening objects view =
    (latest : VersionedManifest) × (latest_manifest objects ≡ Some latest) × (can_follow opening latest ≡ true) × (view_under mode objects latest ≡ Some view)

-- The last log file that it reads: the last one of all, or the one before the next that its checkpoint's manifest names.
-- One that skips reads none above the replay mark.
abbrev pub last_read : {L : Type 0} → DbReaderMode → (skips : Bool) → VersionedManifest → ObjectsOf L → ℕ
last_read mode true view objects = view.manifest.replay_after_wal_id
last_read (modes.Checkpoint id) false view objects = view.manifest.next_wal_id - 1
last_read mode false view objects = last_log view.manifest.replay_after_wal_id objects

-- how many log files an opening in this mode reads at most
abbrev pub read_logs : {L : Type 0} → DbReaderMode → (skips : Bool) → ObjectsOf L → Option VersionedManifest → ℕ
read_logs mode skips objects None = 0
read_logs mode skips objects (Some view) = last_read mode skips view objects - view.manifest.replay_after_wal_id

abbrev pub logs_under : {L : Type 0} → DbReaderMode → (skips : Bool) → ObjectsOf L → Option VersionedManifest → ℕ
logs_under mode skips objects None = 0
logs_under mode skips objects (Some latest) = read_logs mode skips objects (view_under mode objects latest)

abbrev pub followed_logs : {L : Type 0} → DbReaderMode → (skips : Bool) → ObjectsOf L → ℕ
followed_logs mode skips objects = logs_under mode skips objects (latest_manifest objects)
