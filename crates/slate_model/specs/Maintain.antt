-- What a command answers and changes that commits a checkpoint of a store, or sweeps it.
use Rattle.std.specs.Prelude.{◌≡◌, ℕ, ℤ, ◌≤◌, true, List, length, Option, Some, None, Result, Ok, Err}
use Rattle.slate_types.specs.declared.store_errors.StoreFault.TheVariants.{NotFound, Unavailable}
use Rattle.slate_store.specs.declared.objects.Checkpoint.{Checkpoint}
use Rattle.slate_store.specs.declared.objects.VersionedManifest.{VersionedManifest}
use Rattle.slate_store.specs.Calls.{WhereModelled}
use Rattle.slate_store.specs.Checkpoints.{new_checkpoint, to_write}
use Rattle.slate_store.specs.Objects.{ChangeOf, ObjectsOf, latest_manifest}
use Rattle.slate_store.specs.Refusals.{checkpoint_changes}
use Rattle.slate_store.specs.Sweeps.{SweepAnswer, has_expired, sweep_changes}
use Rattle.slate_errors.specs.declared.errors.SlateError.{SlateError}
use Rattle.slate_errors.specs.declared.errors.SlateError.TheVariants as errors
use Rattle.slate_model.specs.Changes.{PartMade, after_part}
use Rattle.slate_model.specs.Knowledge.{Knowledge}
use Rattle.slate_model.specs.Known.{CountsFaults, FaultsRise, Known}
use Rattle.slate_model.specs.Write.{last_number}

-- Why no checkpoint is committed, over a store that is modelled. InvalidDBState: the latest manifest's id is the last one.
-- `stands` says that a manifest is there already under the next id.
abbrev pub CheckpointCause : {L : Type 0} → Type 0 → ObjectsOf L → SlateError → Type 0
CheckpointCause stands objects errors.LatestTransactionalObjectVersionMissing = latest_manifest objects ≡ None
CheckpointCause stands objects errors.InvalidDBState =
    (latest : VersionedManifest) × (latest_manifest objects ≡ Some latest) × (last_number ≤ latest.id)
CheckpointCause stands objects (errors.TransactionalObjectTimeout tries) = (tries ≡ 8) × stands
CheckpointCause stands objects (errors.ObjectStoreError Unavailable) = Unit {0}
CheckpointCause stands objects errors.NoMemory = Unit {0}
CheckpointCause stands objects error = ⊥

-- a checkpoint that is answered is that of the manifest after the latest one
abbrev pub CheckpointAnswer : {L : Type 0} → Type 0 → Option ℕ → ℤ → ObjectsOf L → Result Checkpoint SlateError → Type 0
CheckpointAnswer stands lifetime moment objects (Ok checkpoint) =
    (latest : VersionedManifest) × (latest_manifest objects ≡ Some latest) × (checkpoint ≡ new_checkpoint latest lifetime moment)
CheckpointAnswer stands lifetime moment objects (Err error) = CheckpointCause stands objects error

-- the put of the manifest that commits a checkpoint with this lifetime at a moment
abbrev pub commit_changes : {L : Type 0} → Option ℕ → ℤ → ObjectsOf L → List (ChangeOf L)
commit_changes lifetime moment objects = checkpoint_changes (to_write None lifetime moment) objects

-- A checkpoint with this lifetime is committed at a moment: so many of its changes were made.
pub record CommitsCheckpoint {L : Type 0} (k : Knowledge L) (lifetime : Option ℕ) (moment : ℤ) (objects : ObjectsOf L)
    (result : Result Checkpoint SlateError) (made : ℕ) (objects' : ObjectsOf L) : Type 0 where
  pub answer : CheckpointAnswer (k.stands (commit_changes lifetime moment objects) objects) lifetime moment objects result
  pub part : PartMade result (length (commit_changes {L = L} lifetime moment objects)) made
  pub after : objects' ≡ after_part made (commit_changes lifetime moment objects) objects

pub record Checkpoints {L : Type 0} (k : Knowledge L) (made : ℕ) (lifetime : Option ℕ) (moment : ℤ)
    (before : Known L) (result : Result Checkpoint SlateError) (after : Known L) : Type 0 where
  pub faults : CountsFaults before.faults after.faults result
  pub objects : WhereModelled (λ o o'. CommitsCheckpoint k lifetime moment o result made o') before.objects after.objects

-- Why a sweep at a moment answers an error, over a store that is modelled. InvalidDBState: the expired checkpoints are to
-- be taken out first, and the latest manifest's id is the last one. `unswept` says it of what only objects bring about
-- that aren't sound.
abbrev pub SweepsCause : {L : Type 0} → (SlateError → Type 0) → ℤ → ObjectsOf L → SlateError → Type 0
SweepsCause unswept moment objects errors.LatestTransactionalObjectVersionMissing = latest_manifest objects ≡ None
SweepsCause unswept moment objects errors.InvalidDBState =
    (latest : VersionedManifest) × (latest_manifest objects ≡ Some latest) × (has_expired moment latest ≡ true) × (last_number ≤ latest.id)
SweepsCause unswept moment objects errors.TransactionalObjectVersionExists = unswept errors.TransactionalObjectVersionExists
SweepsCause unswept moment objects (errors.ObjectStoreError NotFound) = unswept (errors.ObjectStoreError NotFound)
SweepsCause unswept moment objects (errors.ObjectStoreError Unavailable) = Unit {0}
SweepsCause unswept moment objects errors.NoMemory = Unit {0}
SweepsCause unswept moment objects error = ⊥

-- a sweep that answers Ok leaves exactly what is protected at its moment, and answers how many objects it removed
abbrev pub SweepsAnswer : {L : Type 0} → (SlateError → Type 0) → ℤ → ObjectsOf L → Result ℕ SlateError → ObjectsOf L → Type 0
SweepsAnswer unswept moment objects (Ok count) objects' = SweepAnswer moment objects (Ok count) objects'
SweepsAnswer unswept moment objects (Err error) objects' = SweepsCause unswept moment objects error

-- The objects are swept at a moment: so many of the changes were made.
pub record SweepsObjects {L : Type 0} (k : Knowledge L) (moment : ℤ) (objects : ObjectsOf L) (result : Result ℕ SlateError) (made : ℕ) (objects' : ObjectsOf L) : Type 0 where
  pub answer : SweepsAnswer (k.unswept moment objects) moment objects result objects'
  pub part : PartMade result (length (sweep_changes moment objects)) made
  pub after : objects' ≡ after_part made (sweep_changes moment objects) objects

pub record Sweeps {L : Type 0} (k : Knowledge L) (made : ℕ) (moment : ℤ) (before : Known L) (result : Result ℕ SlateError) (after : Known L) : Type 0 where
  pub faults : FaultsRise before.faults after.faults result
  pub objects : WhereModelled (λ o o'. SweepsObjects k moment o result made o') before.objects after.objects
