-- What a refresh of a handle and a compaction by one do, and what they answer.
use Rattle.std.specs.Prelude.{◌≡◌, ℕ, ◌+◌, ◌<◌, ◌≤◌, ◌⊎◌, length, take, Some, None, Result, Ok, Err, IfSome}
use Rattle.slate_store.specs.declared.objects.VersionedManifest.{VersionedManifest}
use Rattle.slate_store.specs.Calls.{WhereModelled}
use Rattle.slate_store.specs.Compaction.{compact_changes, compacted}
use Rattle.slate_store.specs.Objects.{ObjectsOf}
use Rattle.slate_types.specs.declared.store_errors.StoreFault.TheVariants.{NotFound}
use Rattle.slate_errors.specs.declared.closing.CloseFault.TheVariants as faults
use Rattle.slate_errors.specs.declared.errors.SlateError.{SlateError}
use Rattle.slate_errors.specs.declared.errors.SlateError.TheVariants as errors
use Rattle.slate_errors.specs.Errors.{closed_error}
use Rattle.slate_model.specs.Changes.{PartMade, after_part}
use Rattle.slate_model.specs.Flush.{IsCurrent, ManifestCause, tables_put}
use Rattle.slate_model.specs.Handle.{CloseResult, Handle, next_table}
use Rattle.slate_model.specs.Knowledge.{Knowledge}
use Rattle.slate_model.specs.Known.{CountsFaults, FaultsRise, Known, Untouched}
use Rattle.slate_model.specs.Write.{last_number}

-- what is recorded of a refresh and of a compaction: that the handle is fenced; a fault of the store isn't
abbrev pub fenced_result : Result (Unit {0}) SlateError → CloseResult
fenced_result (Err errors.Fenced) = Some (Err faults.Fenced)
fenced_result result = None

-- a refresh that answers Ok found its epoch current, and its handle goes by the latest manifest from then on
abbrev pub RefreshAnswer : {L : Type 0} → Handle → ObjectsOf L → Result (Unit {0}) SlateError → VersionedManifest → Type 0
RefreshAnswer handle objects (Ok _) view = IsCurrent handle.epoch objects view
RefreshAnswer handle objects (Err error) view = ManifestCause handle.epoch objects error × (view ≡ handle.view)

-- a refresh of an open handle
pub record ReadsLatest {L : Type 0} (k : Knowledge L) (old : Handle) (before : Known L) (result : Result (Unit {0}) SlateError) (new : Handle) (after : Known L) : Type 0 where
  pub faults : CountsFaults before.faults after.faults result
  pub kept : after.objects ≡ before.objects
  pub same : new ≡ k.keep (record old { view = new.view; result = fenced_result result })
  pub answer : IfSome before.objects (λ o. RefreshAnswer old o result new.view)

-- A refresh of a handle. A closed one answers what closed it, and nothing changes.
pub record Refreshes {L : Type 0} (k : Knowledge L) (old : Handle) (before : Known L) (result : Result (Unit {0}) SlateError) (new : Handle) (after : Known L) : Type 0 where
  pub closed : IfSome old.result (λ r. (result ≡ Err (closed_error r)) × (new ≡ old) × (after ≡ before))
  pub refreshed : old.result ≡ None → ReadsLatest k old before result new after

-- Why a compaction answers an error, over a store that is modelled. InvalidDBState: the epoch was found current and there
-- are tables to join, but an id is used up. `unjoined` says it of what only objects bring about that aren't sound.
abbrev pub CompactCause : {L : Type 0} → (SlateError → Type 0) → Handle → ObjectsOf L → SlateError → Type 0
CompactCause unjoined handle objects errors.InvalidDBState =
    ((latest : VersionedManifest) × IsCurrent handle.epoch objects latest × (2 ≤ length latest.manifest.tables)
    × ((last_number ≤ latest.id) ⊎ (last_number ≤ handle.counter)))
    ⊎ unjoined errors.InvalidDBState
CompactCause unjoined handle objects errors.TransactionalObjectVersionExists = unjoined errors.TransactionalObjectVersionExists
CompactCause unjoined handle objects (errors.ObjectStoreError NotFound) = unjoined (errors.ObjectStoreError NotFound)
CompactCause unjoined handle objects error = ManifestCause handle.epoch objects error

-- a compaction that answers Ok found its epoch current, and its handle goes by the manifest that it left from then on
abbrev pub CompactAnswer : {L : Type 0} → (SlateError → Type 0) → Handle → ObjectsOf L → Result (Unit {0}) SlateError → VersionedManifest → Type 0
CompactAnswer unjoined handle objects (Ok _) view =
    (latest : VersionedManifest) × IsCurrent handle.epoch objects latest × (view ≡ compacted (next_table handle) latest)
CompactAnswer unjoined handle objects (Err error) view = CompactCause unjoined handle objects error × (view ≡ handle.view)

-- The tables of the latest manifest are joined: so many of the changes were made, and the count of the handle's tables
-- was raised before one was put.
pub record JoinsTables {L : Type 0} (k : Knowledge L) (old : Handle) (objects : ObjectsOf L)
    (result : Result (Unit {0}) SlateError) (new : Handle) (made : ℕ) (objects' : ObjectsOf L) : Type 0 where
  pub answer : CompactAnswer (k.unjoined (next_table old) objects) old objects result new.view
  pub part : PartMade result (length (compact_changes k.joined (next_table old) objects)) made
  pub current : 0 < made → (latest : VersionedManifest) × IsCurrent old.epoch objects latest
  pub counted : (old.counter + tables_put (take made (compact_changes k.joined (next_table old) objects)) ≤ new.counter)
      × (new.counter ≤ old.counter + tables_put (compact_changes k.joined (next_table old) objects))
  pub after : objects' ≡ after_part made (compact_changes k.joined (next_table old) objects) objects

-- a compaction by an open handle
pub record JoinsLatest {L : Type 0} (k : Knowledge L) (made : ℕ) (old : Handle) (before : Known L) (result : Result (Unit {0}) SlateError) (new : Handle) (after : Known L) : Type 0 where
  pub faults : FaultsRise before.faults after.faults result
  pub same : new ≡ k.keep (record old { counter = new.counter; view = new.view; result = fenced_result result })
  pub counter : (old.counter ≤ new.counter) × (new.counter ≤ old.counter + 1)
  pub objects : WhereModelled (λ o o'. JoinsTables k old o result new made o') before.objects after.objects

-- A compaction by a handle. A closed one answers what closed it, and nothing changes. So many of its changes were made.
pub record Compacts {L : Type 0} (k : Knowledge L) (made : ℕ) (old : Handle) (before : Known L) (result : Result (Unit {0}) SlateError) (new : Handle) (after : Known L) : Type 0 where
  pub closed : IfSome old.result (λ r. (result ≡ Err (closed_error r)) × (new ≡ old) × Untouched made before after)
  pub compacted : old.result ≡ None → JoinsLatest k made old before result new after
