-- What a flush stores, and what it answers.
use Rattle.std.specs.Prelude.{◌≡◌, ℕ, ◌+◌, ◌<◌, ◌≤◌, ◌⊎◌, ◌&&◌, nat_lt, nat_le, if◌then◌else◌, Bool, true, false, List, [], ◌∷◌, ◌++◌, length, take, Option, Some, None, Result, Ok, Err, IfOk, IfSome}
use Rattle.slate_types.specs.declared.batches.Batch.{Batch}
use Rattle.slate_types.specs.Line.{Line, extended}
use Rattle.slate_types.specs.declared.options.FlushType.{FlushType}
use Rattle.slate_types.specs.declared.options.FlushType.TheVariants.{Wal, MemTable}
use Rattle.slate_store.specs.declared.objects.Manifest.{Manifest}
use Rattle.slate_store.specs.declared.objects.VersionedManifest.{VersionedManifest}
use Rattle.slate_types.specs.declared.store_errors.StoreFault.TheVariants.{Unavailable}
use Rattle.slate_store.specs.Objects.{ObjectsOf, ChangeOf, PutLog, PutManifest, PutTable, latest_manifest, last_log}
use Rattle.slate_store.specs.Calls.{WhereModelled}
use Rattle.slate_seqtrack.specs.Bytes.{packed, tracker_at, tracker_of}
use Rattle.slate_seqtrack.specs.Spelling.{tracker_bytes}
use Rattle.slate_seqtrack.specs.Tracker.{Tracker, numbers_of, times_of}
use Rattle.slate_status.specs.Segments.{union_of}
use Rattle.slate_errors.specs.declared.closing.CloseFault.TheVariants as faults
use Rattle.slate_errors.specs.declared.errors.SlateError.{SlateError}
use Rattle.slate_errors.specs.declared.errors.SlateError.TheVariants as errors
use Rattle.slate_errors.specs.Errors.{closed_error}
use Rattle.slate_errors.specs.declared.endings.TaskName.{TaskName}
use Rattle.slate_model.specs.Changes.{PartMade, after_part}
pub use Rattle.slate_model.specs.Handle.{has_untabled}
use Rattle.slate_model.specs.Handle.{Handle, CloseResult, accepted, latest_tick, next_table, to_log, unstored, untabled, untabled_segments}
use Rattle.slate_model.specs.Knowledge.{Knowledge}
use Rattle.slate_model.specs.Known.{CountsFaults, Known, Untouched}
use Rattle.slate_model.specs.Write.{last_number}

-- the last log file, after this one, once these batches are in the log
abbrev pub log_after : List Batch → ℕ → ℕ
log_after [] last = last
log_after (batch ∷ batches) last = last + 1

-- the manifest of a flush to a table, where this log file is the last: it names the table of all batches that aren't in
-- tables, a replay begins after that log file, its segments are those that it had and those of the batches, each once, and
-- it has the bytes of the handle's tracker
abbrev pub flushed_manifest : Handle → Manifest → ℕ → Manifest
flushed_manifest handle manifest last =
    record manifest {
      tables = manifest.tables ++ next_table handle ∷ [];
      last_l0_seq = accepted handle;
      last_tick = latest_tick manifest.last_tick (untabled manifest handle);
      replay_after_wal_id = last;
      next_wal_id = last + 1;
      segments = union_of manifest.segments (untabled_segments handle);
      sequence_tracker = Some (tracker_bytes (packed handle.tracker));
    }

-- the manifest after the latest one that names the handle's next table
abbrev pub next_flushed : Handle → VersionedManifest → ℕ → VersionedManifest
next_flushed handle latest last = record { id = latest.id + 1; manifest = flushed_manifest handle latest.manifest (log_after (to_log handle) last) }

-- What an operation does to a store is said of the objects themselves, where a log file is its batches, and of what a
-- world knows of them. `summary` gives what is known of the batches of a log file or a table.
module _ {L : Type 0} (summary : List Batch → L) where
  -- the put of these batches as the log file after the last one, where there are any
  abbrev pub log_changes : List Batch → ℕ → List (ChangeOf L)
  log_changes [] last = []
  log_changes (batch ∷ batches) last = PutLog (last + 1) (summary (batch ∷ batches)) ∷ []

  -- the put of a table of all batches that aren't in tables, and of the manifest that names it
  abbrev pub table_changes : Handle → VersionedManifest → ℕ → List (ChangeOf L)
  table_changes handle latest last =
      PutTable (next_table handle) (summary (untabled latest.manifest handle))
      ∷ PutManifest (next_flushed handle latest last).id (next_flushed handle latest last).manifest ∷ []

  -- The changes of a flush of a handle under the latest manifest, where this log file is the last: the batches that aren't
  -- stored go to the log, where it keeps one, and then to a table, where that is asked for. One that has no batch for a
  -- table changes nothing.
  abbrev pub flush_changes_under : FlushType → Handle → VersionedManifest → ℕ → List (ChangeOf L)
  flush_changes_under Wal handle latest last = log_changes (to_log handle) last
  flush_changes_under MemTable handle latest last =
      if has_untabled handle latest.manifest then log_changes (to_log handle) last ++ table_changes handle latest last else []

  abbrev pub flush_changes_by : FlushType → Handle → ObjectsOf L → Option VersionedManifest → List (ChangeOf L)
  flush_changes_by flush_type handle objects None = []
  flush_changes_by flush_type handle objects (Some latest) =
      flush_changes_under flush_type handle latest (last_log latest.manifest.replay_after_wal_id objects)

  abbrev pub flush_changes : FlushType → Handle → ObjectsOf L → List (ChangeOf L)
  flush_changes flush_type handle objects = flush_changes_by flush_type handle objects (latest_manifest objects)

-- how many of these changes put a table
abbrev pub tables_put : {L : Type 0} → List (ChangeOf L) → ℕ
tables_put [] = 0
tables_put (PutTable id table ∷ changes) = tables_put changes + 1
tables_put (change ∷ changes) = tables_put changes

-- the tracker after all of these changes of a flush: packed, where a table was put
abbrev pub flushed_tracker : {L : Type 0} → List (ChangeOf L) → Handle → Tracker
flushed_tracker changes handle = if nat_lt 0 (tables_put changes) then packed handle.tracker else handle.tracker

-- the bytes of a tracker are read again as its lists
abbrev pub IsReadAgain : Tracker → Type 0
IsReadAgain tracker = tracker_at (tracker_bytes tracker) ≡ Ok (tracker_of (numbers_of tracker) (times_of tracker))

-- The tracker after a flush that made all of these changes. Where a table was put, its bytes, which the manifest has, are read
-- again as its lists.
pub record TracksFlush {L : Type 0} (changes : List (ChangeOf L)) (old new : Handle) : Type 0 where
  pub is : new.tracker ≡ flushed_tracker changes old
  pub again : 0 < tables_put changes → IsReadAgain new.tracker

-- The batches of a handle are stored by the first so many changes of a flush: by the put of the log file, or, without a
-- log, by that of the manifest, after its table.
abbrev pub grows : Handle → ℕ
grows handle = if handle.keeps_log then 1 else 2

-- the stored line after so many changes of a flush: once they are made that store them, the handle's batches are appended
abbrev pub grown : ℕ → Line → Handle → Line
grown made stored handle = if nat_le (grows handle) made then extended stored (unstored handle) else stored

-- the view of a handle whose flush answered Ok: the manifest that it committed, else the one that it read
abbrev pub flush_view : FlushType → Handle → VersionedManifest → ℕ → VersionedManifest
flush_view Wal handle latest last = latest
flush_view MemTable handle latest last = if has_untabled handle latest.manifest then next_flushed handle latest last else latest

-- whether the ids are left that a flush uses
abbrev pub has_log_id : List Batch → ℕ → Bool
has_log_id [] last = true
has_log_id (batch ∷ batches) last = nat_lt last last_number

abbrev pub has_ids : FlushType → Handle → VersionedManifest → ℕ → Bool
has_ids Wal handle latest last = has_log_id (to_log handle) last
has_ids MemTable handle latest last =
    if has_untabled handle latest.manifest
    then nat_lt (log_after (to_log handle) last) last_number && nat_lt handle.counter last_number && nat_lt latest.id last_number
    else true

-- what an error of a flush records: a fault of the store, or that the handle is fenced
abbrev pub recorded : SlateError → CloseResult
recorded errors.Fenced = Some (Err faults.Fenced)
recorded (errors.ObjectStoreError fault) = Some (Err (faults.ObjectStoreError fault))
recorded errors.TransactionalObjectVersionExists = Some (Err faults.TransactionalObjectVersionExists)
recorded errors.LatestTransactionalObjectVersionMissing = Some (Err faults.LatestTransactionalObjectVersionMissing)
recorded error = None

abbrev pub flush_result : Result (Unit {0}) SlateError → CloseResult
flush_result (Ok _) = None
flush_result (Err error) = recorded error

-- a flush of this type goes to the log, and a handle that keeps none can't make it
abbrev pub has_log_for : FlushType → Handle → Bool
has_log_for Wal handle = handle.keeps_log
has_log_for MemTable handle = true

-- a flush of an open handle that has what it takes goes to the store
abbrev pub CanFlush : FlushType → Handle → Type 0
CanFlush flush_type handle = (handle.result ≡ None) × (has_log_for flush_type handle ≡ true)

-- this is the latest manifest, and a handle of this epoch may write by it
abbrev pub IsCurrent : {L : Type 0} → ℕ → ObjectsOf L → VersionedManifest → Type 0
IsCurrent epoch objects latest = (latest_manifest objects ≡ Some latest) × (latest.manifest.writer_epoch ≤ epoch)

-- Why a handle of this epoch doesn't find the latest manifest, and its epoch current, over a store that is modelled.
-- Fenced: another handle opened since. Only want of memory, and a fault, which the count of faults shows, have no cause
-- here.
abbrev pub ManifestCause : {L : Type 0} → ℕ → ObjectsOf L → SlateError → Type 0
ManifestCause epoch objects errors.LatestTransactionalObjectVersionMissing = latest_manifest objects ≡ None
ManifestCause epoch objects errors.Fenced =
    (latest : VersionedManifest) × (latest_manifest objects ≡ Some latest) × (epoch < latest.manifest.writer_epoch)
ManifestCause epoch objects (errors.ObjectStoreError Unavailable) = Unit {0}
ManifestCause epoch objects errors.NoMemory = Unit {0}
ManifestCause epoch objects error = ⊥

-- the latest manifest, where a handle of this epoch may still write by it; else the cause
abbrev pub FindsCurrent : {L : Type 0} → ℕ → ObjectsOf L → Result VersionedManifest SlateError → Type 0
FindsCurrent epoch objects (Ok latest) = IsCurrent epoch objects latest
FindsCurrent epoch objects (Err error) = ManifestCause epoch objects error

-- Why a flush answers an error, over a store that is modelled. InvalidDBState: the epoch was found current, but an id is
-- used up. `stands` says that an object is there already that it puts.
abbrev pub FlushCause : {L : Type 0} → Type 0 → FlushType → Handle → ObjectsOf L → SlateError → Type 0
FlushCause stands flush_type handle objects errors.InvalidDBState =
    (latest : VersionedManifest) × IsCurrent handle.epoch objects latest
    × (has_ids flush_type handle latest (last_log latest.manifest.replay_after_wal_id objects) ≡ false)
FlushCause stands flush_type handle objects errors.TransactionalObjectVersionExists = stands
FlushCause stands flush_type handle objects error = ManifestCause handle.epoch objects error

-- A flush that answers Ok found its epoch current, and its handle goes by the manifest that it committed or read from
-- then on. One that answers an error goes by its old view, or by the one that it read, if it found its epoch current.
abbrev pub FlushAnswer : {L : Type 0} → Type 0 → FlushType → Handle → ObjectsOf L → Result (Unit {0}) SlateError → VersionedManifest → Type 0
FlushAnswer stands flush_type handle objects (Ok _) view =
    (latest : VersionedManifest) × IsCurrent handle.epoch objects latest
    × (view ≡ flush_view flush_type handle latest (last_log latest.manifest.replay_after_wal_id objects))
FlushAnswer stands flush_type handle objects (Err error) view =
    FlushCause stands flush_type handle objects error × ((view ≡ handle.view) ⊎ IsCurrent handle.epoch objects view)

-- for want of an id nothing is put, and for want of memory the last change isn't made
abbrev pub FlushesOnly : Result (Unit {0}) SlateError → (all made : ℕ) → Type 0
FlushesOnly (Err errors.InvalidDBState) all made = made ≡ 0
FlushesOnly (Err errors.NoMemory) all made = (made ≡ 0) ⊎ (made < all)
FlushesOnly result all made = Unit {0}

-- The durable number after a flush. At Ok it is the accepted one. Want of memory raises it where the batches were stored
-- before, and a fault may leave the old one also then.
abbrev pub DurableAfter : (stored : Bool) → Handle → Result (Unit {0}) SlateError → ℕ → Type 0
DurableAfter stored handle (Ok _) durable = durable ≡ accepted handle
DurableAfter stored handle (Err errors.NoMemory) durable = durable ≡ (if stored then accepted handle else handle.durable)
DurableAfter stored handle (Err error) durable = (durable ≡ handle.durable) ⊎ ((stored ≡ true) × (durable ≡ accepted handle))

-- A handle after a flush of which so many changes were made, which leaves this result and these tasks: its durable number, its
-- view and the count of its tables have moved, its tracker may be packed, and nothing else.
pub record IsFlushed (keep : Handle → Handle) (made : ℕ) (result : Result (Unit {0}) SlateError) (closed : CloseResult) (tasks : List TaskName) (old new : Handle) : Type 0 where
  pub same : new ≡ keep (record old { durable = new.durable; counter = new.counter; tracker = new.tracker; view = new.view; result = closed; tasks = tasks })
  pub durable : DurableAfter (nat_le (grows old) made) old result new.durable
  pub counter : (old.counter ≤ new.counter) × (new.counter ≤ old.counter + 1)
  pub tracker : (new.tracker ≡ old.tracker) ⊎ (new.tracker ≡ packed old.tracker)

-- A flush of a handle: its answer has its cause, so many of its changes were made, and the count of its tables was
-- raised before one was put.
pub record StoresBatches {L : Type 0} (k : Knowledge L) (flush_type : FlushType) (old : Handle) (objects : ObjectsOf L)
    (result : Result (Unit {0}) SlateError) (new : Handle) (made : ℕ) (objects' : ObjectsOf L) : Type 0 where
  pub answer : FlushAnswer (k.stands (flush_changes k.summary flush_type old objects) objects) flush_type old objects result new.view
  pub part : PartMade result (length (flush_changes k.summary flush_type old objects)) made
  pub only : FlushesOnly result (length (flush_changes k.summary flush_type old objects)) made
  pub current : 0 < made → (latest : VersionedManifest) × IsCurrent old.epoch objects latest
  pub counted : (old.counter + tables_put (take made (flush_changes k.summary flush_type old objects)) ≤ new.counter)
      × (new.counter ≤ old.counter + tables_put (flush_changes k.summary flush_type old objects))
  pub after : objects' ≡ after_part made (flush_changes k.summary flush_type old objects) objects
  pub tracked : IfOk result (λ done. TracksFlush (flush_changes k.summary flush_type old objects) old new)

-- the batches of a handle go to the store, and it is as this one then
pub record Stores {L : Type 0} (k : Knowledge L) (made : ℕ) (flush_type : FlushType) (old : Handle)
    (before : Known L) (result : Result (Unit {0}) SlateError) (new : Handle) (after : Known L) : Type 0 where
  pub faults : CountsFaults before.faults after.faults result
  pub objects : WhereModelled (λ o o'. StoresBatches k flush_type old o result new made o') before.objects after.objects

-- A flush by a handle. A closed handle answers what closed it, and one without a log that is to flush the log
-- WalDisabled, and nothing changes; else the batches go to the store, and what the flush answers leaves the handle. So
-- many of its changes were made.
pub record Flushes {L : Type 0} (k : Knowledge L) (made : ℕ) (flush_type : FlushType) (old : Handle)
    (before : Known L) (result : Result (Unit {0}) SlateError) (new : Handle) (after : Known L) : Type 0 where
  pub closed : IfSome old.result (λ r. (result ≡ Err (closed_error r)) × (new ≡ old) × Untouched made before after)
  pub disabled : old.result ≡ None → has_log_for flush_type old ≡ false → (result ≡ Err errors.WalDisabled) × (new ≡ old) × Untouched made before after
  pub flushed : CanFlush flush_type old → IsFlushed k.keep made result (flush_result result) old.tasks old new
  pub stored : CanFlush flush_type old → Stores k made flush_type old before result new after
