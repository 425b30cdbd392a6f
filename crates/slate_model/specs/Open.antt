-- What an opening puts, the handle that it gives, and why it answers an error.
use Rattle.std.specs.Prelude.{◌≡◌, ℕ, ℤ, ◌+◌, ◌-◌, ◌&&◌, ◌<◌, ◌≤◌, negsuc, nat_lt, if◌then◌else◌, Bool, true, List, [], ◌∷◌, Option, Some, None, is_some, Result, Ok, Err, IfOk}
use Rattle.std.specs.Option.{option_or}
use Rattle.slate_types.specs.declared.batches.Batch.{Batch}
use Rattle.slate_types.specs.Line.{Line, end, batches_above}
use Rattle.slate_store.specs.declared.objects.Manifest.{Manifest}
use Rattle.slate_store.specs.declared.objects.VersionedManifest.{VersionedManifest}
use Rattle.slate_types.specs.declared.store_errors.StoreFault.TheVariants.{Unavailable}
use Rattle.slate_store.specs.Objects.{Objects, ObjectsOf, ChangeOf, PutManifest, PutLog, entry_at, latest_manifest, last_log}
use Rattle.slate_store.specs.Calls.{WhereModelled}
use Rattle.slate_store.specs.Logs.{AreTruncatedAt}
use Rattle.slate_errors.specs.declared.endings.TaskName.{TaskName}
use Rattle.slate_errors.specs.declared.errors.SlateError.{SlateError}
use Rattle.slate_errors.specs.declared.errors.SlateError.TheVariants as errors
use Rattle.slate_model.specs.Changes.{PartMade, after_part}
use Rattle.slate_model.specs.Handle.{Handle, accepted, latest_tick}
use Rattle.slate_model.specs.Knowledge.{Knowledge}
use Rattle.slate_model.specs.Segments.{Extractor, extractor_name, extractor_refusal, ops_of, segments_of, unsegmented_refusal}
use Rattle.slate_model.specs.Tracked.{opened_tracker, stored_tracker, tracked_all}
use Rattle.slate_model.specs.Known.{CountsFaults, Known}
use Rattle.slate_model.specs.Write.{last_number}

-- the least moment
abbrev pub first_tick : ℤ
first_tick = negsuc 9223372036854775807

-- the manifest of a new database, with the name of its extractor
abbrev pub first_manifest : Option (List ℕ) → Manifest
first_manifest name =
    record {
      writer_epoch = 1;
      initialized = true;
      tables = [];
      last_l0_seq = 0;
      last_tick = first_tick;
      replay_after_wal_id = 0;
      next_wal_id = 1;
      checkpoints = [];
      segments = [];
      extractor_name = name;
      sequence_tracker = None;
    }

-- after which log file those that an opening replays begin
abbrev pub mark_of : Option VersionedManifest → ℕ
mark_of None = 0
mark_of (Some latest) = latest.manifest.replay_after_wal_id

-- and above which number their batches aren't in tables
abbrev pub number_of : Option VersionedManifest → ℕ
number_of None = 0
number_of (Some latest) = latest.manifest.last_l0_seq

-- the last log file that an opening finds
abbrev pub found_log : {L : Type 0} → ObjectsOf L → ℕ
found_log objects = last_log (mark_of (latest_manifest objects)) objects

-- how many log files an opening replays, and a poll
abbrev pub replayed_logs : {L : Type 0} → ObjectsOf L → ℕ
replayed_logs objects = found_log objects - mark_of (latest_manifest objects)

-- the id of the manifest that an opening commits
abbrev pub next_id : Option VersionedManifest → ℕ
next_id None = 1
next_id (Some latest) = latest.id + 1

-- the manifest that an opening commits after the latest one, where this log file is the last: the first, or a copy of
-- the latest with the next epoch
abbrev pub next_manifest : Option (List ℕ) → Option VersionedManifest → ℕ → VersionedManifest
next_manifest name None last = record { id = 1; manifest = first_manifest name }
next_manifest name (Some latest) last =
    record {
      id = latest.id + 1;
      manifest = record latest.manifest { writer_epoch = latest.manifest.writer_epoch + 1; initialized = true; next_wal_id = last + 1 };
    }

abbrev pub opened_manifest : {L : Type 0} → Option (List ℕ) → ObjectsOf L → VersionedManifest
opened_manifest name objects = next_manifest name (latest_manifest objects) (found_log objects)

-- The changes of an opening: its manifest, and an empty log file, the fence, after the last one. `summary` gives
-- what is known of the batches of a log file.
abbrev pub open_changes : {L : Type 0} → Option (List ℕ) → (List Batch → L) → ObjectsOf L → List (ChangeOf L)
open_changes name summary objects =
    PutManifest (opened_manifest name objects).id (opened_manifest name objects).manifest ∷ PutLog (found_log objects + 1) (summary []) ∷ []

-- whether a database is ready to be opened by its latest manifest: it is initialised, and its tracker can be read and fits it
abbrev pub is_ready : VersionedManifest → Bool
is_ready latest = latest.manifest.initialized && is_some (stored_tracker latest.manifest)

-- whether neither its id nor its epoch is the last
abbrev pub has_next : VersionedManifest → Bool
has_next latest = nat_lt latest.id last_number && nat_lt latest.manifest.writer_epoch last_number

-- whether it can be opened by its latest manifest
abbrev pub can_reopen : VersionedManifest → Bool
can_reopen latest = is_ready latest && has_next latest

-- an opening is refused unless this holds
abbrev pub refusal_unless : Bool → Option SlateError
refusal_unless holds = if holds then None else Some errors.InvalidDBState

-- whether a store can be opened, where this log file is the last: it isn't the last one that there can be
abbrev pub can_open_by : Option VersionedManifest → ℕ → Bool
can_open_by None last = nat_lt last last_number
can_open_by (Some latest) last = can_reopen latest && nat_lt last last_number

abbrev pub can_open : {L : Type 0} → ObjectsOf L → Bool
can_open objects = can_open_by (latest_manifest objects) (found_log objects)

-- the refusal of an opening by the latest manifest, the first of these: the database isn't ready, the extractor doesn't fit it,
-- or its id or its epoch is the last
abbrev pub manifest_refusal : Option Extractor → Option VersionedManifest → Option SlateError
manifest_refusal extractor None = None
manifest_refusal extractor (Some latest) =
    if is_ready latest then option_or (extractor_refusal extractor latest.manifest) (refusal_unless (has_next latest)) else Some errors.InvalidDBState

-- and by the last log file
abbrev pub log_refusal : ℕ → Option SlateError
log_refusal last = refusal_unless (nat_lt last last_number)

-- why a store isn't opened with an extractor, where it isn't: the first of these in their order
abbrev pub open_refusal : {L : Type 0} → Option Extractor → ObjectsOf L → Option SlateError
open_refusal extractor objects = option_or (manifest_refusal extractor (latest_manifest objects)) (log_refusal (found_log objects))

-- the batches of a line that aren't in the tables of a manifest, which an opening replays
abbrev pub replayed : VersionedManifest → Line → List Batch
replayed view stored = batches_above view.manifest.last_l0_seq stored.batches

-- The handle that an opening gives under the manifest that it committed, where this line is stored: it sees the line, all of
-- it is durable, its tracker is that of the manifest, in which the batches that are replayed are tracked, and these tasks run
-- for it.
abbrev pub opened_handle : Option Extractor → (keeps_log : Bool) (limit : ℕ) (tasks : List TaskName) → VersionedManifest → Line → Handle
opened_handle extractor keeps_log limit tasks view stored =
    record {
      keeps_log = keeps_log;
      limit = limit;
      line = stored;
      segments = segments_of extractor (replayed view stored);
      durable = end stored;
      epoch = view.manifest.writer_epoch;
      counter = 0;
      tick = latest_tick view.manifest.last_tick (replayed view stored);
      tracker = tracked_all (opened_tracker view.manifest) (replayed view stored);
      writes = None;
      view = view;
      result = None;
      tasks = tasks;
    }

-- What only objects bring about that aren't sound: that the log files to be replayed are truncated, at the one with
-- this id, or that an object is there already.
abbrev pub OpenFault : Objects → SlateError → Type 0
OpenFault objects (errors.WalTruncated id) =
    let latest = latest_manifest objects in
    (end : ℕ) × AreTruncatedAt id (mark_of latest) (found_log objects) (number_of latest) end objects
OpenFault objects errors.TransactionalObjectVersionExists = is_some (entry_at (next_id (latest_manifest objects)) objects.manifests) ≡ true
OpenFault objects error = ⊥

-- Why an opening answers an error, over a store that is modelled. `unsound` says it of the errors that only
-- objects bring about that aren't sound. A key that is replayed is found without a segment once nothing else stands against
-- the opening.
abbrev pub OpenCause : {L : Type 0} → Option Extractor → (SlateError → Type 0) → ObjectsOf L → SlateError → Type 0
OpenCause extractor unsound objects errors.InvalidDBState = open_refusal extractor objects ≡ Some errors.InvalidDBState
OpenCause extractor unsound objects (errors.SegmentExtractorMismatch persisted configured) =
    open_refusal extractor objects ≡ Some (errors.SegmentExtractorMismatch persisted configured)
OpenCause extractor unsound objects (errors.SegmentPrefixNotRecognized prefix name) =
    open_refusal extractor objects ≡ Some (errors.SegmentPrefixNotRecognized prefix name)
OpenCause extractor unsound objects (errors.EmptySegmentPrefix key) = open_refusal extractor objects ≡ None
OpenCause extractor unsound objects (errors.ObjectStoreError Unavailable) = Unit {0}
OpenCause extractor unsound objects errors.NoMemory = Unit {0}
OpenCause extractor unsound objects error = unsound error

-- an opening that answers Ok found that nothing stands against it
abbrev pub OpenAnswer : {A L : Type 0} → Option Extractor → (SlateError → Type 0) → ObjectsOf L → Result A SlateError → Type 0
OpenAnswer extractor unsound objects (Ok _) = open_refusal extractor objects ≡ None
OpenAnswer extractor unsound objects (Err error) = OpenCause extractor unsound objects error

-- nothing is put where the store can't be opened, and both before the log files are replayed
abbrev pub OpensOnly : {A : Type 0} → Result A SlateError → ℕ → Type 0
OpensOnly (Err errors.InvalidDBState) made = made ≡ 0
OpensOnly (Err (errors.WalTruncated id)) made = made ≡ 2
OpensOnly (Err (errors.EmptySegmentPrefix key)) made = made ≡ 2
OpensOnly result made = Unit {0}

-- An opening: its answer has its cause, and so many of its changes were made, none where the store can't be opened.
pub record Opens {A L : Type 0} (extractor : Option Extractor) (summary : List Batch → L) (unsound : SlateError → Type 0) (objects : ObjectsOf L) (result : Result A SlateError) (made : ℕ) (objects' : ObjectsOf L) : Type 0 where
  pub answer : OpenAnswer extractor unsound objects result
  pub part : PartMade result 2 made
  pub only : OpensOnly result made
  pub can : 0 < made → open_refusal extractor objects ≡ None
  pub after : objects' ≡ after_part made (open_changes (extractor_name extractor) summary objects) objects

-- A handle that was just opened: these tasks run for it, it has the epoch of its view and put no table yet, and all batches
-- that it sees are durable.
pub record IsFresh (keeps_log : Bool) (limit : ℕ) (tasks : List TaskName) (handle : Handle) : Type 0 where
  pub keeps : handle.keeps_log ≡ keeps_log
  pub limit_is : handle.limit ≡ limit
  pub tasked : handle.tasks ≡ tasks
  pub unclosed : handle.result ≡ None
  pub epoch : handle.epoch ≡ handle.view.manifest.writer_epoch
  pub counter : handle.counter ≡ 0
  pub durable : handle.durable ≡ accepted handle
  pub tabled : handle.view.manifest.last_l0_seq ≤ handle.durable

-- Whether each key that an opening replays of a line has a segment: each has where it answers Ok, and it names the first that
-- hasn't.
abbrev pub AreSegmented : {A : Type 0} → Option Extractor → List Batch → Result A SlateError → Type 0
AreSegmented extractor batches (Ok _) = unsegmented_refusal extractor (ops_of batches) ≡ None
AreSegmented extractor batches (Err (errors.EmptySegmentPrefix key)) =
    unsegmented_refusal extractor (ops_of batches) ≡ Some (errors.EmptySegmentPrefix key)
AreSegmented extractor batches (Err error) = Unit {0}

-- An opening of a database by a handle for which these tasks run, and which sees the line that is stored, where that is known.
pub record OpensHandle {L : Type 0} (k : Knowledge L) (extractor : Option Extractor) (made : ℕ) (keeps_log : Bool) (limit : ℕ) (tasks : List TaskName) (before : Known L) (result : Result Handle SlateError) (after : Known L) : Type 0 where
  pub opens : WhereModelled (λ o o'. Opens extractor k.summary (k.unsound o) o result made o') before.objects after.objects
  pub faults : CountsFaults before.faults after.faults result
  pub fresh : IfOk result (IsFresh keeps_log limit tasks)
  pub view : IfOk result (λ handle. (o : ObjectsOf L) → before.objects ≡ Some o → handle.view ≡ opened_manifest (extractor_name extractor) o)
  pub segmented : (o : ObjectsOf L) (line : Line) → before.objects ≡ Some o → k.is_stored line →
      AreSegmented extractor (replayed (opened_manifest (extractor_name extractor) o) line) result
  pub handle : IfOk result (λ handle. (o : ObjectsOf L) (line : Line) → before.objects ≡ Some o → k.is_stored line →
      handle ≡ k.keep (opened_handle extractor keeps_log limit tasks (opened_manifest (extractor_name extractor) o) line))
