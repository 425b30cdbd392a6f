-- Commands that nothing in a world stands against, and the link of a command, which such a one answers.
use Rattle.std.specs.Prelude.{◌≡◌, ◌≢◌, ℕ, ℤ, ◌+◌, ◌<◌, ◌≤◌, ◌⊎◌, Bool, true, false, List, [], ◌∷◌, length, slice_get, Option, Some, None, Result, Ok, Err, IfSome}
use Rattle.slate_types.specs.declared.batches.Batch.{Batch}
use Rattle.slate_types.specs.declared.batches.KeyOp.{KeyOp}
use Rattle.slate_types.specs.declared.batches.KeyValue.{KeyValue}
use Rattle.slate_types.specs.declared.read_faults.ReadFault.{ReadFault}
use Rattle.slate_types.specs.declared.store_errors.StoreFault.TheVariants.{Unavailable}
use Rattle.slate_types.specs.Counts.{HasRisen}
use Rattle.slate_types.specs.Line.{IsPrefix, end}
use Rattle.slate_rows.specs.Iteration.{Iteration}
use Rattle.slate_store.specs.declared.objects.VersionedManifest.{VersionedManifest}
use Rattle.slate_store.specs.Objects.{latest_manifest, last_log}
use Rattle.slate_store.specs.Sweeps.{has_expired}
use Rattle.slate_types.specs.declared.options.FlushType.{FlushType}
use Rattle.slate_errors.specs.declared.errors.SlateError.{SlateError}
use Rattle.slate_errors.specs.declared.errors.SlateError.TheVariants as errors
use Rattle.slate_model.specs.Flush.{has_ids, has_log_for}
use Rattle.slate_model.specs.Handle.{CloseResult, Handle, accepted, known_segments}
use Rattle.slate_model.specs.Followed.{IsView, RefusesLatest}
use Rattle.slate_model.specs.Follow.{ReplayRefuses}
use Rattle.slate_model.specs.Stores.{by_catalogue}
use Rattle.slate_model.specs.Begun.{Begun}
use Rattle.slate_model.specs.Follower.{Follower, is_managed, is_pinned}
use Rattle.slate_model.specs.declared.leases.Lease.{Lease}
use Rattle.slate_model.specs.Lease.{lease_refusal, renews_taken, to_keep, to_take}
use Rattle.slate_store.specs.Checkpoints.{Plan, to_delete}
use Rattle.slate_store.specs.declared.reader_modes.DbReaderMode.TheVariants.{ManagedCheckpoint}
use Rattle.slate_live.specs.Commands.{interval_of, lifetime_of}
use Rattle.slate_store.specs.declared.reader_modes.DbReaderMode.{DbReaderMode}
use Rattle.slate_model.specs.Close.{recorded_fault}
use Rattle.slate_live.specs.declared.states.Write.{Write}
use Rattle.slate_model.specs.Open.{open_refusal, opened_manifest, replayed}
use Rattle.slate_model.specs.Segments.{Extractor, extractor_name, ops_of, segment_refusal, unsegmented_refusal}
use Rattle.slate_model.specs.Unflushed.{unflushed}
use Rattle.slate_model.specs.Write.{accepted_moment, last_number, merge_expiry}
use Rattle.slate_script.specs.declared.commands.Action.TheVariants as actions
use Rattle.slate_script.specs.declared.commands.Command.{Command}
use Rattle.slate_script.specs.declared.replies.Reply.{Reply}
use Rattle.slate_script.specs.declared.replies.Reply.TheVariants as replies
use Rattle.slate_live.specs.Confirmed.{IsBatchOf, Sees, StandsIn}
use Rattle.slate_model.specs.Tables.{AreStored}
use Rattle.slate_model.specs.declared.snapshots.HandleSnapshot.{HandleSnapshot}
use Rattle.slate_model.specs.Object.{Object, Handle as AHandle, Snapshot as ASnapshot, Follower as AFollower}
use Rattle.slate_live.specs.State.{IsBegunAt}
use Rattle.slate_live.specs.Calls.{Call, Write as WriteCall, Merge, Flush, Refresh, Compact, Get, Scan, Seek, Close, Poll, Status, FindTime, FindNumber, Kind, Begins, Steps, Whole, call_of, kind_of}
use Rattle.slate_live.specs.Calls.{at_snapshot, target_of}
use Rattle.slate_live.specs.declared.targets.Target.{Target}
use Rattle.slate_live.specs.declared.targets.Target.TheVariants.{NewHandle, NewSnapshot, NewFollower, NewCheckpoint, WholeStore, OfWrite, OfObject}
use Rattle.slate_live.specs.Followers.{IsPlainReadAt, IsPlainScanAt}
use Rattle.slate_live.specs.Handles.{IsPlainRead, IsPlainScan, flush_type_by}
use Rattle.slate_live.specs.Scans.{scanned, sought}
use Rattle.slate_live.specs.Rising.{Rise}
use Rattle.slate_live.specs.Settings.{Settings}
use Rattle.slate_live.specs.Represents.{IsFollowerAt, up_to}
use Rattle.slate_live.specs.Causes.{HasCauses}
use Rattle.slate_live.specs.Next.{Next, StepLeaves}
use Rattle.slate_live.specs.World.{World}

-- what holds of the object with a number, by its kind; nothing of a number without one
abbrev pub AtObject : Option Object → (Handle → Type 0) → (HandleSnapshot → Type 0) → (Follower → Type 0) → Type 0
AtObject None of_handle of_snapshot of_follower = ⊥
AtObject (Some (AHandle handle)) of_handle of_snapshot of_follower = of_handle handle
AtObject (Some (ASnapshot snapshot)) of_handle of_snapshot of_follower = of_snapshot snapshot
AtObject (Some (AFollower follower)) of_handle of_snapshot of_follower = of_follower follower

-- what holds of the handle with a number
abbrev pub AtHandle : World → ℕ → (Handle → Type 0) → Type 0
AtHandle w n of_handle = AtObject (slice_get w.objects n) of_handle (λ snapshot. ⊥) (λ follower. ⊥)

-- an opening: an existing manifest is initialised, has a tracker that fits it, and fits the extractor, the ids and the epoch
-- that it uses are left, and each key that it replays has a segment
abbrev pub CanOpen : Option Extractor → World → Type 0
CanOpen extractor w =
    (open_refusal extractor w.catalogue ≡ None)
    × (unsegmented_refusal extractor (ops_of (replayed (opened_manifest (extractor_name extractor) w.catalogue) w.stored)) ≡ None)

-- Operations that a handle may accept as one batch: there is one, each key has a byte, and no key is merged under two
-- times of expiry.
pub record AreWritable (ops : List KeyOp) : Type 0 where
  pub some : 0 < length ops
  pub keys : (i : ℕ) (o : KeyOp) → slice_get ops i ≡ Some o → 0 < length o.key
  pub expiries : (i j : ℕ) (a b : KeyOp) (x y : Option ℤ) → slice_get ops i ≡ Some a → slice_get ops j ≡ Some b → a.key ≡ b.key →
      merge_expiry a.op ≡ Some x → merge_expiry b.op ≡ Some y → x ≡ y

-- a write to a handle: the operations may be accepted, their keys have segments that fit the known ones, less than the limit isn't
-- stored yet, a number is left, and one of the moments isn't below the tick
pub record CanWrite (extractor : Option Extractor) (ops : List KeyOp) (moment : ℤ) (second : Option ℤ) (handle : Handle) : Type 0 where
  pub unclosed : handle.result ≡ None
  pub writable : AreWritable ops
  pub segmented : segment_refusal extractor (known_segments handle) ops ≡ None
  pub room : unflushed handle < handle.limit
  pub number : accepted handle < last_number
  pub moments : (at : ℤ) × (accepted_moment handle.tick moment second ≡ Some at)

-- no handle was opened since this one, by the latest manifest
abbrev pub IsLatest : World → Handle → VersionedManifest → Type 0
IsLatest w handle latest = (latest_manifest w.catalogue ≡ Some latest) × (latest.manifest.writer_epoch ≤ handle.epoch)

-- a refresh of a handle: no handle was opened since
abbrev pub CanRefresh : World → Handle → Type 0
CanRefresh w handle = (latest : VersionedManifest) × IsLatest w handle latest

-- a flush of a handle: it keeps a log, where that is to be flushed, no handle was opened since, and the ids are left that
-- it uses
abbrev pub CanStore : World → FlushType → Handle → Type 0
CanStore w flush_type handle =
    (has_log_for flush_type handle ≡ true)
    × (latest : VersionedManifest) × IsLatest w handle latest
    × (has_ids flush_type handle latest (last_log latest.manifest.replay_after_wal_id w.catalogue) ≡ true)

-- a compaction by a handle: no handle was opened since, and, where there are tables to join, an id for a table and one for
-- a manifest is left
abbrev pub CanCompact : World → Handle → Type 0
CanCompact w handle =
    (latest : VersionedManifest) × IsLatest w handle latest
    × (2 ≤ length latest.manifest.tables → (latest.id < last_number) × (handle.counter < last_number))

-- a close of a handle: one that is open, and that can store its batches where it is to flush, or one that an error
-- closed
abbrev pub CanClose : CloseResult → Option FlushType → World → Handle → Type 0
CanClose (Some (Ok _)) flush_type w handle = ⊥
CanClose (Some (Err fault)) flush_type w handle = Unit {0}
CanClose None None w handle = Unit {0}
CanClose None (Some flush_type) w handle = CanStore w flush_type handle

-- an opening of a follower: the extractor fits the latest manifest, and each key that it replays has a segment
abbrev pub CanReplay : Option Extractor → DbReaderMode → (skips : Bool) → World → Type 0
CanReplay extractor mode skips w =
    RefusesLatest extractor true w.catalogue None × ReplayRefuses (by_catalogue w.stored w.catalogue) extractor mode skips true w.catalogue w.stored None

-- an opening of a follower, or a poll: there is a manifest that it can go by
abbrev pub CanFollow : DbReaderMode → (opening : Bool) → World → Type 0
CanFollow mode opening w = (view : VersionedManifest) × IsView mode opening w.catalogue view

-- a plan for a checkpoint gives what it puts, or that there is nothing to put, after the latest manifest
abbrev pub CanPut : {A : Type 0} → (VersionedManifest → Plan A) → World → Type 0
CanPut {A} plan w = (latest : VersionedManifest) × (latest_manifest w.catalogue ≡ Some latest) × (given : Option VersionedManifest × A) × (plan latest ≡ Ok given)

-- an opening of a follower, by its mode: one that keeps a checkpoint has options that pass, and can put it
abbrev pub CanOpenFollower : Option Extractor → DbReaderMode → Option (ℕ × ℕ) → (skips : Bool) → World → ℤ → Type 0
CanOpenFollower extractor ManagedCheckpoint managed skips w moment =
    (lease_refusal (lifetime_of managed) (interval_of managed) ≡ None) × CanPut (to_take (lifetime_of managed) moment) w × CanReplay extractor ManagedCheckpoint skips w
CanOpenFollower extractor mode managed skips w moment = CanFollow mode true w × CanReplay extractor mode skips w

-- a poll that renews the lease at once that it takes: the id of a manifest after the next one is left
abbrev pub CanRenew : World → ℤ → Follower → Lease → Type 0
CanRenew w moment follower lease =
    (latest : VersionedManifest) → latest_manifest w.catalogue ≡ Some latest → renews_taken follower.view lease moment latest ≡ true → latest.id + 1 < last_number

-- a poll of an open follower: one that keeps a checkpoint can keep its lease
abbrev pub CanPoll : World → ℤ → Follower → Type 0
CanPoll w moment follower = (is_managed follower.mode ≡ false → is_pinned follower.mode ≡ false → CanFollow follower.mode false w)
    × (is_managed follower.mode ≡ true → IfSome follower.lease (λ lease. CanPut (to_keep follower.view lease moment) w × CanRenew w moment follower lease))

-- a close of a follower: of one that is closed without an error, or of an open one, which can take its checkpoint out, where it
-- keeps one
abbrev pub CanEnd : World → Follower → Type 0
CanEnd w follower = (recorded_fault follower.result ≡ None)
    × (is_managed follower.mode ≡ true → follower.result ≡ None → IfSome follower.lease (λ lease. CanPut (to_delete lease.id) w))

-- a checkpoint: there is a manifest, and the id of another is left
abbrev pub CanCheckpoint : World → Type 0
CanCheckpoint w = (latest : VersionedManifest) × (latest_manifest w.catalogue ≡ Some latest) × (latest.id < last_number)

-- a sweep at a moment: there is a manifest, and the id of another is left, where expired checkpoints are to be taken out
abbrev pub CanSweep : World → ℤ → Type 0
CanSweep w moment =
    (latest : VersionedManifest) × (latest_manifest w.catalogue ≡ Some latest) × (has_expired moment latest ≡ true → latest.id < last_number)

-- a read of something open, by these batches: the plain read gives an answer, and no fault
abbrev pub CanRead : {A : Type 0} → CloseResult → (List Batch → Result A ReadFault → Type 0) → List Batch → Type 0
CanRead {A} closed is_plain rows = (closed ≡ None) × (found : A) × is_plain rows (Ok found)

-- a scan of something open, or a seek in one: what is taken of the plain scan is rows, and no fault
abbrev pub CanTake : CloseResult → (List Batch → Iteration → Type 0) → (Iteration → Result (List KeyValue) SlateError) → List Batch → Type 0
CanTake closed is_plain taken rows = (closed ≡ None) × ((it : Iteration) → is_plain rows it → (found : List KeyValue) × (taken it ≡ Ok found))

-- what is read by an object that goes by this manifest: these batches, and all tables that it names are stored
abbrev pub ReadsBy : World → VersionedManifest → List Batch → (List Batch → Type 0) → Type 0
ReadsBy w view rows can = AreStored w.catalogue view.manifest.tables × can rows

-- a handle reads its line
abbrev pub ByLine : World → Handle → (List Batch → Type 0) → Type 0
ByLine w handle can = ReadsBy w handle.view handle.line.batches can

-- and a follower what is stored
abbrev pub ByStored : World → Follower → (List Batch → Type 0) → Type 0
ByStored w follower can = ReadsBy w follower.view w.stored.batches can

-- what a handle may be asked; its status and its tracker always
abbrev pub CanAsk : Settings → World → ℤ → Option ℤ → Call → Handle → Type 0
CanAsk settings w moment second (WriteCall ops) handle = CanWrite settings.extractor ops moment second handle
CanAsk settings w moment second (Merge op) handle = (settings.merge ≢ None) × CanWrite settings.extractor (op ∷ []) moment second handle
CanAsk settings w moment second (Flush flush_type) handle = (handle.result ≡ None) × CanStore w (flush_type_by flush_type handle) handle
CanAsk settings w moment second Refresh handle = (handle.result ≡ None) × CanRefresh w handle
CanAsk settings w moment second Compact handle = (handle.result ≡ None) × CanCompact w handle
CanAsk settings w moment second (Get key remote snapshot) handle = ByLine w handle (CanRead handle.result (IsPlainRead settings.merge key remote snapshot handle))
CanAsk settings w moment second (Scan range order remote snapshot) handle =
    ByLine w handle (CanTake handle.result (IsPlainScan settings.merge range order remote snapshot handle) scanned)
CanAsk settings w moment second (Seek range take key order remote snapshot) handle =
    ByLine w handle (CanTake handle.result (IsPlainScan settings.merge range order remote snapshot handle) (sought range take key))
CanAsk settings w moment second (Close flush_type) handle = CanClose handle.result flush_type w handle
CanAsk settings w moment second Status handle = Unit {0}
CanAsk settings w moment second (FindTime number find) handle = Unit {0}
CanAsk settings w moment second (FindNumber seconds find) handle = Unit {0}
CanAsk settings w moment second call handle = ⊥

-- what a follower may be asked; its status always
abbrev pub CanAskFollower : Settings → World → ℤ → Call → Follower → Type 0
CanAskFollower settings w moment (Get key remote snapshot) follower = ByStored w follower (CanRead follower.result (IsPlainReadAt settings.merge key follower))
CanAskFollower settings w moment (Scan range order remote snapshot) follower =
    ByStored w follower (CanTake follower.result (IsPlainScanAt settings.merge range order follower) scanned)
CanAskFollower settings w moment (Seek range take key order remote snapshot) follower =
    ByStored w follower (CanTake follower.result (IsPlainScanAt settings.merge range order follower) (sought range take key))
CanAskFollower settings w moment (Close flush_type) follower = CanEnd w follower
CanAskFollower settings w moment Poll follower = (follower.result ≡ None) × CanPoll w moment follower
CanAskFollower settings w moment Status follower = Unit {0}
CanAskFollower settings w moment call follower = ⊥

-- what a snapshot may be asked: what its handle may be, up to the snapshot's number
abbrev pub CanAskSnapshot : Settings → World → ℤ → Option ℤ → Call → HandleSnapshot → Type 0
CanAskSnapshot settings w moment second call snapshot =
    AtHandle w snapshot.handle (CanAsk settings w moment second (at_snapshot snapshot.number call))

-- a write that is durable
abbrev pub IsDurable : World → Option Write → Type 0
IsDurable w None = ⊥
IsDurable w (Some write) = AtHandle w write.handle (λ handle. write.number ≤ handle.durable)

abbrev pub IsValidAt : Settings → World → ℤ → Option ℤ → Call → Target → Type 0
IsValidAt settings w moment second call (NewHandle keeps_log) = CanOpen settings.extractor w
IsValidAt settings w moment second call (NewSnapshot n) = AtHandle w n (λ handle. handle.result ≡ None)
IsValidAt settings w moment second call (NewFollower mode managed skips lag) = CanOpenFollower settings.extractor mode managed skips w moment
IsValidAt settings w moment second call (NewCheckpoint lifetime) = CanCheckpoint w
IsValidAt settings w moment second call WholeStore = CanSweep w moment
IsValidAt settings w moment second call (OfWrite n) = IsDurable w (slice_get w.writes n)
IsValidAt settings w moment second call (OfObject n) =
    AtObject (slice_get w.objects n) (CanAsk settings w moment second call) (CanAskSnapshot settings w moment second call) (CanAskFollower settings w moment call)

-- A step of a begun poll: fewer than seven of its puts were overtaken, and a reader that doesn't stay at a checkpoint finds a manifest,
-- after which the ids of two more are left for one that keeps a checkpoint.
abbrev pub CanStep : Settings → World → ℕ → Follower → Type 0
CanStep settings w n follower =
    ((begun : Begun) × IsBegunAt w.polls n begun × (begun.overtaken < 7))
    × (is_pinned follower.mode ≡ false → (latest : VersionedManifest) × (latest_manifest w.catalogue ≡ Some latest) × (is_managed follower.mode ≡ true → latest.id + 1 < last_number))

-- by its kind: a poll of an open reader is begun
abbrev pub IsValidKind : Kind → Settings → World → Command → Type 0
IsValidKind Whole settings w command = IsValidAt settings w command.moment command.second (call_of command.action) (target_of command.action)
IsValidKind (Begins n) settings w command = AtObject (slice_get w.objects n) (λ handle. ⊥) (λ snapshot. ⊥) (λ follower. follower.result ≡ None)
IsValidKind (Steps n) settings w command = AtObject (slice_get w.objects n) (λ handle. ⊥) (λ snapshot. ⊥) (CanStep settings w n)

-- nothing in this world stands against the command
abbrev pub IsValidCommand : Settings → World → Command → Type 0
IsValidCommand settings w command = IsValidKind (kind_of command.action) settings w command

-- a reply that refuses nothing, or want of memory
abbrev pub IsOkOrNoMemory : Reply → Type 0
IsOkOrNoMemory (replies.Refused error) = ⊥
IsOkOrNoMemory (replies.Ended (Some errors.NoMemory) tasks) = Unit {0}
IsOkOrNoMemory (replies.Ended (Some error) tasks) = ⊥
IsOkOrNoMemory replies.Unknown = ⊥
IsOkOrNoMemory replies.Pending = ⊥
IsOkOrNoMemory (replies.Backpressure unflushed limit) = ⊥
IsOkOrNoMemory (replies.Follower object false at) = ⊥
IsOkOrNoMemory (replies.Polled false at) = ⊥
IsOkOrNoMemory reply = Unit {0}

-- what a valid command answers: a step may also find that a log file was removed
abbrev pub IsStepped : Reply → Type 0
IsStepped (replies.Polled false at) = Unit {0}
IsStepped reply = IsOkOrNoMemory reply

abbrev pub IsAnswered : Kind → Reply → Type 0
IsAnswered Whole reply = IsOkOrNoMemory reply
IsAnswered (Begins n) reply = IsOkOrNoMemory reply
IsAnswered (Steps n) reply = IsStepped reply

-- a reply that is a fault of the store, also one that ends what is closed
abbrev pub IsStoreFault : Reply → Type 0
IsStoreFault (replies.Refused (errors.ObjectStoreError Unavailable)) = Unit {0}
IsStoreFault (replies.Ended (Some (errors.ObjectStoreError Unavailable)) tasks) = Unit {0}
IsStoreFault reply = ⊥

-- the write with this number is among the batches that are stored: so is the batch that it added to its handle's line
pub record IsConfirmed (w : World) (n : ℕ) : Type 0 where
  pub write : Write
  pub is_write : slice_get w.writes n ≡ Some write
  pub number : write.number ≤ end w.stored
  pub stored : (batch : Batch) → IsBatchOf w n batch → StandsIn batch w.stored

-- The link of a command: its reply and the world that it leads to are such as follow. A valid command that meets no
-- fault of the store is refused nothing, and one that meets a fault answers it. What is stored stays stored, what a handle knows to
-- be durable is, the number of no follower falls, a write that is reported durable is stored, what is stored is seen by each opening
-- and each poll, and what a step of a begun poll answers has its cause.
pub record Link (settings : Settings) (w : World) (command : Command) (reply : Reply) (w' : World) : Type 0 where
  pub next : Next settings w command reply w'
  pub completes : IsValidCommand settings w command → (HasRisen w.faults w'.faults → ⊥) → IsAnswered (kind_of command.action) reply
  pub faults : (w'.faults ≡ w.faults) ⊎ IsStoreFault reply
  pub grows : IsPrefix w.stored w'.stored
  pub durable : (n : ℕ) (handle : Handle) → slice_get w'.objects n ≡ Some (AHandle handle) → IsPrefix (up_to handle.durable handle.line) w'.stored
  pub rises : Rise w.objects w'.objects
  pub confirms : (n : ℕ) → command.action ≡ actions.Await n → reply ≡ replies.Durable → IsConfirmed w n
  pub sees : (batch : Batch) → StandsIn batch w.stored → Sees batch command.action reply w'
  pub leaves : (n : ℕ) → kind_of command.action ≡ Steps n → StepLeaves settings.extractor n w reply w'
  pub causes : (n : ℕ) (reader : Follower) (begun : Begun) → kind_of command.action ≡ Steps n → IsFollowerAt w.objects n reader → IsBegunAt w.polls n begun → HasCauses n w reader begun reply w'
