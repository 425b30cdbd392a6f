-- What the steps of a reader that keeps a checkpoint of its own put and answer.
use Rattle.std.specs.Prelude.{◌≡◌, ℕ, ℤ, ◌+◌, ◌*◌, ◌<◌, ◌≤◌, ◌⊎◌, ◌||◌, if◌then◌else◌, Bool, true, false, max, List, [], length, Option, Some, None, Result, Ok, Err, IfErr, IfSome, IsSome}
use Rattle.slate_types.specs.declared.batches.Batch.{Batch}
use Rattle.slate_types.specs.declared.store_errors.StoreFault.TheVariants.{Unavailable}
use Rattle.slate_store.specs.declared.objects.VersionedManifest.{VersionedManifest}
use Rattle.slate_store.specs.declared.reader_modes.DbReaderMode.TheVariants.{ManagedCheckpoint}
use Rattle.slate_store.specs.declared.refusals.StoreRefusal.TheVariants as refusals
use Rattle.slate_store.specs.Calls.{WhereModelled}
use Rattle.slate_store.specs.Checkpoints.{Plan, found, to_refresh, to_write}
use Rattle.slate_store.specs.Objects.{Objects, PutManifest, changed, is_present, latest_manifest}
use Rattle.slate_store.specs.Refusals.{checkpoint_changes, planned}
use Rattle.slate_replay.specs.Replay.{Replays, line_of}
use Rattle.slate_replay.specs.declared.replays.Replayed.{Replayed}
use Rattle.slate_replay.specs.declared.replays.Replayed.TheVariants.{Whole}
use Rattle.slate_errors.specs.declared.errors.SlateError.{SlateError}
use Rattle.slate_errors.specs.declared.errors.SlateError.TheVariants as errors
use Rattle.slate_model.specs.Changes.{PartMade, after_part}
use Rattle.slate_model.specs.Follower.{Follower, number, rebuilt}
use Rattle.slate_model.specs.Followed.{last_read}
use Rattle.slate_model.specs.Lease.{differs, is_due, leased, renews_taken, to_keep, to_take}
use Rattle.slate_model.specs.Managed.{IsOpenAt, Keeps, KeepsOrNot, PutsPlanned, PutsRenewal, follower_under, poll_result}
use Rattle.slate_model.specs.Segments.{Extractor}
use Rattle.slate_model.specs.Stores.{Stands, by_objects}
use Rattle.slate_model.specs.declared.answers.PollAnswer.{PollAnswer}
use Rattle.slate_model.specs.declared.leases.Lease.{Lease}
use Rattle.slate_follow.specs.declared.leased_polls.Kept.{Kept}
use Rattle.slate_follow.specs.Lagging.{IsLastTaken}
use Rattle.slate_follow.specs.Rebuilding.{Builds, GoingLacks, Reaches, TakesUnder, TakingLacks, answer_of, followed, new_logs, reached}
use Rattle.slate_follow.specs.Takings.{Taking, installed}

-- the latest manifest, or why it wasn't read
abbrev pub FindsLatest : Objects → Result VersionedManifest SlateError → Type 0
FindsLatest objects (Ok latest) = latest_manifest objects ≡ Some latest
FindsLatest objects (Err errors.LatestTransactionalObjectVersionMissing) = latest_manifest objects ≡ None
FindsLatest objects (Err (errors.ObjectStoreError Unavailable)) = Unit {0}
FindsLatest objects (Err errors.NoMemory) = Unit {0}
FindsLatest objects (Err error) = ⊥

-- What a put of a manifest answers and leaves: true where it was put, false where one is stored under its id.
abbrev pub PutsManifest : VersionedManifest → Result Bool SlateError → Objects → Objects → Type 0
PutsManifest next (Ok true) objects objects' = objects' ≡ changed (PutManifest next.id next.manifest) objects
PutsManifest next (Ok false) objects objects' = (is_present (PutManifest next.id next.manifest) objects ≡ true) × (objects' ≡ objects)
PutsManifest next (Err (errors.ObjectStoreError Unavailable)) objects objects' =
    (objects' ≡ objects) ⊎ ((is_present (PutManifest next.id next.manifest) objects ≡ false) × (objects' ≡ changed (PutManifest next.id next.manifest) objects))
PutsManifest next (Err errors.NoMemory) objects objects' = objects' ≡ objects
PutsManifest next (Err error) objects objects' = ⊥

-- the manifest that a plan puts, and the lease that it gives then; want of memory has no cause
abbrev pub GivesLease : Plan Lease → Result (VersionedManifest × Lease) SlateError → Type 0
GivesLease plan (Ok (next, lease)) = plan ≡ Ok (Some next, lease)
GivesLease plan (Err errors.InvalidDBState) = plan ≡ Err refusals.InvalidDBState
GivesLease plan (Err errors.NoMemory) = Unit {0}
GivesLease plan (Err error) = ⊥

-- One try, by what the call answers: where the manifest was there already, it is as if it were the last.
abbrev pub tried : {A : Type 0} → Result (Option A) SlateError → Result A SlateError
tried (Ok (Some answer)) = Ok answer
tried (Ok None) = Err (errors.TransactionalObjectTimeout 8)
tried (Err error) = Err error

-- so a try of a round of a poll
abbrev pub answered : Result (Option Kept) SlateError → Result PollAnswer SlateError
answered (Ok (Some kept)) = Ok kept.answer
answered (Ok None) = Err (errors.TransactionalObjectTimeout 8)
answered (Err error) = Err error

-- and all of them
abbrev pub kept_answer : Result Kept SlateError → Result PollAnswer SlateError
kept_answer (Ok kept) = Ok kept.answer
kept_answer (Err error) = Err error

abbrev pub put_tried : Result Bool SlateError → Result (Unit {0}) SlateError
put_tried (Ok true) = Ok tt
put_tried (Ok false) = Err (errors.TransactionalObjectTimeout 8)
put_tried (Err error) = Err error

-- why a call answers an error that has this plan after the latest manifest
abbrev pub CauseBy : Plan Lease → Objects → SlateError → Type 0
CauseBy plan objects errors.InvalidDBState = plan ≡ Err refusals.InvalidDBState
CauseBy plan objects (errors.TransactionalObjectTimeout tries) = (tries ≡ 8) × Stands (planned plan) objects
CauseBy plan objects (errors.ObjectStoreError Unavailable) = Unit {0}
CauseBy plan objects errors.NoMemory = Unit {0}
CauseBy plan objects error = ⊥

-- the lease after a call with this plan: the one that it gives, or, at an error, that or the old one
abbrev pub LeaseBy : {A : Type 0} → Plan Lease → (old : Option Lease) → Result A SlateError → (made : ℕ) → Option Lease → Type 0
LeaseBy plan old (Ok answer) made lease = (next : Option VersionedManifest) × (given : Lease) × (plan ≡ Ok (next, given)) × (lease ≡ Some given)
LeaseBy plan old (Err error) made lease =
    (lease ≡ old) ⊎ ((made ≡ 1) × (next : Option VersionedManifest) × (given : Lease) × (plan ≡ Ok (next, given)) × (lease ≡ Some given))

-- An opening may be refused so, where its plan isn't: by its extractor.
abbrev pub MayMismatch : Objects → SlateError → Type 0
MayMismatch objects (errors.SegmentExtractorMismatch persisted configured) = Unit {0}
MayMismatch objects (errors.SegmentPrefixNotRecognized prefix name) = Unit {0}
MayMismatch objects error = ⊥

-- And a poll: by a key without a segment.
abbrev pub MayLack : Objects → SlateError → Type 0
MayLack objects errors.InvalidDBState = Unit {0}
MayLack objects error = ⊥

-- A call with this plan puts what it says, and gives its lease; at an error, so much of that. `refused` says why it answers what
-- the plan doesn't.
pub record PutsBy {A : Type 0} (refused : Objects → SlateError → Type 0) (plan : Plan Lease) (old : Option Lease) (objects : Objects) (result : Result A SlateError) (lease : Option Lease) (objects' : Objects) : Type 0 where
  pub made : ℕ
  pub cause : IfErr result (λ error. CauseBy plan objects error ⊎ refused objects error)
  pub part : PartMade result (length (planned {L = List Batch} plan)) made
  pub after : objects' ≡ after_part made (planned plan) objects
  pub leased : LeaseBy plan old result made lease

-- A reader takes its view and its batches anew from a manifest, which its plan put.
pub record BuildsLatest (plan : Plan Lease) (skips : Bool) (lag : ℕ) (objects : Objects) (follower : Follower) (answer : PollAnswer) : Type 0 where
  pub given : Lease
  pub puts : plan ≡ Ok (Some follower.view, given)
  pub builds : Builds objects ManagedCheckpoint skips lag follower.view (last_read ManagedCheckpoint skips follower.view objects) (follower_under follower.view follower) answer

-- or takes what log files have under it
pub record TakesLatest (plan : Plan Lease) (old : Follower) (objects : Objects) (follower : Follower) (answer : PollAnswer) : Type 0 where
  pub given : Lease
  pub puts : plan ≡ Ok (Some follower.view, given)
  pub takes : TakesUnder objects follower.view old (follower_under follower.view follower) answer

-- or has what its poll found before the plan was put
abbrev pub Replaces : Plan Lease → Taking → (old new : Follower) → PollAnswer → Type 0
Replaces plan taking old new answer =
    (next : VersionedManifest) × (given : Lease) × (plan ≡ Ok (Some next, given)) × (new ≡ record (installed next taking old) { lease = Some given })
    × (answer ≡ answer_of taking.replayed (number new))

-- What log files have that a reader hasn't replayed yet, under the latest manifest: nothing, for one that skips them.
abbrev pub IsNews : Objects → Follower → (latest : VersionedManifest) → (skips : Bool) → List Batch → Replayed → (mark : ℕ) → Type 0
IsNews objects follower latest true added found mark =
    (added ≡ []) × (found ≡ Whole) × (mark ≡ latest.manifest.replay_after_wal_id)
IsNews objects follower latest false added found mark =
    let from = max follower.mark latest.manifest.replay_after_wal_id in
    (last : ℕ) × IsLastTaken follower.lag (number follower) from objects last × Replays from last (number follower) [] added objects (Ok found) × (mark ≡ reached found last)

-- the follower that has these, and goes by its view: one that skips log files has the tables alone
abbrev pub informed : Follower → (skips : Bool) → List Batch → (mark : ℕ) → Follower
informed old true added mark = rebuilt old.mode old.skips old.lag old.view (line_of old.view.manifest.last_l0_seq []) mark
informed old false added mark = followed old old.view added mark

-- the errors of what a poll takes: those of a replay, and that a key has no segment
abbrev pub IsOfPolling : SlateError → Type 0
IsOfPolling errors.InvalidDBState = Unit {0}
IsOfPolling (errors.ObjectStoreError Unavailable) = Unit {0}
IsOfPolling errors.NoMemory = Unit {0}
IsOfPolling error = ⊥

-- a key of what a reader takes that goes on by the latest manifest has no segment
abbrev pub OnLacks : Option Extractor → Follower → (latest : VersionedManifest) → Objects → Type 0
OnLacks extractor follower latest objects =
    (follower.mode ≡ ManagedCheckpoint) × (follower.skips ≡ false) × Reaches follower latest
    × (last : ℕ) × IsLastTaken follower.lag (number follower) (max follower.mark latest.manifest.replay_after_wal_id) objects last
    × ((key : List ℕ) × GoingLacks extractor objects latest last follower key)

-- a key of what a reader takes under the manifest that a plan puts has no segment
abbrev pub NextLacks : Option Extractor → Plan Lease → Follower → Objects → Type 0
NextLacks extractor plan follower objects =
    (next : VersionedManifest) × (given : Lease) × (plan ≡ Ok (Some next, given))
    × TakingLacks extractor (changed (PutManifest next.id next.manifest) objects) next follower

-- why a call with a plan for a new checkpoint answers InvalidDBState: its plan does, or a key of what it takes has no segment
abbrev pub ReplaceLacks : Option Extractor → Plan Lease → Follower → Objects → Type 0
ReplaceLacks extractor plan follower objects = (plan ≡ Err refusals.InvalidDBState) ⊎ NextLacks extractor plan follower objects

-- and why a poll does
abbrev pub KeepLacks : Option Extractor → Lease → (moment : ℤ) → Follower → Objects → Type 0
KeepLacks extractor lease moment follower objects =
    (latest : VersionedManifest) × (latest_manifest objects ≡ Some latest)
    × ((to_keep follower.view lease moment latest ≡ Err refusals.InvalidDBState)
    ⊎ (((follower.mode ≡ ManagedCheckpoint) × NextLacks extractor (leased lease.lifetime (to_write (Some lease.id) (Some lease.lifetime) moment latest)) follower objects)
    ⊎ OnLacks extractor follower latest objects))

-- ---- a second put
-- a reader moves so at a round of a poll: by whether the latest manifest differs from its view
abbrev pub MovesBy : (moved : Bool) → Follower → Objects → Type 0
MovesBy moved old objects = (latest : VersionedManifest) → latest_manifest objects ≡ Some latest → moved ≡ differs old.view latest

-- the manifest that a reader goes by has the checkpoint of its lease, so that this may be renewed after it
abbrev pub HasTaken : Follower → Type 0
HasTaken follower = IfSome follower.lease (λ lease. IsSome (found lease.id follower.view))

-- ---- what an error of a poll at a moment leaves of a reader, with any extractor, lawful or not; the error is recorded
-- A round failed: the reader is what it was, but for its lease. Over a store that is modelled, so many of the changes of its plan were
-- made, and it has the old lease, or the one that was committed.
pub record FailsRound (moment : ℤ) (old : Follower) (before : Option Objects) (error : SlateError) (new : Follower) (after : Option Objects) : Type 0 where
  pub lease : Lease
  pub held : old.lease ≡ Some lease
  pub puts : WhereModelled (λ o o'. (made : ℕ) × PutsPlanned {B = PollAnswer} Stands MayLack (to_keep old.view lease moment) o (Err error) made o'
      × KeepsOrNot (to_keep old.view lease moment) made old o new) before after
  pub becomes : new ≡ record old { lease = new.lease; result = poll_result error }

-- A round answered, and the reader goes by the manifest that it put for a view that differed; then the renewal failed of the lease that
-- it took, which is due at once.
pub record FailsRenewal (moment : ℤ) (old : Follower) (before : Option Objects) (error : SlateError) (new : Follower) (after : Option Objects) : Type 0 where
  pub lease : Lease
  pub held : old.lease ≡ Some lease
  pub middle : Follower
  pub answer : PollAnswer
  pub between : Option Objects
  pub opened : IsOpenAt old.skips old.lag middle answer
  pub moved : IfSome before (MovesBy true old)
  pub keeps : WhereModelled (λ o o'. Keeps (by_objects before) lease moment old o middle answer o') before between
  pub taken : Lease
  pub leased : middle.lease ≡ Some taken
  pub there : IsSome (found taken.id middle.view)
  pub due : is_due moment taken ≡ true
  pub puts : WhereModelled (λ o o'. (made : ℕ) × PutsRenewal {A = Unit {0}} Stands (to_refresh taken.id taken.lifetime moment middle.view) o (Err error) made o') between after
  pub becomes : new ≡ record middle { result = poll_result error }

abbrev pub LeftBy : (moment : ℤ) → (old : Follower) → (before : Option Objects) → SlateError → (new : Follower) → (after : Option Objects) → Type 0
LeftBy moment old before error new after = FailsRound moment old before error new after ⊎ FailsRenewal moment old before error new after

-- ---- calls
-- How often a round of a poll of a reader that keeps a checkpoint calls a store, where log files are to be read so often: it reads the latest
-- manifest and asks for the last log file, and puts a manifest where its view differs or its lease is due.
abbrev pub calls_to_keep : (view : VersionedManifest) → Lease → (moment : ℤ) → (latest : VersionedManifest) → (logs : ℕ) → ℕ
calls_to_keep view lease moment latest logs = if differs view latest || is_due moment lease then logs + 3 else logs + 2

-- at most so often, where it answers Ok
abbrev pub CallsRound : Objects → Follower → Lease → (moment : ℤ) → (calls calls' : ℕ) → Type 0
CallsRound objects old lease moment calls calls' =
    (latest : VersionedManifest) → latest_manifest objects ≡ Some latest → calls' ≤ calls + calls_to_keep old.view lease moment latest (new_logs old latest objects)

-- and a poll once more, where it renews a lease at once that it took
abbrev pub CallsKeeping : Objects → Follower → Lease → (moment : ℤ) → (calls calls' : ℕ) → Type 0
CallsKeeping objects old lease moment calls calls' =
    (latest : VersionedManifest) → latest_manifest objects ≡ Some latest →
    calls' ≤ calls + calls_to_keep old.view lease moment latest (new_logs old latest objects) + (if renews_taken old.view lease moment latest then 1 else 0)

-- How often an opening that takes a lease called a store, where the latest manifest refuses it: once, and twice before that for each
-- time that another manifest was put first. Over a store that is modelled that comes only where one is stored under the next id.
pub record CallsRefused (lifetime : ℕ) (moment : ℤ) (objects : Option Objects) (calls calls' : ℕ) : Type 0 where
  pub overtaken : ℕ
  pub few : overtaken < 8
  pub most : calls' ≤ calls + 2 * overtaken + 1
  pub stands : 0 < overtaken → IfSome objects (λ o. Stands (checkpoint_changes (to_take lifetime moment) o) o)
