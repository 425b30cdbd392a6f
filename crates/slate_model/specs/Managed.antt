-- What opening, polling and closing a reader puts and answers that keeps a checkpoint of its own, and what it leaves.
use Rattle.std.specs.Prelude.{◌≡◌, ℕ, ℤ, ◌+◌, ◌≤◌, ◌⊎◌, Bool, false, true, MatchBool, List, length, Option, Some, None, IsSome, unwrap_or, Result, Ok, Err, IfOk, IfErr, IfSome}
use Rattle.slate_types.specs.Line.{Line}
use Rattle.slate_types.specs.declared.store_errors.StoreFault.TheVariants.{Unavailable}
use Rattle.slate_store.specs.declared.objects.Checkpoint.{Checkpoint}
use Rattle.slate_store.specs.declared.objects.VersionedManifest.{VersionedManifest}
use Rattle.slate_store.specs.declared.reader_modes.DbReaderMode.TheVariants.{ManagedCheckpoint}
use Rattle.slate_store.specs.declared.refusals.StoreRefusal.TheVariants as refusals
use Rattle.slate_store.specs.Calls.{WhereModelled}
use Rattle.slate_store.specs.Checkpoints.{Plan, to_delete, to_refresh}
use Rattle.slate_store.specs.Objects.{ChangeOf, ObjectsOf, latest_manifest}
use Rattle.slate_store.specs.Refusals.{PlanIs, checkpoint_changes, planned}
use Rattle.slate_errors.specs.declared.closing.CloseFault.TheVariants as faults
use Rattle.slate_errors.specs.declared.endings.Ended.{Ended}
use Rattle.slate_errors.specs.declared.errors.SlateError.{SlateError}
use Rattle.slate_errors.specs.declared.errors.SlateError.TheVariants as errors
use Rattle.slate_errors.specs.Errors.{closed_error}
use Rattle.slate_model.specs.declared.answers.PollAnswer.{PollAnswer}
use Rattle.slate_model.specs.declared.leases.Lease.{Lease}
use Rattle.slate_model.specs.Changes.{PartMade, after_part}
use Rattle.slate_model.specs.Close.{closed_follower, closing_flush, ended, recorded_fault}
use Rattle.slate_model.specs.Flush.{recorded}
use Rattle.slate_model.specs.Follow.{AnswersAt, AreFollowed, HasAllLogs, LacksSegment, SeesOwed, SeesPolled}
use Rattle.slate_model.specs.Followed.{RefusesLatest}
use Rattle.slate_model.specs.Follower.{Follower, HasSegments, number}
use Rattle.slate_model.specs.Handle.{CloseResult}
use Rattle.slate_model.specs.Knowledge.{Knowledge}
use Rattle.slate_model.specs.Known.{CountsFaults, Known, Untouched}
use Rattle.slate_model.specs.Segments.{Extractor}
use Rattle.slate_model.specs.Lease.{is_due, lease_refusal, renews_taken, replaces, to_keep, to_take}

-- Why a call with this plan for a checkpoint answers an error, over a store that is modelled. `stands` says that a manifest is
-- there already under the id of the one that it puts.
abbrev pub PlanCause : {L A : Type 0} → (stands : Type 0) → (VersionedManifest → Plan A) → ObjectsOf L → SlateError → Type 0
PlanCause stands plan objects errors.LatestTransactionalObjectVersionMissing = latest_manifest objects ≡ None
PlanCause stands plan objects errors.InvalidDBState = PlanIs plan objects (Err refusals.InvalidDBState)
PlanCause stands plan objects (errors.TransactionalObjectTimeout tries) = (tries ≡ 8) × stands
PlanCause stands plan objects (errors.ObjectStoreError Unavailable) = Unit {0}
PlanCause stands plan objects errors.NoMemory = Unit {0}
PlanCause stands plan objects error = ⊥

-- A call puts what its plan for a checkpoint says; at an error, so many of that. `refused` says why it answers what no plan does.
pub record PutsPlanned {L A B : Type 0} (stands : List (ChangeOf L) → ObjectsOf L → Type 0) (refused : ObjectsOf L → SlateError → Type 0)
    (plan : VersionedManifest → Plan A) (objects : ObjectsOf L) (result : Result B SlateError) (made : ℕ) (objects' : ObjectsOf L) : Type 0 where
  pub cause : IfErr result (λ error. PlanCause (stands (checkpoint_changes plan objects) objects) plan objects error ⊎ refused objects error)
  pub part : PartMade result (length (checkpoint_changes {L = L} plan objects)) made
  pub after : objects' ≡ after_part made (checkpoint_changes plan objects) objects

-- a close isn't refused so
abbrev pub unrefused : {L : Type 0} → ObjectsOf L → SlateError → Type 0
unrefused objects error = ⊥

-- An opening is, by the latest manifest and its extractor, and by a replayed key without a segment.
abbrev pub TakeRefusal : {L : Type 0} → Option Extractor → ObjectsOf L → SlateError → Type 0
TakeRefusal extractor objects (errors.SegmentExtractorMismatch persisted configured) =
    RefusesLatest extractor true objects (Some (errors.SegmentExtractorMismatch persisted configured))
TakeRefusal extractor objects (errors.SegmentPrefixNotRecognized prefix name) =
    RefusesLatest extractor true objects (Some (errors.SegmentPrefixNotRecognized prefix name))
TakeRefusal extractor objects (errors.EmptySegmentPrefix key) = RefusesLatest extractor true objects None
TakeRefusal extractor objects error = ⊥

-- and a poll by a replayed key without a segment
abbrev pub KeepRefusal : {L : Type 0} → Option Extractor → ObjectsOf L → SlateError → Type 0
KeepRefusal extractor objects errors.InvalidDBState = IsSome extractor
KeepRefusal extractor objects error = ⊥

-- the follower with the batches and the mark of another, which goes by this manifest and keeps no checkpoint
abbrev pub follower_under : VersionedManifest → Follower → Follower
follower_under latest follower = record follower { view = latest; lease = None }

-- A reader sees so what one that follows the latest manifest, this one, is to see of the line that is stored, and has all log files
-- where it reads them and may not lag. `seen` says what was seen before.
pub record SeesLatest {L : Type 0} (k : Knowledge L) (skips : Bool) (lag : ℕ) (Sees : ObjectsOf L → Line → Follower → PollAnswer → Type 0) (seen : Line → Type 0) (latest : VersionedManifest)
    (objects : ObjectsOf L) (follower : Follower) (answer : PollAnswer) : Type 0 where
  pub logs : skips ≡ false → lag ≡ 0 → HasAllLogs objects follower answer
  pub sees : (line : Line) → k.is_stored line → seen line → Sees objects line (follower_under latest follower) answer

-- it is open, in the mode that was asked for, and the answer gives its number
abbrev pub IsOpenAt : (skips : Bool) → (lag : ℕ) → Follower → PollAnswer → Type 0
IsOpenAt skips lag follower answer =
    (follower.mode ≡ ManagedCheckpoint) × (follower.skips ≡ skips) × (follower.lag ≡ lag) × (follower.result ≡ None) × AnswersAt (number follower) answer

-- nothing was seen before an opening
abbrev pub unseen_line : Line → Type 0
unseen_line line = Unit {0}

-- An opening commits a checkpoint with this lifetime, and its reader goes by the manifest that does, under the lease of that.
pub record TakesView {L : Type 0} (k : Knowledge L) (lifetime : ℕ) (skips : Bool) (lag : ℕ) (moment : ℤ) (objects : ObjectsOf L) (follower : Follower) (answer : PollAnswer) (objects' : ObjectsOf L) : Type 0 where
  pub given : Lease
  pub plan : PlanIs (to_take lifetime moment) objects (Ok (Some follower.view, given))
  pub leased : follower.lease ≡ Some given
  pub sees : SeesLatest k skips 0 (SeesOwed k ManagedCheckpoint skips lag) unseen_line follower.view objects' follower answer

-- An opening with options that pass: so many of its changes were made.
pub record TakesLease {L : Type 0} (k : Knowledge L) (extractor : Option Extractor) (made : ℕ) (lifetime : ℕ) (skips : Bool) (lag : ℕ) (moment : ℤ)
    (before : Known L) (result : Result (Follower × PollAnswer) SlateError) (after : Known L) : Type 0 where
  pub faults : CountsFaults before.faults after.faults result
  pub puts : WhereModelled (λ o o'. PutsPlanned k.stands (TakeRefusal extractor) (to_take lifetime moment) o result made o') before.objects after.objects
  pub answers : IfOk result (λ b. IsOpenAt skips lag b.0 b.1)
  pub takes : IfOk result (λ b. WhereModelled (λ o o'. TakesView k lifetime skips lag moment o b.0 b.1 o') before.objects after.objects)
  pub fits : IfOk result (λ b. (o : ObjectsOf L) → before.objects ≡ Some o → RefusesLatest extractor true o None)
  pub segmented : (o : ObjectsOf L) (line : Line) → before.objects ≡ Some o → k.is_stored line → AreFollowed k extractor ManagedCheckpoint skips true o line result
  pub segments : IfOk result (λ b. HasSegments extractor b.0)
  pub whole : (key : List ℕ) → result ≡ Err (errors.EmptySegmentPrefix key) → made ≡ 1

-- An opening of a reader that keeps a checkpoint: options that are refused change nothing.
pub record OpensManaged {L : Type 0} (k : Knowledge L) (extractor : Option Extractor) (made : ℕ) (lifetime interval : ℕ) (skips : Bool) (lag : ℕ) (moment : ℤ)
    (before : Known L) (result : Result (Follower × PollAnswer) SlateError) (after : Known L) : Type 0 where
  pub refused : IfSome (lease_refusal lifetime interval) (λ error. (result ≡ Err error) × Untouched made before after)
  pub takes : lease_refusal lifetime interval ≡ None → TakesLease k extractor made lifetime skips lag moment before result after

-- what an error of a poll records: itself, but no want of memory
abbrev pub poll_result : SlateError → CloseResult
poll_result errors.InvalidDBState = Some (Err faults.InvalidDBState)
poll_result (errors.TransactionalObjectTimeout tries) = Some (Err (faults.TransactionalObjectTimeout tries))
poll_result error = recorded error

-- A round of a poll that answers keeps the lease by its plan. The reader goes by the manifest that was put where the checkpoint was
-- replaced, and else as before.
pub record Keeps {L : Type 0} (k : Knowledge L) (lease : Lease) (moment : ℤ) (old : Follower) (objects : ObjectsOf L) (new : Follower) (answer : PollAnswer) (objects' : ObjectsOf L) : Type 0 where
  pub latest : VersionedManifest
  pub is_latest : latest_manifest objects ≡ Some latest
  pub next : Option VersionedManifest
  pub given : Lease
  pub plan : to_keep old.view lease moment latest ≡ Ok (next, given)
  pub leased : new.lease ≡ Some given
  pub view : MatchBool (replaces old.view lease moment latest) (next ≡ Some new.view) (new.view ≡ old.view)
  pub sees : SeesLatest k old.skips old.lag (SeesPolled k old) (k.has_seen old objects) (unwrap_or next latest) objects' new answer

-- one that answers an error has the old lease, or the one of its plan, which it committed
abbrev pub KeepsOrNot : {L : Type 0} → (plan : VersionedManifest → Plan Lease) → (made : ℕ) → Follower → ObjectsOf L → Follower → Type 0
KeepsOrNot plan made old objects new =
    (new.lease ≡ old.lease)
    ⊎ ((made ≡ 1) × (next : Option VersionedManifest) × (given : Lease) × PlanIs plan objects (Ok (next, given)) × (new.lease ≡ Some given))

-- A round of a poll at a moment of an open reader that keeps a checkpoint under this lease: so many of its changes were made. At an
-- error it sees what it saw.
pub record KeepsLease {L : Type 0} (k : Knowledge L) (extractor : Option Extractor) (made : ℕ) (lease : Lease) (moment : ℤ) (old : Follower)
    (before : Known L) (result : Result PollAnswer SlateError) (new : Follower) (after : Known L) : Type 0 where
  pub faults : CountsFaults before.faults after.faults result
  pub puts : WhereModelled (λ o o'. PutsPlanned k.stands (KeepRefusal extractor) (to_keep old.view lease moment) o result made o') before.objects after.objects
  pub answers : IfOk result (λ answer. IsOpenAt old.skips old.lag new answer)
  pub keeps : IfOk result (λ answer. WhereModelled (λ o o'. Keeps k lease moment old o new answer o') before.objects after.objects)
  pub failed : IfErr result (λ error. new ≡ record old { lease = new.lease; result = poll_result error })
  pub lapses : IfErr result (λ _. IfSome before.objects (λ o. KeepsOrNot (to_keep old.view lease moment) made old o new))
  pub segments : HasSegments extractor old → HasSegments extractor new
  pub segmented : (o : ObjectsOf L) (line : Line) → before.objects ≡ Some o → k.is_stored line → k.has_seen old o line → result ≡ Err errors.InvalidDBState →
      PlanIs (to_keep old.view lease moment) o (Err refusals.InvalidDBState) ⊎ LacksSegment k extractor ManagedCheckpoint old.skips false o line

-- whether a poll of a reader renews at once the lease that it takes
abbrev pub RenewsTaken : {L : Type 0} → Follower → Lease → (moment : ℤ) → Bool → Known L → Type 0
RenewsTaken old lease moment does before =
    IfSome before.objects (λ o. (latest : VersionedManifest) → latest_manifest o ≡ Some latest → renews_taken old.view lease moment latest ≡ does)

-- A poll of an open reader that keeps a checkpoint is one round, where no lease is due then that it took because its view differed.
pub record PollsOnce {L : Type 0} (k : Knowledge L) (extractor : Option Extractor) (made : ℕ) (lease : Lease) (moment : ℤ) (old : Follower)
    (before : Known L) (result : Result PollAnswer SlateError) (new : Follower) (after : Known L) : Type 0 where
  pub round : KeepsLease k extractor made lease moment old before result new after
  pub ends : IfOk result (λ _. RenewsTaken old lease moment false before)

-- why a renewal with this plan answers an error
abbrev pub RenewalCause : Plan Checkpoint → SlateError → Type 0
RenewalCause plan errors.InvalidDBState = plan ≡ Err refusals.InvalidDBState
RenewalCause plan (errors.ObjectStoreError Unavailable) = Unit {0}
RenewalCause plan errors.NoMemory = Unit {0}
RenewalCause plan error = ⊥

-- A renewal puts what its plan says, and at an error so much of that. Where a manifest is stored already under the id of the one
-- that it puts, it puts nothing, and is left to the next poll.
pub record PutsRenewal {L A : Type 0} (stands : List (ChangeOf L) → ObjectsOf L → Type 0) (plan : Plan Checkpoint)
    (objects : ObjectsOf L) (result : Result A SlateError) (made : ℕ) (objects' : ObjectsOf L) : Type 0 where
  pub cause : IfErr result (RenewalCause plan)
  pub done : IfOk result (λ _. (made ≡ length (planned {L = L} plan)) ⊎ ((made ≡ 0) × stands (planned plan) objects))
  pub part : made ≤ length (planned {L = L} plan)
  pub after : objects' ≡ after_part made (planned plan) objects

-- Else the round is followed by a renewal of the lease that it took, after the manifest that it put: the lease ends at the greatest
-- moment again, so that the reader stays as the round left it. An error of the renewal is recorded as one of the poll; the reader
-- sees what it would see if that answered.
pub record PollsTwice {L : Type 0} (k : Knowledge L) (extractor : Option Extractor) (made : ℕ) (lease : Lease) (moment : ℤ) (old : Follower)
    (before : Known L) (result : Result PollAnswer SlateError) (new : Follower) (after : Known L) : Type 0 where
  pub first : ℕ
  pub again : ℕ
  pub made_is : made ≡ first + again
  pub answer : PollAnswer
  pub middle : Follower
  pub between : Known L
  pub round : KeepsLease k extractor first lease moment old before (Ok answer) middle between
  pub renews : RenewsTaken old lease moment true before
  pub given : Lease
  pub leased : middle.lease ≡ Some given
  pub due : is_due moment given ≡ true
  pub faults : CountsFaults between.faults after.faults result
  pub puts : WhereModelled (λ o o'. PutsRenewal k.stands (to_refresh given.id given.lifetime moment middle.view) o result again o') between.objects after.objects
  pub answers : IfOk result (λ a. (a ≡ answer) × (new ≡ middle))
  pub failed : IfErr result (λ error. new ≡ record middle { result = poll_result error })

abbrev pub PollsLeased : {L : Type 0} → Knowledge L → Option Extractor → (made : ℕ) → Lease → (moment : ℤ) → Follower → Known L → Result PollAnswer SlateError → Follower → Known L → Type 0
PollsLeased k extractor made lease moment old before result new after =
    PollsOnce k extractor made lease moment old before result new after ⊎ PollsTwice k extractor made lease moment old before result new after

-- A poll of a reader that keeps a checkpoint. A closed one answers what closed it, and nothing changes.
pub record PollsManaged {L : Type 0} (k : Knowledge L) (extractor : Option Extractor) (made : ℕ) (moment : ℤ) (old : Follower)
    (before : Known L) (result : Result PollAnswer SlateError) (new : Follower) (after : Known L) : Type 0 where
  pub closed : IfSome old.result (λ r. (result ≡ Err (closed_error r)) × (new ≡ old) × Untouched made before after)
  pub keeps : (lease : Lease) → old.result ≡ None → old.lease ≡ Some lease → PollsLeased k extractor made lease moment old before result new after

-- A close of a reader that keeps a checkpoint under this lease takes the checkpoint out.
pub record EndsLease {L : Type 0} (k : Knowledge L) (made : ℕ) (lease : Lease) (before : Known L) (answer : Ended) (after : Known L) : Type 0 where
  pub faults : CountsFaults before.faults after.faults (closing_flush answer.fault)
  pub puts : WhereModelled (λ o o'. PutsPlanned k.stands unrefused (to_delete lease.id) o (closing_flush answer.fault) made o') before.objects after.objects

-- A close of a reader that keeps a checkpoint. It ends the task that runs, and lists it. One that was closed
-- before answers what was recorded, and changes nothing else.
pub record ClosesManaged {L : Type 0} (k : Knowledge L) (made : ℕ) (old : Follower) (before : Known L) (answer : Ended) (new : Follower) (after : Known L) : Type 0 where
  pub closed : new ≡ closed_follower old
  pub tasks : answer ≡ ended old.tasks answer.fault
  pub again : IfSome old.result (λ _. (answer ≡ ended old.tasks (recorded_fault old.result)) × Untouched made before after)
  pub ends : (lease : Lease) → old.result ≡ None → old.lease ≡ Some lease → EndsLease k made lease before answer after
