-- What opening and polling a follower answers, and what it leaves.
use Rattle.std.specs.Prelude.{◌≡◌, ℕ, ◌+◌, ◌<◌, ◌≤◌, ◌⊎◌, max, Bool, false, List, Option, Some, None, IsSome, Result, Ok, Err, IfOk, IfErr, IfSome, true}
use Rattle.slate_types.specs.Line.{Line, end}
use Rattle.slate_store.specs.declared.objects.VersionedManifest.{VersionedManifest}
use Rattle.slate_store.specs.declared.reader_modes.DbReaderMode.{DbReaderMode}
use Rattle.slate_store.specs.declared.reader_modes.DbReaderMode.TheVariants.{Checkpoint}
use Rattle.slate_types.specs.declared.store_errors.StoreFault.TheVariants.{NotFound, Unavailable}
use Rattle.slate_store.specs.Checkpoints.{found}
use Rattle.slate_store.specs.Objects.{ObjectsOf, last_log, latest_manifest}
use Rattle.slate_errors.specs.Errors.{closed_error}
use Rattle.slate_errors.specs.declared.errors.SlateError.{SlateError}
use Rattle.slate_errors.specs.declared.errors.SlateError.TheVariants as errors
use Rattle.slate_model.specs.declared.answers.PollAnswer.{PollAnswer}
use Rattle.slate_model.specs.declared.answers.PollAnswer.TheVariants.{Whole, Truncated}
use Rattle.slate_model.specs.Followed.{IsView, RefusesLatest, follow_refusal, last_read}
use Rattle.slate_model.specs.Follower.{Follower, HasSegments, is_pinned, number, rebuilt, unsegmented}
use Rattle.slate_model.specs.Handle.{up_to}
use Rattle.slate_model.specs.Knowledge.{Knowledge}
use Rattle.slate_model.specs.Known.{FaultsRise, Known}
use Rattle.slate_model.specs.Open.{replayed}
use Rattle.slate_model.specs.Segments.{Extractor, ops_of, unsegmented_refusal}

-- Why an opening or a poll of a follower answers an error, over a store that is modelled. `unpinned` says that the manifest
-- isn't stored that its checkpoint keeps. An opening finds a replayed key without a segment once nothing else stands against
-- it; a poll answers InvalidDBState then, which has no key.
abbrev pub FollowCause : {L : Type 0} → Option Extractor → DbReaderMode → (opening : Bool) → (unpinned : Type 0) → ObjectsOf L → SlateError → Type 0
FollowCause extractor mode opening unpinned objects errors.LatestTransactionalObjectVersionMissing = latest_manifest objects ≡ None
FollowCause extractor mode opening unpinned objects errors.InvalidDBState =
    RefusesLatest extractor opening objects (Some errors.InvalidDBState) ⊎ ((opening ≡ false) × IsSome extractor)
FollowCause extractor mode opening unpinned objects (errors.SegmentExtractorMismatch persisted configured) =
    RefusesLatest extractor opening objects (Some (errors.SegmentExtractorMismatch persisted configured))
FollowCause extractor mode opening unpinned objects (errors.SegmentPrefixNotRecognized prefix name) =
    RefusesLatest extractor opening objects (Some (errors.SegmentPrefixNotRecognized prefix name))
FollowCause extractor mode opening unpinned objects (errors.EmptySegmentPrefix key) = (opening ≡ true) × RefusesLatest extractor true objects None
FollowCause extractor mode opening unpinned objects (errors.CheckpointMissing id) =
    (latest : VersionedManifest) × (latest_manifest objects ≡ Some latest) × (mode ≡ Checkpoint id) × (found id latest ≡ None)
    × (follow_refusal extractor opening latest ≡ None)
FollowCause extractor mode opening unpinned objects (errors.ObjectStoreError Unavailable) = Unit {0}
FollowCause extractor mode opening unpinned objects (errors.ObjectStoreError NotFound) = unpinned
FollowCause extractor mode opening unpinned objects errors.NoMemory = Unit {0}
FollowCause extractor mode opening unpinned objects error = ⊥

-- an answer of a poll gives this number
abbrev pub AnswersAt : ℕ → PollAnswer → Type 0
AnswersAt number answer = (answer ≡ Whole number) ⊎ (answer ≡ Truncated number)

-- What a follower that goes by a manifest is owed of the line that is stored: all of it, or, at a checkpoint, what its manifest
-- named when it was put. One that skips is owed what is in the tables of the manifest.
abbrev pub IsOwed : {L : Type 0} → Knowledge L → DbReaderMode → (skips : Bool) → ObjectsOf L → VersionedManifest → (stored owed : Line) → Type 0
IsOwed k mode true objects view stored owed = owed ≡ up_to view.manifest.last_l0_seq stored
IsOwed k (Checkpoint id) false objects view stored owed = k.named objects view stored owed
IsOwed k mode false objects view stored owed = owed ≡ stored

-- The follower sees what it is owed of the line that is stored, and has read the log files for it, and the answer says so. Its
-- segments are another matter.
abbrev pub SeesOwed : {L : Type 0} → Knowledge L → DbReaderMode → (skips : Bool) → (lag : ℕ) → ObjectsOf L → (stored : Line) → Follower → PollAnswer → Type 0
SeesOwed k mode skips lag objects stored follower answer =
    (owed : Line) × IsOwed k mode skips objects follower.view stored owed
    × (unsegmented follower ≡ k.keep_follower (rebuilt mode skips lag follower.view owed (last_read mode skips follower.view objects))) × (answer ≡ Whole (end owed))

-- ---- a poll of a reader that may lag
-- the number that a reader comes to by the tables of a manifest alone
abbrev pub come_by : Follower → VersionedManifest → ℕ
come_by follower view = max (number follower) view.manifest.last_l0_seq

-- A poll replays log files where its reader may not lag, or reads none, or would be further behind the line that is stored than it may;
-- also where the tables of the manifest end before those of the reader's view, as those of the latest one never do.
abbrev pub CatchesUp : Follower → VersionedManifest → (stored : Line) → Type 0
CatchesUp follower view stored =
    (follower.lag ≡ 0) ⊎ ((follower.skips ≡ true) ⊎ ((come_by follower view + follower.lag < end stored) ⊎ (view.manifest.last_l0_seq < follower.view.manifest.last_l0_seq)))

-- Else it leaves them for a later poll: the reader has the tables of its manifest and what it had, and no log file counts as read.
pub record StaysBehind {L : Type 0} (k : Knowledge L) (old : Follower) (stored : Line) (follower : Follower) (answer : PollAnswer) : Type 0 where
  pub reads : old.skips ≡ false
  pub may : 0 < old.lag
  pub near : end stored ≤ come_by old follower.view + old.lag
  pub reached : number follower ≡ come_by old follower.view
  pub sees : unsegmented follower ≡ k.keep_follower (rebuilt old.mode old.skips old.lag follower.view (up_to (number follower) stored) follower.mark)
  pub mark : (follower.mark ≡ max old.mark follower.view.manifest.replay_after_wal_id)
      ⊎ ((number old < follower.view.manifest.last_l0_seq) × (follower.mark ≡ follower.view.manifest.replay_after_wal_id))
  pub answered : answer ≡ Whole (number follower)

-- so what a reader sees after a poll
abbrev pub SeesPolled : {L : Type 0} → Knowledge L → Follower → ObjectsOf L → (stored : Line) → Follower → PollAnswer → Type 0
SeesPolled k old objects stored follower answer =
    (SeesOwed k old.mode old.skips old.lag objects stored follower answer × CatchesUp old follower.view stored) ⊎ StaysBehind k old stored follower answer

-- where the answer says that the log files were whole, the follower has what each one has that is stored
abbrev pub HasAllLogs : {L : Type 0} → ObjectsOf L → Follower → PollAnswer → Type 0
HasAllLogs objects follower (Whole at) = last_log 0 objects ≤ follower.mark
HasAllLogs objects follower (Truncated at) = Unit {0}

-- The batches that a follower replays which goes by a manifest: those that it is owed of the line that is stored, and that aren't
-- in the manifest's tables. Of their keys the first without a segment is refused so, or each has one.
abbrev pub ReplayRefuses : {L : Type 0} → Knowledge L → Option Extractor → DbReaderMode → (skips opening : Bool) → ObjectsOf L → (stored : Line) → Option SlateError → Type 0
ReplayRefuses k extractor mode skips opening objects stored refusal =
    (view : VersionedManifest) × (owed : Line) × IsView mode opening objects view × IsOwed k mode skips objects view stored owed
    × (unsegmented_refusal extractor (ops_of (replayed view owed)) ≡ refusal)

abbrev pub LacksSegment : {L : Type 0} → Knowledge L → Option Extractor → DbReaderMode → (skips opening : Bool) → ObjectsOf L → (stored : Line) → Type 0
LacksSegment k extractor mode skips opening objects stored =
    (key : List ℕ) × ReplayRefuses k extractor mode skips opening objects stored (Some (errors.EmptySegmentPrefix key))

-- Each key that an opening replays has a segment, where it answers Ok; else it names the first that hasn't. A poll answers
-- InvalidDBState only where one hasn't.
abbrev pub AreFollowed : {A L : Type 0} → Knowledge L → Option Extractor → DbReaderMode → (skips opening : Bool) → ObjectsOf L → (stored : Line) → Result A SlateError → Type 0
AreFollowed k extractor mode skips true objects stored (Ok _) = ReplayRefuses k extractor mode skips true objects stored None
AreFollowed k extractor mode skips true objects stored (Err (errors.EmptySegmentPrefix key)) =
    ReplayRefuses k extractor mode skips true objects stored (Some (errors.EmptySegmentPrefix key))
AreFollowed k extractor mode skips true objects stored (Err error) = Unit {0}
AreFollowed k extractor mode skips false objects stored (Ok _) = Unit {0}
AreFollowed k extractor mode skips false objects stored (Err errors.InvalidDBState) = LacksSegment k extractor mode skips false objects stored
AreFollowed k extractor mode skips false objects stored (Err error) = Unit {0}

-- An opening of a follower, or a poll of one that doesn't stay at a checkpoint: it gives a follower in the mode asked for that
-- sees what it is to, and has all log files where it reads them and may not lag, or answers why not, and changes nothing in the store.
-- `seen` says what was seen before.
pub record Rebuilds {L : Type 0} (k : Knowledge L) (extractor : Option Extractor) (mode : DbReaderMode) (skips opening : Bool) (lag : ℕ)
    (Sees : ObjectsOf L → Line → Follower → PollAnswer → Type 0) (seen : ObjectsOf L → Line → Type 0)
    (before : Known L) (result : Result (Follower × PollAnswer) SlateError) (after : Known L) : Type 0 where
  pub kept : after.objects ≡ before.objects
  pub faults : FaultsRise before.faults after.faults result
  pub missing : result ≡ Err (errors.ObjectStoreError NotFound) → is_pinned mode ≡ true
  pub cause : IfErr result (λ error. IfSome before.objects (λ o. FollowCause extractor mode opening (k.unpinned mode o) o error))
  pub fits : IfOk result (λ b. (o : ObjectsOf L) → before.objects ≡ Some o → RefusesLatest extractor opening o None)
  pub answer : IfOk result (λ b. (b.0.mode ≡ mode) × (b.0.skips ≡ skips) × (b.0.lag ≡ lag) × (b.0.lease ≡ None) × (b.0.result ≡ None) × AnswersAt (number b.0) b.1)
  pub can : IfOk result (λ b. (o : ObjectsOf L) → before.objects ≡ Some o → IsView mode opening o b.0.view)
  pub logs : IfOk result (λ b. (o : ObjectsOf L) → before.objects ≡ Some o → is_pinned mode ≡ false → skips ≡ false → (opening ≡ true) ⊎ (lag ≡ 0) → HasAllLogs o b.0 b.1)
  pub sees : IfOk result (λ b. (o : ObjectsOf L) (line : Line) → before.objects ≡ Some o → k.is_stored line → seen o line → Sees o line b.0 b.1)
  pub segmented : (o : ObjectsOf L) (line : Line) → before.objects ≡ Some o → k.is_stored line → seen o line → AreFollowed k extractor mode skips opening o line result
  pub segments : IfOk result (λ b. opening ≡ true → HasSegments extractor b.0)

-- what a poll gives: the follower after it, and its answer
abbrev pub built : Follower → Result PollAnswer SlateError → Result (Follower × PollAnswer) SlateError
built follower (Ok answer) = Ok (follower, answer)
built follower (Err error) = Err error

-- nothing was seen before an opening
abbrev pub unseen : {L : Type 0} → ObjectsOf L → Line → Type 0
unseen objects line = Unit {0}

-- A poll of a follower. A closed one answers what closed it, and nothing changes; one at a checkpoint stays there, and nothing
-- changes; another sees what it is owed, or answers why not and is as before.
pub record Polls {L : Type 0} (k : Knowledge L) (extractor : Option Extractor) (old : Follower) (before : Known L) (result : Result PollAnswer SlateError) (new : Follower) (after : Known L) : Type 0 where
  pub closed : IfSome old.result (λ r. (result ≡ Err (closed_error r)) × (after ≡ before))
  pub failed : IfErr result (λ error. new ≡ old)
  pub pinned : old.result ≡ None → is_pinned old.mode ≡ true → (result ≡ Ok (Whole (number old))) × (new ≡ old) × (after ≡ before)
  pub rebuilds : old.result ≡ None → is_pinned old.mode ≡ false → Rebuilds k extractor old.mode old.skips false old.lag (SeesPolled k old) (k.has_seen old) before (built new result) after
  pub segments : HasSegments extractor old → HasSegments extractor new
