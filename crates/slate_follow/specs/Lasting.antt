-- Why a begun poll over an honest store ends as it does, and in how many steps, whatever commands of others come between them.
use Rattle.std.specs.Prelude.{◌≡◌, ◌≢◌, ℕ, ℤ, ◌+◌, ◌-◌, ◌*◌, ◌<◌, ◌≤◌, [], if◌then◌else◌, true, Option, Some, None, is_some, MatchOption, IfSome, Result, Ok, Err}
use Rattle.slate_types.specs.declared.store_errors.StoreFault.TheVariants.{Unavailable}
use Rattle.slate_store.specs.declared.objects.VersionedManifest.{VersionedManifest}
use Rattle.slate_store.specs.Objects.{Objects, ObjectsOf, entry_at, last_log, latest_manifest, log_at}
use Rattle.slate_errors.specs.declared.errors.SlateError.{SlateError}
use Rattle.slate_errors.specs.declared.errors.SlateError.TheVariants as errors
use Rattle.slate_model.specs.Begun.{AsksLast, Begun, LooksAt, Puts, ReadsAgain, ReadsLatest, ReadsLog, Stage, begun_at, first_of, no_step, reached_number}
use Rattle.slate_model.specs.Follower.{Follower}
use Rattle.slate_model.specs.Seen.{HasSeen}
use Rattle.slate_model.specs.Stood.{IsPlanned, WasLatest}
use Rattle.slate_model.specs.declared.answers.PollAnswer.{PollAnswer}
use Rattle.slate_model.specs.declared.answers.PollAnswer.TheVariants.{Truncated}
use Rattle.slate_model.specs.declared.polls.FirstRead.{FirstRead}
use Rattle.slate_model.specs.declared.polls.PollHistory.{PollHistory}
use Rattle.slate_follow.specs.Lagging.{readings}

-- ---- the latest manifest
-- A manifest is the one that was the latest at the first step, or came after it: neither its last number in tables nor its replay mark
-- is lower, and the mark is the same while that number is.
pub record IsSince (first : FirstRead) (latest : VersionedManifest) : Type 0 where
  pub tabled : first.last_l0_seq ≤ latest.manifest.last_l0_seq
  pub mark : first.replay_after_wal_id ≤ latest.manifest.replay_after_wal_id
  pub same : latest.manifest.last_l0_seq ≡ first.last_l0_seq → latest.manifest.replay_after_wal_id ≡ first.replay_after_wal_id

-- no table was put since the first step
abbrev pub TablesStay : {L : Type 0} → FirstRead → ObjectsOf L → Type 0
TablesStay first objects = (latest : VersionedManifest) × (latest_manifest objects ≡ Some latest) × (latest.manifest.last_l0_seq ≡ first.last_l0_seq)

-- one was
abbrev pub TablesGrew : {L : Type 0} → FirstRead → ObjectsOf L → Type 0
TablesGrew first objects = (latest : VersionedManifest) × (latest_manifest objects ≡ Some latest) × (first.last_l0_seq < latest.manifest.last_l0_seq)

-- What commands of others do to objects, as the calls of handles and readers and a sweep do: they put manifests that came after the
-- latest one, and log files after the last one, and remove none above the latest replay mark.
pub record OthersAct (objects objects' : Objects) : Type 0 where
  pub latest : (latest : VersionedManifest) → latest_manifest objects ≡ Some latest → (latest' : VersionedManifest) × (latest_manifest objects' ≡ Some latest') × IsSince (first_of latest) latest'
  pub were : (manifest : VersionedManifest) → WasLatest objects manifest → WasLatest objects' manifest
  pub last : (latest latest' : VersionedManifest) → latest_manifest objects ≡ Some latest → latest_manifest objects' ≡ Some latest' →
      last_log latest.manifest.replay_after_wal_id objects ≤ last_log latest'.manifest.replay_after_wal_id objects'
  pub logs : (latest latest' : VersionedManifest) (id : ℕ) → latest_manifest objects ≡ Some latest → latest_manifest objects' ≡ Some latest' → latest'.manifest.replay_after_wal_id < id →
      id ≤ last_log latest.manifest.replay_after_wal_id objects → log_at id objects' ≡ log_at id objects

-- ---- how many steps
-- how many log files one replay reads at most: those from the replay mark at the first step to the last one that was found
abbrev pub most_logs : FirstRead → PollHistory → ℕ
most_logs first history = history.last_log - first.replay_after_wal_id

-- and how many steps it makes for that: one more for each log file where a reader may lag, to look at it
abbrev pub most_readings : (lag : ℕ) → FirstRead → PollHistory → ℕ
most_readings lag first history = readings lag (most_logs first history)

-- how many steps answer None at most from one overtaken put to the next: two replays of so many log files, and eight calls more
abbrev pub most_steps : (lag : ℕ) → FirstRead → PollHistory → ℕ
most_steps lag first history = 2 * most_readings lag first history + 8

-- how many did at most since the last one, by the call that comes next
abbrev pub steps_since : (lag : ℕ) → Stage → FirstRead → Begun → ℕ
steps_since lag (Puts next given replaces) first begun = if begun.asked then 4 + most_readings lag first begun.history else 1
steps_since lag AsksLast first begun = if begun.asked then 5 + most_readings lag first begun.history else 2
steps_since lag (LooksAt id last) first begun = (if begun.asked then 6 + most_readings lag first begun.history else 3) + (last - id)
steps_since lag (ReadsLog last) first begun =
    (if begun.asked then 6 + most_readings lag first begun.history else 3) + (most_readings lag first begun.history - most_logs first begun.history) + (begun.mark - first.replay_after_wal_id)
steps_since lag ReadsAgain first begun = if begun.asked then 6 + most_readings lag first begun.history else 3
steps_since lag stage first begun = 0

abbrev pub IsPaced : (lag : ℕ) → FirstRead → Begun → Type 0
IsPaced lag first begun = begun.history.steps ≤ begun.overtaken * most_steps lag first begun.history + steps_since lag begun.stage first begun

-- ---- a begun poll
-- a reader with the number and the mark that its begun poll has come to, and one with those of a manifest
abbrev pub come_to : Follower → Begun → Follower
come_to reader begun = record reader { line = record { floor = reached_number begun; batches = [] }; mark = begun.mark }

abbrev pub at_tables : Follower → VersionedManifest → Follower
at_tables reader view = record reader { line = record { floor = view.manifest.last_l0_seq; batches = [] }; mark = view.manifest.replay_after_wal_id }

-- a manifest that was read or put was the latest one, and came after the first
abbrev pub WasRead : FirstRead → Objects → Follower → VersionedManifest → Type 0
WasRead first objects reader manifest = WasLatest objects manifest × IsSince first manifest × HasSeen objects (at_tables reader manifest)

-- By the call that comes next: what is put is planned after the manifest that was read or put last; no log file is to be read that was
-- in tables at the first step; and the last one to be read is there, unless a table was put since.
abbrev pub LastsAt : (lag : ℕ) → Stage → FirstRead → Objects → Begun → Type 0
LastsAt lag (Puts next given replaces) first objects begun = (last : VersionedManifest) × (begun.latest ≡ Some last) × IsPlanned last next
LastsAt lag AsksLast first objects begun = first.replay_after_wal_id ≤ begun.mark
LastsAt lag (LooksAt id last) first objects begun =
    (0 < lag) × (first.replay_after_wal_id ≤ begun.mark) × (begun.mark < id) × (id ≤ last) × (last ≤ begun.history.last_log) × (TablesStay first objects → log_at last objects ≢ None)
LastsAt lag (ReadsLog last) first objects begun =
    (first.replay_after_wal_id ≤ begun.mark) × (begun.mark < last) × (last ≤ begun.history.last_log) × (TablesStay first objects → log_at last objects ≢ None)
LastsAt lag ReadsAgain first objects begun = first.replay_after_wal_id ≤ begun.mark
LastsAt lag stage first objects begun = Unit {0}

-- after its first step
pub record LastsSince (first : FirstRead) (objects : Objects) (reader : Follower) (begun : Begun) : Type 0 where
  pub since : (latest : VersionedManifest) → latest_manifest objects ≡ Some latest → IsSince first latest
  pub read : (manifest : VersionedManifest) → begun.latest ≡ Some manifest → WasRead first objects reader manifest
  pub next : LastsAt reader.lag begun.stage first objects begun
  pub paced : IsPaced reader.lag first begun

-- What is kept of a begun poll between its calls: there is a manifest, the log files up to its mark are seen, and after its first step the latest manifest
-- came after the one that it read.
pub record Lasts (objects : Objects) (reader : Follower) (begun : Begun) : Type 0 where
  pub latest : (latest : VersionedManifest) × (latest_manifest objects ≡ Some latest)
  pub own : HasSeen objects reader
  pub seen : HasSeen objects (come_to reader begun)
  pub since : MatchOption begun.history.first ((begun.stage ≡ ReadsLatest) × (begun.history.steps ≡ 0)) (λ first. LastsSince first objects reader begun)

-- The steps that it has made are fewer than its overtaken puts and one, times that bound.
abbrev pub IsFew : (lag : ℕ) → Begun → Type 0
IsFew lag begun = MatchOption begun.history.first (begun.history.steps ≡ 0) (λ first. begun.history.steps < (begun.overtaken + 1) * most_steps lag first begun.history)

-- A step that answers None leaves it so. Truncated comes only where a table was put since the first step.
abbrev pub LastsOn : Objects → Option Objects → Begun → Result (Option PollAnswer) SlateError → Follower → Begun → Type 0
LastsOn objects objects' begun (Ok None) reader' begun' = IfSome objects' (λ o. Lasts o reader' begun')
LastsOn objects objects' begun (Ok (Some (Truncated at))) reader' begun' = (first : FirstRead) × (begun.history.first ≡ Some first) × TablesGrew first objects
LastsOn objects objects' begun result reader' begun' = Unit {0}

-- a poll that begins on a reader that has seen the store lasts, where that has a manifest
abbrev pub BegunOnesLast : Type 0
BegunOnesLast = (objects : Objects) (latest : VersionedManifest) (reader : Follower) (moment : ℤ) → latest_manifest objects ≡ Some latest → HasSeen objects reader → Lasts objects reader (begun_at moment 0 no_step reader)

-- and it does after what others did
abbrev pub OthersLetItLast : Type 0
OthersLetItLast = (objects objects' : Objects) (reader : Follower) (begun : Begun) → OthersAct objects objects' → Lasts objects reader begun → Lasts objects' reader begun

-- ---- the eighth overtaken put
-- the put that comes next finds another manifest under its id
abbrev pub IsOvertaken : {L : Type 0} → Stage → ObjectsOf L → Type 0
IsOvertaken (Puts next given replaces) objects = is_some (entry_at next.id objects.manifests) ≡ true
IsOvertaken stage objects = ⊥

-- and is the eighth that does
abbrev pub IsEighth : {L : Type 0} → ObjectsOf L → Begun → Type 0
IsEighth objects begun = IsOvertaken begun.stage objects × (begun.overtaken ≡ 7)

-- the answer that a poll tried eight times, or a fault of the store, or want of memory
abbrev pub IsOfEighth : Result (Option PollAnswer) SlateError → Type 0
IsOfEighth (Err (errors.TransactionalObjectTimeout tries)) = tries ≡ 8
IsOfEighth (Err (errors.ObjectStoreError Unavailable)) = Unit {0}
IsOfEighth (Err errors.NoMemory) = Unit {0}
IsOfEighth result = ⊥

-- A poll answers that it tried eight times only at the eighth overtaken put, and there nothing else but a fault or want of memory.
pub record TriesEight (objects : Objects) (begun : Begun) (result : Result (Option PollAnswer) SlateError) : Type 0 where
  pub only : (tries : ℕ) → result ≡ Err (errors.TransactionalObjectTimeout tries) → IsEighth objects begun
  pub exact : IsEighth objects begun → IsOfEighth result
