-- What a follower finds of the latest manifest and its log files.
use Rattle.std.specs.Prelude.{◌≡◌, ℕ, ◌+◌, ◌-◌, ◌<◌, ◌≤◌, ◌⊎◌, ◌&&◌, max, nat_le, not, if◌then◌else◌, Bool, List, [], ◌++◌, true, false, Option, None, Some, Result, Ok, Err, IfOk}
use Rattle.slate_types.specs.declared.batches.Batch.{Batch}
use Rattle.slate_types.specs.Line.{batches_above}
use Rattle.slate_store.specs.declared.objects.VersionedManifest.{VersionedManifest}
use Rattle.slate_types.specs.declared.store_errors.StoreFault.TheVariants.{NotFound, Unavailable}
use Rattle.slate_store.specs.declared.reader_modes.DbReaderMode.{DbReaderMode}
use Rattle.slate_store.specs.declared.reader_modes.DbReaderMode.TheVariants.{Checkpoint}
use Rattle.slate_store.specs.Checkpoints.{found}
use Rattle.slate_store.specs.Logs.{AreTruncatedAt}
use Rattle.slate_store.specs.Objects.{Objects, last_log, latest_manifest}
use Rattle.slate_replay.specs.Replay.{Replays, line_of}
use Rattle.slate_replay.specs.declared.replays.Replayed.{Replayed}
use Rattle.slate_replay.specs.declared.replays.Replayed.TheVariants as replays
use Rattle.slate_errors.specs.declared.errors.SlateError.{SlateError}
use Rattle.slate_errors.specs.declared.errors.SlateError.TheVariants as errors
use Rattle.slate_model.specs.Follow.{FollowCause}
use Rattle.slate_model.specs.Followed.{IsView, RefusesLatest, finds, followed_logs, last_read, read_logs, view_under}
use Rattle.slate_model.specs.Follower.{Follower, is_pinned, number, rebuilt, unsegmented}
use Rattle.slate_model.specs.Open.{replayed_logs}
use Rattle.slate_model.specs.Segments.{Extractor, ops_of, unsegmented_refusal}
use Rattle.slate_model.specs.Stores.{Unpinned}
use Rattle.slate_model.specs.declared.answers.PollAnswer.{PollAnswer}
use Rattle.slate_model.specs.declared.answers.PollAnswer.TheVariants.{Whole, Truncated}
use Rattle.slate_follow.specs.Lagging.{IsLastRead, IsLastTaken, MayWait, readings}

-- how a poll answers that replayed so, and sees the batches up to this number
abbrev pub answer_of : Replayed → ℕ → PollAnswer
answer_of replays.Whole at = Whole at
answer_of (replays.Truncated id) at = Truncated at

-- up to which log file a replay got that was to reach this last one
abbrev pub reached : Replayed → (last : ℕ) → ℕ
reached replays.Whole last = last
reached (replays.Truncated id) last = id - 1

-- the last log file that a follower reads
abbrev pub last_of : Objects → Follower → ℕ
last_of objects follower = last_read follower.mode follower.skips follower.view objects

-- a follower's batches are those that the log files of its manifest gave, so
abbrev pub GiveBatches : Objects → Follower → Replayed → Type 0
GiveBatches objects follower found = let m = follower.view.manifest in
    Replays m.replay_after_wal_id (last_of objects follower) m.last_l0_seq [] follower.line.batches objects (Ok found)

-- the follower's batches are those of the log files of its manifest, up to its mark, and the answer says whether these were
-- whole
abbrev pub HasLogs : Objects → Follower → PollAnswer → Type 0
HasLogs objects follower (Whole at) = GiveBatches objects follower replays.Whole × (follower.mark ≡ last_of objects follower)
HasLogs objects follower (Truncated at) = (id : ℕ) × GiveBatches objects follower (replays.Truncated id) × (follower.mark ≡ id - 1)

-- a poll left the log files of the manifest, and the follower has its tables alone
pub record WaitsWithTables (objects : Objects) (follower : Follower) (answer : PollAnswer) : Type 0 where
  pub none : follower.line.batches ≡ []
  pub mark : follower.mark ≡ follower.view.manifest.replay_after_wal_id
  pub may : 0 < follower.lag
  pub waits : MayWait follower.lag follower.view.manifest.last_l0_seq follower.view.manifest.replay_after_wal_id objects
  pub answers : answer ≡ Whole (number follower)

-- What a follower replayed of objects, sound or not: it can go by its manifest, and the log files of that are whole, or
-- truncated at one of them, or were left.
pub record ReplaysView (opening : Bool) (objects : Objects) (follower : Follower) (answer : PollAnswer) : Type 0 where
  pub view : IsView follower.mode opening objects follower.view
  pub floor : follower.line.floor ≡ follower.view.manifest.last_l0_seq
  pub logs : HasLogs objects follower answer ⊎ ((opening ≡ false) × WaitsWithTables objects follower answer)

-- the tables of a manifest end no earlier than those of a follower's view, and no later than its batches
abbrev pub Reaches : Follower → VersionedManifest → Type 0
Reaches follower view =
    (follower.view.manifest.last_l0_seq ≤ view.manifest.last_l0_seq) × (view.manifest.last_l0_seq ≤ number follower)

-- whether a follower goes on by a manifest: it reads log files, and its batches lead up to the tables
abbrev pub goes_on : Follower → VersionedManifest → Bool
goes_on follower view =
    let tabled = view.manifest.last_l0_seq in
    not follower.skips && (nat_le follower.view.manifest.last_l0_seq tabled && nat_le tabled (number follower))

-- the last log file that it reads then: the last one of all, or the one up to which it has what they have
abbrev pub last_above : Follower → VersionedManifest → Objects → ℕ
last_above follower view objects = last_log (max follower.mark view.manifest.replay_after_wal_id) objects

-- how many log files a follower reads at most under a manifest: those that it hasn't replayed yet, where it goes on by it
abbrev pub new_logs : Follower → VersionedManifest → Objects → ℕ
new_logs follower view objects =
    readings follower.lag (if goes_on follower view then last_above follower view objects - max follower.mark view.manifest.replay_after_wal_id
    else read_logs follower.mode follower.skips objects (Some view))

-- a follower without its lease
abbrev pub unleased : Follower → Follower
unleased follower = record follower { lease = None }

-- the follower that goes on by a manifest, with these batches after its own, and without those that are in tables
abbrev pub followed : Follower → VersionedManifest → List Batch → (mark : ℕ) → Follower
followed old view added mark = let tabled = view.manifest.last_l0_seq in
    rebuilt old.mode old.skips old.lag view (line_of tabled (batches_above tabled (old.line.batches ++ added))) mark

-- A follower goes on by a manifest: to its batches it adds those that the log files up to the last one give which it
-- hasn't replayed yet.
pub record GoesOn (objects : Objects) (view : VersionedManifest) (last : ℕ) (old follower : Follower) (answer : PollAnswer) : Type 0 where
  pub added : List Batch
  pub found : Replayed
  pub logs : Replays (max old.mark view.manifest.replay_after_wal_id) last (number old) [] added objects (Ok found)
  pub becomes : unsegmented follower ≡ followed old view added (reached found last)
  pub answers : answer ≡ answer_of found (number follower)

-- What a follower took of objects, sound or not, that goes on from what it had: it can go by its manifest, whose tables its
-- batches reach.
pub record Continues (objects : Objects) (old follower : Follower) (answer : PollAnswer) : Type 0 where
  pub view : IsView old.mode false objects follower.view
  pub reaches : Reaches old follower.view
  pub last : ℕ
  pub taken : IsLastTaken old.lag (number old) (max old.mark follower.view.manifest.replay_after_wal_id) objects last
  pub goes : GoesOn objects follower.view last old follower answer

-- the log files of a manifest up to the last one make this follower, in the mode that was asked for
pub record Builds (objects : Objects) (mode : DbReaderMode) (skips : Bool) (lag : ℕ) (view : VersionedManifest) (last : ℕ) (follower : Follower) (answer : PollAnswer) : Type 0 where
  pub batches : List Batch
  pub found : Replayed
  pub logs : Replays view.manifest.replay_after_wal_id last view.manifest.last_l0_seq [] batches objects (Ok found)
  pub becomes : unsegmented follower ≡ rebuilt mode skips lag view (line_of view.manifest.last_l0_seq batches) (reached found last)
  pub answers : answer ≡ answer_of found (number follower)

-- A follower takes what log files have under a manifest: it goes on by that where its batches lead up to the tables, and else it is
-- built anew.
abbrev pub TakesUnder : Objects → VersionedManifest → (old follower : Follower) → PollAnswer → Type 0
TakesUnder objects view old follower answer =
    ((old.skips ≡ false) × Reaches old view × (last : ℕ) × IsLastTaken old.lag (number old) (max old.mark view.manifest.replay_after_wal_id) objects last
    × GoesOn objects view last old follower answer)
    ⊎ ((goes_on old view ≡ false) × (last : ℕ) × IsLastRead old view objects last × Builds objects old.mode old.skips old.lag view last follower answer)

-- the manifest that a follower goes by, and the last log file that it reads, where it finds these
abbrev pub FindsView : DbReaderMode → Bool → (opening : Bool) → Objects → Result (VersionedManifest × ℕ) SlateError → Type 0
FindsView mode skips opening objects (Ok found) = IsView mode opening objects found.0 × (found.1 ≡ last_read mode skips found.0 objects)
FindsView mode skips opening objects (Err error) = Unit {0}

-- nothing stands against following the objects by their latest manifest with an extractor, or this does
abbrev pub Follows : {A : Type 0} → Option Extractor → DbReaderMode → (opening : Bool) → Objects → Result A SlateError → Type 0
Follows extractor mode opening objects (Ok _) = RefusesLatest extractor opening objects None
Follows extractor mode opening objects (Err error) = FollowCause extractor mode opening (Unpinned mode objects) objects error

-- the manifest that a follower goes by where this one is the latest, or why there is none
abbrev pub GoesBy : DbReaderMode → Objects → (latest : VersionedManifest) → Result VersionedManifest SlateError → Type 0
GoesBy mode objects latest (Ok view) = view_under mode objects latest ≡ Some view
GoesBy mode objects latest (Err (errors.CheckpointMissing id)) = (mode ≡ Checkpoint id) × (found id latest ≡ None)
GoesBy mode objects latest (Err (errors.ObjectStoreError NotFound)) = (view_under mode objects latest ≡ None) × (finds mode latest ≡ true)
GoesBy mode objects latest (Err (errors.ObjectStoreError Unavailable)) = Unit {0}
GoesBy mode objects latest (Err errors.NoMemory) = Unit {0}
GoesBy mode objects latest (Err error) = ⊥

-- the errors of looking for it
abbrev pub IsOfView : DbReaderMode → SlateError → Type 0
IsOfView mode (errors.CheckpointMissing id) = mode ≡ Checkpoint id
IsOfView mode (errors.ObjectStoreError NotFound) = is_pinned mode ≡ true
IsOfView mode (errors.ObjectStoreError Unavailable) = Unit {0}
IsOfView mode errors.NoMemory = Unit {0}
IsOfView mode error = ⊥

-- the last log file that a follower reads, where none failed
abbrev pub FindsLast : DbReaderMode → Bool → VersionedManifest → Objects → Result ℕ SlateError → Type 0
FindsLast mode skips view objects result = IfOk result (λ last. last ≡ last_read mode skips view objects)

-- of these batches a key has no segment, the first one this
abbrev pub Lacks : Option Extractor → List Batch → (key : List ℕ) → Type 0
Lacks extractor batches key = unsegmented_refusal extractor (ops_of batches) ≡ Some (errors.EmptySegmentPrefix key)

-- the log files of a manifest up to the last one have a key without a segment
abbrev pub BuildLacks : Option Extractor → Objects → (view : VersionedManifest) → (last : ℕ) → (key : List ℕ) → Type 0
BuildLacks extractor objects view last key =
    (batches : List Batch) × (found : Replayed)
    × Replays view.manifest.replay_after_wal_id last view.manifest.last_l0_seq [] batches objects (Ok found) × Lacks extractor batches key

-- so has what a follower has of those, with what it hasn't replayed yet
abbrev pub GoingLacks : Option Extractor → Objects → (view : VersionedManifest) → (last : ℕ) → Follower → (key : List ℕ) → Type 0
GoingLacks extractor objects view last old key =
    (added : List Batch) × (found : Replayed)
    × Replays (max old.mark view.manifest.replay_after_wal_id) last (number old) [] added objects (Ok found)
    × Lacks extractor (batches_above view.manifest.last_l0_seq (old.line.batches ++ added)) key

-- and what takes that under a manifest
abbrev pub TakingLacks : Option Extractor → Objects → (view : VersionedManifest) → Follower → Type 0
TakingLacks extractor objects view old =
    ((old.skips ≡ false) × Reaches old view × (last : ℕ) × IsLastTaken old.lag (number old) (max old.mark view.manifest.replay_after_wal_id) objects last
    × ((key : List ℕ) × GoingLacks extractor objects view last old key))
    ⊎ ((goes_on old view ≡ false) × (last : ℕ) × IsLastRead old view objects last × ((key : List ℕ) × BuildLacks extractor objects view last key))

-- log files are truncated at one of them, and a mark is before that
pub record BreakOff (objects : Objects) (mark : ℕ) : Type 0 where
  pub id : ℕ
  pub from : ℕ
  pub last : ℕ
  pub number : ℕ
  pub end : ℕ
  pub truncated : AreTruncatedAt id from last number end objects
  pub before : mark ≡ id - 1

-- where an answer says that log files weren't whole, they are truncated, and the follower has those before
abbrev pub Truncates : Objects → Follower → PollAnswer → Type 0
Truncates objects follower (Whole at) = Unit {0}
Truncates objects follower (Truncated at) = BreakOff objects follower.mark

-- a poll answers so for a key without a segment, since what it records has no key
abbrev pub poll_error : SlateError → SlateError
poll_error (errors.EmptySegmentPrefix key) = errors.InvalidDBState
poll_error error = error

abbrev pub polled : {A : Type 0} → Result A SlateError → Result A SlateError
polled (Ok answer) = Ok answer
polled (Err error) = Err (poll_error error)

-- the refusals of a database by its latest manifest
abbrev pub IsOfFollowing : SlateError → Type 0
IsOfFollowing errors.InvalidDBState = Unit {0}
IsOfFollowing (errors.SegmentExtractorMismatch persisted configured) = Unit {0}
IsOfFollowing (errors.SegmentPrefixNotRecognized prefix name) = Unit {0}
IsOfFollowing error = ⊥

-- the errors of a replay whose keys are to have segments
abbrev pub IsOfRebuilding : SlateError → Type 0
IsOfRebuilding (errors.ObjectStoreError Unavailable) = Unit {0}
IsOfRebuilding (errors.EmptySegmentPrefix key) = Unit {0}
IsOfRebuilding errors.NoMemory = Unit {0}
IsOfRebuilding error = ⊥

-- the errors of a replay
abbrev pub IsOfReplay : SlateError → Type 0
IsOfReplay (errors.ObjectStoreError Unavailable) = Unit {0}
IsOfReplay errors.NoMemory = Unit {0}
IsOfReplay error = ⊥

-- How often an opening calls a store at most: it asks for the latest manifest, and for the last log file or the manifest that
-- its checkpoint keeps, and reads the log files that it replays.
abbrev pub CallsOpening : DbReaderMode → Bool → Objects → (calls calls' : ℕ) → Type 0
CallsOpening mode skips objects calls calls' = calls' ≤ calls + 2 + followed_logs mode skips objects

-- and how often a poll
abbrev pub CallsRebuilding : Objects → (lag : ℕ) → (calls calls' : ℕ) → Type 0
CallsRebuilding objects lag calls calls' = calls' ≤ calls + 2 + readings lag (replayed_logs objects)

-- How often a poll that follows the latest manifest calls a store at most, where it answers Ok: it reads that and asks for the last
-- log file, and reads those alone that it doesn't have, while its batches lead up to the manifest's tables.
abbrev pub CallsContinuing : Objects → Follower → (calls calls' : ℕ) → Type 0
CallsContinuing objects old calls calls' =
    (latest : VersionedManifest) → latest_manifest objects ≡ Some latest → calls' ≤ calls + 2 + new_logs old latest objects
