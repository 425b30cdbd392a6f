-- What a step of a poll by single calls finds of a store, and what it leaves and answers.
use Rattle.std.specs.Prelude.{◌≡◌, ℕ, ◌+◌, ◌≤◌, ◌⊎◌, Bool, true, false, if◌then◌else◌, List, Option, Some, None, is_some, Result, Ok, Err, IfErr, IfOk}
use Rattle.slate_types.specs.declared.batches.Batch.{Batch}
use Rattle.slate_types.specs.declared.store_errors.StoreFault.TheVariants.{Unavailable}
use Rattle.slate_store.specs.declared.objects.VersionedManifest.{VersionedManifest}
use Rattle.slate_store.specs.declared.reader_modes.DbReaderMode.{DbReaderMode}
use Rattle.slate_store.specs.Calls.{WhereModelled}
use Rattle.slate_store.specs.Objects.{Objects, PutManifest, changed, is_present, last_log, latest_manifest, log_at}
use Rattle.slate_replay.specs.Replay.{ReplaysNext}
use Rattle.slate_replay.specs.declared.replays.Replayed.{Replayed}
use Rattle.slate_replay.specs.declared.replays.Replayed.TheVariants as replays
use Rattle.slate_errors.specs.declared.errors.SlateError.{SlateError}
use Rattle.slate_errors.specs.declared.errors.SlateError.TheVariants as errors
use Rattle.slate_model.specs.Begun.{Begun, Stage, ReadsLatest, Puts, AsksLast, LooksAt, ReadsLog, ReadsAgain, Ended, Turn, Goes, Ends, Breaks, Fails, arrived, asked_last, base_of, committed, cut_short, decided, kept_batches, looked_at, noted, overtaken_by, reached_number, read_again, read_log, taken, view_of}
use Rattle.slate_model.specs.Follower.{Follower, is_managed, number, unsegmented}
use Rattle.slate_model.specs.Managed.{poll_result}
use Rattle.slate_model.specs.Segments.{Extractor}
use Rattle.slate_model.specs.declared.answers.PollAnswer.{PollAnswer}
use Rattle.slate_model.specs.declared.answers.PollAnswer.TheVariants.{Whole, Truncated}
use Rattle.slate_follow.specs.Rebuilding.{Lacks}
use Rattle.slate_follow.specs.declared.machines.Commit.{Commit}
use Rattle.slate_follow.specs.declared.machines.Turn.{Turn as Answered}
use Rattle.slate_follow.specs.declared.machines.Turn.TheVariants as turns

-- A begun poll is of a reader as it is: it has a lease where the reader has one, its fresh batches come after the reader's where it
-- keeps those, and its batches lead up to the tables of the manifest that it goes by.
pub record FitsReader (reader : Follower) (begun : Begun) : Type 0 where
  pub leased : is_some begun.lease ≡ is_managed reader.mode
  pub after : begun.keeps ≡ true → begun.floor ≡ number reader
  pub low : base_of reader begun ≤ (view_of reader begun).manifest.last_l0_seq
  pub high : (view_of reader begun).manifest.last_l0_seq ≤ reached_number begun

-- as much before it is known whether they lead up to that
pub record FitsNext (reader : Follower) (begun : Begun) : Type 0 where
  pub leased : is_some begun.lease ≡ is_managed reader.mode
  pub after : begun.keeps ≡ true → begun.floor ≡ number reader

-- the turn that a method answers and leaves
abbrev pub came : Answered → Begun → Turn
came turns.Goes begun = Goes begun
came turns.Ends begun = Ends begun
came turns.Breaks begun = Breaks begun

-- A method answers and leaves this turn, or fails with its error; want of memory has no cause.
abbrev pub GivesTurn : Turn → Result Answered SlateError → Begun → Type 0
GivesTurn turn (Ok answered) begun = turn ≡ came answered begun
GivesTurn turn (Err errors.NoMemory) begun = Unit {0}
GivesTurn turn (Err error) begun = turn ≡ Fails error

-- a manifest is made that a poll puts next by this turn, or it fails as that does
abbrev pub GivesPut : Turn → Begun → Result Commit SlateError → Type 0
GivesPut turn begun (Ok commit) = turn ≡ Goes (record begun { stage = Puts commit.next commit.lease commit.replaces })
GivesPut turn begun (Err errors.NoMemory) = Unit {0}
GivesPut turn begun (Err error) = turn ≡ Fails error

-- the errors of making one
abbrev pub IsOfCommit : SlateError → Type 0
IsOfCommit errors.InvalidDBState = Unit {0}
IsOfCommit errors.NoMemory = Unit {0}
IsOfCommit error = ⊥

-- where a log file was read, or wasn't there
abbrev pub log_turn : Replayed → (latest : VersionedManifest) → (last : ℕ) → List Batch → Begun → Turn
log_turn replays.Whole latest last fresh begun = read_log latest last fresh begun
log_turn (replays.Truncated id) latest last fresh begun = cut_short fresh begun

-- where a log file was looked at, or wasn't there
abbrev pub LooksTo : Follower → (latest : VersionedManifest) → (id last : ℕ) → Begun → Option (List Batch) → Turn → Type 0
LooksTo reader latest id last begun (Some batches) turn = turn ≡ looked_at reader latest id last batches begun
LooksTo reader latest id last begun None turn = turn ≡ Breaks (record begun { stage = Ended })

-- What a call of a begun poll finds in the objects, the turn that it leads to, and what it leaves of them. The poll is the one whose
-- call is being made.
abbrev pub MeetsAt : Stage → Follower → Begun → Objects → Turn → Objects → Type 0
MeetsAt ReadsLatest reader begun objects turn objects' =
    (latest : VersionedManifest) × (latest_manifest objects ≡ Some latest) × (turn ≡ decided reader latest begun.lease (noted latest begun)) × (objects' ≡ objects)
MeetsAt (Puts next given replaces) reader begun objects turn objects' =
    ((is_present (PutManifest next.id next.manifest) objects ≡ false) × (turn ≡ committed reader next given replaces begun)
    × (objects' ≡ changed (PutManifest next.id next.manifest) objects))
    ⊎ ((is_present (PutManifest next.id next.manifest) objects ≡ true) × (turn ≡ overtaken_by reader begun) × (objects' ≡ objects))
MeetsAt AsksLast reader begun objects turn objects' = (turn ≡ Goes (asked_last reader (last_log begun.mark objects) begun)) × (objects' ≡ objects)
MeetsAt (LooksAt id last) reader begun objects turn objects' =
    (latest : VersionedManifest) × (begun.latest ≡ Some latest) × LooksTo reader latest id last begun (log_at id objects) turn × (objects' ≡ objects)
MeetsAt (ReadsLog last) reader begun objects turn objects' =
    (latest : VersionedManifest) × (fresh : List Batch) × (found : Replayed) × (begun.latest ≡ Some latest)
    × ReplaysNext (begun.mark + 1) begun.floor begun.fresh fresh objects (Ok found) × (turn ≡ log_turn found latest last fresh begun) × (objects' ≡ objects)
MeetsAt ReadsAgain reader begun objects turn objects' =
    (latest : VersionedManifest) × (latest_manifest objects ≡ Some latest) × (turn ≡ read_again latest begun) × (objects' ≡ objects)
MeetsAt Ended reader begun objects turn objects' = ⊥

abbrev pub Meets : Follower → Begun → Objects → Turn → Objects → Type 0
Meets reader begun objects turn objects' = MeetsAt begun.stage reader (taken begun) objects turn objects'

-- whether the next call reads the latest manifest
abbrev pub reads_latest : Stage → Bool
reads_latest ReadsLatest = true
reads_latest ReadsAgain = true
reads_latest stage = false

-- the objects are as before, or the manifest was put that is to be put next, where none was under its id
abbrev pub LeavesPut : Stage → Objects → Objects → Type 0
LeavesPut (Puts next given replaces) objects objects' =
    (objects' ≡ objects) ⊎ ((is_present (PutManifest next.id next.manifest) objects ≡ false) × (objects' ≡ changed (PutManifest next.id next.manifest) objects))
LeavesPut stage objects objects' = objects' ≡ objects

-- why this call answers an error, and what it leaves of the objects
abbrev pub FailsFrom : Stage → Follower → Begun → Objects → SlateError → Objects → Type 0
FailsFrom stage reader begun objects errors.LatestTransactionalObjectVersionMissing objects' =
    (reads_latest stage ≡ true) × (latest_manifest objects ≡ None) × (objects' ≡ objects)
FailsFrom stage reader begun objects (errors.ObjectStoreError Unavailable) objects' = LeavesPut stage objects objects'
FailsFrom stage reader begun objects errors.NoMemory objects' = LeavesPut stage objects objects'
FailsFrom stage reader begun objects error objects' = MeetsAt stage reader begun objects (Fails error) objects'

abbrev pub FailsAt : Follower → Begun → Objects → SlateError → Objects → Type 0
FailsAt reader begun objects error objects' = FailsFrom begun.stage reader (taken begun) objects error objects'

-- the errors of a call of a begun poll: those of a plan come to a reader that keeps a checkpoint alone
abbrev pub IsOfTurn : DbReaderMode → SlateError → Type 0
IsOfTurn mode errors.LatestTransactionalObjectVersionMissing = Unit {0}
IsOfTurn mode errors.InvalidDBState = is_managed mode ≡ true
IsOfTurn mode (errors.TransactionalObjectTimeout tries) = (is_managed mode ≡ true) × (tries ≡ 8)
IsOfTurn mode (errors.ObjectStoreError Unavailable) = Unit {0}
IsOfTurn mode errors.NoMemory = Unit {0}
IsOfTurn mode error = ⊥

-- the errors of what a poll decides, once a call is made
abbrev pub IsOfDecision : DbReaderMode → SlateError → Type 0
IsOfDecision mode errors.InvalidDBState = is_managed mode ≡ true
IsOfDecision mode (errors.TransactionalObjectTimeout tries) = (is_managed mode ≡ true) × (tries ≡ 8)
IsOfDecision mode errors.NoMemory = Unit {0}
IsOfDecision mode error = ⊥

-- a poll in this stage has a call to make
abbrev pub IsGoing : Stage → Type 0
IsGoing Ended = ⊥
IsGoing stage = Unit {0}

-- it has one exactly after the turn that says so
abbrev pub IsStagedBy : Result Answered SlateError → Stage → Type 0
IsStagedBy (Ok turns.Goes) stage = IsGoing stage
IsStagedBy result stage = stage ≡ Ended

-- a method that makes no call answers and leaves this turn
pub record TurnsTo (reader : Follower) (turn : Turn) (result : Result Answered SlateError) (begun : Begun) : Type 0 where
  pub gives : GivesTurn turn result begun
  pub fits : IfOk result (λ answered. FitsReader reader begun)
  pub kind : IfErr result (IsOfDecision reader.mode)
  pub staged : IsStagedBy result begun.stage

-- and one that makes this call
pub record CallsNext (stage : Stage) (reader : Follower) (begun : Begun) (result : Result Answered SlateError) (begun' : Begun) (objects objects' : Option Objects) : Type 0 where
  pub meets : IfOk result (λ answered. WhereModelled (λ o o'. MeetsAt stage reader begun o (came answered begun') o') objects objects')
  pub failed : IfErr result (λ error. WhereModelled (λ o o'. FailsFrom stage reader begun o error o') objects objects')
  pub fits : IfOk result (λ answered. FitsReader reader begun')
  pub kind : IfErr result (IsOfTurn reader.mode)
  pub staged : IsStagedBy result begun'.stage

-- of the batches that a poll came to, or of the fresh ones among them, a key has no segment
abbrev pub ArrivalLacks : Option Extractor → Follower → Begun → Type 0
ArrivalLacks extractor reader begun = (key : List ℕ) × (Lacks extractor begun.fresh key ⊎ Lacks extractor (kept_batches reader begun) key)

-- Why a step answers InvalidDBState: what its call leads to does, or a key of what the poll came to has no segment.
abbrev pub StepLacks : Option Extractor → Follower → Begun → Objects → Type 0
StepLacks extractor reader begun objects =
    ((objects' : Objects) × Meets reader begun objects (Fails errors.InvalidDBState) objects')
    ⊎ ((last : Begun) × ((objects' : Objects) × (Meets reader begun objects (Ends last) objects' ⊎ Meets reader begun objects (Breaks last) objects')) × ArrivalLacks extractor reader last)

-- the reader after a step that answers an error: as it was, or, where it keeps a checkpoint, closed by that
abbrev pub failed_by : SlateError → Follower → Follower
failed_by error reader = if is_managed reader.mode then record reader { result = poll_result error } else reader

-- a reader became what a begun poll came to, and the answer gives its number
abbrev pub Arrives : (Begun → Turn) → (ℕ → PollAnswer) → PollAnswer → Follower → Begun → Objects → Follower → Objects → Type 0
Arrives ends answers answer reader begun objects reader' objects' =
    (last : Begun) × Meets reader begun objects (ends last) objects' × (unsegmented reader' ≡ arrived reader last) × (answer ≡ answers (number reader'))

-- a step ended a poll: with all log files read, or at one that is missing
abbrev pub StepEnds : PollAnswer → Follower → Begun → Objects → Follower → Objects → Type 0
StepEnds (Whole at) reader begun objects reader' objects' = Arrives Ends Whole (Whole at) reader begun objects reader' objects'
StepEnds (Truncated at) reader begun objects reader' objects' = Arrives Breaks Truncated (Truncated at) reader begun objects reader' objects'

-- a step failed: by its call, or by a key without a segment, or for want of memory, once that was made
abbrev pub StepFails : SlateError → Follower → Begun → Objects → Objects → Type 0
StepFails errors.InvalidDBState reader begun objects objects' =
    Meets reader begun objects (Fails errors.InvalidDBState) objects'
    ⊎ ((last : Begun) × (Meets reader begun objects (Ends last) objects' ⊎ Meets reader begun objects (Breaks last) objects'))
StepFails error reader begun objects objects' = FailsAt reader begun objects error objects'

-- A step of a begun poll over objects: its call is the next one, and its answer, the reader and the poll are as that leads to.
abbrev pub Steps : Follower → Begun → Result (Option PollAnswer) SlateError → Objects → Follower → Begun → Objects → Type 0
Steps reader begun (Ok None) objects reader' begun' objects' = Meets reader begun objects (Goes begun') objects' × (reader' ≡ reader)
Steps reader begun (Ok (Some answer)) objects reader' begun' objects' = StepEnds answer reader begun objects reader' objects'
Steps reader begun (Err error) objects reader' begun' objects' = StepFails error reader begun objects objects'
