-- What a begun poll has of the line that is stored, whatever others do between its calls.
use Rattle.std.specs.Prelude.{◌≡◌, ℕ, ℤ, ◌<◌, ◌≤◌, ◌⊎◌, All, Contains, List, Option, Some, None, Result, Ok, IfSome}
use Rattle.slate_types.specs.declared.batches.Batch.{Batch}
use Rattle.slate_types.specs.Line.{IsPrefix, Line, batches_above}
use Rattle.slate_store.specs.declared.objects.VersionedManifest.{VersionedManifest}
use Rattle.slate_store.specs.Objects.{Objects, log_at}
use Rattle.slate_model.specs.Begun.{AsksLast, Begun, LooksAt, Puts, ReadsLatest, ReadsLog, Stage, begun_at, no_step, reached_number}
use Rattle.slate_errors.specs.declared.errors.SlateError.{SlateError}
use Rattle.slate_model.specs.Follower.{Follower, number}
use Rattle.slate_model.specs.declared.answers.PollAnswer.{PollAnswer}

-- these batches are some of a line's
abbrev pub AreOf : List Batch → Line → Type 0
AreOf batches line = All (λ batch. Contains line.batches batch) batches

-- what log files above a manifest's replay mark have above its last number in tables is of a line, which begins no later than that
pub record LogsAreOf (view : VersionedManifest) (line : Line) (objects : Objects) : Type 0 where
  pub low : line.floor ≤ view.manifest.last_l0_seq
  pub logs : (id : ℕ) (batches : List Batch) → view.manifest.replay_after_wal_id < id → log_at id objects ≡ Some batches → AreOf (batches_above view.manifest.last_l0_seq batches) line

-- a poll that replays has what is in the tables of the manifest that was read or put last, and reads log files above its replay mark
pub record Replaying (latest : VersionedManifest) (begun : Begun) (line : Line) (objects : Objects) : Type 0 where
  pub above : latest.manifest.replay_after_wal_id ≤ begun.mark
  pub reached : latest.manifest.last_l0_seq ≤ reached_number begun
  pub are : LogsAreOf latest line objects

abbrev pub IsReplaying : Begun → Line → Objects → Type 0
IsReplaying begun line objects = (latest : VersionedManifest) → begun.latest ≡ Some latest → Replaying latest begun line objects

-- what holds of the manifest by which it goes on, by the call that comes next; at first it goes by none of its own
abbrev pub StandsAt : Stage → Begun → Line → Objects → Type 0
StandsAt ReadsLatest begun line objects = begun.view ≡ None
StandsAt (Puts next given replaces) begun line objects = LogsAreOf next line objects
StandsAt AsksLast begun line objects = IsReplaying begun line objects
StandsAt (LooksAt id last) begun line objects = IsReplaying begun line objects
StandsAt (ReadsLog last) begun line objects = IsReplaying begun line objects
StandsAt stage begun line objects = Unit {0}

-- The batches that the reader keeps and those that its begun poll has read are of the line, and so is what it goes on to read.
pub record FollowsLine (objects : Objects) (line : Line) (reader : Follower) (begun : Begun) : Type 0 where
  pub own : AreOf reader.line.batches line
  pub begins : line.floor ≤ number reader
  pub fresh : AreOf begun.fresh line
  pub low : line.floor ≤ begun.floor
  pub next : StandsAt begun.stage begun line objects

-- What a step leaves of it, by what it answered: while there is another call, that still holds of the poll, and else the batches that
-- the reader keeps are of the line.
abbrev pub FollowsOn : Line → Option Objects → Result (Option PollAnswer) SlateError → Follower → Begun → Type 0
FollowsOn line objects (Ok None) reader begun = IfSome objects (λ o. FollowsLine o line reader begun)
FollowsOn line objects result reader begun = AreOf reader.line.batches line

-- a poll that begins on a reader whose batches are of the line follows it
abbrev pub BegunOnesFollow : Type 0
BegunOnesFollow =
    (objects : Objects) (line : Line) (reader : Follower) (moment : ℤ) → AreOf reader.line.batches line → line.floor ≤ number reader →
    FollowsLine objects line reader (begun_at moment 0 no_step reader)

-- It still does after what others did between two calls, where the line has only grown, and each log file that is there was there
-- before or has batches of the line alone.
abbrev pub OthersKeepIt : Type 0
OthersKeepIt =
    (objects objects' : Objects) (line line' : Line) (reader : Follower) (begun : Begun) → IsPrefix line line' →
    ((id : ℕ) (batches : List Batch) → log_at id objects' ≡ Some batches → (log_at id objects ≡ Some batches) ⊎ AreOf batches line') →
    FollowsLine objects line reader begun → FollowsLine objects' line' reader begun
