-- What a begun call of a feed has of the line that is stored, whatever others do between its steps.
use Rattle.std.specs.Prelude.{◌≡◌, ℕ, ◌<◌, ◌⊎◌, All, Contains, List, Some, Result, Ok}
use Rattle.slate_types.specs.declared.batches.Batch.{Batch}
use Rattle.slate_types.specs.Line.{IsPrefix, Line}
use Rattle.slate_store.specs.declared.objects.TableId.{TableId}
use Rattle.slate_store.specs.Objects.{Objects, log_at, table_at}
use Rattle.slate_feed.specs.declared.machines.FeedStep.{FeedStep}
use Rattle.slate_feed.specs.declared.machines.FeedStep.TheVariants as steps
use Rattle.slate_feed.specs.declared.machines.Stage.{Stage}
use Rattle.slate_feed.specs.declared.machines.Stage.TheVariants.{ReadLatest, ReadTable, AskLast, ReadLog, Ended}
use Rattle.slate_feed.specs.declared.refusals.FeedRefusal.{FeedRefusal}
use Rattle.slate_feed.specs.Delivered.{BeginsAbove}
use Rattle.slate_feed.specs.Pieces.{log_piece, table_piece}
use Rattle.slate_feed.specs.Reading.{Reading, begun}

-- these batches are some of a line's
abbrev pub AreOf : List Batch → Line → Type 0
AreOf batches line = All (Contains line.batches) batches

-- what a call reads is of a line: the tables of its manifest, and the log files above its replay mark, while they are stored
pub record ReadsOf (reading : Reading) (line : Line) (objects : Objects) : Type 0 where
  pub tables : (id : TableId) (batches : List Batch) → Contains reading.tables id → table_piece objects id ≡ Some batches → AreOf batches line
  pub logs : (id : ℕ) (batches : List Batch) → reading.mark < id → log_piece reading.tabled objects id ≡ Some batches → AreOf batches line

-- once it goes by a manifest
abbrev pub GoesOnBy : Stage → Reading → Line → Objects → Type 0
GoesOnBy ReadLatest reading line objects = Unit {0}
GoesOnBy (ReadTable at) reading line objects = ReadsOf reading line objects
GoesOnBy AskLast reading line objects = ReadsOf reading line objects
GoesOnBy (ReadLog id last) reading line objects = ReadsOf reading line objects
GoesOnBy Ended reading line objects = Unit {0}

-- The batches that a begun call has found are of the line, and so is what it goes on to read.
pub record FollowsLine (objects : Objects) (line : Line) (reading : Reading) : Type 0 where
  pub found : AreOf reading.found line
  pub next : GoesOnBy reading.stage reading line objects

-- What a step leaves of it: while there is another step, that still holds, and the batches that it answers are those of the line
-- right above the cursor.
abbrev pub FollowsOn : Objects → Line → (cursor : ℕ) → Result FeedStep FeedRefusal → Reading → Type 0
FollowsOn objects line cursor (Ok steps.More) reading = FollowsLine objects line reading
FollowsOn objects line cursor (Ok (steps.Batches batches)) reading = BeginsAbove cursor line batches
FollowsOn objects line cursor result reading = Unit {0}

-- a call that has begun follows each line
abbrev pub BegunCallsFollow : Type 0
BegunCallsFollow = (objects : Objects) (line : Line) (cursor limit : ℕ) → FollowsLine objects line (begun cursor limit)

-- It still does after what others did between two steps, where the line has only grown, and each table and log file that is there was
-- there before or has batches of the line alone.
abbrev pub OthersKeepIt : Type 0
OthersKeepIt =
    (objects objects' : Objects) (line line' : Line) (reading : Reading) → IsPrefix line line' →
    ((id : TableId) (batches : List Batch) → table_at id objects' ≡ Some batches → (table_at id objects ≡ Some batches) ⊎ AreOf batches line') →
    ((id : ℕ) (batches : List Batch) → log_at id objects' ≡ Some batches → (log_at id objects ≡ Some batches) ⊎ AreOf batches line') →
    FollowsLine objects line reading → FollowsLine objects' line' reading
