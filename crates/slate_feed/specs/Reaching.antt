-- How far a begun call of a feed reads, whatever others do between its steps: up to what was stored at its first step, while what it goes
-- on to read stays stored.
use Rattle.std.specs.Prelude.{◌≡◌, ℕ, ◌+◌, ◌<◌, ◌≤◌, ◌⊎◌, Contains, List, length, slice_get, Some, Result, Ok}
use Rattle.slate_types.specs.declared.batches.Batch.{Batch}
use Rattle.slate_types.specs.Line.{IsLine, Line, end}
use Rattle.slate_store.specs.declared.objects.TableId.{TableId}
use Rattle.slate_store.specs.Content.{IsSound, content}
use Rattle.slate_store.specs.Objects.{Objects, log_at, table_at}
use Rattle.slate_feed.specs.declared.machines.FeedStep.{FeedStep}
use Rattle.slate_feed.specs.declared.machines.FeedStep.TheVariants as steps
use Rattle.slate_feed.specs.declared.machines.Stage.{Stage}
use Rattle.slate_feed.specs.declared.machines.Stage.TheVariants.{ReadLatest, ReadTable, AskLast, ReadLog, Ended}
use Rattle.slate_feed.specs.declared.refusals.FeedRefusal.{FeedRefusal}
use Rattle.slate_feed.specs.Pieces.{log_piece, table_piece}
use Rattle.slate_feed.specs.Reading.{Reading, reached}

-- a batch is in a table of the manifest, from this place on
pub record IsInTables (at : ℕ) (objects : Objects) (reading : Reading) (batch : Batch) : Type 0 where
  pub place : ℕ
  pub from : at ≤ place
  pub id : TableId
  pub named : slice_get reading.tables place ≡ Some id
  pub batches : List Batch
  pub stored : table_piece objects id ≡ Some batches
  pub has : Contains batches batch

-- a batch is in a log file, from this id on
pub record IsInLogs (from : ℕ) (objects : Objects) (reading : Reading) (batch : Batch) : Type 0 where
  pub id : ℕ
  pub above : from ≤ id
  pub marked : reading.mark < id
  pub batches : List Batch
  pub stored : log_piece reading.tabled objects id ≡ Some batches
  pub has : Contains batches batch

-- a batch is in what a call goes on to read
abbrev pub IsAhead : Stage → Objects → Reading → Batch → Type 0
IsAhead ReadLatest objects reading batch = ⊥
IsAhead (ReadTable at) objects reading batch = IsInTables at objects reading batch ⊎ IsInLogs (reading.mark + 1) objects reading batch
IsAhead AskLast objects reading batch = IsInLogs (reading.mark + 1) objects reading batch
IsAhead (ReadLog from last) objects reading batch = (l : IsInLogs from objects reading batch) × (l.id ≤ last)
IsAhead Ended objects reading batch = ⊥

-- Each batch of a line that is past those found is in what the call goes on to read.
abbrev pub ReachesTo : Line → Objects → Reading → Type 0
ReachesTo line objects reading =
    (batch : Batch) → Contains line.batches batch → reached reading < batch.number → IsAhead reading.stage objects reading batch

-- What a step leaves of that: it still holds while there is another step; once there is none, as many batches were found as were asked
-- for, or all up to the end of the line.
abbrev pub ReachesOn : Line → Objects → Reading → Result FeedStep FeedRefusal → Reading → Type 0
ReachesOn line objects reading (Ok steps.More) reading' = ReachesTo line objects reading'
ReachesOn line objects reading (Ok (steps.Batches batches)) reading' = (length batches ≡ reading.limit) ⊎ (end line ≤ reading.cursor + length batches)
ReachesOn line objects reading result reading' = Unit {0}

-- the first step of a call reaches to the line that is stored, and each later one on to the line that was reached to
pub record StepReaches (objects : Objects) (reading : Reading) (result : Result FeedStep FeedRefusal) (reading' : Reading) : Type 0 where
  pub first : reading.stage ≡ ReadLatest → IsSound objects → result ≡ Ok steps.More → ReachesTo (content objects) objects reading'
  pub later : (line : Line) → IsLine line → line.floor ≤ reading.cursor → ReachesTo line objects reading → ReachesOn line objects reading result reading'

-- It still reaches to a line after what others did between two steps, where the tables of its manifest and the log files above its
-- replay mark stayed stored.
abbrev pub OthersLeaveIt : Type 0
OthersLeaveIt =
    (objects objects' : Objects) (line : Line) (reading : Reading) →
    ((id : TableId) (batches : List Batch) → Contains reading.tables id → table_at id objects ≡ Some batches → table_at id objects' ≡ Some batches) →
    ((id : ℕ) (batches : List Batch) → reading.mark < id → log_at id objects ≡ Some batches → log_at id objects' ≡ Some batches) →
    ReachesTo line objects reading → ReachesTo line objects' reading
