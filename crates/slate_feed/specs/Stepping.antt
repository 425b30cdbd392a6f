-- What a step of a begun call of a feed finds, and what it leads to.
use Rattle.std.specs.Prelude.{◌≡◌, ◌≢◌, ℕ, ◌+◌, ◌<◌, ◌≤◌, ◌⊎◌, ◌||◌, false, All, Contains, List, [], ◌++◌, length, slice_get, Option, Some, None, Result, Ok, Err}
use Rattle.slate_types.specs.declared.batches.Batch.{Batch}
use Rattle.slate_types.specs.Counts.{HasRisen}
use Rattle.slate_store.specs.declared.objects.Manifest.{Manifest}
use Rattle.slate_store.specs.declared.objects.TableId.{TableId}
use Rattle.slate_store.specs.declared.objects.VersionedManifest.{VersionedManifest}
use Rattle.slate_store.specs.Calls.{KeepsFaults}
use Rattle.slate_store.specs.Content.{number_before}
use Rattle.slate_store.specs.Logs.{HaveGap, HaveNoGap}
use Rattle.slate_store.specs.Objects.{Objects, last_log, latest_manifest}
use Rattle.slate_feed.specs.declared.machines.FeedStep.{FeedStep}
use Rattle.slate_feed.specs.declared.machines.FeedStep.TheVariants as steps
use Rattle.slate_feed.specs.declared.machines.Stage.{Stage}
use Rattle.slate_feed.specs.declared.machines.Stage.TheVariants.{ReadLatest, ReadTable, AskLast, ReadLog, Ended}
use Rattle.slate_feed.specs.declared.machines.Turn.{Turn}
use Rattle.slate_feed.specs.declared.machines.Turn.TheVariants.{Goes, Ends, Breaks}
use Rattle.slate_feed.specs.declared.refusals.FeedRefusal.{FeedRefusal}
use Rattle.slate_feed.specs.declared.refusals.FeedRefusal.TheVariants as refusals
use Rattle.slate_feed.specs.Pieces.{Piece, log_piece, table_piece}
use Rattle.slate_feed.specs.Reading.{IsGoing, Reading, going_by, log_stage, reached, table_stage, taken}
use Rattle.slate_feed.specs.Taking.{greatest_number, is_some_batch}

-- A piece was read. What was found goes on by batches of it, and where it is the first with a batch, that isn't past the next number.
pub record LeadsOn (piece : List Batch) (reading reading' : Reading) : Type 0 where
  pub added : List Batch
  pub grows : reading'.found ≡ reading.found ++ added
  pub from : All (Contains piece) added
  pub first : reading.began ≡ false → number_before piece reading.cursor ≤ reading.cursor
  pub same : reading' ≡ record reading { stage = reading'.stage; found = reading'.found; end = reading'.end; began = reading'.began }

-- all of it was taken, and its batches have no gap
pub record TakesAll (piece : List Batch) (reading reading' : Reading) : Type 0 where
  pub no_gap : HaveNoGap (reached reading) (reached reading') piece
  pub began : reading'.began ≡ (reading.began || is_some_batch piece)
  pub end : reading'.end ≡ greatest_number reading.end piece

-- What reading a piece leads to, where this is the call after it: to that, or, where as many are found as were asked for or
-- there is no such call, to the end. A piece that isn't stored, and one with a batch past the next number, break it off; where
-- that is the first batch, or none was read of all, the cursor is below the floor.
abbrev pub ReadsPiece : Piece → (next : Stage) → Reading → Result Turn FeedRefusal → Reading → Type 0
ReadsPiece piece next reading (Ok Goes) reading' =
    (batches : List Batch) × (piece ≡ Some batches) × LeadsOn batches reading reading' × TakesAll batches reading reading'
    × (reading'.stage ≡ next) × (next ≢ Ended) × (length reading'.found < reading.limit)
ReadsPiece piece next reading (Ok Ends) reading' =
    (batches : List Batch) × (piece ≡ Some batches) × LeadsOn batches reading reading'
    × ((length reading'.found ≡ reading.limit)
    ⊎ (TakesAll batches reading reading' × (next ≡ Ended) × (length reading'.found < reading.limit) × (reading'.began ≡ false → reading.tabled ≤ reading.cursor)))
ReadsPiece piece next reading (Ok Breaks) reading' =
    (piece ≡ None)
    ⊎ ((batches : List Batch) × (end : ℕ) × (piece ≡ Some batches) × HaveGap (reached reading) end batches
    × (reading.began ≡ false → number_before batches reading.cursor ≤ reading.cursor))
ReadsPiece piece next reading (Err (refusals.BeforeFloor cursor floor)) reading' =
    (batches : List Batch) × (piece ≡ Some batches) × (reading.began ≡ false) × (cursor ≡ reading.cursor) × (reading.cursor < floor)
    × (floor ≡ number_before batches reading.tabled) × (batches ≡ [] → next ≡ Ended)
ReadsPiece piece next reading (Err refusals.ObjectStoreError) reading' = Unit {0}
ReadsPiece piece next reading (Err refusals.NoMemory) reading' = Unit {0}
ReadsPiece piece next reading (Err refusal) reading' = ⊥

-- the latest manifest was read, by which the call goes on; it ends where no batch was asked for
abbrev pub ReadsManifest : (latest : Option VersionedManifest) → Reading → Result Turn FeedRefusal → Reading → Type 0
ReadsManifest latest reading (Ok Goes) reading' =
    (found : VersionedManifest) × (latest ≡ Some found) × (0 < reading.limit)
    × (reading' ≡ (let going = going_by found.manifest reading in record going { stage = table_stage going.tables 0 }))
ReadsManifest latest reading (Ok Ends) reading' = (latest ≢ None) × (reading.limit ≡ 0) × (reading'.found ≡ reading.found)
ReadsManifest latest reading (Ok Breaks) reading' = ⊥
ReadsManifest latest reading (Err refusals.LatestTransactionalObjectVersionMissing) reading' = latest ≡ None
ReadsManifest latest reading (Err refusals.ObjectStoreError) reading' = Unit {0}
ReadsManifest latest reading (Err refusals.NoMemory) reading' = Unit {0}
ReadsManifest latest reading (Err refusal) reading' = ⊥

-- a call goes on to another, or ends where there is none and the cursor isn't below the last number in tables, with no batch read
abbrev pub GoesTo : (next : Stage) → Reading → Result Turn FeedRefusal → Reading → Type 0
GoesTo next reading (Ok Goes) reading' = (reading' ≡ record reading { stage = next }) × (next ≢ Ended)
GoesTo next reading (Ok Ends) reading' = (reading' ≡ reading) × (next ≡ Ended) × (reading.began ≡ false → reading.tabled ≤ reading.cursor)
GoesTo next reading (Ok Breaks) reading' = ⊥
GoesTo next reading (Err (refusals.BeforeFloor cursor floor)) reading' =
    (reading' ≡ reading) × (next ≡ Ended) × (reading.began ≡ false) × (cursor ≡ reading.cursor) × (reading.cursor < floor) × (floor ≡ reading.tabled)
GoesTo next reading (Err refusal) reading' = ⊥

-- it goes by a manifest, or ends where no batch is asked for
abbrev pub GoesBy : Manifest → Reading → Turn → Reading → Type 0
GoesBy manifest reading Goes reading' =
    (0 < reading.limit) × (reading' ≡ (let going = going_by manifest reading in record going { stage = table_stage going.tables 0 }))
GoesBy manifest reading Ends reading' = (reading.limit ≡ 0) × (reading'.cursor ≡ reading.cursor) × (reading'.found ≡ reading.found)
GoesBy manifest reading Breaks reading' = ⊥

-- What a call of the store finds in the objects, by the stage that it is made in, and what it leads to. Asking for the last log file
-- reads no batch.
abbrev pub Meets : Stage → Objects → Reading → Result Turn FeedRefusal → Reading → Type 0
Meets ReadLatest objects reading turn reading' = ReadsManifest (latest_manifest objects) reading turn reading'
Meets (ReadTable at) objects reading turn reading' =
    (id : TableId) × (slice_get reading.tables at ≡ Some id) × ReadsPiece (table_piece objects id) (table_stage reading.tables (at + 1)) reading turn reading'
Meets AskLast objects reading turn reading' = ReadsPiece (Some []) (log_stage reading.mark (last_log reading.mark objects)) reading turn reading'
Meets (ReadLog id last) objects reading turn reading' = ReadsPiece (log_piece reading.tabled objects id) (log_stage id last) reading turn reading'
Meets Ended objects reading turn reading' = ⊥

-- What a step answers and leaves, by the turn that its call leads to: the batches that it answers are those found.
abbrev pub Steps : Objects → Reading → Result FeedStep FeedRefusal → Reading → Type 0
Steps objects reading (Ok steps.More) reading' = Meets reading.stage objects (taken reading) (Ok Goes) reading'
Steps objects reading (Ok (steps.Batches batches)) reading' =
    (last : Reading) × Meets reading.stage objects (taken reading) (Ok Ends) last × (batches ≡ last.found)
Steps objects reading (Ok steps.Moved) reading' = (last : Reading) × Meets reading.stage objects (taken reading) (Ok Breaks) last
Steps objects reading (Err refusal) reading' = (last : Reading) × Meets reading.stage objects (taken reading) (Err refusal) last

-- a call has a step to make exactly after the turn that says so
abbrev pub IsStagedBy : Result Turn FeedRefusal → Stage → Type 0
IsStagedBy (Ok Goes) stage = IsGoing stage
IsStagedBy result stage = stage ≡ Ended

-- over any store: a failure is answered only where the count of faults has risen, and where it rose a failure is answered
pub record CountsFaults {A : Type 0} (faults faults' : ℕ) (result : Result A FeedRefusal) : Type 0 where
  pub count : faults ≤ faults'
  pub failed : result ≡ Err refusals.ObjectStoreError → HasRisen faults faults'
  pub stays : KeepsFaults refusals.ObjectStoreError faults faults' result

-- the batches that a step delivers
abbrev pub delivered : Result FeedStep FeedRefusal → List Batch
delivered (Ok (steps.Batches batches)) = batches
delivered result = []
