-- What a begun call of a feed keeps between two of its steps.
use Rattle.std.specs.Prelude.{◌≡◌, ℕ, ◌+◌, ◌-◌, ◌<◌, ◌≤◌, ◌^◌, nat_lt, if◌then◌else◌, Bool, false, List, [], length}
use Rattle.slate_types.specs.declared.batches.Batch.{Batch}
use Rattle.slate_types.specs.Line.{AreNumberedFrom}
use Rattle.slate_store.specs.declared.objects.Manifest.{Manifest}
use Rattle.slate_store.specs.declared.objects.TableId.{TableId}
use Rattle.slate_feed.specs.declared.machines.FeedMachine.TheInside.{Inside}
use Rattle.slate_feed.specs.declared.machines.Stage.{Stage}
use Rattle.slate_feed.specs.declared.machines.Stage.TheVariants.{ReadLatest, ReadTable, AskLast, ReadLog, Ended}
use Rattle.slate_feed.specs.Pieces.{tables_to_read}

-- A begun call: its cursor and limit, the call of the store that comes next, what it took of the latest manifest, and the batches
-- right above the cursor that it has found.
pub record Reading : Type 0 where
  pub cursor : ℕ
  pub limit : ℕ
  pub stage : Stage
  pub tables : List TableId  -- the tables that it reads
  pub tabled : ℕ  -- the last number in tables
  pub mark : ℕ  -- the replay mark
  pub found : List Batch
  pub end : ℕ  -- the greatest number that was read, or the last in tables
  pub began : Bool  -- whether a batch was read

-- the number of the last batch that was found, or the cursor
abbrev pub reached : Reading → ℕ
reached reading = reading.cursor + length reading.found

-- a call that has come nowhere yet
abbrev pub begun : (cursor limit : ℕ) → Reading
begun cursor limit = record { cursor = cursor; limit = limit; stage = ReadLatest; tables = []; tabled = 0; mark = 0; found = []; end = 0; began = false }

-- one whose next call is being made
abbrev pub taken : Reading → Reading
taken reading = record reading { stage = Ended }

abbrev pub reading_of : Inside → Reading
reading_of a =
    record {
      cursor = a.cursor;
      limit = a.limit;
      stage = a.stage;
      tables = a.tables;
      tabled = a.tabled;
      mark = a.mark;
      found = a.found.batches.items;
      end = a.found.end;
      began = a.found.began;
    }

-- there is a step to make
abbrev pub IsGoing : Stage → Type 0
IsGoing Ended = ⊥
IsGoing stage = Unit {0}

-- what holds by the call that comes next: fewer batches are found than were asked for, and there is what it reads
abbrev pub IsStaged : Stage → Reading → Type 0
IsStaged ReadLatest reading = (reading.found ≡ []) × (reading.began ≡ false)
IsStaged (ReadTable at) reading = (length reading.found < reading.limit) × (at < length reading.tables)
IsStaged AskLast reading = length reading.found < reading.limit
IsStaged (ReadLog id last) reading = (length reading.found < reading.limit) × (reading.mark < id) × (id ≤ last) × (last < 2 ^ 64)
IsStaged Ended reading = Unit {0}

-- the batches found are numbered from the cursor on
pub record IsReading (a : Inside) : Type 0 where
  pub numbered : AreNumberedFrom a.cursor a.found.batches.items
  pub fits : a.cursor + length a.found.batches.items < 2 ^ 64
  pub fresh : a.found.began ≡ false → a.found.batches.items ≡ []
  pub few : length a.tables < 2 ^ 64
  pub staged : IsStaged a.stage (reading_of a)

-- a begun call that goes by a manifest
abbrev pub going_by : Manifest → Reading → Reading
going_by manifest reading =
    record reading {
      tables = tables_to_read reading.cursor manifest;
      tabled = manifest.last_l0_seq;
      mark = manifest.replay_after_wal_id;
      end = manifest.last_l0_seq;
    }

-- it reads the table at this place next, or asks for the last log file where there is none
abbrev pub table_stage : (tables : List TableId) → (at : ℕ) → Stage
table_stage tables at = if nat_lt at (length tables) then ReadTable at else AskLast

-- it reads the log file after this one next, or has ended where this is the last
abbrev pub log_stage : (id last : ℕ) → Stage
log_stage id last = if nat_lt id last then ReadLog (id + 1) last else Ended

-- a call of the store that can follow one: the next table is there, or the next log file is above the mark
abbrev pub CanFollow : Stage → Reading → Type 0
CanFollow ReadLatest reading = ⊥
CanFollow (ReadTable at) reading = at < length reading.tables
CanFollow AskLast reading = Unit {0}
CanFollow (ReadLog id last) reading = (reading.mark < id) × (id ≤ last) × (last < 2 ^ 64)
CanFollow Ended reading = Unit {0}

-- How many steps were made before the one in this stage: one for the manifest, one for each table, one to ask for the last log file,
-- and one for each log file.
abbrev pub made : Stage → Reading → ℕ
made ReadLatest reading = 0
made (ReadTable at) reading = 1 + at
made AskLast reading = 1 + length reading.tables
made (ReadLog id last) reading = 1 + length reading.tables + (id - reading.mark)
made Ended reading = 0

-- and how many there may be at most before the one that ends
abbrev pub most_made : Stage → Reading → ℕ
most_made (ReadLog id last) reading = length reading.tables + (last - reading.mark) + 1
most_made stage reading = length reading.tables + 1
