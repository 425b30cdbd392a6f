-- What a replay of log files appends, and how it ends.
use Rattle.std.specs.Prelude.{◌≡◌, ℕ, ◌+◌, ◌⊎◌, Bool, true, false, min, All, Contains, List, [], length, unwrap_or, IsSomeAnd, MatchOption, Result, Ok, Err}
use Rattle.slate_types.specs.Counts.{count_end}
use Rattle.slate_types.specs.declared.batches.Batch.{Batch}
use Rattle.slate_types.specs.Line.{Line, IsPrefix, batches_above}
use Rattle.slate_store.specs.Objects.{Objects, log_at}
use Rattle.slate_store.specs.Logs.{AreTruncatedAt, AreWhole, BelongTo, HaveGap, HaveNoGap, StandsIn}
use Rattle.slate_types.specs.declared.store_errors.StoreError.{StoreError}
use Rattle.slate_types.specs.declared.store_errors.StoreError.TheVariants.{NoMemory}
use Rattle.slate_replay.specs.declared.replays.Replayed.{Replayed}
use Rattle.slate_replay.specs.declared.replays.Replayed.TheVariants.{Whole, Truncated}

-- the line of batches in memory
abbrev pub line_of : ℕ → List Batch → Line
line_of floor batches = record { floor = floor; batches = batches }

-- a count of calls after so many more, one at least
abbrev pub calls_after : (made calls : ℕ) → ℕ
calls_after made calls = min (calls + made) count_end

-- each of the batches that a replay leaves was there before, or this holds of it
abbrev pub AreFrom : (Batch → Type 0) → (old new : List Batch) → Type 0
AreFrom P old new = (batch : Batch) → Contains new batch → Contains old batch ⊎ P batch

-- How a replay ends that leads from one number to another: the log files are whole, or truncated at this one, and the
-- replay leads up to the gap. One that fails leads to any number.
abbrev pub Ends : (mark last from end : ℕ) → Objects → Result Replayed StoreError → Type 0
Ends mark last from end objects (Ok Whole) = AreWhole mark last from end objects
Ends mark last from end objects (Ok (Truncated id)) = AreTruncatedAt id mark last from end objects
Ends mark last from end objects (Err error) = Unit {0}

-- What a replay leaves of the batches that it found, however it ends: they begin each line that those before begin and
-- that the log files belong to, and reach as far as the log files go without a gap.
pub record Replays (mark last floor : ℕ) (old new : List Batch) (objects : Objects) (result : Result Replayed StoreError) : Type 0 where
  pub begins : (line : Line) → IsPrefix (line_of floor old) line → BelongTo mark last (floor + length old) line objects → IsPrefix (line_of floor new) line
  pub ends : Ends mark last (floor + length old) (floor + length new) objects result

-- what one log file has above a number stands in the line; one that isn't stored has nothing
abbrev pub LogBelongsTo : (id number : ℕ) → Line → Objects → Type 0
LogBelongsTo id number line objects = All (λ batch. StandsIn batch line) (batches_above number (unwrap_or (log_at id objects) []))

-- How a replay of one log file ends: it is stored, and its batches have no gap, or it isn't stored, and nothing is appended,
-- or its batches have a gap, and the replay leads up to it. One that fails leads to any number.
abbrev pub EndsNext : (id floor : ℕ) (old new : List Batch) → Objects → Result Replayed StoreError → Type 0
EndsNext id floor old new objects (Ok Whole) = IsSomeAnd (log_at id objects) (HaveNoGap (floor + length old) (floor + length new))
EndsNext id floor old new objects (Ok (Truncated at)) = MatchOption (log_at id objects) (new ≡ old) (HaveGap (floor + length old) (floor + length new))
EndsNext id floor old new objects (Err error) = Unit {0}

-- What a replay of one log file leaves of the batches that it found, however it ends: they begin each line that those
-- before begin and that the log file belongs to, and reach as far as it goes without a gap.
pub record ReplaysNext (id floor : ℕ) (old new : List Batch) (objects : Objects) (result : Result Replayed StoreError) : Type 0 where
  pub begins : (line : Line) → IsPrefix (line_of floor old) line → LogBelongsTo id (floor + length old) line objects → IsPrefix (line_of floor new) line
  pub ends : EndsNext id floor old new objects result

-- how appending the batches of one log file ends: true where there is no gap
abbrev pub EndsAppending : (from end : ℕ) → List Batch → Result Bool StoreError → Type 0
EndsAppending from end batches (Ok true) = HaveNoGap from end batches
EndsAppending from end batches (Ok false) = HaveGap from end batches
EndsAppending from end batches (Err error) = error ≡ NoMemory

-- what appending the batches of one log file leaves
pub record AppendsNext (floor : ℕ) (old new batches : List Batch) (result : Result Bool StoreError) : Type 0 where
  pub begins : (line : Line) → IsPrefix (line_of floor old) line → All (λ batch. StandsIn batch line) (batches_above (floor + length old) batches) → IsPrefix (line_of floor new) line
  pub ends : EndsAppending (floor + length old) (floor + length new) batches result
