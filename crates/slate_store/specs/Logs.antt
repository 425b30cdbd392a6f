-- The log files above a mark: whether they are whole, where they are truncated, and which line they belong to.
use Rattle.std.specs.Prelude.{◌≡◌, ◌≢◌, ℕ, ◌+◌, ◌-◌, ◌<◌, ◌≤◌, max, All, Contains, List, [], ◌∷◌, ◌++◌, slice_get, Some, None, unwrap_or, MatchOption}
use Rattle.std.specs.List.{flat_map, range_with_len}
use Rattle.slate_types.specs.declared.batches.Batch.{Batch}
use Rattle.slate_types.specs.Line.{Line, batches_above}
use Rattle.slate_store.specs.Objects.{Objects, log_at}

-- the batches of the log files above a mark, up to an id, in order; one that isn't stored has none
abbrev pub batches_between : (mark last : ℕ) → Objects → List Batch
batches_between mark last objects = flat_map (λ id. unwrap_or (log_at id objects) []) (range_with_len (mark + 1) (last - mark))

-- a log file above a mark has this batch
pub record IsLogged (mark : ℕ) (objects : Objects) (batch : Batch) : Type 0 where
  pub id : ℕ
  pub log : List Batch
  pub above : mark < id
  pub stored : log_at id objects ≡ Some log
  pub has : Contains log batch

-- Batches whose numbers lead from one number to another without a gap: each is at most one past the greatest before it.
abbrev pub HaveNoGap : (from end : ℕ) → List Batch → Type 0
HaveNoGap from end [] = end ≡ from
HaveNoGap from end (batch ∷ batches) = (batch.number ≤ from + 1) × HaveNoGap (max from batch.number) end batches

-- those before a gap lead from one number to another, and the batch after it is past the next number
pub record HaveGap (from end : ℕ) (batches : List Batch) : Type 0 where
  pub front : List Batch
  pub batch : Batch
  pub rest : List Batch
  pub parts : batches ≡ front ++ batch ∷ rest
  pub no_gap : HaveNoGap from end front
  pub past : end + 1 < batch.number

-- The log files above a mark, up to an id, are stored, and their batches lead from one number to another without a gap.
pub record AreWhole (mark last from end : ℕ) (objects : Objects) : Type 0 where
  pub stored : (id : ℕ) → mark < id → id ≤ last → log_at id objects ≢ None
  pub no_gap : HaveNoGap from end (batches_between mark last objects)

-- The log files above a mark, up to an id, are truncated at this one of them: those before it are whole, and it isn't
-- stored, or its batches have a gap. The batches before that lead from one number to the other.
pub record AreTruncatedAt (id mark last from end : ℕ) (objects : Objects) : Type 0 where
  pub above : mark < id
  pub within : id ≤ last
  pub reached : ℕ
  pub earlier : AreWhole mark (id - 1) from reached objects
  pub cut : MatchOption (log_at id objects) (end ≡ reached) (HaveGap reached end)

-- the batch stands in the line, at the place of its number
abbrev pub StandsIn : Batch → Line → Type 0
StandsIn batch line = (k : ℕ) × (slice_get line.batches k ≡ Some batch) × (batch.number ≡ line.floor + k + 1)

-- what the log files above a mark, up to an id, have above a number stands in the line
abbrev pub BelongTo : (mark last number : ℕ) → Line → Objects → Type 0
BelongTo mark last number line objects = All (λ batch. StandsIn batch line) (batches_above number (batches_between mark last objects))
