-- What a look at log files from the last one downwards finds.
use Rattle.std.specs.Prelude.{◌≡◌, ℕ, ◌<◌, ◌≤◌, List, Option, Some, None}
use Rattle.slate_types.specs.declared.batches.Batch.{Batch}
use Rattle.slate_store.specs.Objects.{Objects, log_at}
use Rattle.slate_model.specs.Begun.{greatest_number}
use Rattle.slate_replay.specs.declared.newest.Newest.{Newest}
use Rattle.slate_replay.specs.declared.newest.Newest.TheVariants.{Nothing, Number, Missing}

-- the log files above a mark up to the last one are stored, and have no batch above a number
abbrev pub HaveNothingNew : (number mark last : ℕ) → Objects → Type 0
HaveNothingNew number mark last objects =
    (id : ℕ) → mark < id → id ≤ last → (batches : List Batch) × (log_at id objects ≡ Some batches) × (greatest_number batches ≤ number)

-- This log file is the last one of these that has a batch above a number, and this the greatest number that it has.
pub record HasNewest (number mark last : ℕ) (objects : Objects) (newest : ℕ) : Type 0 where
  pub id : ℕ
  pub over : mark < id
  pub within : id ≤ last
  pub batches : List Batch
  pub stored : log_at id objects ≡ Some batches
  pub greatest_is : greatest_number batches ≡ newest
  pub new : number < newest
  pub later : HaveNothingNew number id last objects

abbrev pub FindsNewest : (number mark last : ℕ) → Objects → Newest → Type 0
FindsNewest number mark last objects Nothing = HaveNothingNew number mark last objects
FindsNewest number mark last objects (Number newest) = HasNewest number mark last objects newest
FindsNewest number mark last objects (Missing id) = (mark < id) × (id ≤ last) × (log_at id objects ≡ None)
