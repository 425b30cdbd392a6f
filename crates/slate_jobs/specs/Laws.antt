-- What the rows of a machine and the machine are to each other.
use Rattle.std.specs.Prelude.{◌≡◌, ◌<◌, ◌^◌, ◌++◌, ◌∷◌, ℕ, ℤ, List, [], length, option_map, slice_get, Some, None}
use Rattle.slate_types.specs.declared.batches.Batch.{Batch}
use Rattle.slate_types.specs.declared.batches.KeyValue.{KeyValue}
use Rattle.slate_jobs.specs.declared.jobs.JobOp.{JobOp}
use Rattle.slate_jobs.specs.Decoding.{AreOfBytes, AreRows, machine_at}
use Rattle.slate_jobs.specs.Machine.{Machine, after, effect_of, kept_reply}
use Rattle.slate_jobs.specs.Queue.{AreForeign}
use Rattle.slate_jobs.specs.Rows.{Holds, job_value, puts_of, reply_value}

-- batches hold the machine that their rows are read as
abbrev pub RowsAreRead : Type 0
RowsAreRead =
    (batches : List Batch) (rows : List KeyValue) (machine : Machine) → AreRows batches rows None → AreOfBytes rows → machine_at rows ≡ Some machine → Holds batches machine

-- and once the batch of a request follows them, the machine after it
abbrev pub EffectsAreHeld : Type 0
EffectsAreHeld =
    (batches : List Batch) (batch : Batch) (machine : Machine) (request : ℕ) (op : JobOp) (moment : ℤ) →
    request < 2 ^ 64 → length machine.jobs < 2 ^ 64 → Holds batches machine → let effect = effect_of machine.jobs request op moment in
    batch.ops ≡ puts_of (length machine.jobs) request effect → Holds (batches ++ batch ∷ []) (after machine request effect)

-- two machines that the same batches hold have the same rows
abbrev pub HeldIsOne : Type 0
HeldIsOne =
    (batches : List Batch) (machine other : Machine) → Holds batches machine → Holds batches other → (number : ℕ) → number < 2 ^ 64 →
    (option_map job_value (slice_get machine.jobs number) ≡ option_map job_value (slice_get other.jobs number))
    × (option_map reply_value (kept_reply machine number) ≡ option_map reply_value (kept_reply other number))

-- the rows of batches that hold a machine are those of one
abbrev pub HeldIsRead : Type 0
HeldIsRead = (batches : List Batch) (machine : Machine) → Holds batches machine → AreForeign batches → ⊥
