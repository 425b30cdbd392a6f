-- Reading rows as a machine.
use Rattle.std.specs.Prelude.{◌==◌, ◌&&◌, ◌<◌, ℕ, nat_lt, if◌then◌else◌, Bool, List, [], ◌∷◌, ◌++◌, length, drop, take, slice_index, Option, Some, None}
use Rattle.std.specs.Int.{w64, cast_signed, from_be_bytes}
use Rattle.std.specs.BTreeMap.{insert_entry}
use Rattle.std.specs.List.{AllByRecursion}
use Rattle.std.specs.Option.{is_none, option_and_then, option_map}
use Rattle.std.specs.Ordering.{nat_cmp}
use Rattle.slate_types.specs.declared.batches.Batch.{Batch}
use Rattle.slate_types.specs.declared.batches.KeyValue.{KeyValue}
use Rattle.slate_types.specs.declared.ranges.ByteRange.{ByteRange}
use Rattle.slate_types.specs.declared.ranges.KeyBound.TheVariants.{Unbounded}
use Rattle.slate_types.specs.declared.read_faults.ReadFault.{ReadFault}
use Rattle.slate_types.specs.declared.scan_options.IterationOrder.TheVariants.{Ascending}
use Rattle.slate_rows.specs.Scan.{IsScan}
use Rattle.slate_jobs.specs.declared.jobs.Job.{Job}
use Rattle.slate_jobs.specs.declared.jobs.JobReply.{JobReply}
use Rattle.slate_jobs.specs.declared.jobs.JobReply.TheVariants as replies
use Rattle.slate_jobs.specs.declared.jobs.JobState.{JobState}
use Rattle.slate_jobs.specs.declared.jobs.JobState.TheVariants.{Waiting, Claimed, Done}
use Rattle.slate_jobs.specs.declared.rows.Cells.{Cells}
use Rattle.slate_jobs.specs.declared.rows.RowName.{RowName}
use Rattle.slate_jobs.specs.declared.rows.RowName.TheVariants as names
use Rattle.slate_jobs.specs.Machine.{Machine, empty, kept_reply}

-- the number in the eight bytes from a place on
abbrev pub number_at : List ℕ → ℕ → ℕ
number_at bytes place = from_be_bytes w64 (take 8 (drop place bytes))

-- what a key with this tag names
abbrev pub named : (tag number : ℕ) → Option RowName
named tag number =
    if tag == 106 then Some (names.OfJob number)
    else if tag == 114 then Some (names.OfReply number)
    else None

-- what a key names: a tag, and a number in eight bytes
abbrev pub name_at : List ℕ → Option RowName
name_at key = if length key == 9 then named (slice_index key 0) (number_at key 1) else None

-- the cells of a value
abbrev pub cells_at : List ℕ → Option Cells
cells_at value =
    if nat_lt (length value) 17 then None
    else Some (record { tag = slice_index value 0; first = number_at value 1; second = number_at value 9; payload = drop 17 value })

-- cells without numbers
abbrev pub is_bare : Cells → Bool
is_bare cells = cells.first == 0 && cells.second == 0

-- the state that cells have
abbrev pub state_in : Cells → Option JobState
state_in cells =
    if cells.tag == 1 then Some (Claimed cells.first (cast_signed w64 cells.second))
    else if is_bare cells && cells.tag == 0 then Some Waiting
    else if is_bare cells && cells.tag == 2 then Some Done
    else None

-- the job that cells have
abbrev pub job_in : Cells → Option Job
job_in cells = option_map (λ state. record { state = state; payload = cells.payload }) (state_in cells)

-- the reply that cells without a payload have
abbrev pub plain_reply_in : Cells → Option JobReply
plain_reply_in cells =
    if cells.second == 0 && cells.tag == 0 then Some (replies.Enqueued cells.first)
    else if is_bare cells && cells.tag == 2 then Some replies.Empty
    else if is_bare cells && cells.tag == 3 then Some replies.Completed
    else if is_bare cells && cells.tag == 4 then Some (replies.Stale None)
    else if cells.first == 0 && cells.tag == 5 then Some (replies.Stale (Some cells.second))
    else None

-- the reply that cells have
abbrev pub reply_in : Cells → Option JobReply
reply_in cells =
    if cells.tag == 1 then Some (replies.Claimed cells.first cells.second cells.payload)
    else if length cells.payload == 0 then plain_reply_in cells
    else None

-- a machine with one more job, whose number is to be the next
abbrev pub with_job : Machine → (number : ℕ) → Job → Option Machine
with_job machine number job =
    if number == length machine.jobs then Some (record machine { jobs = machine.jobs ++ job ∷ [] }) else None

-- a machine with one more kept reply
abbrev pub with_reply : Machine → (request : ℕ) → JobReply → Option Machine
with_reply machine request reply =
    if is_none (kept_reply machine request)
    then Some (record machine { replies = insert_entry nat_cmp machine.replies request reply })
    else None

-- a machine with the job or the reply of a row, or none where a row is of neither, or isn't the next job's
abbrev pub with_cells : Machine → Option Cells → RowName → Option Machine
with_cells machine None name = None
with_cells machine (Some cells) (names.OfJob number) = option_and_then (with_job machine number) (job_in cells)
with_cells machine (Some cells) (names.OfReply request) = option_and_then (with_reply machine request) (reply_in cells)

abbrev pub with_row : Machine → KeyValue → Option Machine
with_row machine row = option_and_then (with_cells machine (cells_at row.value)) (name_at row.key)

-- a machine with the jobs and replies of rows
abbrev pub with_rows : Machine → List KeyValue → Option Machine
with_rows machine [] = Some machine
with_rows machine (row ∷ rows) = option_and_then (λ next. with_rows next rows) (with_row machine row)

-- The machine that rows in the order of their keys are, where they are one's: each is the row of a job or of a kept reply,
-- and the jobs' numbers have no gap.
abbrev pub machine_at : List KeyValue → Option Machine
machine_at rows = with_rows empty rows

-- a machine, where something was taken into it
abbrev pub taken : Bool → Machine → Option Machine
taken took machine = if took then Some machine else None

-- numbers that are bytes
abbrev pub IsBytes : List ℕ → Type 0
IsBytes bytes = (i : ℕ) → slice_index bytes i < 256

-- the key and the value of a row are bytes
abbrev pub IsOfBytes : KeyValue → Type 0
IsOfBytes row = IsBytes row.key × IsBytes row.value

-- so are those of each of these
abbrev pub AreOfBytes : List KeyValue → Type 0
AreOfBytes rows = AllByRecursion IsOfBytes rows

-- the whole range of keys
abbrev pub full : ByteRange
full = record { low = Unbounded; high = Unbounded }

-- the rows of all keys of batches, in their order, and the fault that ends them
abbrev pub AreRows : List Batch → List KeyValue → Option ReadFault → Type 0
AreRows batches rows fault = IsScan None batches None full Ascending rows fault
