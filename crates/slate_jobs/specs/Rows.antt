-- The rows of a machine, byte for byte, and when batches hold it.
use Rattle.std.specs.Prelude.{◌≡◌, ◌≢◌, ◌<◌, ◌^◌, ℕ, List, [], ◌∷◌, ◌++◌, slice_get, Option, Some, None, option_map, Result, Ok, Err}
use Rattle.std.specs.Int.{w64, cast_unsigned, to_be_bytes}
use Rattle.slate_types.specs.declared.batches.Batch.{Batch}
use Rattle.slate_types.specs.declared.batches.KeyOp.{KeyOp}
use Rattle.slate_types.specs.declared.batches.KeyValue.{KeyValue}
use Rattle.slate_types.specs.declared.batches.Op.TheVariants.{Put}
use Rattle.slate_types.specs.declared.read_faults.ReadFault.{ReadFault}
use Rattle.slate_reads.specs.Read.{read_at}
use Rattle.slate_jobs.specs.declared.jobs.Job.{Job}
use Rattle.slate_jobs.specs.declared.jobs.JobReply.{JobReply}
use Rattle.slate_jobs.specs.declared.jobs.JobReply.TheVariants as replies
use Rattle.slate_jobs.specs.declared.jobs.JobState.{JobState}
use Rattle.slate_jobs.specs.declared.jobs.JobState.TheVariants.{Waiting, Claimed, Done}
use Rattle.slate_jobs.specs.declared.effects.Change.{Change}
use Rattle.slate_jobs.specs.declared.effects.Change.TheVariants.{Adds, Moves, Keeps}
use Rattle.slate_jobs.specs.declared.effects.Effect.{Effect}
use Rattle.slate_jobs.specs.Machine.{Machine, kept_reply}
use Rattle.slate_jobs.specs.declared.rows.Cells.{Cells}

-- a number in eight bytes, the highest first
abbrev pub eight : ℕ → List ℕ
eight number = to_be_bytes w64 number

-- the key of a job, by its number: a j, and the number
abbrev pub job_key : ℕ → List ℕ
job_key number = 106 ∷ eight number

-- and of a kept reply, by the request's number: an r
abbrev pub reply_key : ℕ → List ℕ
reply_key request = 114 ∷ eight request

-- the cells of a value: a tag, two numbers in eight bytes each, and a payload
abbrev pub spelled : Cells → List ℕ
spelled cells = cells.tag ∷ (eight cells.first ++ (eight cells.second ++ cells.payload))

-- of a job: its state, and, where it is claimed, the token and the last moment of the lease
abbrev pub state_cells : JobState → List ℕ → Cells
state_cells Waiting payload = record { tag = 0; first = 0; second = 0; payload = payload }
state_cells (Claimed token until) payload = record { tag = 1; first = token; second = cast_unsigned w64 until; payload = payload }
state_cells Done payload = record { tag = 2; first = 0; second = 0; payload = payload }

abbrev pub job_cells : Job → Cells
job_cells job = state_cells job.state job.payload

-- of a kept reply: which it is, the job, the token, and the payload of one that claimed
abbrev pub reply_cells : JobReply → Cells
reply_cells (replies.Enqueued job) = record { tag = 0; first = job; second = 0; payload = [] }
reply_cells (replies.Claimed job token payload) = record { tag = 1; first = job; second = token; payload = payload }
reply_cells replies.Empty = record { tag = 2; first = 0; second = 0; payload = [] }
reply_cells replies.Completed = record { tag = 3; first = 0; second = 0; payload = [] }
reply_cells (replies.Stale None) = record { tag = 4; first = 0; second = 0; payload = [] }
reply_cells (replies.Stale (Some token)) = record { tag = 5; first = 0; second = token; payload = [] }

abbrev pub job_value : Job → List ℕ
job_value job = spelled (job_cells job)

abbrev pub reply_value : JobReply → List ℕ
reply_value reply = spelled (reply_cells reply)

-- the put of a row
abbrev pub put : List ℕ → List ℕ → KeyOp
put key value = record { key = key; op = Put value None }

-- what a change of jobs puts, where there are so many before
abbrev pub job_puts : (count : ℕ) → Change → List KeyOp
job_puts count (Adds job) = put (job_key count) (job_value job) ∷ []
job_puts count (Moves number job) = put (job_key number) (job_value job) ∷ []
job_puts count Keeps = []

-- the operations of an effect's batch: the row of its job, and that of its reply
abbrev pub puts_of : (count request : ℕ) → Effect → List KeyOp
puts_of count request effect = job_puts count effect.change ++ put (reply_key request) (reply_value effect.reply) ∷ []

-- the value that a read finds
abbrev pub value_found : Result (Option KeyValue) ReadFault → Result (Option (List ℕ)) ReadFault
value_found (Ok row) = Ok (option_map (λ row. row.value) row)
value_found (Err fault) = Err fault

-- the value under a key in batches, by the plain read without an operator
abbrev pub value_at : List Batch → List ℕ → Result (Option (List ℕ)) ReadFault
value_at batches key = value_found (read_at None batches None key)

-- a key of neither a job nor a reply
abbrev pub IsOther : List ℕ → Type 0
IsOther key = (number : ℕ) → number < 2 ^ 64 → (key ≢ job_key number) × (key ≢ reply_key number)

-- Batches hold a machine: each of its jobs and each kept reply has its row, and no other key has one.
pub record Holds (batches : List Batch) (machine : Machine) : Type 0 where
  pub jobs : (number : ℕ) → number < 2 ^ 64 → value_at batches (job_key number) ≡ Ok (option_map job_value (slice_get machine.jobs number))
  pub replies : (request : ℕ) → request < 2 ^ 64 → value_at batches (reply_key request) ≡ Ok (option_map reply_value (kept_reply machine request))
  pub others : (key : List ℕ) → IsOther key → value_at batches key ≡ Ok None
