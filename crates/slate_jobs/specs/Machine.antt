-- The machine: its jobs, the replies that it keeps, and what a request does.
use Rattle.std.specs.Prelude.{◌==◌, ◌&&◌, ℕ, ℤ, int_lt, if◌then◌else◌, Bool, true, false, List, [], ◌∷◌, ◌++◌, length, slice_get, slice_set, position, Option, Some, None}
use Rattle.std.specs.Ordering.{nat_cmp}
use Rattle.std.specs.BTreeMap.{insert_entry}
use Rattle.slate_store.specs.Checkpoints.{lease_end}
use Rattle.slate_store.specs.Objects.{entry_at}
use Rattle.slate_jobs.specs.declared.effects.Change.{Change}
use Rattle.slate_jobs.specs.declared.effects.Change.TheVariants.{Adds, Moves, Keeps}
use Rattle.slate_jobs.specs.declared.effects.Effect.{Effect}
use Rattle.slate_jobs.specs.declared.jobs.Job.{Job}
use Rattle.slate_jobs.specs.declared.jobs.JobOp.{JobOp}
use Rattle.slate_jobs.specs.declared.jobs.JobOp.TheVariants.{Enqueue, Claim, Complete}
use Rattle.slate_jobs.specs.declared.jobs.JobReply.{JobReply}
use Rattle.slate_jobs.specs.declared.jobs.JobReply.TheVariants as replies
use Rattle.slate_jobs.specs.declared.jobs.JobState.{JobState}
use Rattle.slate_jobs.specs.declared.jobs.JobState.TheVariants.{Waiting, Claimed, Done}

-- jobs, each numbered by its place from 0 on, and the kept reply to each request, in the order of the requests' numbers
pub record Machine : Type 0 where
  pub jobs : List Job
  pub replies : List (ℕ × JobReply)

-- one without a job and a reply
abbrev pub empty : Machine
empty = record { jobs = []; replies = [] }

-- the reply that is kept for a request
abbrev pub kept_reply : Machine → ℕ → Option JobReply
kept_reply machine request = entry_at request machine.replies

-- whether a job may be claimed at a moment: it waits, or its lease has ended before
abbrev pub is_claimable : ℤ → JobState → Bool
is_claimable moment Waiting = true
is_claimable moment (Claimed token until) = int_lt until moment
is_claimable moment Done = false

-- the claim of a job by a request
abbrev pub claim_of : (request : ℕ) → (until : ℤ) → (number : ℕ) → Option Job → Effect
claim_of request until number (Some job) =
    record {
      change = Moves number (record { state = Claimed request until; payload = job.payload });
      reply = replies.Claimed number request job.payload;
    }
claim_of request until number None = record { change = Keeps; reply = replies.Empty }

-- the claim of the job at a place, where there is one
abbrev pub claim_at : List Job → (request : ℕ) → (until : ℤ) → Option ℕ → Effect
claim_at jobs request until None = record { change = Keeps; reply = replies.Empty }
claim_at jobs request until (Some number) = claim_of request until number (slice_get jobs number)

-- the completion of a job in a state
abbrev pub completion_by : (number token : ℕ) → List ℕ → JobState → Effect
completion_by number token payload (Claimed held until) =
    if held == token
    then record { change = Moves number (record { state = Done; payload = payload }); reply = replies.Completed }
    else record { change = Keeps; reply = replies.Stale (Some held) }
completion_by number token payload state = record { change = Keeps; reply = replies.Stale None }

-- the completion of a job, where there is one
abbrev pub completion_of : (number token : ℕ) → Option Job → Effect
completion_of number token None = record { change = Keeps; reply = replies.Stale None }
completion_of number token (Some job) = completion_by number token job.payload job.state

-- the number of the least job that may be claimed at a moment
unfoldable pub first_claimable : List Job → ℤ → Option ℕ
first_claimable jobs moment = position (λ job. is_claimable moment job.state) jobs

-- What a request does, where it has no reply yet. A claim takes the least job that may be claimed.
abbrev pub effect_of : List Job → (request : ℕ) → JobOp → (moment : ℤ) → Effect
effect_of jobs request (Enqueue payload) moment =
    record { change = Adds (record { state = Waiting; payload = payload }); reply = replies.Enqueued (length jobs) }
effect_of jobs request (Claim lease) moment =
    claim_at jobs request (lease_end moment lease) (first_claimable jobs moment)
effect_of jobs request (Complete number token) moment = completion_of number token (slice_get jobs number)

-- the jobs after a change
abbrev pub jobs_after : List Job → Change → List Job
jobs_after jobs (Adds job) = jobs ++ job ∷ []
jobs_after jobs (Moves number job) = slice_set jobs number job
jobs_after jobs Keeps = jobs

-- the machine after an effect, which keeps its reply
abbrev pub after : Machine → (request : ℕ) → Effect → Machine
after machine request effect =
    record { jobs = jobs_after machine.jobs effect.change; replies = insert_entry nat_cmp machine.replies request effect.reply }

-- the machine after a request: as before, where it has a reply already
abbrev pub stepped_by : Option JobReply → Machine → (request : ℕ) → JobOp → (moment : ℤ) → Machine
stepped_by (Some reply) machine request op moment = machine
stepped_by None machine request op moment = after machine request (effect_of machine.jobs request op moment)

abbrev pub stepped : Machine → (request : ℕ) → JobOp → (moment : ℤ) → Machine
stepped machine request op moment = stepped_by (kept_reply machine request) machine request op moment

-- whether a request would add a job whose number is the greatest one: it has no reply yet
abbrev pub adds : JobOp → Bool
adds (Enqueue payload) = true
adds op = false

abbrev pub is_full : List Job → JobOp → Bool
is_full jobs op = adds op && length jobs == 18446744073709551615
