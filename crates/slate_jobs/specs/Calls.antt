-- What a call of a job store answers, and what it leaves.
use Rattle.std.specs.Prelude.{◌≡◌, ◌⊎◌, ◌<◌, ◌≤◌, ◌^◌, ℕ, ℤ, true, List, length, Option, Some, None, Result, Ok, Err, IfOk, IfErr, IfSome}
use Rattle.slate_types.specs.declared.batches.Batch.{Batch}
use Rattle.slate_types.specs.declared.batches.KeyOp.{KeyOp}
use Rattle.slate_types.specs.declared.options.FlushType.TheVariants.{Wal}
use Rattle.slate_model.specs.Flush.{Flushes}
use Rattle.slate_model.specs.Handle.{accepted}
use Rattle.slate_model.specs.Known.{Known}
use Rattle.slate_model.specs.Stores.{by_objects}
use Rattle.slate_model.specs.Write.{write_refusal, written}
use Rattle.slate_store.specs.Content.{IsSound, content}
use Rattle.slate_store.specs.Objects.{Objects}
use Rattle.slate_errors.specs.declared.errors.SlateError.{SlateError}
use Rattle.slate_errors.specs.declared.errors.SlateError.TheVariants as errors
use Rattle.slate_jobs.specs.declared.failures.Failure.{Failure}
use Rattle.slate_jobs.specs.declared.jobs.JobOp.{JobOp}
use Rattle.slate_jobs.specs.declared.jobs.JobRefusal.{JobRefusal}
use Rattle.slate_jobs.specs.declared.jobs.JobRefusal.TheVariants as refusals
use Rattle.slate_jobs.specs.declared.jobs.JobReply.{JobReply}
use Rattle.slate_jobs.specs.Machine.{Machine, after, effect_of, is_full, kept_reply, stepped}
use Rattle.slate_jobs.specs.Queue.{IsCurrent, IsHeld, Queue, error_of, failing, refusal_of}
use Rattle.slate_jobs.specs.Rows.{Holds, puts_of}

-- the machine is as before, or has the effect of the request
abbrev pub MayStep : (request : ℕ) → JobOp → (moment : ℤ) → Machine → Machine → Type 0
MayStep request op moment old new = (new ≡ old) ⊎ (new ≡ stepped old request op moment)

-- a job store that this error ended
abbrev pub IsEndedBy : SlateError → Queue → Type 0
IsEndedBy error queue = (failure : Failure) × (queue.failure ≡ Some failure) × (error_of failure ≡ error)

-- an error of a moment below the tick
abbrev pub IsOfTick : SlateError → Type 0
IsOfTick (errors.InvalidClockTick last next) = Unit {0}
IsOfTick error = ⊥

-- What a refused request leaves. Full, and a moment below the tick: nothing has changed. Memory ran out: it may be repeated. Any
-- other error of the writer ends the job store.
abbrev pub Leaves : (request : ℕ) → JobOp → (moment : ℤ) → Queue → Queue → JobRefusal → Type 0
Leaves request op moment old new refusals.Foreign = ⊥
Leaves request op moment old new refusals.Full = (is_full old.machine.jobs op ≡ true) × (kept_reply old.machine request ≡ None) × (new ≡ old)
Leaves request op moment old new refusals.NoMemory = (new.failure ≡ None) × MayStep request op moment old.machine new.machine
Leaves request op moment old new (refusals.Writer error) =
    (IsOfTick error × (new ≡ old)) ⊎ (IsEndedBy error new × MayStep request op moment old.machine new.machine)

-- A call: an ended job store answers the error that ended it. Else the reply is that of the machine after the request, which
-- is the kept one where there was one.
pub record Calls (request : ℕ) (op : JobOp) (moment : ℤ) (old : Queue) (result : Result JobReply JobRefusal) (new : Queue) : Type 0 where
  pub ended : IfSome old.failure (λ failure. (result ≡ Err (refusals.Writer (error_of failure))) × (new ≡ old))
  pub answered : old.failure ≡ None → IfOk result (λ reply. (new.machine ≡ stepped old.machine request op moment) × (kept_reply new.machine request ≡ Some reply) × (new.failure ≡ None))
  pub refused : old.failure ≡ None → IfErr result (Leaves request op moment old new)

-- What a call leaves of an honest store that held the job store. After an answer the machine is stored. After a refusal the
-- machine that was stored is, or this one. While the job store isn't ended, the store goes on to hold it, and its handle stays
-- current.
pub record Stands (objects objects' : Objects) (old new : Queue) (result : Result JobReply JobRefusal) : Type 0 where
  pub sound : IsSound objects'
  pub answered : IfOk result (λ reply. Holds (content objects').batches new.machine)
  pub stored : (content objects' ≡ content objects) ⊎ Holds (content objects').batches new.machine
  pub held : new.failure ≡ None → IsHeld objects' new
  pub current : new.failure ≡ None → IsCurrent objects old.handle → IsCurrent objects' new.handle

-- the operations of a request's batch
abbrev pub puts_for : (request : ℕ) → JobOp → (moment : ℤ) → Queue → List KeyOp
puts_for request op moment queue = puts_of (length queue.machine.jobs) request (effect_of queue.machine.jobs request op moment)

-- A request is accepted: it had no reply, the handle has the batch of its effect, and the machine the effect.
pub record Accepts (request : ℕ) (op : JobOp) (moment : ℤ) (old new : Queue) : Type 0 where
  pub fits : request < 2 ^ 64
  pub room : length old.machine.jobs < 2 ^ 64
  pub handle : (at : ℤ) × (new.handle ≡ written None old.handle (puts_for request op moment old) at)
  pub machine : new.machine ≡ after old.machine request (effect_of old.machine.jobs request op moment)
  pub failure : new.failure ≡ None

-- a request is taken: it has a reply, or it is accepted
abbrev pub TakesRequest : (request : ℕ) → JobOp → (moment : ℤ) → Queue → Queue → Type 0
TakesRequest request op moment old new =
    ((reply : JobReply) × (kept_reply old.machine request ≡ Some reply) × (new ≡ old))
    ⊎ ((kept_reply old.machine request ≡ None) × Accepts request op moment old new)

-- Why a request isn't accepted, and what that leaves: there are too many jobs, or the handle refuses the batch.
abbrev pub RefusesBatch : (request : ℕ) → JobOp → (moment : ℤ) → Queue → Queue → JobRefusal → Type 0
RefusesBatch request op moment old new refusal =
    ((refusal ≡ refusals.Full) × (is_full old.machine.jobs op ≡ true) × (new ≡ old))
    ⊎ ((error : SlateError) × (refusal ≡ refusal_of error) × (new ≡ record old { failure = failing error })
    × ((error ≡ errors.NoMemory) ⊎ (write_refusal None old.handle (puts_for request op moment old) moment None ≡ Some error)))

-- what a flush leaves of a job store
abbrev pub failing_by : Result (Unit {0}) SlateError → Option Failure
failing_by (Ok _) = None
failing_by (Err error) = failing error

abbrev pub refused_by : Result (Unit {0}) SlateError → Result (Unit {0}) JobRefusal
refused_by (Ok done) = Ok done
refused_by (Err error) = Err (refusal_of error)

-- All that the handle accepted is stored: it was before, or a flush of the log stores it.
abbrev pub Stores : Known (List Batch) → Queue → Result (Unit {0}) JobRefusal → Queue → Known (List Batch) → Type 0
Stores before old result new after =
    ((accepted old.handle ≤ old.handle.durable) × (result ≡ Ok tt) × (new ≡ old) × (after ≡ before))
    ⊎ ((made : ℕ) × (flushed : Result (Unit {0}) SlateError) × Flushes (by_objects before.objects) made Wal old.handle before flushed new.handle after
    × (new ≡ record old { handle = new.handle; failure = failing_by flushed }) × (result ≡ refused_by flushed))
