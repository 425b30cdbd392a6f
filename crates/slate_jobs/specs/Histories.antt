-- Lists of requests and openings over one honest store, and what their replies are to each other.
use Rattle.std.specs.Prelude.{◌≡◌, ◌⊎◌, ◌<◌, ◌^◌, ℕ, ℤ, List, [], ◌∷◌, option_map, Option, Some, None, IsSome, Result, Ok, Err}
use Rattle.slate_store.specs.Objects.{Objects}
use Rattle.slate_jobs.specs.declared.jobs.JobOp.{JobOp}
use Rattle.slate_jobs.specs.declared.jobs.JobOp.TheVariants.{Complete}
use Rattle.slate_jobs.specs.declared.jobs.JobRefusal.{JobRefusal}
use Rattle.slate_jobs.specs.declared.jobs.JobReply.{JobReply}
use Rattle.slate_jobs.specs.declared.jobs.JobReply.TheVariants.{Completed}
use Rattle.slate_jobs.specs.Calls.{Calls, Stands}
use Rattle.slate_jobs.specs.Machine.{kept_reply}
use Rattle.slate_jobs.specs.Queue.{IsHeld, Opens, Queue}
use Rattle.slate_jobs.specs.Rows.{reply_value}

-- what an honest store holds, and a job store that writes to it
pub record Standing : Type 0 where
  pub objects : Objects
  pub queue : Queue

-- a request, answered or refused; an opening anew; and one that was refused, after which the job store is as before
pub data Event : Type 0 where
  Asked : (request : ℕ) → (op : JobOp) → (moment : ℤ) → (result : Result JobReply JobRefusal) → Event
  Reopened : Event
  Unopened : (refusal : JobRefusal) → Event

-- What the store of a request holds then: what the call says, where the store held the job store, to which nobody else wrote since;
-- a job store that was ended leaves it.
abbrev pub StoreAfter : Standing → Result JobReply JobRefusal → Standing → Type 0
StoreAfter old result new =
    (IsHeld old.objects old.queue × Stands old.objects new.objects old.queue new.queue result) ⊎ (IsSome old.queue.failure × (new.objects ≡ old.objects))

-- an event, by the clauses of the calls
abbrev pub IsEvent : Event → Standing → Standing → Type 0
IsEvent (Asked request op moment result) old new = (request < 2 ^ 64) × Calls request op moment old.queue result new.queue × StoreAfter old result new
IsEvent Reopened old new = Opens old.objects new.objects (Ok new.queue)
IsEvent (Unopened refusal) old new = Opens old.objects new.objects (Err refusal) × (new.queue ≡ old.queue)

-- events, one after the other
abbrev pub AreEvents : List Event → Standing → Standing → Type 0
AreEvents [] old new = new ≡ old
AreEvents (event ∷ events) old new = (mid : Standing) × IsEvent event old mid × AreEvents events mid new

-- the reply that is kept for a request, as its row has it
abbrev pub reply_under : Queue → (request : ℕ) → Option (List ℕ)
reply_under queue request = option_map reply_value (kept_reply queue.machine request)

-- what was answered is kept, whatever comes after it
abbrev pub RepliesStay : Type 0
RepliesStay =
    (events : List Event) (a b c : Standing) (request : ℕ) (op : JobOp) (moment : ℤ) (reply : JobReply) →
    IsEvent (Asked request op moment (Ok reply)) a b → AreEvents events b c → reply_under c.queue request ≡ Some (reply_value reply)

-- so a request that is repeated has the reply that it had, whatever it asks then
abbrev pub OneReply : Type 0
OneReply =
    (events : List Event) (a b c d : Standing) (request : ℕ) (op op' : JobOp) (moment moment' : ℤ) (reply reply' : JobReply) →
    IsEvent (Asked request op moment (Ok reply)) a b → AreEvents events b c → IsEvent (Asked request op' moment' (Ok reply')) c d → reply_value reply' ≡ reply_value reply

-- a request that had no reply completes a job
pub record Completes (request job token : ℕ) (moment : ℤ) (old new : Standing) : Type 0 where
  pub new_request : kept_reply old.queue.machine request ≡ None
  pub asked : IsEvent (Asked request (Complete job token) moment (Ok Completed)) old new

-- no two requests complete one job
abbrev pub CompletedOnce : Type 0
CompletedOnce =
    (events : List Event) (a b c d : Standing) (request other job token token' : ℕ) (moment moment' : ℤ) → job < 2 ^ 64 →
    Completes request job token moment a b → AreEvents events b c → Completes other job token' moment' c d → ⊥
