-- What a call leaves, from what its steps leave.
use Rattle.std.proofs.Common.{◌≡◌, ℕ, ℤ, ◌+◌, ◌<◌, ◌≤◌, ◌^◌, ◌⊎◌, inl, inr, ◌==◌, List, [], ◌∷◌, ◌++◌, length, cond, Option, Some, None, Result, Ok, Err, Bool, true, false, refl, sym, subst, ap, ◌∙◌, arith}
use Rattle.std.proofs.lemmas.List.{append-nil, append_assoc}
use Rattle.std.proofs.lemmas.Option.{slice_get_within}
use Rattle.std.specs.Option.{is_some}
use Rattle.std.specs.Prelude.{slice_get}
use Rattle.std.specs.Result.{IfErr, IfOk, IsErrAnd, OnOk}
use Rattle.slate_types.specs.Line.{Line, extended}
use Rattle.slate_types.specs.declared.batches.Batch.{Batch}
use Rattle.slate_types.specs.declared.options.FlushType.TheVariants.{Wal}
use Rattle.slate_store.specs.Content.{IsSound, content}
use Rattle.slate_store.specs.Objects.{Objects}
use Rattle.slate_errors.specs.Errors.{closed_error, error_of_fault}
use Rattle.slate_errors.specs.declared.closing.CloseFault.{CloseFault}
use Rattle.slate_errors.specs.declared.closing.CloseFault.TheVariants as faults
use Rattle.slate_errors.specs.declared.errors.SlateError.{SlateError}
use Rattle.slate_errors.specs.declared.errors.SlateError.TheVariants as errors
use Rattle.slate_model.specs.Flush.{CanFlush, Flushes, StoresBatches}
use Rattle.slate_model.specs.Handle.{Handle, accepted, unstored}
use Rattle.slate_model.specs.Known.{Known}
use Rattle.slate_model.specs.Stores.{by_objects}
use Rattle.slate_jobs.specs.declared.effects.Effect.{Effect}
use Rattle.slate_jobs.specs.declared.jobs.Job.{Job}
use Rattle.slate_jobs.specs.declared.jobs.JobOp.{JobOp}
use Rattle.slate_jobs.specs.declared.jobs.JobOp.TheVariants.{Enqueue, Claim, Complete}
use Rattle.slate_jobs.specs.declared.jobs.JobRefusal.{JobRefusal}
use Rattle.slate_jobs.specs.declared.jobs.JobRefusal.TheVariants as refusals
use Rattle.slate_jobs.specs.declared.jobs.JobReply.{JobReply}
use Rattle.slate_jobs.specs.declared.jobs.JobState.{JobState}
use Rattle.slate_jobs.specs.declared.jobs.JobState.TheVariants.{Waiting, Claimed, Done}
use Rattle.slate_jobs.specs.Calls.{Accepts, Leaves, MayStep, RefusesBatch, Stores, TakesRequest, failing_by, puts_for, refused_by}
use Rattle.slate_jobs.specs.Machine.{Machine, after, claim_at, jobs_after, claim_of, completion_by, completion_of, effect_of, first_claimable, kept_reply, stepped, stepped_by}
use Rattle.slate_jobs.specs.Queue.{IsCurrent, IsHeld, IsInStep, Queue, failing, failure_of, refusal_of}
use Rattle.slate_jobs.specs.Rows.{Holds, puts_of}
use Rattle.std.specs.BTreeMap.{insert_entry}
use Rattle.std.specs.Ordering.{nat_cmp}
use Rattle.slate_types.specs.declared.batches.KeyOp.{KeyOp}
use Rattle.slate_model.specs.Write.{write_refusal, written}
use Rattle.slate_jobs.proofs.Holding.{IsWithin, holds-after}
use Rattle.slate_jobs.proofs.Standing.{accepted-more, accepted-step, fate, flush-all, flush-current, flush-either, flush-sound, ok-none, ok-step, short-same, short-step, short-unstored}

-- ---- an effect moves a job that is there
module _ (jobs : List Job) (room : length jobs < 2 ^ 64) where
  within : (number : ℕ) (job : Job) → slice_get jobs number ≡ Some job → (number < length jobs) × (number < 2 ^ 64)
  within number job at = let less = slice_get_within jobs number job at in (less, omega (arith, less, room))

  claim-within : (request : ℕ) (until : ℤ) (number : ℕ) (found : Option Job) → slice_get jobs number ≡ found → IsWithin (length jobs) (claim_of request until number found).change
  claim-within request until number None at = tt
  claim-within request until number (Some job) at = within number job at

  place-within : (request : ℕ) (until : ℤ) (place : Option ℕ) → IsWithin (length jobs) (claim_at jobs request until place).change
  place-within request until None = tt
  place-within request until (Some number) = claim-within request until number (slice_get jobs number) refl

  either : (b : Bool) (one other : Effect) → IsWithin (length jobs) one.change → IsWithin (length jobs) other.change → IsWithin (length jobs) (cond b one other).change
  either true one other h k = h
  either false one other h k = k

  state-within : (number token : ℕ) (payload : List ℕ) (state : JobState) → (number < length jobs) × (number < 2 ^ 64) → IsWithin (length jobs) (completion_by number token payload state).change
  state-within number token payload Waiting less = tt
  state-within number token payload Done less = tt
  state-within number token payload (Claimed held until) less = either (held == token) _ _ less tt

  completion-within : (number token : ℕ) (found : Option Job) → slice_get jobs number ≡ found → IsWithin (length jobs) (completion_of number token found).change
  completion-within number token None at = tt
  completion-within number token (Some job) at = state-within number token job.payload job.state (within number job at)

  pub effect-within : (request : ℕ) (op : JobOp) (moment : ℤ) → IsWithin (length jobs) (effect_of jobs request op moment).change
  effect-within request (Enqueue payload) moment = room
  effect-within request (Claim lease) moment = place-within request _ (first_claimable jobs moment)
  effect-within request (Complete number token) moment = completion-within number token (slice_get jobs number) refl

-- ---- a request is accepted
pub accept-held : (o : Objects) (request : ℕ) (op : JobOp) (moment : ℤ) (q q' : Queue) → IsHeld o q → Accepts request op moment q q' → IsHeld o q'
accept-held o request op moment q q' held a =
    let effect = effect_of q.machine.jobs request op moment in
    let ops = puts_for request op moment q in
    let batch : Batch = record { number = accepted q.handle + 1; create_ts = a.handle.0; ops = ops } in
    let seen : (content o).batches ++ unstored q'.handle ≡ ((content o).batches ++ unstored q.handle) ++ batch ∷ [] =
    ap (λ (x : Handle). (content o).batches ++ unstored x) a.handle.1
    ∙ (ap (λ bs. (content o).batches ++ bs) (accepted-more o q.handle ops a.handle.0 held.handle) ∙ sym (append_assoc (content o).batches (unstored q.handle) (batch ∷ []))) in
    let holds = holds-after ((content o).batches ++ unstored q.handle) batch q.machine request effect a.fits held.holds (effect-within q.machine.jobs a.room request op moment) refl in
    record {
      handle = subst (IsInStep o) (sym a.handle.1) (accepted-step o q.handle ops a.handle.0 held.handle);
      holds = subst (Holds ((content o).batches ++ unstored q'.handle)) (sym a.machine) (subst (λ bs. Holds bs (after q.machine request effect)) (sym seen) holds);
    }

-- and its handle stays current
pub accept-current : (o : Objects) (request : ℕ) (op : JobOp) (moment : ℤ) (q q' : Queue) → Accepts request op moment q q' → IsCurrent o q.handle → IsCurrent o q'.handle
accept-current o request op moment q q' a current = subst (IsCurrent o) (sym a.handle.1) (current.0, current.1, current.2)

-- ---- and stored
pub record IsStored (o o' : Objects) (q q' : Queue) (result : Result (Unit {0}) JobRefusal) : Type 0 where
  pub sound : IsSound o'
  pub answered : IfOk result (λ _. Holds (content o').batches q'.machine)
  pub either : (content o' ≡ content o) ⊎ Holds (content o').batches q'.machine
  pub held : q'.failure ≡ None → IsHeld o' q'
  pub current : IsCurrent o q.handle → IsCurrent o' q'.handle

module _ (o : Objects) (q q' : Queue) (held : IsHeld o q) where
  none-holds : unstored q.handle ≡ [] → Holds (content o).batches q.machine
  none-holds none = subst (λ bs. Holds bs q.machine) (ap (λ bs. (content o).batches ++ bs) none ∙ append-nil (content o).batches) held.holds

  nothing-unstored : accepted q.handle ≤ q.handle.durable → unstored q.handle ≡ []
  nothing-unstored all = by (unstored q.handle) (let e = held.handle.ends in omega (arith, e, all)) where
    by : (bs : List Batch) → length bs ≡ 0 → bs ≡ []
    by [] none = refl
    by (b ∷ bs) none = absurd (omega (arith, none))

  -- all was stored before
  before-stored : (result : Result (Unit {0}) JobRefusal) → accepted q.handle ≤ q.handle.durable → q' ≡ q → IsStored o o q q' result
  before-stored result all same =
      let holds : Holds (content o).batches q'.machine = subst (λ (x : Queue). Holds (content o).batches x.machine) (sym same) (none-holds (nothing-unstored all)) in
      record {
        sound = held.handle.sound;
        answered = by result holds;
        either = inl refl;
        held = λ live. subst (IsHeld o) (sym same) held;
        current = subst (λ (x : Queue). IsCurrent o x.handle) (sym same);
      } where
        by : (r : Result (Unit {0}) JobRefusal) → Holds (content o).batches q'.machine → IfOk r (λ _. Holds (content o).batches q'.machine)
        by (Ok done) h = h
        by (Err e) h = tt

  -- a flush stores it
  module _ (made : ℕ) (r : Result (Unit {0}) SlateError) (result : Result (Unit {0}) JobRefusal) (before after : Known (List Batch)) (is : before.objects ≡ Some o)
      (f : Flushes (by_objects before.objects) made Wal q.handle before r q'.handle after)
      (same : q' ≡ record q { handle = q'.handle; failure = failing_by r }) (answer : result ≡ refused_by r) where
    abbrev can : CanFlush Wal q.handle
    can = (held.handle.unclosed, held.handle.logs)

    machine-same : q.machine ≡ q'.machine
    machine-same = sym (ap (λ (x : Queue). x.machine) same)

    module _ (o' : Objects) (s : StoresBatches (by_objects before.objects) Wal q.handle o r q'.handle made o') where
      all-holds : content o' ≡ extended (content o) (unstored q.handle) → Holds (content o').batches q'.machine
      all-holds stored = subst (Holds (content o').batches) machine-same (subst (λ (l : Line). Holds l.batches q.machine) (sym stored) held.holds)

      ok-held : (done : Unit {0}) → r ≡ Ok done → IsHeld o' q'
      ok-held done ok =
          let stored = flush-all o o' before.objects q.handle q'.handle made r held.handle (f.flushed can) s done ok in
          let none = ok-none o o' before.objects q.handle q'.handle made r held.handle (f.flushed can) s done ok in
          record {
            handle = ok-step o o' before.objects q.handle q'.handle made r held.handle (f.flushed can) s done ok;
            holds = subst (λ bs. Holds bs q'.machine) (sym (ap (λ bs. (content o').batches ++ bs) none ∙ append-nil (content o').batches)) (all-holds stored);
          }

      short-held : r ≡ Err errors.NoMemory → IsHeld o' q'
      short-held short =
          let there = short-same o o' before.objects q.handle q'.handle made r held.handle (f.flushed can) s short in
          let left = short-unstored o o' before.objects q.handle q'.handle made r held.handle (f.flushed can) s short in
          record {
            handle = short-step o o' before.objects q.handle q'.handle made r held.handle (f.flushed can) s short;
            holds = subst (Holds ((content o').batches ++ unstored q'.handle)) machine-same
                (subst (λ bs. Holds bs q.machine) (sym (ap (λ x. (content x).batches ++ unstored q'.handle) there ∙ ap (λ bs. (content o).batches ++ bs) left)) held.holds);
          }

      open-held : q'.failure ≡ None → IsHeld o' q'
      open-held live = elim (fate o o' before.objects q.handle q'.handle made r held.handle (f.flushed can) s (sym (ap (λ (x : Queue). x.failure) same) ∙ live)) [
        | inl ok ↦ ok-held ok.0 ok.1
        | inr short ↦ short-held short
      ]

      answered-holds : (x : Result (Unit {0}) SlateError) → r ≡ x → IfOk (refused_by x) (λ _. Holds (content o').batches q'.machine)
      answered-holds (Ok done) ok = all-holds (flush-all o o' before.objects q.handle q'.handle made r held.handle (f.flushed can) s done ok)
      answered-holds (Err e) ok = tt

      flush-stored : IsStored o o' q q' result
      flush-stored = record {
        sound = flush-sound o o' before.objects q.handle q'.handle made r held.handle (f.flushed can) s;
        answered = subst (λ x. IfOk x (λ _. Holds (content o').batches q'.machine)) (sym answer) (answered-holds r refl);
        either = elim (flush-either o o' before.objects q.handle q'.handle made r held.handle (f.flushed can) s) [
          | inl old ↦ inl old
          | inr new ↦ inr (all-holds new)
        ];
        held = open-held;
        current = flush-current o o' before.objects q.handle q'.handle made r held.handle (f.flushed can) s;
      }

    by-flush : (o' : Objects) × (after.objects ≡ Some o') × IsStored o o' q q' result
    by-flush =
        let left = (f.stored can).objects.some o is in
        (left.0, left.1, flush-stored left.0 left.2)

pub stores-stand : (o : Objects) (q q' : Queue) (result : Result (Unit {0}) JobRefusal) (before after : Known (List Batch)) → before.objects ≡ Some o → IsHeld o q → Stores before q result q' after →
    (o' : Objects) × (after.objects ≡ Some o') × IsStored o o' q q' result
stores-stand o q q' result before after is held (inl kept) = (o, ap (λ (k : Known (List Batch)). k.objects) kept.3 ∙ is, before-stored o q q' held result kept.0 kept.2)
stores-stand o q q' result before after is held (inr f) = by-flush o q q' held f.0 f.1 result before after is f.2 f.3 f.4

-- ---- the machine
pub steps-new : (m : Machine) (request : ℕ) (op : JobOp) (moment : ℤ) → kept_reply m request ≡ None → stepped m request op moment ≡ after m request (effect_of m.jobs request op moment)
steps-new m request op moment none = ap (λ found. stepped_by found m request op moment) none

pub steps-kept : (m : Machine) (request : ℕ) (op : JobOp) (moment : ℤ) (reply : JobReply) → kept_reply m request ≡ Some reply → stepped m request op moment ≡ m
steps-kept m request op moment reply some = ap (λ found. stepped_by found m request op moment) some

-- what an error of the writer leaves
pub leaves : (request : ℕ) (op : JobOp) (moment : ℤ) (q q' : Queue) (e : SlateError) → q'.failure ≡ failing e → MayStep request op moment q.machine q'.machine →
    ((previous next : ℤ) → e ≡ errors.InvalidClockTick previous next → q' ≡ q) → Leaves request op moment q q' (refusal_of e)
leaves request op moment q q' errors.NoMemory failed may tick = (failed, may)
leaves request op moment q q' (errors.InvalidClockTick previous next) failed may tick = inl (tt, tick previous next refl)
leaves request op moment q q' e failed may tick = inr ((failure_of e, failed, refl), may)

-- a flush answers no moment
pub never-fault : (fault : CloseFault) (previous next : ℤ) → error_of_fault fault ≡ errors.InvalidClockTick previous next → ⊥
never-fault faults.Fenced previous next is = cc
never-fault faults.InvalidDBState previous next is = cc
never-fault (faults.ObjectStoreError fault) previous next is = cc
never-fault faults.TransactionalObjectVersionExists previous next is = cc
never-fault faults.LatestTransactionalObjectVersionMissing previous next is = cc
never-fault (faults.TransactionalObjectTimeout tries) previous next is = cc
never-fault (faults.Custom number) previous next is = cc

pub never-closed : (r : Result (Unit {0}) CloseFault) (previous next : ℤ) → closed_error r ≡ errors.InvalidClockTick previous next → ⊥
never-closed (Ok done) previous next is = cc
never-closed (Err fault) previous next is = never-fault fault previous next is

-- job stores with the same parts are one
pub queue-same : (a b : Queue) → a.handle ≡ b.handle → a.machine.jobs ≡ b.machine.jobs → a.machine.replies ≡ b.machine.replies → a.failure ≡ b.failure → a ≡ b
queue-same a b handle jobs kept failure =
    ap (λ x. record { handle = x; machine = a.machine; failure = a.failure }) handle
    ∙ (ap (λ x. record { handle = b.handle; machine = record { jobs = x; replies = a.machine.replies }; failure = a.failure }) jobs
    ∙ (ap (λ x. record { handle = b.handle; machine = record { jobs = b.machine.jobs; replies = x }; failure = a.failure }) kept
    ∙ ap (λ x. record { handle = b.handle; machine = b.machine; failure = x }) failure))

module _ (request : ℕ) (op : JobOp) (moment : ℤ) (q q' : Queue) where
  -- memory ran out before the batch
  pub short-refuses : q.failure ≡ None → q' ≡ q → (refusal : JobRefusal) → refusal ≡ refusals.NoMemory → RefusesBatch request op moment q q' refusal
  short-refuses live same refusal is = inr (errors.NoMemory, is, same ∙ ap (λ f. record q { failure = f }) live, inl refl)

  -- the handle refused it
  pub write-refuses : (e : SlateError) (refusal : JobRefusal) (ops : List KeyOp) → ops ≡ puts_for request op moment q → refusal ≡ refusal_of e → (e ≡ errors.NoMemory) ⊎ (write_refusal None q.handle ops moment None ≡ Some e) →
      q'.handle ≡ q.handle → q'.machine.jobs ≡ q.machine.jobs → q'.machine.replies ≡ q.machine.replies → q'.failure ≡ failing e → RefusesBatch request op moment q q' refusal
  write-refuses e refusal ops are is why handle jobs kept failure =
      inr (
        e,
        is,
        queue-same q' (record q { failure = failing e }) handle jobs kept failure,
        subst (λ xs. (e ≡ errors.NoMemory) ⊎ (write_refusal None q.handle xs moment None ≡ Some e)) are why,
      )

  -- and took it
  pub write-accepts : (effect : Effect) (ops : List KeyOp) (at : ℤ) → effect ≡ effect_of q.machine.jobs request op moment → request < 2 ^ 64 → length q.machine.jobs < 2 ^ 64 → ops ≡ puts_of (length q.machine.jobs) request effect →
      q'.handle ≡ written None q.handle ops at → q'.machine.jobs ≡ jobs_after q.machine.jobs effect.change → q'.machine.replies ≡ insert_entry nat_cmp q.machine.replies request effect.reply → q'.failure ≡ None → Accepts request op moment q q'
  write-accepts effect ops at is fits room are handle jobs kept failure =
      record {
        fits = fits;
        room = room;
        handle = (at, handle ∙ ap (λ xs. written None q.handle xs at) (are ∙ ap (puts_of (length q.machine.jobs) request) is));
        machine = ap (λ x. record { jobs = x; replies = q'.machine.replies }) (jobs ∙ ap (λ (e : Effect). jobs_after q.machine.jobs e.change) is)
            ∙ ap (λ x. record { jobs = jobs_after q.machine.jobs (effect_of q.machine.jobs request op moment).change; replies = x }) (kept ∙ ap (λ (e : Effect). insert_entry nat_cmp q.machine.replies request e.reply) is);
        failure = failure;
      }

  pub short-errs : {A : Type 0} (result : Result A JobRefusal) → IsErrAnd result (λ refusal. refusal ≡ refusals.NoMemory) → q.failure ≡ None → q' ≡ q → IfErr result (RefusesBatch request op moment q q')
  short-errs (Ok x) is live same = tt
  short-errs (Err refusal) is live same = short-refuses live same refusal is

  -- a request that had no reply
  pub takes-new : (result : Result (Unit {0}) JobRefusal) → kept_reply q.machine request ≡ None → OnOk result (Accepts request op moment q q') → OnOk result (TakesRequest request op moment q q')
  takes-new (Ok x) free accepts = inr (free, accepts)
  takes-new (Err e) free accepts = tt

  pub refuses-new : (result : Result (Unit {0}) JobRefusal) → kept_reply q.machine request ≡ None → IfErr result (RefusesBatch request op moment q q') → IfErr result (λ refusal. (kept_reply q.machine request ≡ None) × RefusesBatch request op moment q q' refusal)
  refuses-new (Ok x) free refuses = tt
  refuses-new (Err e) free refuses = (free, refuses)

pub none-there : {X : Type 0} (found : Option X) → is_some found ≡ false → found ≡ None
none-there None is = refl
none-there (Some x) is = absurd (let no = is in cc)
