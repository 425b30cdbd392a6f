-- A call, from what its steps left.
use Rattle.std.proofs.Common.{◌≡◌, ℕ, ℤ, inl, inr, Some, None, Result, Ok, Err, refl, sym, subst, ap, ◌∙◌}
use Rattle.std.specs.Option.{IfSome}
use Rattle.std.specs.Result.{IfOk, MatchResult}
use Rattle.slate_types.specs.declared.batches.Batch.{Batch}
use Rattle.slate_store.specs.Content.{content}
use Rattle.slate_store.specs.Objects.{Objects}
use Rattle.std.specs.Prelude.{List}
use Rattle.slate_errors.specs.declared.errors.SlateError.{SlateError}
use Rattle.slate_errors.specs.declared.errors.SlateError.TheVariants as errors
use Rattle.slate_model.specs.Known.{Known}
use Rattle.slate_jobs.specs.declared.failures.Failure.{Failure}
use Rattle.slate_jobs.specs.declared.jobs.JobOp.{JobOp}
use Rattle.slate_jobs.specs.declared.jobs.JobRefusal.{JobRefusal}
use Rattle.slate_jobs.specs.declared.jobs.JobRefusal.TheVariants as refusals
use Rattle.slate_jobs.specs.declared.jobs.JobReply.{JobReply}
use Rattle.slate_jobs.specs.Calls.{Calls, Leaves, RefusesBatch, Stands, Stores, TakesRequest, failing_by, refused_by}
use Rattle.slate_jobs.specs.Machine.{kept_reply, stepped}
use Rattle.slate_jobs.specs.Queue.{IsCurrent, IsHeld, Queue, error_of, failing, refusal_of}
use Rattle.slate_jobs.specs.Rows.{Holds}
use Rattle.slate_jobs.proofs.Calling.{IsStored, accept-current, accept-held, leaves, steps-kept, steps-new}

abbrev IsTick : Result (Unit {0}) JobRefusal → Type 0
IsTick result = (previous next : ℤ) → result ≡ Err (refusals.Writer (errors.InvalidClockTick previous next)) → ⊥

module _ (request : ℕ) (op : JobOp) (moment : ℤ) (old : Queue) where
  -- an ended job store
  pub ended-calls : (failure : Failure) → old.failure ≡ Some failure → (result : Result JobReply JobRefusal) → result ≡ Err (refusals.Writer (error_of failure)) → Calls request op moment old result old
  ended-calls failure is result answer = record {
    ended = subst (λ f. IfSome f (λ x. (result ≡ Err (refusals.Writer (error_of x))) × (old ≡ old))) (sym is) (answer, refl);
    answered = λ live. absurd (let no = sym live ∙ is in cc);
    refused = λ live. absurd (let no = sym live ∙ is in cc);
  }

  module _ (live : old.failure ≡ None) where
    refused-calls : (new : Queue) (refusal : JobRefusal) → Leaves request op moment old new refusal → Calls request op moment old (Err refusal) new
    refused-calls new refusal left = record {
      ended = subst (λ f. IfSome f (λ x. (let r : Result JobReply JobRefusal = Err refusal in r ≡ Err (refusals.Writer (error_of x))) × (new ≡ old))) (sym live) tt;
      answered = λ _. tt;
      refused = λ _. left;
    }

    answered-calls : (new : Queue) (reply : JobReply) → new.machine ≡ stepped old.machine request op moment → kept_reply new.machine request ≡ Some reply → new.failure ≡ None → Calls request op moment old (Ok reply) new
    answered-calls new reply machine kept open_still = record {
      ended = subst (λ f. IfSome f (λ x. (let r : Result JobReply JobRefusal = Ok reply in r ≡ Err (refusals.Writer (error_of x))) × (new ≡ old))) (sym live) tt;
      answered = λ _. (machine, kept, open_still);
      refused = λ _. tt;
    }

    -- a batch that is refused
    batch-leaves : (new : Queue) (refusal : JobRefusal) → kept_reply old.machine request ≡ None → RefusesBatch request op moment old new refusal → Leaves request op moment old new refusal
    batch-leaves new refusal free (inl full) = subst (Leaves request op moment old new) (sym full.0) (full.1, free, full.2)
    batch-leaves new refusal free (inr why) =
        let same = why.2 in
        subst (Leaves request op moment old new) (sym why.1)
        (leaves request op moment old new why.0 (ap (λ (q : Queue). q.failure) same) (inl (ap (λ (q : Queue). q.machine) same))
        (λ previous next tick. same ∙ ap (λ f. record old { failure = f }) (ap failing tick ∙ sym live)))

    pub batch-calls : (new : Queue) (refusal : JobRefusal) → kept_reply old.machine request ≡ None → RefusesBatch request op moment old new refusal → Calls request op moment old (Err refusal) new
    batch-calls new refusal free why = refused-calls new refusal (batch-leaves new refusal free why)

    -- a request that is taken
    module _ (mid : Queue) (takes : TakesRequest request op moment old mid) where
      pub took-machine : mid.machine ≡ stepped old.machine request op moment
      took-machine = elim takes [
        | inl kept ↦ ap (λ (q : Queue). q.machine) kept.2 ∙ sym (steps-kept old.machine request op moment kept.0 kept.1)
        | inr new ↦ new.1.machine ∙ sym (steps-new old.machine request op moment new.0)
      ]

      pub took-open : mid.failure ≡ None
      took-open = elim takes [
        | inl kept ↦ ap (λ (q : Queue). q.failure) kept.2 ∙ live
        | inr new ↦ new.1.failure
      ]

      pub took-held : (o : Objects) → IsHeld o old → IsHeld o mid
      took-held o held = elim takes [
        | inl kept ↦ subst (IsHeld o) (sym kept.2) held
        | inr new ↦ accept-held o request op moment old mid held new.1
      ]

      pub took-current : (o : Objects) → IsCurrent o old.handle → IsCurrent o mid.handle
      took-current o current = elim takes [
        | inl kept ↦ subst (λ (x : Queue). IsCurrent o x.handle) (sym kept.2) current
        | inr new ↦ accept-current o request op moment old mid new.1 current
      ]

      module _ (before after : Known (List Batch)) (new : Queue) (first : Result (Unit {0}) JobRefusal) (stores : Stores before mid first new after) where
        stored-machine : new.machine ≡ stepped old.machine request op moment
        stored-machine = elim stores [
          | inl kept ↦ ap (λ (q : Queue). q.machine) kept.2 ∙ took-machine
          | inr f ↦ ap (λ (q : Queue). q.machine) f.3 ∙ took-machine
        ]

        -- the flush is refused
        refused-by : (refusal : JobRefusal) → first ≡ Err refusal → IsTick first → (flushed : Result (Unit {0}) SlateError) → first ≡ refused_by flushed → new.failure ≡ failing_by flushed → Leaves request op moment old new refusal
        refused-by refusal is tick (Ok done) answer failed = absurd (let no = sym is ∙ answer in cc)
        refused-by refusal is tick (Err e) answer failed =
            let same : refusal ≡ refusal_of e = (let both = sym is ∙ answer in cc) in
            subst (Leaves request op moment old new) (sym same)
            (leaves request op moment old new e failed (inr stored-machine) (λ previous next at. absurd (tick previous next (answer ∙ ap (λ x. Err (refusal_of x)) at))))

        pub store-calls : (refusal : JobRefusal) → first ≡ Err refusal → IsTick first → Calls request op moment old (Err refusal) new
        store-calls refusal is tick = refused-calls new refusal (elim stores [
          | inl kept ↦ absurd (let no = sym is ∙ kept.1 in cc)
          | inr f ↦ refused-by refusal is tick f.1 f.4 (ap (λ (q : Queue). q.failure) f.3)
        ])

        stored-open : (done : Unit {0}) → first ≡ Ok done → new.failure ≡ None
        stored-open done is = elim stores [
          | inl kept ↦ ap (λ (q : Queue). q.failure) kept.2 ∙ took-open
          | inr f ↦ by f.1 f.4 (ap (λ (q : Queue). q.failure) f.3)
        ] where
          by : (flushed : Result (Unit {0}) SlateError) → first ≡ refused_by flushed → new.failure ≡ failing_by flushed → new.failure ≡ None
          by (Ok x) answer failed = failed
          by (Err e) answer failed = absurd (let no = sym is ∙ answer in cc)

        -- the reply
        pub reply-calls : (done : Unit {0}) → first ≡ Ok done → (result : Result JobReply JobRefusal) → MatchResult result (λ reply. kept_reply new.machine request ≡ Some reply) (λ refusal. refusal ≡ refusals.NoMemory) → Calls request op moment old result new
        reply-calls done is (Ok reply) kept = answered-calls new reply stored-machine kept (stored-open done is)
        reply-calls done is (Err refusal) short = refused-calls new refusal (subst (Leaves request op moment old new) (sym short) (stored-open done is, inr stored-machine))

-- ---- what an honest store holds then
pub batch-stands : (o : Objects) (request : ℕ) (op : JobOp) (moment : ℤ) (old new : Queue) (refusal : JobRefusal) → IsHeld o old → RefusesBatch request op moment old new refusal → Stands o o old new (Err refusal)
batch-stands o request op moment old new refusal held why = record {
  sound = held.handle.sound;
  answered = tt;
  stored = inl refl;
  held = λ _. elim why [
    | inl full ↦ subst (IsHeld o) (sym full.2) held
    | inr other ↦ subst (IsHeld o) (sym other.2) (record { handle = held.handle; holds = held.holds })
  ];
  current = λ _ current. elim why [
    | inl full ↦ subst (λ (x : Queue). IsCurrent o x.handle) (sym full.2) current
    | inr other ↦ subst (λ (x : Queue). IsCurrent o x.handle) (sym other.2) current
  ];
}

pub ended-stands : (o : Objects) (old : Queue) (refusal : JobRefusal) → IsHeld o old → Stands o o old old (Err refusal)
ended-stands o old refusal held = record { sound = held.handle.sound; answered = tt; stored = inl refl; held = λ _. held; current = λ _ current. current }

pub store-stands : (o o' : Objects) (old mid new : Queue) → (IsCurrent o old.handle → IsCurrent o mid.handle) → (first : Result (Unit {0}) JobRefusal) (refusal : JobRefusal) → IsStored o o' mid new first → Stands o o' old new (Err refusal)
store-stands o o' old mid new keeps first refusal s = record { sound = s.sound; answered = tt; stored = s.either; held = s.held; current = λ _ current. s.current (keeps current) }

pub reply-stands : (o o' : Objects) (old mid new : Queue) → (IsCurrent o old.handle → IsCurrent o mid.handle) → (first : Result (Unit {0}) JobRefusal) (done : Unit {0}) → first ≡ Ok done → IsStored o o' mid new first → (result : Result JobReply JobRefusal) → Stands o o' old new result
reply-stands o o' old mid new keeps first done is s result = record {
  sound = s.sound;
  answered = by result;
  stored = s.either;
  held = s.held;
  current = λ _ current. s.current (keeps current);
} where
  by : (r : Result JobReply JobRefusal) → IfOk r (λ _. Holds (content o').batches new.machine)
  by (Ok reply) = subst (λ x. IfOk x (λ _. Holds (content o').batches new.machine)) is s.answered
  by (Err e) = tt
