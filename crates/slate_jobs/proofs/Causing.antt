-- Why a request isn't answered, from what its steps answer.
use Rattle.std.proofs.Common.{◌≡◌, ℕ, ℤ, ◌+◌, ◌≤◌, ◌⊎◌, inl, inr, List, [], ◌∷◌, ◌++◌, cond, Option, Some, None, Result, Ok, Err, Bool, true, false, refl, sym, subst, ap, ◌∙◌, arith}
use Rattle.std.proofs.lemmas.Bool.{ltb-false}
use Rattle.std.proofs.lemmas.List.Elements.{All-cons, All-nil}
use Rattle.std.specs.List.{All, Contains}
use Rattle.std.specs.Option.{option_or}
use Rattle.std.specs.Prelude.{int_lt, nat_lt}
use Rattle.std.specs.Result.{IfErr, MatchResult}
use Rattle.slate_types.specs.declared.batches.Batch.{Batch}
use Rattle.slate_types.specs.declared.batches.KeyOp.{KeyOp}
use Rattle.slate_types.specs.declared.options.FlushType.TheVariants.{Wal}
use Rattle.slate_types.specs.declared.store_errors.StoreFault.TheVariants.{Unavailable}
use Rattle.slate_store.proofs.Entries.{absent}
use Rattle.slate_store.specs.Calls.{HasRisen}
use Rattle.slate_store.specs.Objects.{Change, Objects, PutLog, is_present, last_log, latest_manifest}
use Rattle.slate_store.specs.declared.objects.VersionedManifest.{VersionedManifest}
use Rattle.slate_errors.specs.declared.errors.SlateError.{SlateError}
use Rattle.slate_errors.specs.declared.errors.SlateError.TheVariants as errors
use Rattle.slate_model.specs.Flush.{CanFlush, FlushCause, Flushes, flush_changes, flush_changes_by, flush_result, has_log_id, log_changes}
use Rattle.slate_model.specs.Handle.{Handle, accepted, to_log}
use Rattle.slate_model.specs.Known.{Known}
use Rattle.slate_model.specs.Stores.{Stands as AreThere, by_objects}
use Rattle.slate_model.specs.Unflushed.{limit_refusal, unflushed}
use Rattle.slate_model.specs.Write.{accepted_moment, batch_refusal, clock_refusal, closed_refusal, last_number, number_refusal, write_refusal, written}
use Rattle.slate_jobs.specs.declared.effects.Change.{Change as AChange}
use Rattle.slate_jobs.specs.declared.effects.Change.TheVariants.{Adds, Moves, Keeps}
use Rattle.slate_jobs.specs.declared.effects.Effect.{Effect}
use Rattle.slate_jobs.specs.declared.jobs.JobOp.{JobOp}
use Rattle.slate_jobs.specs.declared.jobs.JobRefusal.{JobRefusal}
use Rattle.slate_jobs.specs.declared.jobs.JobRefusal.TheVariants as refusals
use Rattle.slate_jobs.specs.declared.jobs.JobReply.{JobReply}
use Rattle.slate_jobs.specs.Calls.{RefusesBatch, Stores, TakesRequest, failing_by, puts_for, refused_by}
use Rattle.slate_jobs.specs.Causes.{IsCallCause, IsCallRefusal, IsReady, TakesBatches}
use Rattle.slate_jobs.specs.Queue.{Queue, refusal_of}
use Rattle.slate_jobs.specs.Rows.{job_puts, put, puts_of, reply_key, reply_value}

-- ---- no batch of a job store is refused for itself
batch-fine : (count request : ℕ) (effect : Effect) → batch_refusal (puts_of count request effect) ≡ None
batch-fine count request effect = by effect.change where
  by : (change : AChange) → batch_refusal (job_puts count change ++ put (reply_key request) (reply_value effect.reply) ∷ []) ≡ None
  by (Adds job) = refl
  by (Moves number job) = refl
  by Keeps = refl

-- ---- a batch is refused
module _ (rose : Type 0) (o : Objects) (h : Handle) (ops : List KeyOp) (moment : ℤ) (takes : TakesBatches h) (fine : batch_refusal ops ≡ None) where
  clock : Option SlateError
  clock = clock_refusal h.tick moment None (accepted_moment h.tick moment None)

  clock-cause : (b : Bool) → int_lt moment h.tick ≡ b → (e : SlateError) → clock_refusal h.tick moment None (cond b None (Some moment)) ≡ Some e → IsCallCause rose o h moment e
  clock-cause true less e is = subst (IsCallCause rose o h moment) (let s : errors.InvalidClockTick h.tick moment ≡ e = cc in s) (refl, refl, less)
  clock-cause false less e is = absurd (let no = is in cc)

  number-cause : (b : Bool) → nat_lt (accepted h) last_number ≡ b → (e : SlateError) → option_or (cond b None (Some errors.InvalidDBState)) clock ≡ Some e → IsCallCause rose o h moment e
  unfolding clock
  number-cause true less e is = clock-cause (int_lt moment h.tick) refl e is
  number-cause false past e is = subst (IsCallCause rose o h moment) (let s : errors.InvalidDBState ≡ e = cc in s) (inl (ltb-false (accepted h) last_number past))

  limit-cause : (b : Bool) → nat_lt (unflushed h) h.limit ≡ b → (e : SlateError) → option_or (cond b None (Some (errors.Backpressure (unflushed h) h.limit))) (option_or (number_refusal (accepted h)) clock) ≡ Some e → IsCallCause rose o h moment e
  limit-cause true less e is = number-cause (nat_lt (accepted h) last_number) refl e is
  limit-cause false past e is =
      subst (IsCallCause rose o h moment) (let s : errors.Backpressure (unflushed h) h.limit ≡ e = cc in s)
      (let most = takes.unlimited in let le = ltb-false (unflushed h) h.limit past in omega (arith, most, le))

  write-cause : (e : SlateError) → write_refusal None h ops moment None ≡ Some e → IsCallCause rose o h moment e
  unfolding clock
  write-cause e is =
      let rest = option_or (limit_refusal (unflushed h) h.limit) (option_or (number_refusal (accepted h)) (clock_refusal h.tick moment None (accepted_moment h.tick moment None))) in
      let opened : write_refusal None h ops moment None ≡ option_or (batch_refusal ops) rest = ap (λ r. option_or (closed_refusal r) (option_or (batch_refusal ops) rest)) takes.unclosed in
      limit-cause (nat_lt (unflushed h) h.limit) refl e (sym (opened ∙ ap (λ r. option_or r rest) fine) ∙ is)

-- ---- a flush is refused
contained : {X : Type 0} (P : X → Type 0) (xs : List X) (x : X) → All P xs → Contains xs x → P x
contained P xs x all c = subst P c.2 (all c.0 x c.1)

abbrev IsFree : Objects → Change → Type 0
IsFree o c = is_present c o ≡ false

none-there : (cs : List Change) (o : Objects) → All (IsFree o) cs → AreThere cs o → ⊥
none-there cs o free s = let no = contained (IsFree o) cs s.0 free s.1 in absurd (cc (no, s.2))

log-free : (o : Objects) (mark : ℕ) (bs : List Batch) → All (IsFree o) (log_changes (λ xs. xs) bs (last_log mark o))
log-free o mark [] = All-nil (IsFree o)
log-free o mark (b ∷ bs) =
    let none = absent (last_log mark o + 1) mark o.logs (omega arith) in
    All-cons (IsFree o) (PutLog (last_log mark o + 1) (b ∷ bs)) [] (rw none refl) (All-nil (IsFree o))

wal-free : (o : Objects) (h : Handle) (latest : Option VersionedManifest) → All (IsFree o) (flush_changes_by (λ xs. xs) Wal h o latest)
wal-free o h None = All-nil (IsFree o)
wal-free o h (Some latest) = log-free o latest.manifest.replay_after_wal_id (to_log h)

last-log : (bs : List Batch) (last : ℕ) → has_log_id bs last ≡ false → last_number ≤ last
last-log [] last none = absurd (let c = none in cc)
last-log (b ∷ bs) last none = ltb-false last last_number none

module _ (o : Objects) (h old : Handle) (same : h.epoch ≡ old.epoch) (moment : ℤ) (made : ℕ) (h' : Handle) (before after : Known (List Batch)) (e : SlateError) (is : before.objects ≡ Some o)
    (can : CanFlush Wal h) (f : Flushes (by_objects before.objects) made Wal h before (Err e) h' after) where
  abbrev risen : Type 0
  risen = HasRisen before.faults after.faults

  flush-cause : IsCallCause risen o old moment e ⊎ (e ≡ errors.NoMemory)
  flush-cause = by e refl (((f.stored can).objects.some o is).2.answer).0 where
    by : (x : SlateError) → e ≡ x → FlushCause (AreThere (flush_changes (λ xs. xs) Wal h o) o) Wal h o x → IsCallCause risen o old moment x ⊎ (x ≡ errors.NoMemory)
    by errors.InvalidDBState at cause = inl (inr (cause.0, cause.1.0, last-log (to_log h) (last_log cause.0.manifest.replay_after_wal_id o) cause.2))
    by errors.TransactionalObjectVersionExists at cause = absurd (none-there (flush_changes (λ xs. xs) Wal h o) o (wal-free o h (latest_manifest o)) cause)
    by errors.LatestTransactionalObjectVersionMissing at cause = inl cause
    by errors.Fenced at cause = inl (cause.0, cause.1, (let less = cause.2 in omega (arith, less, same)))
    by (errors.ObjectStoreError Unavailable) at cause = inl ((f.stored can).faults.unavailable (ap Err at))
    by errors.NoMemory at cause = inr refl
    by x at cause = absurd cause

-- ---- the refusal of an error
cause-refusal : (rose : Type 0) (o : Objects) (q : Queue) (op : JobOp) (moment : ℤ) (e : SlateError) → IsCallCause rose o q.handle moment e ⊎ (e ≡ errors.NoMemory) → IsCallRefusal rose o q op moment (refusal_of e)
cause-refusal rose o q op moment e (inr short) = subst (λ x. IsCallRefusal rose o q op moment (refusal_of x)) (sym short) tt
cause-refusal rose o q op moment (errors.InvalidClockTick last next) (inl cause) = cause
cause-refusal rose o q op moment (errors.Backpressure bytes limit) (inl cause) = cause
cause-refusal rose o q op moment errors.InvalidDBState (inl cause) = cause
cause-refusal rose o q op moment errors.Fenced (inl cause) = cause
cause-refusal rose o q op moment errors.LatestTransactionalObjectVersionMissing (inl cause) = cause
cause-refusal rose o q op moment (errors.ObjectStoreError Unavailable) (inl cause) = cause
cause-refusal rose o q op moment e (inl cause) = absurd cause

-- ---- a call
module _ (rose : Type 0) (o : Objects) (request : ℕ) (op : JobOp) (moment : ℤ) (old : Queue) (ready : IsReady old) where
  pub batch-refused : (new : Queue) (refusal : JobRefusal) → RefusesBatch request op moment old new refusal → IsCallRefusal rose o old op moment refusal
  batch-refused new refusal (inl full) = subst (IsCallRefusal rose o old op moment) (sym full.0) full.1
  batch-refused new refusal (inr why) = subst (IsCallRefusal rose o old op moment) (sym why.1) (cause-refusal rose o old op moment why.0 (elim why.3 [
    | inl short ↦ inr short
    | inr refused ↦ inl (write-cause rose o old.handle (puts_for request op moment old) moment ready.handle (batch-fine _ _ _) why.0 refused)
  ]))

pub reply-refused : (rose : Type 0) (o : Objects) (old : Queue) (op : JobOp) (moment : ℤ) (P : JobReply → Type 0) (result : Result JobReply JobRefusal) → MatchResult result P (λ refusal. refusal ≡ refusals.NoMemory) → IfErr result (IsCallRefusal rose o old op moment)
reply-refused rose o old op moment P (Ok reply) kept = tt
reply-refused rose o old op moment P (Err refusal) short = subst (IsCallRefusal rose o old op moment) (sym short) tt

-- ---- a job store stays ready
abbrev written-takes : (h : Handle) (ops : List KeyOp) (at : ℤ) → TakesBatches h → TakesBatches (written None h ops at)
written-takes h ops at takes = record { unclosed = takes.unclosed; logs = takes.logs; unlimited = takes.unlimited }

module _ (request : ℕ) (op : JobOp) (moment : ℤ) (old mid : Queue) (ready : IsReady old) where
  pub took-ready : TakesRequest request op moment old mid → IsReady mid
  took-ready (inl kept) = subst IsReady (sym kept.2) ready
  took-ready (inr new) = record { live = new.1.failure; handle = subst TakesBatches (sym new.1.handle.1) (written-takes old.handle (puts_for request op moment old) new.1.handle.0 ready.handle) }

  pub took-epoch : TakesRequest request op moment old mid → mid.handle.epoch ≡ old.handle.epoch
  took-epoch (inl kept) = ap (λ (q : Queue). q.handle.epoch) kept.2
  took-epoch (inr new) = ap (λ (h : Handle). h.epoch) new.1.handle.1

pub refused-ready : (request : ℕ) (op : JobOp) (moment : ℤ) (old new : Queue) (refusal : JobRefusal) → IsReady old → RefusesBatch request op moment old new refusal → new.failure ≡ None → IsReady new
refused-ready request op moment old new refusal ready (inl full) live = subst IsReady (sym full.2) ready
refused-ready request op moment old new refusal ready (inr why) live = record { live = live; handle = subst TakesBatches (sym (ap (λ (q : Queue). q.handle) why.2)) ready.handle }

still-open : (r : Result (Unit {0}) SlateError) → failing_by r ≡ None → flush_result r ≡ None
still-open (Ok done) live = refl
still-open (Err errors.NoMemory) live = refl
still-open (Err (errors.InvalidClockTick last next)) live = refl
still-open (Err e) live = absurd (let no = live in cc)

module _ (before after : Known (List Batch)) (mid new : Queue) (ready : IsReady mid) where
  pub stored-ready : (result : Result (Unit {0}) JobRefusal) → Stores before mid result new after → new.failure ≡ None → IsReady new
  stored-ready result (inl kept) live = subst IsReady (sym kept.2) ready
  stored-ready result (inr f) live =
      let takes = ready.handle in
      let flushed = f.2.flushed (takes.unclosed, takes.logs) in
      let same = flushed.same in
      record {
        live = live;
        handle = record {
          unclosed = ap (λ (h : Handle). h.result) same ∙ still-open f.1 (sym (ap (λ (q : Queue). q.failure) f.3) ∙ live);
          logs = ap (λ (h : Handle). h.keeps_log) same ∙ takes.logs;
          unlimited = ap (λ (h : Handle). h.limit) same ∙ takes.unlimited;
        };
      }

  -- and why a flush refused
  pub store-refused : (o : Objects) (old : Queue) (op : JobOp) (moment : ℤ) → before.objects ≡ Some o → mid.handle.epoch ≡ old.handle.epoch → (result : Result (Unit {0}) JobRefusal) (refusal : JobRefusal) → result ≡ Err refusal →
      Stores before mid result new after → IsCallRefusal (HasRisen before.faults after.faults) o old op moment refusal
  store-refused o old op moment is epoch result refusal at (inl kept) = absurd (let no = sym at ∙ kept.1 in cc)
  store-refused o old op moment is epoch result refusal at (inr f) = by f.1 refl where
    by : (r : Result (Unit {0}) SlateError) → f.1 ≡ r → IsCallRefusal (HasRisen before.faults after.faults) o old op moment refusal
    by (Ok done) ok = absurd (let no = sym at ∙ (f.4 ∙ ap refused_by ok) in cc)
    by (Err e) err =
        let same : refusal ≡ refusal_of e = (let both = sym at ∙ (f.4 ∙ ap refused_by err) in cc) in
        subst (IsCallRefusal (HasRisen before.faults after.faults) o old op moment) (sym same)
        (cause-refusal (HasRisen before.faults after.faults) o old op moment e
        (flush-cause o mid.handle old.handle epoch moment f.0 new.handle before after e is (ready.handle.unclosed, ready.handle.logs)
        (subst (λ r. Flushes (by_objects before.objects) f.0 Wal mid.handle before r new.handle after) err f.2)))
