-- A flush refuses no moment.
use Rattle.std.proofs.Common.{◌≡◌, ℕ, ℤ, Bool, true, false, Some, None, Result, Err, refl, sym, subst, ◌∙◌}
use Rattle.std.specs.Option.{IfSome}
use Rattle.slate_types.specs.declared.options.FlushType.TheVariants.{Wal}
use Rattle.slate_errors.specs.Errors.{closed_error}
use Rattle.slate_errors.specs.declared.errors.SlateError.{SlateError}
use Rattle.slate_errors.specs.declared.errors.SlateError.TheVariants as errors
use Rattle.slate_model.specs.Flush.{CanFlush, Flushes}
use Rattle.slate_model.specs.Handle.{CloseResult, Handle}
use Rattle.slate_model.specs.Knowledge.{Knowledge}
use Rattle.slate_model.specs.Known.{Known, Untouched}
use Rattle.slate_writer.specs.Kinds.{IsOfFlush}
use Rattle.slate_jobs.specs.declared.failures.Failure.{Failure}
use Rattle.slate_jobs.specs.declared.failures.Failure.TheVariants.{Fault, Backpressure}
use Rattle.slate_jobs.specs.declared.jobs.JobRefusal.TheVariants as refusals
use Rattle.slate_jobs.specs.Queue.{error_of, failure_of, refusal_of}
use Rattle.slate_jobs.proofs.Calling.{never-closed, never-fault}

never-failure : (failure : Failure) (previous next : ℤ) → error_of failure ≡ errors.InvalidClockTick previous next → ⊥
never-failure (Fault fault) previous next is = never-fault fault previous next is
never-failure (Backpressure unflushed limit) previous next is = cc

module _ {L : Type 0} (k : Knowledge L) (made : ℕ) (h h' : Handle) (before after : Known L) (e : SlateError)
    (f : Flushes k made Wal h before (Err e) h' after) (kind : CanFlush Wal h → IsOfFlush e) (previous next : ℤ) where
  no-tick : (a b : ℤ) → e ≡ errors.InvalidClockTick a b → ⊥
  no-tick a b is = by-result h.result refl f.closed where
    by-log : h.result ≡ None → (keeps : Bool) → h.keeps_log ≡ keeps → ⊥
    by-log live true logs = subst IsOfFlush is (kind (live, logs))
    by-log live false logs = let off = (f.disabled live logs).0 in let same : e ≡ errors.WalDisabled = cc in let both = sym is ∙ same in absurd (let no = both in cc)

    by-result : (r : CloseResult) → h.result ≡ r → IfSome r (λ x. (let answer : Result (Unit {0}) SlateError = Err e in answer ≡ Err (closed_error x)) × (h' ≡ h) × Untouched made before after) → ⊥
    by-result None live closed = by-log live h.keeps_log refl
    by-result (Some r) ended closed = let all = closed.0 in let same : e ≡ closed_error r = cc in never-closed r a b (sym same ∙ is)

  pub never-tick : refusal_of e ≡ refusals.Writer (errors.InvalidClockTick previous next) → ⊥
  never-tick is = by e refl is where
    by : (x : SlateError) → e ≡ x → refusal_of x ≡ refusals.Writer (errors.InvalidClockTick previous next) → ⊥
    by errors.NoMemory at is = cc
    by (errors.InvalidClockTick a b) at is = no-tick a b at
    by x at is = never-failure (failure_of x) previous next (let all = is in cc)
