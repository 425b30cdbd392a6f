-- The cases of a flush, a close, a write and a poll.
use Rattle.std.proofs.Common.{◌≡◌, ℕ, Bool, true, false, Option, Some, None, Result, Ok, Err, refl, sym, subst, []}
use Rattle.std.specs.Option.{IfSome}
use Rattle.slate_types.specs.declared.options.FlushType.{FlushType}
use Rattle.slate_errors.specs.declared.closing.CloseFault.{CloseFault}
use Rattle.slate_errors.specs.declared.endings.Ended.{Ended}
use Rattle.slate_errors.specs.declared.errors.SlateError.{SlateError}
use Rattle.slate_errors.specs.declared.errors.SlateError.TheVariants as errors
use Rattle.slate_errors.specs.Errors.{closed_error}
use Rattle.slate_model.specs.Close.{Closes, closed, closing_flush, ended, fault_again, without_tasks}
use Rattle.slate_model.specs.Flush.{CanFlush, Flushes, IsFlushed, Stores, flush_result, has_log_for}
use Rattle.slate_model.specs.Handle.{Handle}
use Rattle.slate_model.specs.Knowledge.{Knowledge}
use Rattle.slate_model.specs.Known.{Known, Untouched}
use Rattle.slate_model.specs.Refresh.{Compacts, JoinsLatest, ReadsLatest, Refreshes}

-- a fact by whether something is closed, and by whether a test holds
pub by-option : {A : Type 0} {G : Type 0} (o : Option A) → (o ≡ None → G) → ((a : A) → o ≡ Some a → G) → G
by-option None f g = f refl
by-option (Some a) f g = g a refl

pub by-bool : {G : Type 0} (b : Bool) → (b ≡ true → G) → (b ≡ false → G) → G
by-bool true f g = f refl
by-bool false f g = g refl

pub some-of : {A : Type 0} (P : A → Type 0) (o : Option A) (a : A) → o ≡ Some a → IfSome o P → P a
some-of {A} P o a is h = subst (λ x. IfSome x P) is h

pub is-none : {A : Type 0} (P : A → Type 0) (o : Option A) → o ≡ None → IfSome o P
is-none {A} P o none = subst (λ x. IfSome x P) (sym none) tt

module _ {L : Type 0} (k : Knowledge L) (made : ℕ) (h : Handle) (before : Known L) (h' : Handle) (after : Known L) (G : Type 0) where
  -- a flush is refused by what closed the handle, or since it keeps no log, or goes to the store
  pub flush-by : (t : FlushType) (r : Result (Unit {0}) SlateError) → Flushes k made t h before r h' after
      → ((q : Result (Unit {0}) CloseFault) → h.result ≡ Some q → r ≡ Err (closed_error q) → h' ≡ h → Untouched made before after → G)
      → (h.result ≡ None → has_log_for t h ≡ false → r ≡ Err errors.WalDisabled → h' ≡ h → Untouched made before after → G)
      → (CanFlush t h → IsFlushed k.keep made r (flush_result r) h.tasks h h' → Stores k made t h before r h' after → G) → G
  flush-by t r f when_closed when_disabled when_stored =
      by-option h.result
      (λ live. by-bool (has_log_for t h)
      (λ keeps. when_stored (live, keeps) (f.flushed (live, keeps)) (f.stored (live, keeps)))
      (λ without. let d = f.disabled live without in when_disabled live without d.0 d.1 d.2))
      (λ q is. let c = some-of (λ q. (r ≡ Err (closed_error q)) × (h' ≡ h) × Untouched made before after) h.result q is f.closed in when_closed q is c.0 c.1 c.2)

  -- a close finds the handle closed, or flushes nothing, or the handle keeps no log, or goes to the store
  pub close-by : (flush_type : Option FlushType) (e : Ended) → Closes k made flush_type h before e h' after
      → ((q : Result (Unit {0}) CloseFault) → h.result ≡ Some q → e ≡ ended h.tasks (fault_again q) → h' ≡ without_tasks h → Untouched made before after → G)
      → (h.result ≡ None → flush_type ≡ None → e ≡ ended h.tasks None → h' ≡ closed h → Untouched made before after → G)
      → ((t : FlushType) → h.result ≡ None → flush_type ≡ Some t → has_log_for t h ≡ false → e ≡ ended h.tasks (Some errors.WalDisabled) → h' ≡ closed h → Untouched made before after → G)
      → ((t : FlushType) → CanFlush t h → flush_type ≡ Some t → e ≡ ended h.tasks e.fault → IsFlushed k.keep made (closing_flush e.fault) (Some (Ok tt)) [] h h' → Stores k made t h before (closing_flush e.fault) h' after → G) → G
  close-by flush_type e c when_closed when_unflushed when_disabled when_stored =
      by-option h.result
      (λ live. by-option flush_type
      (λ none. let u = c.unflushed live none in when_unflushed live none u.0 u.1 u.2)
      (λ t is.
      by-bool (has_log_for t h)
      (λ keeps. let f = c.flushed t is (live, keeps) in when_stored t (live, keeps) is f.0 f.1 (c.stored t is (live, keeps)))
      (λ without. let d = c.disabled t is live without in when_disabled t live is without d.0 d.1 d.2)))
      (λ q is. let a = some-of (λ q. (e ≡ ended h.tasks (fault_again q)) × (h' ≡ without_tasks h) × Untouched made before after) h.result q is c.again in when_closed q is a.0 a.1 a.2)

  -- a refresh is refused by what closed the handle, or reads the latest manifest
  pub refresh-by : (r : Result (Unit {0}) SlateError) → Refreshes k h before r h' after
      → ((q : Result (Unit {0}) CloseFault) → h.result ≡ Some q → r ≡ Err (closed_error q) → h' ≡ h → after ≡ before → G)
      → (h.result ≡ None → ReadsLatest k h before r h' after → G) → G
  refresh-by r f when_closed when_read =
      by-option h.result (λ live. when_read live (f.refreshed live))
      (λ q is. let c = some-of (λ q. (r ≡ Err (closed_error q)) × (h' ≡ h) × (after ≡ before)) h.result q is f.closed in when_closed q is c.0 c.1 c.2)

  -- so is a compaction, or it joins the tables
  pub compact-by : (r : Result (Unit {0}) SlateError) → Compacts k made h before r h' after
      → ((q : Result (Unit {0}) CloseFault) → h.result ≡ Some q → r ≡ Err (closed_error q) → h' ≡ h → Untouched made before after → G)
      → (h.result ≡ None → JoinsLatest k made h before r h' after → G) → G
  compact-by r f when_closed when_joined =
      by-option h.result (λ live. when_joined live (f.compacted live))
      (λ q is. let c = some-of (λ q. (r ≡ Err (closed_error q)) × (h' ≡ h) × Untouched made before after) h.result q is f.closed in when_closed q is c.0 c.1 c.2)

-- what holds of what is there, where that follows from something else that does
pub if-some : {X : Type 0} (o : Option X) (P Q : X → Type 0) → ((x : X) → P x → Q x) → IfSome o P → IfSome o Q
if-some None P Q f held = tt
if-some (Some x) P Q f held = f x held
