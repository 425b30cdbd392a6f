-- How a flush, a close, a refresh and a compaction end, from what was stored or read.
use Rattle.std.proofs.Common.{◌≡◌, ℕ, ◌+◌, ◌≤◌, List, [], true, false, Option, Some, None, Result, Ok, Err, refl, sym, subst, ap, ◌∙◌}
use Rattle.std.specs.Option.{IfSome}
use Rattle.std.specs.Result.{result_err}
use Rattle.slate_types.specs.declared.batches.Batch.{Batch}
use Rattle.slate_types.specs.declared.options.FlushType.{FlushType}
use Rattle.slate_types.proofs.Modelled.{modelled_as}
use Rattle.slate_store.specs.Calls.{WhereModelled}
use Rattle.slate_store.specs.Objects.{Objects}
use Rattle.slate_errors.specs.declared.closing.CloseFault.{CloseFault}
use Rattle.slate_errors.specs.declared.endings.Ended.{Ended}
use Rattle.slate_errors.specs.declared.errors.SlateError.{SlateError}
use Rattle.slate_errors.specs.declared.errors.SlateError.TheVariants as errors
use Rattle.slate_errors.specs.Errors.{closed_error}
use Rattle.slate_model.specs.Close.{Closes, closed, closing_flush, ended, fault_again, fault_of, without_tasks}
use Rattle.slate_model.specs.Flush.{Flushes, IsFlushed, Stores, flush_result, has_log_for}
use Rattle.slate_model.specs.Handle.{Handle, kept_handle}
use Rattle.slate_model.specs.Known.{CountsFaults, FaultsRise, Known, Untouched}
use Rattle.slate_model.specs.Refresh.{Compacts, JoinsTables, RefreshAnswer, Refreshes, fenced_result}
use Rattle.slate_model.specs.Stores.{by_objects}
use Rattle.slate_writer.specs.Puts.{StoresBy}
use Rattle.slate_writer.proofs.Modelled.{made_once}
use Rattle.slate_writer.proofs.Storing.{stores-by}

abbrev disabled_answer : Result (Unit {0}) SlateError
disabled_answer = Err errors.WalDisabled

module _ (t : Option Objects) (flush_type : FlushType) (h : Handle) (before after : Known (List Batch)) where
  -- a flush that went to the store
  pub flush_done : (r : Result (Unit {0}) SlateError) (mid new : Handle) (made : ℕ) → h.result ≡ None → has_log_for flush_type h ≡ true → new ≡ record mid { result = flush_result r } → StoresBy kept_handle (by_objects t) flush_type h before r mid after made → Flushes (by_objects t) made flush_type h before r new after
  flush_done r mid new made live log same s =
      subst (λ x. Flushes (by_objects t) made flush_type h before r x after) (sym same)
      (record {
        closed = subst (λ x. IfSome x (λ q. (r ≡ Err (closed_error q)) × (record mid { result = flush_result r } ≡ h) × Untouched made before after)) (sym live) tt;
        disabled = λ open_is none. absurd (let both = sym log ∙ none in cc);
        flushed = λ can. record { same = ap (λ (x : Handle). record x { result = flush_result r }) s.flushed.same; durable = s.flushed.durable; counter = s.flushed.counter; tracker = s.flushed.tracker };
        stored = λ can. stores-by s.stored (record mid { result = flush_result r }) refl refl refl;
      })

  pub flush_closed : (q : Result (Unit {0}) CloseFault) (r : Result (Unit {0}) SlateError) → h.result ≡ Some q → r ≡ Err (closed_error q) → after ≡ before → Flushes (by_objects t) 0 flush_type h before r h after
  flush_closed q r is answer kept =
      record {
        closed = subst (λ x. IfSome x (λ q. (r ≡ Err (closed_error q)) × (h ≡ h) × Untouched 0 before after)) (sym is) (answer, refl, (refl, kept));
        disabled = λ live none. absurd (let both = sym is ∙ live in cc);
        flushed = λ can. absurd (let both = sym is ∙ can.0 in cc);
        stored = λ can. absurd (let both = sym is ∙ can.0 in cc);
      }

  pub flush_disabled : h.result ≡ None → has_log_for flush_type h ≡ false → after ≡ before → Flushes (by_objects t) 0 flush_type h before (Err errors.WalDisabled) h after
  flush_disabled live none kept =
      record {
        closed = subst (λ x. IfSome x (λ q. (disabled_answer ≡ Err (closed_error q)) × (h ≡ h) × Untouched 0 before after)) (sym live) tt;
        disabled = λ open_is no_log. (refl, refl, (refl, kept));
        flushed = λ can. absurd (let both = sym none ∙ can.1 in cc);
        stored = λ can. absurd (let both = sym none ∙ can.1 in cc);
      }

  closing : (r : Result (Unit {0}) SlateError) → closing_flush (fault_of r) ≡ r
  closing (Ok x) = refl
  closing (Err e) = refl

  some_type : (x : FlushType) → Some flush_type ≡ Some x → flush_type ≡ x
  some_type x is = cc

  -- a close whose flush went to the store
  pub close_done : (r : Result (Unit {0}) SlateError) (mid new : Handle) (made : ℕ) → h.result ≡ None → has_log_for flush_type h ≡ true → new ≡ closed mid → StoresBy kept_handle (by_objects t) flush_type h before r mid after made → Closes (by_objects t) made (Some flush_type) h before (ended h.tasks (fault_of r)) new after
  close_done r mid new made live log same s =
      let end_is : Handle = closed mid in
      subst (λ x. Closes (by_objects t) made (Some flush_type) h before (ended h.tasks (fault_of r)) x after) (sym same)
      (record {
        again = subst (λ x. IfSome x (λ q. (ended h.tasks (fault_of r) ≡ ended h.tasks (fault_again q)) × (end_is ≡ without_tasks h) × Untouched made before after)) (sym live) tt;
        unflushed = λ open_is none. absurd (cc);
        disabled = λ x is open_is none. absurd (let both = sym log ∙ (ap (λ y. has_log_for y h) (some_type x is) ∙ none) in cc);
        flushed = λ x is can. (
          refl,
          subst (λ q. IsFlushed kept_handle made q (Some (Ok tt)) [] h end_is) (sym (closing r))
              (record { same = ap closed s.flushed.same; durable = s.flushed.durable; counter = s.flushed.counter; tracker = s.flushed.tracker }),
        );
        stored = λ x is can. subst (λ y. Stores (by_objects t) made y h before (closing_flush (fault_of r)) end_is after) (some_type x is)
            (subst (λ q. Stores (by_objects t) made flush_type h before q end_is after) (sym (closing r)) (stores-by s.stored end_is refl refl refl));
      })

  fault_is : (r : Result (Unit {0}) SlateError) → result_err r ≡ fault_of r
  fault_is (Ok x) = refl
  fault_is (Err e) = refl

  -- the same of its answer
  pub close_answers : (r : Result (Unit {0}) SlateError) (mid new : Handle) (made : ℕ) (asked : Option FlushType) (answer : Ended) (fault : Option SlateError) → asked ≡ Some flush_type → answer ≡ ended mid.tasks fault → fault ≡ result_err r →
      h.result ≡ None → has_log_for flush_type h ≡ true → new ≡ closed mid → StoresBy kept_handle (by_objects t) flush_type h before r mid after made → Closes (by_objects t) made asked h before answer new after
  close_answers r mid new made asked answer fault asked_is answer_is flushed live log same s =
      subst (λ x. Closes (by_objects t) made x h before answer new after) (sym asked_is)
      (subst (λ x. Closes (by_objects t) made (Some flush_type) h before x new after) (sym (answer_is ∙ (ap (λ tasks. ended tasks fault) (ap (λ (x : Handle). x.tasks) s.flushed.same) ∙ ap (ended h.tasks) (flushed ∙ fault_is r))))
      (close_done r mid new made live log same s))

module _ (t : Option Objects) (h : Handle) (before after : Known (List Batch)) where
  -- a refresh that read the latest manifest, or found why not
  pub refresh_done : (r : Result (Unit {0}) SlateError) (mid new : Handle) → h.result ≡ None → mid ≡ record h { view = mid.view } → new ≡ record (kept_handle mid) { result = fenced_result r } →
      CountsFaults before.faults after.faults r → after.objects ≡ before.objects → IfSome before.objects (λ o. RefreshAnswer h o r mid.view) → Refreshes (by_objects t) h before r new after
  refresh_done r mid new live moved same faults kept answer =
      subst (λ x. Refreshes (by_objects t) h before r x after) (sym same)
      (record {
        closed = subst (λ x. IfSome x (λ q. (r ≡ Err (closed_error q)) × (record (kept_handle mid) { result = fenced_result r } ≡ h) × (after ≡ before))) (sym live) tt;
        refreshed = λ open_is. record { faults = faults; kept = kept; same = ap (λ (x : Handle). record (kept_handle x) { result = fenced_result r }) moved; answer = answer };
      })

  pub refresh_closed : (q : Result (Unit {0}) CloseFault) (r : Result (Unit {0}) SlateError) → h.result ≡ Some q → r ≡ Err (closed_error q) → after ≡ before → Refreshes (by_objects t) h before r h after
  refresh_closed q r is answer kept =
      record {
        closed = subst (λ x. IfSome x (λ q. (r ≡ Err (closed_error q)) × (h ≡ h) × (after ≡ before))) (sym is) (answer, refl, kept);
        refreshed = λ live. absurd (let both = sym is ∙ live in cc);
      }

  joins-at : (r : Result (Unit {0}) SlateError) (mid new : Handle) (made : ℕ) (o o' : Objects) → new.view ≡ mid.view → new.counter ≡ mid.counter → JoinsTables (by_objects (Some o)) h o r mid made o' → JoinsTables (by_objects t) h o r (record new { view = mid.view; counter = mid.counter }) made o'
  joins-at r mid new made o o' view counter j = record { answer = j.answer; part = j.part; current = j.current; counted = j.counted; after = j.after }

  -- a compaction that joined the tables, or found why not
  pub compact_done : (r : Result (Unit {0}) SlateError) (mid new : Handle) → h.result ≡ None → mid ≡ record h { counter = mid.counter; view = mid.view } → new ≡ record (kept_handle mid) { result = fenced_result r } →
      FaultsRise before.faults after.faults r → (h.counter ≤ mid.counter) × (mid.counter ≤ h.counter + 1) → WhereModelled (λ o o'. (made : ℕ) × JoinsTables (by_objects (Some o)) h o r mid made o') before.objects after.objects → (made : ℕ) × Compacts (by_objects t) made h before r new after
  compact_done r mid new live moved same faults counter joins =
      let cut : Handle = record (kept_handle mid) { result = fenced_result r } in
      let all = made_once before.objects after.objects (modelled_as (λ o o'. (made : ℕ) × JoinsTables (by_objects t) h o r cut made o') joins (λ o o' j. (j.0, joins-at r mid cut j.0 o o' refl refl j.1))) in
      subst (λ x. (made : ℕ) × Compacts (by_objects t) made h before r x after) (sym same) (
        all.0,
        record {
          closed = subst (λ x. IfSome x (λ q. (r ≡ Err (closed_error q)) × (cut ≡ h) × Untouched all.0 before after)) (sym live) tt;
          compacted = λ open_is. record { faults = faults; same = ap (λ (x : Handle). record (kept_handle x) { result = fenced_result r }) moved; counter = counter; objects = all.1 };
        },
      )

  pub compact_closed : (q : Result (Unit {0}) CloseFault) (r : Result (Unit {0}) SlateError) → h.result ≡ Some q → r ≡ Err (closed_error q) → after ≡ before → Compacts (by_objects t) 0 h before r h after
  compact_closed q r is answer kept =
      record {
        closed = subst (λ x. IfSome x (λ q. (r ≡ Err (closed_error q)) × (h ≡ h) × Untouched 0 before after)) (sym is) (answer, refl, (refl, kept));
        compacted = λ live. absurd (let both = sym is ∙ live in cc);
      }
