-- What a commit is refused for: nothing conflicts without a write, and no write is refused for a conflict.
use Rattle.std.proofs.Common.{◌≡◌, ◌≢◌, refl, sym, ◌∙◌, ap, subst, ℕ, ℤ, Bool, true, false, cond, ◌&&◌, ◌||◌, ◌⊎◌, inl, inr, List, [], ◌∷◌, ◌++◌, Option, Some, None, Result, Ok, Err, arith}
use Rattle.std.specs.Option.{IfSome, option_eq, option_map, option_or}
use Rattle.std.specs.Ordering.{int_eq}
use Rattle.std.specs.Prelude.{nat_lt, not}
use Rattle.std.proofs.lemmas.Bool.{false≢true, le-ltb}
use Rattle.std.proofs.lemmas.List.Folds.{list_any_none}
use Rattle.slate_types.specs.declared.batches.KeyOp.{KeyOp}
use Rattle.slate_transactions.specs.Transaction.{is_newer, is_newer_in}
use Rattle.slate_transactions.specs.Writes.{is_among}
use Rattle.slate_errors.specs.Errors.{closed_error, error_of_fault}
use Rattle.slate_errors.specs.declared.closing.CloseFault.{CloseFault}
use Rattle.slate_errors.specs.declared.closing.CloseFault.TheVariants.{Custom, Fenced, InvalidDBState, LatestTransactionalObjectVersionMissing, ObjectStoreError, TransactionalObjectTimeout, TransactionalObjectVersionExists}
use Rattle.slate_errors.specs.declared.errors.SlateError.{SlateError}
use Rattle.slate_errors.specs.declared.errors.SlateError.TheVariants.{Backpressure, EmptyKey, IncompatibleMergeTtls, InvalidDBState as BadState, InvalidSegmentPrefix, NoMemory, TransactionConflict}
use Rattle.slate_model.specs.declared.answers.Written.{Written}
use Rattle.slate_model.specs.Handle.{CloseResult, Handle, accepted, known_segments}
use Rattle.slate_model.specs.Segments.{Extractor, conflict, empty_refusal, nesting_refusal, ops_refusal, prefixes_of, segment_refusal}
use Rattle.slate_model.specs.Transaction.{CommitRefusal, CommitsByAny, Transaction, is_in_conflict, start_of, writes_of}
use Rattle.slate_model.specs.Unflushed.{limit_refusal, unflushed}
use Rattle.slate_model.specs.Write.{IsOfSegments, WritesByAny, accepted_moment, batch_refusal, clock_refusal, closed_refusal, expiry_refusal, first_expiry, has_empty_key, last_number, merge_expiry, merge_refusal, number_refusal, write_refusal}

-- ---- without a write
neither : (a b : Bool) → b ≡ false → (a && b) ≡ false
neither true b none = none
neither false b none = refl

none-of : (a b c : Bool) → a ≡ false → b ≡ false → c ≡ false → (a || b || c) ≡ false
none-of a b c first second third = rw (first, second) third

pub nothing-conflicts : (t : Transaction) → is_in_conflict t [] ≡ false
nothing-conflicts t =
    let start = start_of t in
    let old : nat_lt start 0 ≡ false = le-ltb start 0 (omega arith) in
    none-of _ _ _
    (list_any_none (λ (o : KeyOp). not (is_among t.unmarked o.key) && is_newer start [] o.key) t.own.ops (λ k o below. neither (not (is_among t.unmarked _)) _ old))
    (list_any_none (is_newer start []) t.read (λ k key below. old))
    (list_any_none (is_newer_in start []) t.scanned (λ k range below. refl))

-- ---- the refusals of a write
abbrev is_conflict : SlateError → Bool
is_conflict TransactionConflict = true
is_conflict _ = false

abbrev names_conflict : Option SlateError → Bool
names_conflict None = false
names_conflict (Some error) = is_conflict error

either : (a b : Option SlateError) → names_conflict a ≡ false → names_conflict b ≡ false → names_conflict (option_or a b) ≡ false
either None b first second = second
either (Some error) b first second = first

by-fault : (fault : CloseFault) → is_conflict (error_of_fault fault) ≡ false
by-fault Fenced = refl
by-fault InvalidDBState = refl
by-fault (ObjectStoreError fault) = refl
by-fault TransactionalObjectVersionExists = refl
by-fault LatestTransactionalObjectVersionMissing = refl
by-fault (TransactionalObjectTimeout tries) = refl
by-fault (Custom number) = refl

by-result : (result : CloseResult) → names_conflict (closed_refusal result) ≡ false
by-result None = refl
by-result (Some (Ok _)) = refl
by-result (Some (Err fault)) = by-fault fault

by-expiry : (key : List ℕ) (previous current : Option (Option ℤ)) → names_conflict (expiry_refusal key previous current) ≡ false
by-expiry key None None = refl
by-expiry key None (Some current) = refl
by-expiry key (Some previous) None = refl
by-expiry key (Some previous) (Some current) = go (option_eq int_eq previous current) where
  go : (same : Bool) → names_conflict (cond same None (Some (IncompatibleMergeTtls key previous current))) ≡ false
  go true = refl
  go false = refl

by-merges : (before ops : List KeyOp) → names_conflict (merge_refusal before ops) ≡ false
by-merges before [] = refl
by-merges before (op ∷ ops) = either _ _ (by-expiry op.key (first_expiry op.key before) (merge_expiry op.op)) (by-merges (before ++ op ∷ []) ops)

by-batch : (ops : List KeyOp) → names_conflict (batch_refusal ops) ≡ false
by-batch [] = refl
by-batch (op ∷ ops) = go (has_empty_key (op ∷ ops)) where
  go : (empty : Bool) → names_conflict (cond empty (Some EmptyKey) (merge_refusal [] (op ∷ ops))) ≡ false
  go true = refl
  go false = by-merges [] (op ∷ ops)

by-limit : (bytes limit : ℕ) → names_conflict (limit_refusal bytes limit) ≡ false
by-limit bytes limit = go (nat_lt bytes limit) where
  go : (below : Bool) → names_conflict (cond below None (Some (Backpressure bytes limit))) ≡ false
  go true = refl
  go false = refl

by-empty : (key : List ℕ) (prefix : Option (List ℕ)) → names_conflict (empty_refusal key prefix) ≡ false
by-empty key None = refl
by-empty key (Some []) = refl
by-empty key (Some (byte ∷ bytes)) = refl

by-nesting : (known : List (List ℕ)) (prefix : Option (List ℕ)) → names_conflict (nesting_refusal known prefix) ≡ false
by-nesting known None = refl
by-nesting known (Some prefix) = go (conflict known prefix) where
  go : (other : Option (List ℕ)) → names_conflict (option_map (λ o. InvalidSegmentPrefix prefix o) other) ≡ false
  go None = refl
  go (Some other) = refl

by-ops : (extractor : Extractor) (known : List (List ℕ)) (ops : List KeyOp) → names_conflict (ops_refusal extractor known ops) ≡ false
by-ops extractor known [] = refl
by-ops extractor known (op ∷ ops) =
    either _ _ (either _ _ (by-empty op.key (extractor.prefix_of op.key)) (by-nesting known (extractor.prefix_of op.key))) (by-ops extractor (known ++ prefixes_of extractor (op ∷ [])) ops)

by-segments : (x : Option Extractor) (known : List (List ℕ)) (ops : List KeyOp) → names_conflict (segment_refusal x known ops) ≡ false
by-segments None known ops = refl
by-segments (Some extractor) known ops = by-ops extractor known ops

by-number : (number : ℕ) → names_conflict (number_refusal number) ≡ false
by-number number = go (nat_lt number last_number) where
  go : (below : Bool) → names_conflict (cond below None (Some BadState)) ≡ false
  go true = refl
  go false = refl

by-clock : (tick moment : ℤ) (second : Option ℤ) (at : Option ℤ) → names_conflict (clock_refusal tick moment second at) ≡ false
by-clock tick moment second None = refl
by-clock tick moment second (Some at) = refl

never-conflict : (x : Option Extractor) (h : Handle) (ops : List KeyOp) (moment : ℤ) (second : Option ℤ) → names_conflict (write_refusal x h ops moment second) ≡ false
never-conflict x h ops moment second =
    either _ _ (by-result h.result)
    (either _ _ (by-batch ops)
    (either _ _ (by-limit (unflushed h) h.limit)
    (either _ _ (by-segments x (known_segments h) ops)
    (either _ _ (by-number (accepted h))
    (by-clock h.tick moment second (accepted_moment h.tick moment second))))))

-- Where there is no conflict, a commit is refused for what refuses the write.
pub commit-refused : (x : Option Extractor) (t : Transaction) (old : Handle) (moment : ℤ) (second : Option ℤ) (error : SlateError) → old.result ≡ None → t.own.ops ≢ [] → is_in_conflict t (writes_of old) ≡ false →
    (error ≡ NoMemory) ⊎ (write_refusal x old t.own.ops moment second ≡ Some error) → CommitRefusal x t old moment second error
commit-refused x t old moment second TransactionConflict alive some none cause = absurd (go cause) where
  go : (TransactionConflict ≡ NoMemory) ⊎ (write_refusal x old t.own.ops moment second ≡ Some TransactionConflict) → ⊥
  go (inl is) = false≢true (ap is_conflict (sym is))
  go (inr is) = false≢true (sym (never-conflict x old t.own.ops moment second) ∙ ap names_conflict is)
commit-refused x t old moment second error alive some none cause =
    (subst (λ (r : CloseResult). IfSome r (λ r. error ≡ closed_error r)) (sym alive) tt, λ _. (some, none, cause))

-- what is known where nothing closed the handle
while-open : (old : Handle) (E : CloseResult → Type 0) → old.result ≡ None → E None → E old.result
while-open old E alive e = subst E (sym alive) e

-- a write that is refused, whatever the extractor answers
refused-by-any : (unmarked : List (List ℕ)) (old new : Handle) (ops : List KeyOp) (moment : ℤ) (second : Option ℤ) (error : SlateError) → old.result ≡ None →
    (error ≡ NoMemory) ⊎ (IsOfSegments error ⊎ (write_refusal None old ops moment second ≡ Some error)) → new ≡ old → WritesByAny unmarked old ops moment second (Err error) new
refused-by-any unmarked old new ops moment second error alive cause same = record {
  closed = while-open old (λ r. IfSome r (λ r. ◌≡◌ {A = Result Written SlateError} (Err error) (Err (closed_error r)))) alive tt;
  accepted = tt;
  refused = (cause, same);
}

-- The same of a commit without a conflict.
pub commit-refused-by-any : (t : Transaction) (old new : Handle) (moment : ℤ) (second : Option ℤ) (error : SlateError) → old.result ≡ None → t.own.ops ≢ [] → is_in_conflict t (writes_of old) ≡ false →
    (error ≡ NoMemory) ⊎ (IsOfSegments error ⊎ (write_refusal None old t.own.ops moment second ≡ Some error)) → new ≡ old → CommitsByAny t old moment second (Err error) new
commit-refused-by-any t old new moment second TransactionConflict alive some none cause same = absurd (go cause) where
  go : (TransactionConflict ≡ NoMemory) ⊎ (IsOfSegments TransactionConflict ⊎ (write_refusal None old t.own.ops moment second ≡ Some TransactionConflict)) → ⊥
  go (inl is) = false≢true (ap is_conflict (sym is))
  go (inr (inl of)) = of
  go (inr (inr is)) = false≢true (sym (never-conflict None old t.own.ops moment second) ∙ ap names_conflict is)
commit-refused-by-any t old new moment second error alive some none cause same =
    (while-open old (λ r. IfSome r (λ r. error ≡ closed_error r)) alive tt, λ _. (some, none, refused-by-any t.unmarked old new t.own.ops moment second error alive cause same), same)
