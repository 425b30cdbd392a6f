-- The entries of a table keep tracing its operations as one more comes, as the last one goes, and as the first ones go.
use Rattle.std.proofs.Common.{◌≡◌, inl, inr, ◌⊎◌, refl, sym, ◌∙◌, ap, subst, ℕ, suc, ◌+◌, ◌-◌, ◌<◌, ◌≤◌, Bool, true, false, cond, List, [], ◌∷◌, ◌++◌, length, drop, Option, Some, None, arith, length-append}
use Rattle.std.specs.Str.{bytes_eq}
use Rattle.std.proofs.lemmas.Bool.{cases_lt}
use Rattle.std.proofs.lemmas.List.{get_or_append_left, get_or_push, get_or-drop, length_push, length-drop}
use Rattle.std.proofs.lemmas.Slice.Eq.{bytes_eq-Decides}
use Rattle.slate_types.specs.declared.batches.Batch.{Batch}
use Rattle.slate_types.specs.declared.batches.KeyOp.{KeyOp}
use Rattle.slate_reads.specs.declared.tables.Entry.{Entry}
use Rattle.slate_reads.specs.Run.{Run, IsAt, Stands}
use Rattle.slate_reads.specs.Index.{IsOfOp, IsFrom, IsTraced, Forgets}

-- ---- what is at an index
pub IsAt-same : {A : Type 0} (list : List A) (index : ℕ) (x y : A) → IsAt list index x → IsAt list index y → x ≡ y
IsAt-same list index x y at other = sym (at.is x) ∙ other.is x

pub IsAt-longer : {A : Type 0} (list : List A) (last : A) (index : ℕ) (x : A) → IsAt list index x → IsAt (list ++ last ∷ []) index x
IsAt-longer list last index x at = record {
  within = let l = length_push list last in let w = at.within in omega arith;
  is = λ d. get_or_append_left list (last ∷ []) d index at.within ∙ at.is d;
}

pub IsAt-front : {A : Type 0} (list : List A) (last : A) (index : ℕ) (x : A) → index < length list → IsAt (list ++ last ∷ []) index x → IsAt list index x
IsAt-front list last index x lt at = record { within = lt; is = λ d. sym (get_or_append_left list (last ∷ []) d index lt) ∙ at.is d }

pub IsAt-last : {A : Type 0} (list : List A) (last : A) (index : ℕ) → index ≡ length list → IsAt (list ++ last ∷ []) index last
IsAt-last list last index is = record { within = let l = length_push list last in omega arith; is = λ d. get_or_push list last d index (sym is) }

IsAt-drop : {A : Type 0} (count : ℕ) (list : List A) (index : ℕ) (x : A) → IsAt (drop count list) index x → IsAt list (count + index) x
IsAt-drop count list index x at = record {
  within = let l = length-drop count list in let w = at.within in omega arith;
  is = λ d. sym (get_or-drop count list index d) ∙ at.is d;
}

IsAt-back : {A : Type 0} (front list : List A) (index : ℕ) (x : A) → IsAt list index x → IsAt (front ++ list) (length front + index) x
IsAt-back [] list index x at = let e : 0 + index ≡ index = omega arith in rw e at
IsAt-back (y ∷ front) list index x at =
    let later = IsAt-back front list index x at in
    let e : length (y ∷ front) + index ≡ suc (length front + index) = omega arith in
    rw e (record { within = let w = later.within in omega arith; is = later.is })

-- what is at an index of a list with one more is in the list, or that one
at_front_or_last : {A : Type 0} (list : List A) (last : A) (index : ℕ) (x : A) → IsAt (list ++ last ∷ []) index x → (IsAt list index x) ⊎ ((index ≡ length list) × (x ≡ last))
at_front_or_last list last index x at = go (cases_lt index (length list)) where
  go : (index < length list) ⊎ (length list ≤ index) → (IsAt list index x) ⊎ ((index ≡ length list) × (x ≡ last))
  go (inl lt) = inl (IsAt-front list last index x lt at)
  go (inr le) =
      let is : index ≡ length list = let w = at.within in let l = length_push list last in omega arith in
      inr (is, IsAt-same (list ++ last ∷ []) index x last at (IsAt-last list last index is))

-- ---- one more operation
IsOfOp-more : (batches more : Run Batch) (entry : Entry) (key_op : KeyOp) → ((place : ℕ) (batch : Batch) → Stands batches place batch → Stands more place batch) → IsOfOp batches entry key_op → IsOfOp more entry key_op
IsOfOp-more batches more entry key_op in_batches of_op = record { batch = of_op.batch; batch_at = in_batches entry.batch of_op.batch of_op.batch_at; op_at = of_op.op_at }

-- the same batches, entries and places
pub IsTraced-same : (batches new : Run Batch) (entries others : Run Entry) (ops same : List KeyOp) (latest newer : List ℕ → Option ℕ) → ((place : ℕ) (batch : Batch) → Stands batches place batch → Stands new place batch) →
    others.start ≡ entries.start → others.items ≡ entries.items → same ≡ ops → ((key : List ℕ) → newer key ≡ latest key) → IsTraced batches entries ops latest → IsTraced new others same newer
IsTraced-same batches new entries others ops same latest newer in_batches start items ops-are is traced = rw ops-are (record {
  each = rw items traced.each;
  of_op = λ index entry key_op at op_at. IsOfOp-more batches new entry key_op in_batches (traced.of_op index entry key_op (subst (λ xs. IsAt xs index entry) items at) op_at);
  newest = λ index key_op op_at. rw (start, is key_op.key) (traced.newest index key_op op_at);
  nearest = λ index later key_op next entry lt op_at next_at at same. rw start (traced.nearest index later key_op next entry lt op_at next_at (subst (λ xs. IsAt xs later entry) items at) same);
})

-- at this place of a key or after it, once it leads to the end
from-push : (is_key : Bool) (place end : ℕ) (old new : Option ℕ) → new ≡ cond is_key (Some end) old → place ≤ end → IsFrom place old → IsFrom place new
from-push true place end old new is le from = rw is le
from-push false place end old new is le from = rw is from

pub IsTraced-push : (batches : Run Batch) (entries longer : Run Entry) (ops : List KeyOp) (latest new : List ℕ → Option ℕ) (n i : ℕ) (b : Batch) (o : KeyOp) →
    Stands batches n b → IsAt b.ops i o → longer.start ≡ entries.start → longer.items ≡ entries.items ++ record { batch = n; op = i; previous = latest o.key } ∷ [] →
    ((other : List ℕ) → new other ≡ cond (bytes_eq o.key other) (Some (entries.start + length entries.items)) (latest other)) →
    IsTraced batches entries ops latest → IsTraced batches longer (ops ++ o ∷ []) new
IsTraced-push batches entries longer ops latest new n i b o batch_at op_at start longer-is new-is traced = record {
  each = rw longer-is (length_push entries.items last ∙ ap (λ k. k + 1) traced.each ∙ sym (length_push ops o));
  of_op = λ index entry key_op at is. of_op index entry key_op (subst (λ items. IsAt items index entry) longer-is at) (at_front_or_last ops o index key_op is);
  newest = λ index key_op is. subst (λ s. IsFrom (s + index) (new key_op.key)) (sym start) (newest index key_op (at_front_or_last ops o index key_op is));
  nearest = λ index later key_op next entry lt is next_is at same.
      subst (λ s. IsFrom (s + index) entry.previous) (sym start) (nearest index later key_op next entry lt is (at_front_or_last ops o later next next_is) (subst (λ items. IsAt items later entry) longer-is at) same);
} where
  last : Entry
  last = record { batch = n; op = i; previous = latest o.key }

  of_op : (index : ℕ) (entry : Entry) (key_op : KeyOp) → IsAt (entries.items ++ last ∷ []) index entry → (IsAt ops index key_op) ⊎ ((index ≡ length ops) × (key_op ≡ o)) → IsOfOp batches entry key_op
  of_op index entry key_op at (inl is) = traced.of_op index entry key_op (IsAt-front entries.items last index entry (let w = is.within in let l = traced.each in omega arith) at) is
  of_op index entry key_op at (inr (is, same)) =
      let entry-is : entry ≡ last = IsAt-same (entries.items ++ last ∷ []) index entry last at (IsAt-last entries.items last index (is ∙ sym traced.each)) in
      rw (entry-is, same) (record { batch = b; batch_at = batch_at; op_at = op_at })

  newest : (index : ℕ) (key_op : KeyOp) → (IsAt ops index key_op) ⊎ ((index ≡ length ops) × (key_op ≡ o)) → IsFrom (entries.start + index) (new key_op.key)
  newest index key_op (inl is) =
      from-push (bytes_eq o.key key_op.key) (entries.start + index) (entries.start + length entries.items) (latest key_op.key) (new key_op.key) (new-is key_op.key)
      (let w = is.within in let l = traced.each in omega arith) (traced.newest index key_op is)
  newest index key_op (inr (is, same)) =
      let new_is : new key_op.key ≡ Some (entries.start + length entries.items) =
      new-is key_op.key ∙ ap (λ t. cond t (Some (entries.start + length entries.items)) (latest key_op.key)) ((bytes_eq-Decides o.key key_op.key).1 (ap (λ x. x.key) (sym same))) in
      rw new_is (let l = traced.each in omega arith)

  nearest : (index later : ℕ) (key_op next : KeyOp) (entry : Entry) → index < later → IsAt (ops ++ o ∷ []) index key_op → (IsAt ops later next) ⊎ ((later ≡ length ops) × (next ≡ o)) →
      IsAt (entries.items ++ last ∷ []) later entry → key_op.key ≡ next.key → IsFrom (entries.start + index) entry.previous
  nearest index later key_op next entry lt is (inl next_is) at same =
      traced.nearest index later key_op next entry lt (IsAt-front ops o index key_op (let w = next_is.within in omega arith) is) next_is
      (IsAt-front entries.items last later entry (let w = next_is.within in let l = traced.each in omega arith) at) same
  nearest index later key_op next entry lt is (inr (later-is, next-is)) at same =
      let entry-is : entry ≡ last = IsAt-same (entries.items ++ last ∷ []) later entry last at (IsAt-last entries.items last later (later-is ∙ sym traced.each)) in
      let key_is : key_op.key ≡ o.key = same ∙ ap (λ x. x.key) next-is in
      rw entry-is (subst (λ key. IsFrom (entries.start + index) (latest key)) key_is (traced.newest index key_op (IsAt-front ops o index key_op (omega arith) is)))

-- ---- one operation less
pub IsTraced-pop : (batches : Run Batch) (entries longer : Run Entry) (ops : List KeyOp) (newer latest : List ℕ → Option ℕ) (e : Entry) (o : KeyOp) →
    longer.start ≡ entries.start → longer.items ≡ entries.items ++ e ∷ [] → ((other : List ℕ) → latest other ≡ cond (bytes_eq o.key other) e.previous (newer other)) →
    IsTraced batches longer (ops ++ o ∷ []) newer → IsTraced batches entries ops latest
IsTraced-pop batches entries longer ops newer latest e o start longer-is latest-is traced = record {
  each = each;
  of_op = λ index entry key_op at is. traced.of_op index entry key_op (longer_at index entry at) (IsAt-longer ops o index key_op is);
  newest = λ index key_op is. newest index key_op is (bytes_eq o.key key_op.key) refl;
  nearest = λ index later key_op next entry lt is next_is at same.
      subst (λ s. IsFrom (s + index) entry.previous) start (traced.nearest index later key_op next entry lt (IsAt-longer ops o index key_op is) (IsAt-longer ops o later next next_is) (longer_at later entry at) same);
} where
  each : length entries.items ≡ length ops
  each = let all = traced.each in let more = ap length longer-is in let l = length_push entries.items e in let m = length_push ops o in omega arith

  longer_at : (index : ℕ) (entry : Entry) → IsAt entries.items index entry → IsAt longer.items index entry
  longer_at index entry at = subst (λ items. IsAt items index entry) (sym longer-is) (IsAt-longer entries.items e index entry at)

  newest : (index : ℕ) (key_op : KeyOp) → IsAt ops index key_op → (is_key : Bool) → bytes_eq o.key key_op.key ≡ is_key → IsFrom (entries.start + index) (latest key_op.key)
  newest index key_op is true same =
      let latest_is : latest key_op.key ≡ e.previous = latest-is key_op.key ∙ ap (λ t. cond t e.previous (newer key_op.key)) same in
      let at : IsAt longer.items (length ops) e = subst (λ items. IsAt items (length ops) e) (sym longer-is) (IsAt-last entries.items e (length ops) (sym each)) in
      rw latest_is (subst (λ s. IsFrom (s + index) e.previous) start (traced.nearest index (length ops) key_op o e is.within (IsAt-longer ops o index key_op is) (IsAt-last ops o (length ops) refl) at (sym ((bytes_eq-Decides o.key key_op.key).0 same))))
  newest index key_op is false other =
      let latest_is : latest key_op.key ≡ newer key_op.key = latest-is key_op.key ∙ ap (λ t. cond t e.previous (newer key_op.key)) other in
      rw latest_is (subst (λ s. IsFrom (s + index) (newer key_op.key)) start (traced.newest index key_op (IsAt-longer ops o index key_op is)))

-- ---- the first operations go
from-forget : (end place : ℕ) (old new : Option ℕ) → end ≤ place → Forgets end old new → IsFrom place old → IsFrom place new
from-forget end place None new le gone from = absurd from
from-forget end place (Some q) None le gone from = absurd (let g = gone in let f = from in omega arith)
from-forget end place (Some q) (Some r) le same from = let s = same in let f = from in omega arith

pub IsTraced-drop : (batches after : Run Batch) (entries left : Run Entry) (first ops : List KeyOp) (latest new : List ℕ → Option ℕ) → left.start ≡ entries.start + length first → left.items ≡ drop (length first) entries.items →
    ((place : ℕ) (e : Entry) (b : Batch) → entries.start + length first ≤ place → Stands entries place e → Stands batches e.batch b → Stands after e.batch b) →
    ((key : List ℕ) → Forgets left.start (latest key) (new key)) → IsTraced batches entries (first ++ ops) latest → IsTraced after left ops new
IsTraced-drop batches after entries left first ops latest new start items later forgets traced = record {
  each = let all = traced.each in let l = length-append first ops in let d = length-drop (length first) entries.items in let i = ap length items in omega arith;
  of_op = λ index entry key_op at is.
      let there = entry_at index entry at in
      let of_op = traced.of_op (length first + index) entry key_op there (IsAt-back first ops index key_op is) in
      let place : entries.start + (length first + index) - entries.start ≡ length first + index = omega arith in
      record {
        batch = of_op.batch;
        batch_at = later (entries.start + (length first + index)) entry of_op.batch (omega arith) (record { from = omega arith; at = rw place there }) of_op.batch_at;
        op_at = of_op.op_at;
      };
  newest = λ index key_op is.
      from-forget left.start (left.start + index) (latest key_op.key) (new key_op.key) (omega arith) (forgets key_op.key)
      (subst (λ p. IsFrom p (latest key_op.key)) (shifted index) (traced.newest (length first + index) key_op (IsAt-back first ops index key_op is)));
  nearest = λ index late key_op next entry lt is next_is at same.
      subst (λ p. IsFrom p entry.previous) (shifted index)
      (traced.nearest (length first + index) (length first + late) key_op next entry (omega arith) (IsAt-back first ops index key_op is) (IsAt-back first ops late next next_is) (entry_at late entry at) same);
} where
  shifted : (index : ℕ) → entries.start + (length first + index) ≡ left.start + index
  shifted index = omega arith

  entry_at : (index : ℕ) (entry : Entry) → IsAt left.items index entry → IsAt entries.items (length first + index) entry
  entry_at index entry at = IsAt-drop (length first) entries.items index entry (subst (λ xs. IsAt xs index entry) items at)
