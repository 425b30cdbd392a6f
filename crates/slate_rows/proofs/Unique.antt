-- Plain scans of the same batches and range give the same rows and fault.
use Rattle.std.proofs.Common.{◌≡◌, refl, sym, ◌∙◌, ap, ℕ, zero, suc, Bool, true, false, ◌||◌, List, [], ◌∷◌, Contains, Option, arith}
use Rattle.std.specs.List.{AllByRecursion, list_any}
use Rattle.std.specs.List.Sorted.{IsStrictlySortedBy}
use Rattle.std.specs.Str.{bytes_eq}
use Rattle.std.specs.declared.cmp.Ordering.{Ordering}
use Rattle.std.specs.declared.cmp.Ordering.TheVariants.{Less, Equal, Greater}
use Rattle.std.specs.Ordering.{is_eq, ordering_reverse}
use Rattle.std.proofs.lemmas.Bool.{false≢true}
use Rattle.std.proofs.lemmas.Cmp.{nat_list_eq_equiv}
use Rattle.std.proofs.lemmas.Map.Views.{list_any-from_Contains}
use Rattle.std.proofs.lemmas.Slice.Eq.{bytes_eq-Decides}
use Rattle.slate_types.specs.declared.batches.Batch.{Batch}
use Rattle.slate_types.specs.declared.batches.KeyValue.{KeyValue}
use Rattle.slate_types.specs.declared.scan_options.IterationOrder.{IterationOrder}
use Rattle.slate_types.specs.declared.ranges.ByteRange.{ByteRange}
use Rattle.slate_types.specs.declared.read_faults.ReadFault.{ReadFault}
use Rattle.slate_types.specs.Operator.{Merge}
use Rattle.slate_types.specs.Order.{order_cmp, AreInOrder}
use Rattle.slate_reads.specs.Read.{read_at}
use Rattle.slate_rows.specs.Scan.{Rows, rows_of, IsScan}
use Rattle.slate_rows.proofs.Passing.{order_cmp-total}
use Rattle.slate_rows.proofs.Scanning.{bytes_eq-same, apart}
use Rattle.slate_rows.proofs.Steps.{ties-keys}

-- a key before all of a list isn't in it
none-before : (order : IterationOrder) (x : List ℕ) (ks : List (List ℕ)) → AllByRecursion (λ y. order_cmp order x y ≡ Less) ks → list_any (bytes_eq x) ks ≡ false
none-before order x [] before = refl
none-before order x (y ∷ ks) before =
    rw (nat_list_eq_equiv.symm x y ∙ apart order x y before.0) (none-before order x ks before.1)

-- and a key before the first of a sorted list is before all of it
before-all : (order : IterationOrder) (x y : List ℕ) (ks : List (List ℕ)) → order_cmp order x y ≡ Less → AllByRecursion (λ z. order_cmp order y z ≡ Less) ks → AllByRecursion (λ z. order_cmp order x z ≡ Less) ks
before-all order x y [] less rises = tt
before-all order x y (z ∷ ks) less rises = ((order_cmp-total order).trans x y z less rises.0, before-all order x y ks less rises.1)

-- lists in an order that have the same keys are one
same-keys : (order : IterationOrder) (xs ys : List (List ℕ)) → AreInOrder order xs → AreInOrder order ys → ((k : List ℕ) → list_any (bytes_eq k) xs ≡ list_any (bytes_eq k) ys) → xs ≡ ys
unfolding IsStrictlySortedBy
same-keys order [] [] sorted sorted' same = refl
same-keys order [] (y ∷ ys) sorted sorted' same = absurd (false≢true (same y ∙ rw (bytes_eq-same y)))
same-keys order (x ∷ xs) [] sorted sorted' same = absurd (false≢true (sym (same x) ∙ rw (bytes_eq-same x)))
same-keys order (x ∷ xs) (y ∷ ys) sorted sorted' same =
    let first : x ≡ y = heads (order_cmp order x y) refl in
    ap (λ z. z ∷ xs) first ∙ ap (λ zs. y ∷ zs) (same-keys order xs ys sorted.1 sorted'.1 (tails first))
  where
    here : (k : List ℕ) (ks : List (List ℕ)) → (bytes_eq k k || list_any (bytes_eq k) ks) ≡ true
    here k ks = rw (bytes_eq-same k)

    heads : (o : Ordering) → order_cmp order x y ≡ o → x ≡ y
    heads Less is = absurd (false≢true (sym (none-before order x (y ∷ ys) (is, before-all order x y ys is sorted'.0)) ∙ sym (same x) ∙ here x xs))
    heads Greater is =
        let back : order_cmp order y x ≡ Less = (order_cmp-total order).antisymm y x ∙ ap ordering_reverse is in
        absurd (false≢true (sym (none-before order y (x ∷ xs) (back, before-all order y x xs back sorted.0)) ∙ same y ∙ here y ys))
    heads Equal is = (bytes_eq-Decides x y).0 (ties-keys order x y ∙ ap is_eq is)

    tails : x ≡ y → (k : List ℕ) → list_any (bytes_eq k) xs ≡ list_any (bytes_eq k) ys
    tails first k = go (bytes_eq k x) refl where
      go : (t : Bool) → bytes_eq k x ≡ t → list_any (bytes_eq k) xs ≡ list_any (bytes_eq k) ys
      go false other =
          let other' : bytes_eq k y ≡ false = ap (bytes_eq k) (sym first) ∙ other in
          rw (other, other') at (same k)
      go true is =
          let at-x : k ≡ x = (bytes_eq-Decides k x).0 is in
          ap (λ q. list_any (bytes_eq q) xs) at-x ∙ none-before order x xs sorted.0 ∙ sym (none-before order y ys sorted'.0) ∙ ap (λ q. list_any (bytes_eq q) ys) (sym (at-x ∙ first))

contains-any : (ks : List (List ℕ)) (k : List ℕ) → list_any (bytes_eq k) ks ≡ true → Contains ks k
contains-any [] k has = absurd (false≢true has)
contains-any (x ∷ ks) k has = go (bytes_eq k x) refl has (contains-any ks k) where
  go : (t : Bool) → bytes_eq k x ≡ t → (t || list_any (bytes_eq k) ks) ≡ true → (list_any (bytes_eq k) ks ≡ true → Contains ks k) → Contains (x ∷ ks) k
  go true is has later = (zero, omega arith, sym ((bytes_eq-Decides k x).0 is))
  go false other has later = let found = later has in (suc found.0, omega (arith, found.1), found.2)

same-any : (xs ys : List (List ℕ)) (k : List ℕ) → (Contains xs k → Contains ys k) → (Contains ys k → Contains xs k) → list_any (bytes_eq k) xs ≡ list_any (bytes_eq k) ys
same-any xs ys k to back = go (list_any (bytes_eq k) xs) (list_any (bytes_eq k) ys) refl refl where
  go : (s t : Bool) → list_any (bytes_eq k) xs ≡ s → list_any (bytes_eq k) ys ≡ t → s ≡ t
  go true true is is' = refl
  go false false is is' = refl
  go true false is is' = absurd (false≢true (sym is' ∙ list_any-from_Contains nat_list_eq_equiv k ys (to (contains-any xs k is))))
  go false true is is' = absurd (false≢true (sym is ∙ list_any-from_Contains nat_list_eq_equiv k xs (back (contains-any ys k is'))))

-- There is one plain scan.
pub IsScan-unique : (merge : Option Merge) (batches : List Batch) (bound : Option ℕ) (range : ByteRange) (order : IterationOrder) (rows rows' : List KeyValue) (fault fault' : Option ReadFault) →
    IsScan merge batches bound range order rows fault → IsScan merge batches bound range order rows' fault' → (rows ≡ rows') × (fault ≡ fault')
IsScan-unique merge batches bound range order rows rows' fault fault' one other =
    let keys : one.keys ≡ other.keys =
    same-keys order one.keys other.keys one.in_order other.in_order
    (λ k. same-any one.keys other.keys k (λ has. (other.whole k).1 ((one.whole k).0 has)) (λ has. (one.whole k).1 ((other.whole k).0 has))) in
    let same = sym one.taken ∙ ap (rows_of (read_at merge batches bound)) keys ∙ other.taken in
    (ap (λ (r : Rows). r.rows) same, ap (λ (r : Rows). r.fault) same)
