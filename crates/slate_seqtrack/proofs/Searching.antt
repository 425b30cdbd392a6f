-- Binary search in a list that never falls by a total order R.
use Rattle.std.proofs.Common.{◌≡◌, refl, sym, ◌∙◌, ap, ℕ, ◌-◌, ◌<◌, ◌≤◌, Bool, true, false, List, length, get_or, inl, inr, arith}
use Rattle.std.specs.declared.cmp.Ordering.{Ordering}
use Rattle.std.specs.declared.cmp.Ordering.TheVariants.{Less, Equal, Greater}
use Rattle.std.specs.Ordering.{is_eq, is_lt, is_le, is_gt, is_ge, ordering_index, ordering_reverse}
use Rattle.std.specs.Cmp.{IsTotalOrder, tied_itself}
use Rattle.std.specs.List.Sorted.{IsSorted, IsPartitionedBy, IsPartitionPoint, IsNonDecreasingBy}
use Rattle.std.proofs.lemmas.Bool.{cases_lt}
use Rattle.std.proofs.lemmas.List.{get_or_default}
use Rattle.std.proofs.lemmas.List.Sorted.{searchable_from_sorted}
use Rattle.slate_seqtrack.specs.declared.pairs.FindOption.TheVariants.{RoundUp, RoundDown}
use Rattle.slate_seqtrack.specs.Lookup.{AnswersAt}

-- ---- what the three answers of a comparison say of each other
lt-mono : (r s : Ordering) → ordering_index r ≤ ordering_index s → is_lt s ≡ true → is_lt r ≡ true
lt-mono Less s h e = refl
lt-mono Equal Less h e = absurd (omega arith)
lt-mono Equal Equal h e = e
lt-mono Equal Greater h e = e
lt-mono Greater Less h e = absurd (omega arith)
lt-mono Greater Equal h e = e
lt-mono Greater Greater h e = e

le-mono : (r s : Ordering) → ordering_index r ≤ ordering_index s → is_le s ≡ true → is_le r ≡ true
le-mono Less s h e = refl
le-mono Equal s h e = refl
le-mono Greater Less h e = absurd (omega arith)
le-mono Greater Equal h e = absurd (omega arith)
le-mono Greater Greater h e = e

ge-not_lt : (r : Ordering) → is_lt r ≡ false → is_ge r ≡ true
ge-not_lt Less e = cc
ge-not_lt Equal e = refl
ge-not_lt Greater e = refl

not_lt-ge : (r : Ordering) → is_ge r ≡ true → is_lt r ≡ true → ⊥
not_lt-ge Less e f = cc
not_lt-ge Equal e f = cc
not_lt-ge Greater e f = cc

index-not_lt : (r s : Ordering) → ordering_index s ≤ ordering_index r → s ≡ Equal → is_lt r ≡ false
index-not_lt Less s h e = absurd (let i : ordering_index s ≡ 1 = ap ordering_index e in omega arith)
index-not_lt Equal s h e = refl
index-not_lt Greater s h e = refl

equal-by-both : (r s : Ordering) → s ≡ ordering_reverse r → is_lt r ≡ false → is_lt s ≡ false → r ≡ Equal
equal-by-both Less s e h k = cc
equal-by-both Equal s e h k = refl
equal-by-both Greater s e h k = absurd (go s e k) where
  go : (s : Ordering) → s ≡ Less → is_lt s ≡ false → ⊥
  go Less e k = cc
  go Equal e k = cc
  go Greater e k = cc

not_gt-back : (r s : Ordering) → r ≡ ordering_reverse s → is_lt s ≡ false → is_gt r ≡ false
not_gt-back r Less e k = cc
not_gt-back r Equal e k = ap is_gt e
not_gt-back r Greater e k = ap is_gt e

equal-is : (r : Ordering) → is_eq r ≡ true → r ≡ Equal
equal-is Less e = cc
equal-is Equal e = refl
equal-is Greater e = cc

refuted : (b : Bool) → (b ≡ true → ⊥) → b ≡ false
refuted true f = absurd (f refl)
refuted false f = refl

module _ {K : Type 0} {R : K → K → Ordering} (o : IsTotalOrder R) (xs : List K) (up : IsSorted R xs) where
  -- how the elements compare with one key rises along the list
  rises : (x : K) → IsNonDecreasingBy (λ y. ordering_index (R y x)) xs
  rises x = searchable_from_sorted o (λ y. y) xs x up

  pub IsPartitionedBy-lt : (x : K) → IsPartitionedBy (λ y. is_lt (R y x)) xs
  IsPartitionedBy-lt x i j d le lt e = lt-mono _ _ (rises x i j d le lt) e

  pub IsPartitionedBy-le : (x : K) → IsPartitionedBy (λ y. is_le (R y x)) xs
  IsPartitionedBy-le x i j d le lt e = le-mono _ _ (rises x i j d le lt) e

  -- a later element isn't less than an earlier one
  later : (i j : ℕ) (d : K) → i ≤ j → j < length xs → is_lt (R (get_or xs j d) (get_or xs i d)) ≡ false
  later i j d le lt = index-not_lt _ _ (rises (get_or xs i d) i j d le lt) (tied_itself o (get_or xs i d))

  -- rounding up: the first element that isn't below the key
  pub AnswersAt-up : (x : K) (p : ℕ) → p < length xs → IsPartitionPoint (λ y. is_lt (R y x) ≡ true) (λ y. is_lt (R y x) ≡ false) xs p → AnswersAt R RoundUp x xs p
  AnswersAt-up x p within point = record {
    within = within;
    answers = λ d. ge-not_lt _ (point.1 p d (omega arith) within);
    nearest = λ k d h e. later p k d (not_below k d e) h;
    first = λ k d h. refuted _ (λ e. elsewhere k d h (equal-is _ e));
  } where
    not_below : (k : ℕ) (d : K) → is_ge (R (get_or xs k d) x) ≡ true → p ≤ k
    not_below k d e = elim (cases_lt k p) [ inl lt ↦ absurd (not_lt-ge _ e (point.0 k d (omega arith) lt)) | inr le ↦ le ]

    elsewhere : (k : ℕ) (d : K) → k < p → R (get_or xs k d) (get_or xs p d) ≡ Equal → ⊥
    elsewhere k d lt e =
        let same : is_lt (R (get_or xs k d) x) ≡ is_lt (R (get_or xs p d) x) = ap is_lt (o.congr _ _ x e) in
        let here : is_lt (R (get_or xs k d) x) ≡ true = point.0 k d (omega arith) lt in
        let there : is_lt (R (get_or xs p d) x) ≡ false = point.1 p d (omega arith) within in
        cc

  -- rounding down: the first element that is equal to the last one that isn't above the key
  pub AnswersAt-down : (x y : K) (end p : ℕ) → 0 < end → end ≤ length xs → y ≡ get_or xs (end - 1) y →
      IsPartitionPoint (λ z. is_le (R z x) ≡ true) (λ z. is_le (R z x) ≡ false) xs end →
      p ≤ length xs → IsPartitionPoint (λ z. is_lt (R z y) ≡ true) (λ z. is_lt (R z y) ≡ false) xs p → AnswersAt R RoundDown x xs p
  AnswersAt-down x y end p some within y-is upto bound below = record {
    within = omega (arith, early);
    answers = λ d. upto.0 p d (omega arith) (omega (arith, early));
    nearest = λ k d h e. not_gt-back _ _ (o.antisymm _ _) (not_past k d h e);
    first = λ k d h. refuted _ (λ e. elsewhere k d h (equal-is _ e));
  } where
    y-at : (d : K) → get_or xs (end - 1) d ≡ y
    y-at d = get_or_default xs (end - 1) d y (omega arith) ∙ sym y-is

    itself : is_lt (R (get_or xs (end - 1) y) y) ≡ true → ⊥
    itself e =
        let same : is_lt (R (get_or xs (end - 1) y) y) ≡ false = ap (λ z. is_lt (R z y)) (y-at y) ∙ ap is_lt (tied_itself o y) in
        cc

    early : p ≤ end - 1
    early = elim (cases_lt (end - 1) p) [ inl lt ↦ absurd (itself (below.0 (end - 1) y (omega arith) lt)) | inr le ↦ le ]

    -- the element that answers is equal to y
    tied : (d : K) → R (get_or xs p d) y ≡ Equal
    tied d =
        equal-by-both _ (R y (get_or xs p d)) (o.antisymm y (get_or xs p d)) (below.1 p d (omega arith) (omega (arith, early)))
        (ap (λ z. is_lt (R z (get_or xs p d))) (sym (y-at d)) ∙ later p (end - 1) d early (omega arith))

    inside : (k : ℕ) (d : K) → k < length xs → is_le (R (get_or xs k d) x) ≡ true → k ≤ end - 1
    inside k d h e = elim (cases_lt k end) [ inl lt ↦ omega arith | inr le ↦ absurd (let off : is_le (R (get_or xs k d) x) ≡ false = upto.1 k d le h in cc) ]

    not_past : (k : ℕ) (d : K) → k < length xs → is_le (R (get_or xs k d) x) ≡ true → is_lt (R (get_or xs p d) (get_or xs k d)) ≡ false
    not_past k d h e =
        ap is_lt (o.congr _ _ (get_or xs k d) (tied d)) ∙ ap (λ z. is_lt (R z (get_or xs k d))) (sym (y-at d)) ∙ later k (end - 1) d (inside k d h e) (omega arith)

    elsewhere : (k : ℕ) (d : K) → k < p → R (get_or xs k d) (get_or xs p d) ≡ Equal → ⊥
    elsewhere k d lt e =
        let same : is_lt (R (get_or xs k d) y) ≡ is_lt (R (get_or xs p d) y) = ap is_lt (o.congr _ _ y e) in
        let here : is_lt (R (get_or xs k d) y) ≡ true = below.0 k d (omega arith) lt in
        let there : is_lt (R (get_or xs p d) y) ≡ false = ap is_lt (tied d) in
        cc
