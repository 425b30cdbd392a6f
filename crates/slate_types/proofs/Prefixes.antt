-- A range behind a prefix holds the prefix with each suffix in the range, and no other key.
use Rattle.std.proofs.Common.{◌≡◌, ◌≢◌, refl, sym, ◌∙◌, ap, ℕ, ◌+◌, ◌<◌, inl, inr, Bool, true, false, cond, nat_lt, ◌==◌, ◌&&◌, ◌↔◌, IsTrue, List, [], ◌∷◌, ◌++◌, Option, Some, None, arith}
use Rattle.std.specs.List.{AllByRecursion}
use Rattle.std.specs.declared.cmp.Ordering.{Ordering}
use Rattle.std.specs.declared.cmp.Ordering.TheVariants.{Less, Equal, Greater}
use Rattle.std.specs.Ordering.{nat_cmp, is_lt, is_le, ordering_then, ordering_reverse}
use Rattle.std.proofs.lemmas.Bool.{false≢true, cases_order, eq-eqb, eqb-true, lt-ltb, and_right}
use Rattle.std.proofs.lemmas.Bool.Decides.{nat_tests}
use Rattle.std.proofs.lemmas.Cmp.{nat_list_cmp_total}
use Rattle.std.proofs.lemmas.List.{append-nil}
use Rattle.std.proofs.lemmas.List.Elements.{recursion_from_All}
use Rattle.slate_types.specs.declared.ranges.ByteRange.{ByteRange}
use Rattle.slate_types.specs.declared.ranges.KeyBound.{KeyBound}
use Rattle.slate_types.specs.declared.ranges.KeyBound.TheVariants.{Unbounded, Included, Excluded}
use Rattle.slate_types.specs.Range.{key_cmp, is_above, is_below, contains, AreBytes, raised, end_of_prefix, below, low_with_prefix, high_with_prefix, with_prefix}

-- ---- two bytes
pub nat_cmp-same : (x : ℕ) → nat_cmp x x ≡ Equal
nat_cmp-same x = grind (arith, nat_tests)

pub nat_cmp-less : (x y : ℕ) → x < y → nat_cmp x y ≡ Less
nat_cmp-less x y lt = grind (arith, nat_tests)

pub nat_cmp-greater : (x y : ℕ) → y < x → nat_cmp x y ≡ Greater
nat_cmp-greater x y lt = grind (arith, nat_tests)

-- ---- the end of a prefix, one byte on
pub end_of_prefix_push : (xs : List ℕ) (b : ℕ) → end_of_prefix (xs ++ b ∷ []) ≡ cond (nat_lt b 255) (Some (xs ++ (b + 1) ∷ [])) (end_of_prefix xs)
end_of_prefix_push [] b = refl
end_of_prefix_push (x ∷ xs) b =
    rw (end_of_prefix_push xs b)
    (elim (nat_lt b 255) as (λ t. raised x (cond t (Some (xs ++ (b + 1) ∷ [])) (end_of_prefix xs)) ≡ cond t (Some (x ∷ (xs ++ (b + 1) ∷ []))) (raised x (end_of_prefix xs))) [ true ↦ refl | false ↦ refl ])

-- ---- what follows a prefix
suffix_of : List ℕ → List ℕ → Option (List ℕ)
suffix_of [] key = Some key
suffix_of (p ∷ ps) [] = None
suffix_of (p ∷ ps) (k ∷ ks) = cond (p == k) (suffix_of ps ks) None

suffix_of-append : (p s : List ℕ) → suffix_of p (p ++ s) ≡ Some s
unfolding suffix_of
suffix_of-append [] s = refl
suffix_of-append (x ∷ p) s = rw (eq-eqb x x refl) (suffix_of-append p s)

append-suffix_of : (p k s : List ℕ) → suffix_of p k ≡ Some s → k ≡ p ++ s
unfolding suffix_of
append-suffix_of [] k s h = cc
append-suffix_of (x ∷ p) [] s h = cc
append-suffix_of (x ∷ p) (y ∷ k) s h = go (x == y) refl h (append-suffix_of p k s) where
  go : (b : Bool) → (x == y) ≡ b → cond b (suffix_of p k) None ≡ Some s → (suffix_of p k ≡ Some s → k ≡ p ++ s) → y ∷ k ≡ x ∷ (p ++ s)
  go true same h rest = let e : x ≡ y = eqb-true x y same in let r : k ≡ p ++ s = rest h in cc
  go false other h rest = cc

-- ---- the order behind a prefix
key_cmp-append : (p a b : List ℕ) → key_cmp (p ++ a) (p ++ b) ≡ key_cmp a b
key_cmp-append [] a b = refl
key_cmp-append (x ∷ p) a b = rw (nat_cmp-same x) (key_cmp-append p a b)

-- at a key without the prefix, what follows the prefix doesn't count
key_cmp-off : (p a k : List ℕ) → suffix_of p k ≡ None → key_cmp (p ++ a) k ≡ key_cmp p k
unfolding suffix_of
key_cmp-off [] a k off = cc
key_cmp-off (x ∷ p) a [] off = refl
key_cmp-off (x ∷ p) a (y ∷ k) off =
    elim (cases_order x y) as (λ _. key_cmp (x ∷ (p ++ a)) (y ∷ k) ≡ key_cmp (x ∷ p) (y ∷ k)) [
      | inl same ↦ ap (ordering_then (nat_cmp x y)) (key_cmp-off p a k (rw (eq-eqb x y same) at off))
      | inr other ↦ elim other [ inl lt ↦ rw (nat_cmp-less x y lt) | inr gt ↦ rw (nat_cmp-greater x y gt) ]
    ]

-- such a key isn't the prefix
key_cmp-apart : (p k : List ℕ) → suffix_of p k ≡ None → key_cmp p k ≢ Equal
unfolding suffix_of
key_cmp-apart [] k off same = cc
key_cmp-apart (x ∷ p) [] off same = cc
key_cmp-apart (x ∷ p) (y ∷ k) off same =
    elim (cases_order x y) [
      | inl e ↦ key_cmp-apart p k (rw (eq-eqb x y e) at off) (rw (ap (λ z. nat_cmp x z) (sym e) ∙ nat_cmp-same x) at same)
      | inr other ↦ elim other [
        | inl lt ↦ let l : Less ≡ Equal = rw (nat_cmp-less x y lt) at same in cc
        | inr gt ↦ let g : Greater ≡ Equal = rw (nat_cmp-greater x y gt) at same in cc
      ]
    ]

-- ---- keys without the prefix
is_le-apart : (o : Ordering) → o ≢ Equal → is_le o ≡ is_lt o
is_le-apart Less apart = refl
is_le-apart Equal apart = absurd (apart refl)
is_le-apart Greater apart = refl

-- no bytes are below none
pub not_below_empty : (k : List ℕ) → is_lt (key_cmp k []) ≡ false
not_below_empty [] = refl
not_below_empty (x ∷ k) = refl

-- one byte on, where it is the prefix's
above_end-same : (end : Option (List ℕ)) (x : ℕ) (k : List ℕ) (t : Bool) → (t && is_below (below end) k) ≡ false → (t && is_below (below (raised x end)) (x ∷ k)) ≡ false
above_end-same end x k false h = refl
above_end-same None x k true h = cc
above_end-same (Some end) x k true h = rw (nat_cmp-same x) h

-- one byte on, where it is greater
above_end-greater : (end : Option (List ℕ)) (x y : ℕ) (k : List ℕ) → x < y → y < 256 → is_below (below (raised x end)) (y ∷ k) ≡ false
above_end-greater (Some end) x y k lt byte = rw (nat_cmp-greater y x lt)
above_end-greater None x y k lt byte =
    let room : nat_lt x 255 ≡ true = lt-ltb x 255 (omega arith) in
    rw room (elim (cases_order y (x + 1)) [
      | inl e ↦ rw (← e, nat_cmp-same y) (not_below_empty k)
      | inr other ↦ elim other [ inl below ↦ absurd (omega arith) | inr above ↦ rw (nat_cmp-greater y (x + 1) above) ]
    ])

-- a key above the prefix that doesn't have it is at or above the end of the prefix
above_end : (p k : List ℕ) → AllByRecursion (λ byte. byte < 256) k → suffix_of p k ≡ None → (is_lt (key_cmp p k) && is_below (below (end_of_prefix p)) k) ≡ false
unfolding suffix_of
above_end [] k bytes off = cc
above_end (x ∷ p) [] bytes off = refl
above_end (x ∷ p) (y ∷ k) bytes off =
    elim (cases_order x y) [
      | inl e ↦ rw (← e, nat_cmp-same x) (above_end-same (end_of_prefix p) x k _ (above_end p k bytes.1 (rw (eq-eqb x y e) at off)))
      | inr other ↦ elim other [
        | inl lt ↦ and_right _ _ (above_end-greater (end_of_prefix p) x y k lt bytes.0)
        | inr gt ↦ rw (nat_cmp-greater x y gt)
      ]
    ]

-- a low bound behind the prefix, at a key without it
is_above-off : (p k : List ℕ) (bound : KeyBound) → suffix_of p k ≡ None → is_above (low_with_prefix p bound) k ≡ is_lt (key_cmp p k)
is_above-off p k Unbounded off = is_le-apart (key_cmp p k) (key_cmp-apart p k off)
is_above-off p k (Included b) off = ap is_le (key_cmp-off p b k off) ∙ is_le-apart (key_cmp p k) (key_cmp-apart p k off)
is_above-off p k (Excluded b) off = ap is_lt (key_cmp-off p b k off)

-- from the other side
crossed-le : (o : Ordering) → o ≢ Equal → (is_lt o && is_le (ordering_reverse o)) ≡ false
crossed-le Less apart = refl
crossed-le Equal apart = refl
crossed-le Greater apart = refl

crossed-lt : (o : Ordering) → (is_lt o && is_lt (ordering_reverse o)) ≡ false
crossed-lt Less = refl
crossed-lt Equal = refl
crossed-lt Greater = refl

key_cmp-back : (p a k : List ℕ) → suffix_of p k ≡ None → key_cmp k (p ++ a) ≡ ordering_reverse (key_cmp p k)
key_cmp-back p a k off = nat_list_cmp_total.antisymm k (p ++ a) ∙ ap ordering_reverse (key_cmp-off p a k off)

-- a key without the prefix isn't within both bounds
off_bounds : (p k : List ℕ) (high : KeyBound) → AllByRecursion (λ byte. byte < 256) k → suffix_of p k ≡ None → (is_lt (key_cmp p k) && is_below (high_with_prefix p high) k) ≡ false
off_bounds p k Unbounded bytes off = above_end p k bytes off
off_bounds p k (Included b) bytes off = rw (key_cmp-back p b k off) (crossed-le (key_cmp p k) (key_cmp-apart p k off))
off_bounds p k (Excluded b) bytes off = rw (key_cmp-back p b k off) (crossed-lt (key_cmp p k))

-- ---- keys with the prefix
below_end-raised : (end : Option (List ℕ)) (x : ℕ) (k : List ℕ) → is_below (below end) k ≡ true → is_below (below (raised x end)) (x ∷ k) ≡ true
below_end-raised (Some end) x k h = rw (nat_cmp-same x) h
below_end-raised None x k h = elim (nat_lt x 255) as (λ t. is_below (below (cond t (Some ((x + 1) ∷ [])) None)) (x ∷ k) ≡ true) [
  | true ↦ rw (nat_cmp-less x (x + 1) (omega arith))
  | false ↦ refl
]

below_end : (p s : List ℕ) → is_below (below (end_of_prefix p)) (p ++ s) ≡ true
below_end [] s = refl
below_end (x ∷ p) s = below_end-raised (end_of_prefix p) x (p ++ s) (below_end p s)

at_prefix : (s : List ℕ) → is_le (key_cmp [] s) ≡ true
at_prefix [] = refl
at_prefix (x ∷ s) = refl

is_above-append : (p s : List ℕ) (bound : KeyBound) → is_above (low_with_prefix p bound) (p ++ s) ≡ is_above bound s
is_above-append p s Unbounded = ap (λ x. is_le (key_cmp x (p ++ s))) (sym (append-nil p)) ∙ ap is_le (key_cmp-append p [] s) ∙ at_prefix s
is_above-append p s (Included b) = ap is_le (key_cmp-append p b s)
is_above-append p s (Excluded b) = ap is_lt (key_cmp-append p b s)

is_below-append : (p s : List ℕ) (bound : KeyBound) → is_below (high_with_prefix p bound) (p ++ s) ≡ is_below bound s
is_below-append p s Unbounded = below_end p s
is_below-append p s (Included b) = ap is_le (key_cmp-append p s b)
is_below-append p s (Excluded b) = ap is_lt (key_cmp-append p s b)

-- ---- the range
pub contains-append : (p s : List ℕ) (range : ByteRange) → contains (with_prefix p range) (p ++ s) ≡ contains range s
contains-append p s range = rw (is_above-append p s range.low, is_below-append p s range.high)

contains-off : (p k : List ℕ) (range : ByteRange) → AllByRecursion (λ byte. byte < 256) k → suffix_of p k ≡ None → contains (with_prefix p range) k ≡ false
contains-off p k range bytes off = rw (is_above-off p k range.low off) (off_bounds p k range.high bytes off)

-- The keys of a range behind a prefix are the prefix with each suffix in the range.
pub with_prefix-keys : (p : List ℕ) (range : ByteRange) (key : List ℕ) → AreBytes key →
    IsTrue (contains (with_prefix p range) key) ↔ ((suffix : List ℕ) × (key ≡ p ++ suffix) × IsTrue (contains range suffix))
with_prefix-keys p range key bytes = (one_way (suffix_of p key) refl, λ h. rw (h.1, contains-append p h.0 range) h.2) where
  one_way : (o : Option (List ℕ)) → suffix_of p key ≡ o → IsTrue (contains (with_prefix p range) key) → (suffix : List ℕ) × (key ≡ p ++ suffix) × IsTrue (contains range suffix)
  one_way (Some s) has h = let is : key ≡ p ++ s = append-suffix_of p key s has in (s, is, rw (← contains-append p s range, ← is) h)
  one_way None off h = absurd (false≢true (sym (contains-off p key range (recursion_from_All _ key bytes) off) ∙ h))
