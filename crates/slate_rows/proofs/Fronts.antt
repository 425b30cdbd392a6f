-- The shortest front of a key above another is one byte longer than what they share.
use Rattle.std.proofs.Common.{◌≡◌, ◌≢◌, Some, refl, ap, ◌∙◌, add-one, ℕ, ◌+◌, ◌-◌, ◌<◌, ◌≤◌, zero, suc, inl, inr, true, false, cond, ◌==◌, List, [], ◌∷◌, length, take, take_while, arith}
use Rattle.std.specs.List.{zip, prefix_len}
use Rattle.std.proofs.lemmas.List.Folds.{length-prefix_len}
use Rattle.std.specs.declared.cmp.Ordering.TheVariants.{Less, Greater}
use Rattle.std.specs.Ordering.{is_lt}
use Rattle.std.proofs.lemmas.Bool.{cases_order, eq-eqb, ne_eqb}
use Rattle.std.proofs.lemmas.List.{length-take-le}
use Rattle.slate_types.specs.Range.{key_cmp}
use Rattle.slate_rows.specs.IndexKey.{IsShortestAbove, IsIndexKey}
use Rattle.slate_rows.specs.Shared.{shared_len}
use Rattle.slate_types.proofs.Prefixes.{nat_cmp-same, nat_cmp-less, nat_cmp-greater, not_below_empty}

-- counted along both
shared_len-count : (a b : List ℕ) → length (take_while (λ (p : ℕ × ℕ). p.0 == p.1) (zip a b)) ≡ shared_len a b
shared_len-count a b = length-prefix_len (λ (p : ℕ × ℕ). p.0 == p.1) (zip a b) ∙ go a b where
  go : (a b : List ℕ) → prefix_len (λ (p : ℕ × ℕ). p.0 == p.1) (zip a b) ≡ shared_len a b
  go [] b = refl
  go (x ∷ a) [] = refl
  go (x ∷ a) (y ∷ b) = elim (x == y) as (λ t. cond t (1 + prefix_len (λ (p : ℕ × ℕ). p.0 == p.1) (zip a b)) 0 ≡ cond t (suc (shared_len a b)) 0) [
    | true ↦ omega (arith, go a b)
    | false ↦ refl
  ]

shared_len-le : (a b : List ℕ) → shared_len a b ≤ length b
shared_len-le [] b = omega arith
shared_len-le (x ∷ a) [] = omega arith
shared_len-le (x ∷ a) (y ∷ b) =
    elim (x == y) as (λ t. cond t (suc (shared_len a b)) 0 ≤ suc (length b)) [
      | true ↦ omega (arith, shared_len-le a b)
      | false ↦ omega arith
    ]

shared_len-same : (a : List ℕ) → shared_len a a ≡ length a
shared_len-same [] = refl
shared_len-same (x ∷ a) = rw (eq-eqb x x refl) (ap suc (shared_len-same a))

shared_len-below : (a b : List ℕ) → key_cmp a b ≡ Less → shared_len a b < length b
shared_len-below [] [] less = cc
shared_len-below [] (y ∷ b) less = omega arith
shared_len-below (x ∷ a) [] less = cc
shared_len-below (x ∷ a) (y ∷ b) less = elim (cases_order x y) [
  | inl e ↦ rw (eq-eqb x y e) (omega (arith, shared_len-below a b (rw (← e, nat_cmp-same x) at less)))
  | inr other ↦ elim other [
    | inl lt ↦ rw (ne_eqb x y (λ e. omega arith)) (omega arith)
    | inr gt ↦ let g : Greater ≡ Less = rw (nat_cmp-greater x y gt) at less in cc
  ]
]

-- one byte past what is shared is above
above : (a b : List ℕ) → key_cmp a b ≡ Less → key_cmp a (take (suc (shared_len a b)) b) ≡ Less
above [] [] less = cc
above [] (y ∷ b) less = refl
above (x ∷ a) [] less = cc
above (x ∷ a) (y ∷ b) less = elim (cases_order x y) [
  | inl e ↦ rw (← e, nat_cmp-same x, eq-eqb x x refl) (above a b (rw (← e, nat_cmp-same x) at less))
  | inr other ↦ elim other [
    | inl lt ↦ rw (nat_cmp-less x y lt)
    | inr gt ↦ let g : Greater ≡ Less = rw (nat_cmp-greater x y gt) at less in cc
  ]
]

-- and no less than that is
shortest : (a b : List ℕ) (n : ℕ) → n ≤ shared_len a b → is_lt (key_cmp a (take n b)) ≡ false
shortest a b zero few = not_below_empty a
shortest [] b (suc n) few = absurd (omega arith)
shortest (x ∷ a) [] (suc n) few = absurd (omega arith)
shortest (x ∷ a) (y ∷ b) (suc n) few = elim (cases_order x y) [
  | inl e ↦ rw (← e, nat_cmp-same x) (shortest a b n (let h = rw (eq-eqb x y e) at few in omega arith))
  | inr other ↦ elim other [
    | inl lt ↦ absurd (let h = rw (ne_eqb x y (λ e. omega arith)) at few in omega arith)
    | inr gt ↦ rw (nat_cmp-greater x y gt)
  ]
]

IsShortestAbove-shared : (a b front : List ℕ) → front ≡ take (shared_len a b + 1) b → key_cmp a b ≡ Less → IsShortestAbove a b front
IsShortestAbove-shared a b front is less =
    let fits : shared_len a b + 1 ≤ length b = omega (arith, shared_len-below a b less) in
    let len : length front ≡ shared_len a b + 1 = ap length is ∙ length-take-le (shared_len a b + 1) b fits in
    record {
      begins = rw len is;
      above = rw is (rw add-one (above a b less));
      shortest = λ n few. shortest a b n (omega arith);
    }

-- ---- as the code counts
abbrev Counted : ℕ → List ℕ → List ℕ → Type 0
Counted n a b = n ≡ length (take_while (λ (p : ℕ × ℕ). p.0 == p.1) (zip a b))

pub counted-le : (a b : List ℕ) (n : ℕ) → Counted n a b → n ≤ length b
counted-le a b n counted = omega (arith, counted, shared_len-count a b, shared_len-le a b)

pub IsIndexKey-whole : (previous key answer : List ℕ) (n : ℕ) → Counted n previous key → n ≡ length key → answer ≡ key → IsIndexKey (Some previous) key answer
IsIndexKey-whole previous key answer n counted all is =
    (λ _. is, λ less. absurd (omega (arith, counted, shared_len-count previous key, shared_len-below previous key less)))

pub IsIndexKey-front : (previous key answer : List ℕ) (n : ℕ) → Counted n previous key → n ≢ length key → answer ≡ take (n + 1 - 0) key → IsIndexKey (Some previous) key answer
IsIndexKey-front previous key answer n counted apart is =
    let count : n ≡ shared_len previous key = counted ∙ shared_len-count previous key in
    let len : n + 1 - 0 ≡ shared_len previous key + 1 = omega arith in
    (λ same. absurd (apart (count ∙ ap (λ x. shared_len x key) same ∙ shared_len-same key)), IsShortestAbove-shared previous key answer (is ∙ ap (λ m. take m key) len))
