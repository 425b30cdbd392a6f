-- The first turn that has come is in the first pair that has one, and how pairs change.
use Rattle.std.proofs.Common.{◌≡◌, ℕ, ℤ, zero, suc, ◌+◌, ◌*◌, ◌/◌, ◌%◌, ◌<◌, ◌≤◌, List, [], ◌∷◌, ◌++◌, length, take, get_or, cond, Option, Some, None, Bool, true, false, refl, sym, subst, ap, ◌∙◌, arith}
use Rattle.std.specs.Int.{int_min}
use Rattle.std.specs.List.{position_from}
use Rattle.std.specs.Option.{option_map}
use Rattle.std.specs.Prelude.{◌||◌, int_lt, slice_get, slice_set, position}
use Rattle.std.proofs.lemmas.Iterator.Adapters.{position_from-zero}
use Rattle.std.proofs.Common.{add-one}
use Rattle.std.proofs.Math.Seq.{take-suc}
use Rattle.std.proofs.lemmas.Int.{ints}
use Rattle.std.proofs.lemmas.List.{take_all}
use Rattle.std.proofs.lemmas.Option.{get_or_from_slice_get, slice_get-get_or, slice_get_within}
use Rattle.std.specs.Prelude.{Box}
use Rattle.std.specs.declared.alloc.Global.{Global}
use Rattle.slate_jobs.specs.declared.turns.Turn.{Turn}
use Rattle.slate_jobs.specs.declared.turns.Turns.{Turns}
use Rattle.slate_jobs.specs.declared.turns.Turn.TheVariants.{Now, After, Never}
use Rattle.slate_jobs.specs.Turns.{ArePairs, earlier, has_come, in_pair, pairs, put_at}
use Rattle.slate_jobs.specs.TurnsFall.{length-pairs}

-- ---- halves, by recursion
half : ℕ → ℕ
half zero = zero
half (suc zero) = zero
half (suc (suc n)) = suc (half n)

half-is : (n : ℕ) → half n ≡ n / 2
unfolding half
half-is zero = omega arith
half-is (suc zero) = omega arith
half-is (suc (suc n)) = let rest = half-is n in omega (arith, rest)

-- ---- which has come
min-lt : (m a b : ℤ) → int_lt (int_min a b) m ≡ int_lt a m || int_lt b m
min-lt m a b = grind (arith, ints)

or-true : (b : Bool) → true ≡ b || true
or-true true = refl
or-true false = refl

or-false : (b : Bool) → b ≡ b || false
or-false true = refl
or-false false = refl

has-earlier : (m : ℤ) (a b : Turn) → has_come m (earlier a b) ≡ has_come m a || has_come m b
has-earlier m Now b = refl
has-earlier m Never b = refl
has-earlier m (After a) Now = or-true (int_lt a m)
has-earlier m (After a) Never = or-false (int_lt a m)
has-earlier m (After a) (After b) = min-lt m a b

-- the place of the first one that passes, by recursion
place : (Turn → Bool) → List Turn → Option ℕ
place p [] = None
place p (x ∷ xs) = cond (p x) (Some 0) (option_map suc (place p xs))

plus : ℕ → Option ℕ → Option ℕ
plus n found = option_map (λ k. k + n) found

place-from : (p : Turn → Bool) (n : ℕ) (xs : List Turn) → position_from p n xs ≡ plus n (place p xs)
unfolding place plus
place-from p n [] = refl
place-from p n (x ∷ xs) = by (place-from p (n + 1) xs) (p x) where
  shift : (found : Option ℕ) → option_map (λ k. k + (n + 1)) found ≡ option_map (λ k. k + n) (option_map suc found)
  shift None = refl
  shift (Some k) = ap Some (omega arith)

  by : position_from p (n + 1) xs ≡ option_map (λ k. k + (n + 1)) (place p xs) → (b : Bool) → cond b (Some n) (position_from p (n + 1) xs) ≡ option_map (λ k. k + n) (cond b (Some 0) (option_map suc (place p xs)))
  by rest true = ap Some (omega arith)
  by rest false = rest ∙ shift (place p xs)

place-is : (p : Turn → Bool) (xs : List Turn) → position p xs ≡ place p xs
unfolding plus
place-is p xs = position_from-zero p xs ∙ (place-from p 0 xs ∙ whole (place p xs)) where
  whole : (found : Option ℕ) → option_map (λ k. k + 0) found ≡ found
  whole None = refl
  whole (Some k) = ap Some (omega arith)

-- ---- the first is in the first pair
-- that of the pair that was found
abbrev in_pairs : (Turn → Bool) → List Turn → Option ℕ → Option ℕ
in_pairs p turns None = None
in_pairs p turns (Some pair) = in_pair p pair (slice_get turns (2 * pair))

module _ (m : ℤ) where
  abbrev p : Turn → Bool
  p turn = has_come m turn

  next-pair : (a b : Turn) (xs : List Turn) (found : Option ℕ) → in_pairs p (a ∷ b ∷ xs) (option_map suc found) ≡ option_map suc (option_map suc (in_pairs p xs found))
  next-pair a b xs None = refl
  next-pair a b xs (Some k) =
      let twice : 2 * suc k ≡ suc (suc (2 * k)) = omega arith in
      ap (λ n. in_pair p (suc k) (slice_get (a ∷ b ∷ xs) n)) twice ∙ by (slice_get xs (2 * k)) where
        by : (turn : Option Turn) → in_pair p (suc k) turn ≡ option_map suc (option_map suc (in_pair p k turn))
        by None = refl
        by (Some turn) = one (p turn) where
          one : (b : Bool) → cond b (Some (2 * suc k)) (Some (2 * suc k + 1)) ≡ option_map suc (option_map suc (cond b (Some (2 * k)) (Some (2 * k + 1))))
          one true = ap Some (omega arith)
          one false = ap Some (omega arith)

  place-pairs : (xs : List Turn) → place p xs ≡ in_pairs p xs (place p (pairs xs))
  unfolding place
  place-pairs [] = refl
  place-pairs (a ∷ []) = by (has_come m a) refl where
    by : (x : Bool) → has_come m a ≡ x → cond x (Some 0) None ≡ in_pairs p (a ∷ []) (cond x (Some 0) None)
    by true is = sym (ap (λ x. cond x (Some 0) (Some 1)) is)
    by false is = refl
  place-pairs (a ∷ b ∷ xs) = ap (λ x. cond (has_come m a) (Some 0) (option_map suc (cond (has_come m b) (Some 0) (option_map suc x)))) (place-pairs xs)
      ∙ (by (has_come m a) (has_come m b) refl ∙ sym (ap (λ x. in_pairs p (a ∷ b ∷ xs) (cond x (Some 0) (option_map suc (place p (pairs xs))))) (has-earlier m a b))) where
        by : (x y : Bool) → has_come m a ≡ x → cond x (Some 0) (option_map suc (cond y (Some 0) (option_map suc (in_pairs p xs (place p (pairs xs))))))
            ≡ in_pairs p (a ∷ b ∷ xs) (cond (x || y) (Some 0) (option_map suc (place p (pairs xs))))
        by true y is = sym (ap (λ x. cond x (Some 0) (Some 1)) is)
        by false true is = sym (ap (λ x. cond x (Some 0) (Some 1)) is)
        by false false is = sym (next-pair a b xs (place p (pairs xs)))

  first-in_pair : (xs : List Turn) → position p xs ≡ in_pairs p xs (position p (pairs xs))
  first-in_pair xs = place-is p xs ∙ (place-pairs xs ∙ ap (in_pairs p xs) (sym (place-is p (pairs xs))))

  pub first-none : (xs : List Turn) → position p (pairs xs) ≡ None → None ≡ position p xs
  first-none xs none = sym (first-in_pair xs ∙ ap (in_pairs p xs) none)

  pub first-some : (xs : List Turn) (pair place : ℕ) → position p (pairs xs) ≡ Some pair → Some place ≡ in_pair p pair (slice_get xs (2 * pair)) → Some place ≡ position p xs
  first-some xs pair place some found = found ∙ sym (first-in_pair xs ∙ ap (in_pairs p xs) some)

-- ---- how pairs change
put-half : (xs : List Turn) (i : ℕ) (x y : Turn) → i ≤ length xs → slice_get (pairs (put_at xs i x)) (half i) ≡ Some y → pairs (put_at xs i x) ≡ put_at (pairs xs) (half i) y
unfolding half
put-half [] zero x y within at = ap (λ t. t ∷ []) (let both = at in cc)
put-half [] (suc i) x y within at = absurd (omega (arith, within))
put-half (a ∷ []) zero x y within at = ap (λ t. t ∷ []) (let both = at in cc)
put-half (a ∷ []) (suc zero) x y within at = ap (λ t. t ∷ []) (let both = at in cc)
put-half (a ∷ []) (suc (suc i)) x y within at = absurd (omega (arith, within))
put-half (a ∷ b ∷ xs) zero x y within at = ap (λ t. t ∷ pairs xs) (let both = at in cc)
put-half (a ∷ b ∷ xs) (suc zero) x y within at = ap (λ t. t ∷ pairs xs) (let both = at in cc)
put-half (a ∷ b ∷ xs) (suc (suc i)) x y within at = ap (λ ts. earlier a b ∷ ts) (put-half xs i x y (omega (arith, within)) at)

pairs-put : (xs : List Turn) (i : ℕ) (x y : Turn) → i ≤ length xs → slice_get (pairs (put_at xs i x)) (i / 2) ≡ Some y → pairs (put_at xs i x) ≡ put_at (pairs xs) (i / 2) y
pairs-put xs i x y within at =
    let is = half-is i in
    subst (λ n. pairs (put_at xs i x) ≡ put_at (pairs xs) n y) is (put-half xs i x y within (subst (λ n. slice_get (pairs (put_at xs i x)) n ≡ Some y) (sym is) at))

pub length-put : (xs : List Turn) (i : ℕ) (x : Turn) → i ≤ length xs → (length xs ≤ length (put_at xs i x)) × (i < length (put_at xs i x))
length-put [] i x within = (omega arith, omega (arith, within))
length-put (a ∷ xs) zero x within = (omega arith, omega arith)
length-put (a ∷ xs) (suc i) x within = let rest = length-put xs i x (omega (arith, within)) in (omega (arith, rest), omega (arith, rest))

pub put-set : (xs : List Turn) (i : ℕ) (x : Turn) → i < length xs → slice_set xs i x ≡ put_at xs i x
put-set [] i x within = absurd (omega (arith, within))
put-set (a ∷ xs) zero x within = refl
put-set (a ∷ xs) (suc i) x within = ap (λ ts. a ∷ ts) (put-set xs i x (omega (arith, within)))

pub put-last : (xs : List Turn) (i : ℕ) (x : Turn) → i ≤ length xs → length xs ≤ i → xs ++ x ∷ [] ≡ put_at xs i x
put-last [] i x within last = refl
put-last (a ∷ xs) zero x within last = absurd (omega (arith, last))
put-last (a ∷ xs) (suc i) x within last = ap (λ ts. a ∷ ts) (put-last xs i x (omega (arith, within)) (omega (arith, last)))

-- ---- which there are
pub pair-within : (xs : List Turn) (pair : ℕ) → pair < length (pairs xs) → 2 * pair < length xs
pair-within xs pair within = let same = length-pairs xs in omega (arith, same, within)

pub pair-two : (xs : List Turn) (k : ℕ) (d : Turn) → 2 * k + 1 < length xs → slice_get (pairs xs) k ≡ Some (earlier (get_or xs (2 * k) d) (get_or xs (2 * k + 1) d))
pair-two [] k d less = absurd (omega (arith, less))
pair-two (a ∷ []) k d less = absurd (omega (arith, less))
pair-two (a ∷ b ∷ xs) zero d less = refl
pair-two (a ∷ b ∷ xs) (suc k) d less =
    let one : 2 * suc k ≡ suc (suc (2 * k)) = omega arith in
    let two : 2 * suc k + 1 ≡ suc (suc (2 * k + 1)) = omega arith in
    pair-two xs k d (omega (arith, less)) ∙ sym (ap (λ n. Some (earlier (get_or (a ∷ b ∷ xs) n d) (get_or (a ∷ b ∷ xs) (2 * suc k + 1) d))) one
    ∙ ap (λ n. Some (earlier (get_or xs (2 * k) d) (get_or (a ∷ b ∷ xs) n d))) two)

pub pair-one : (xs : List Turn) (k : ℕ) (d : Turn) → 2 * k < length xs → length xs ≤ 2 * k + 1 → slice_get (pairs xs) k ≡ Some (get_or xs (2 * k) d)
pair-one [] k d less last = absurd (omega (arith, less))
pair-one (a ∷ []) zero d less last = refl
pair-one (a ∷ []) (suc k) d less last = absurd (omega (arith, less))
pair-one (a ∷ b ∷ xs) zero d less last = absurd (omega (arith, last))
pair-one (a ∷ b ∷ xs) (suc k) d less last =
    let one : 2 * suc k ≡ suc (suc (2 * k)) = omega arith in
    pair-one xs k d (omega (arith, less)) (omega (arith, last)) ∙ sym (ap (λ n. Some (get_or (a ∷ b ∷ xs) n d)) one)

-- the pairs up to one more
pub pairs-upto : (xs : List Turn) (k : ℕ) (y : Turn) → slice_get (pairs xs) k ≡ Some y → take k (pairs xs) ++ y ∷ [] ≡ take (k + 1) (pairs xs)
pairs-upto xs k y at = sym (ap (λ n. take n (pairs xs)) (add-one k) ∙ (take-suc (pairs xs) k y (slice_get_within (pairs xs) k y at) ∙ ap (λ t. take k (pairs xs) ++ t ∷ []) (get_or_from_slice_get (pairs xs) k y y at)))

pub pairs-all : (xs : List Turn) (n : ℕ) → n ≡ length xs / 2 + length xs % 2 → take n (pairs xs) ≡ pairs xs
pairs-all xs n is = let same = length-pairs xs in take_all n (pairs xs) (omega (arith, is, same))

-- where a turn has come, and where not
pub in-pair-first : (m : ℤ) (xs : List Turn) (k : ℕ) (d : Turn) → 2 * k < length xs → true ≡ has_come m (get_or xs (2 * k) d) → Some (2 * k) ≡ in_pair (has_come m) k (slice_get xs (2 * k))
in-pair-first m xs k d less has = sym (ap (in_pair (has_come m) k) (slice_get-get_or xs (2 * k) d less) ∙ ap (λ b. cond b (Some (2 * k)) (Some (2 * k + 1))) (sym has))

pub in-pair-second : (m : ℤ) (xs : List Turn) (k : ℕ) (d : Turn) → 2 * k < length xs → false ≡ has_come m (get_or xs (2 * k) d) → Some (2 * k + 1) ≡ in_pair (has_come m) k (slice_get xs (2 * k))
in-pair-second m xs k d less has = sym (ap (in_pair (has_come m) k) (slice_get-get_or xs (2 * k) d less) ∙ ap (λ b. cond b (Some (2 * k)) (Some (2 * k + 1))) (sym has))

-- ---- the turns above
abbrev pub Above : Type 0
Above = Box Turns Global

pub there-are : (xs : List Turn) (x : Option Above) (above : Above) → x ≡ Some above → ArePairs xs x → (above.value ≡ pairs xs) × (2 ≤ length xs)
there-are xs x above is are = subst (ArePairs xs) is are

-- a turn was put below the turns above
pub still-above : (xs : List Turn) (i : ℕ) (x y : Turn) (above : List Turn) → i ≤ length xs → above ≡ pairs xs → 2 ≤ length xs → slice_get (pairs (put_at xs i x)) (i / 2) ≡ Some y →
    (put_at above (i / 2) y ≡ pairs (put_at xs i x)) × (2 ≤ length (put_at xs i x))
still-above xs i x y above within are two at = (ap (λ ts. put_at ts (i / 2) y) are ∙ sym (pairs-put xs i x y within at), (let same = length-put xs i x within in omega (arith, same, two)))

pub half-upto : (xs above : List Turn) (i : ℕ) → i ≤ length xs → above ≡ pairs xs → i / 2 ≤ length above
half-upto xs above i within are = let same = length-pairs xs in let count = ap length are in omega (arith, same, count, within)

pub fewer-above : (xs above : List Turn) → above ≡ pairs xs → 2 ≤ length xs → length above < length xs
fewer-above xs above are two = let same = length-pairs xs in let count = ap length are in omega (arith, same, count, two)
