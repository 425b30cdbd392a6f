-- What stands at the places of a list, after one was set or one more was added.
use Rattle.std.proofs.Common.{◌≡◌, ◌≢◌, ◌⊎◌, inl, inr, ℕ, zero, suc, ◌<◌, List, [], ◌∷◌, ◌++◌, length, map, set, get_or, Some, refl, sym, subst, ap, ◌∙◌}
use Rattle.std.proofs.lemmas.Bool.{cases_eq}
use Rattle.std.specs.List.{slice_get}
use Rattle.std.specs.Option.{option_map}
use Rattle.std.proofs.lemmas.Option.{slice_get-get_or}

-- what stands at the place that was set, and at any other
pub get-set_same : {X : Type 0} (xs : List X) (n : ℕ) (x y : X) → slice_get xs n ≡ Some y → slice_get (set xs n x) n ≡ Some x
get-set_same [] n x y h = absurd (cc)
get-set_same (z ∷ xs) zero x y h = refl
get-set_same (z ∷ xs) (suc n) x y h = get-set_same xs n x y h

pub get-set_other : {X : Type 0} (xs : List X) (n m : ℕ) (x : X) → m ≢ n → slice_get (set xs n x) m ≡ slice_get xs m
get-set_other [] n m x h = refl
get-set_other (z ∷ xs) zero zero x h = absurd (h refl)
get-set_other (z ∷ xs) zero (suc m) x h = refl
get-set_other (z ∷ xs) (suc n) zero x h = refl
get-set_other (z ∷ xs) (suc n) (suc m) x h = get-set_other xs n m x (λ e. h (ap suc e))

-- what stands at a place after one was set is that, or stood there before
pub get-set : {X : Type 0} (xs : List X) (n m : ℕ) (x y z : X) → slice_get xs n ≡ Some z → slice_get (set xs n x) m ≡ Some y → ((m ≡ n) × (x ≡ y)) ⊎ ((m ≢ n) × (slice_get xs m ≡ Some y))
get-set xs n m x y z there is =
    elim (cases_eq m n) [
      | inl same ↦
          let at : slice_get (set xs n x) m ≡ Some x = subst (λ k. slice_get (set xs n x) k ≡ Some x) (sym same) (get-set_same xs n x z there) in
          inl (same, (let e : x ≡ y = cc in e))
      | inr other ↦ inr (other, sym (get-set_other xs n m x other) ∙ is)
    ]

-- to set what stands there changes nothing
pub set-same : {X : Type 0} (xs : List X) (n : ℕ) (x : X) → slice_get xs n ≡ Some x → set xs n x ≡ xs
set-same [] n x h = refl
set-same (z ∷ xs) zero x h = let same : z ≡ x = cc in ap (λ y. y ∷ xs) (sym same)
set-same (z ∷ xs) (suc n) x h = ap (λ ys. z ∷ ys) (set-same xs n x h)

pub get_read : {X : Type 0} (xs : List X) (i : ℕ) (x : X) → i < length xs → x ≡ get_or xs i x → slice_get xs i ≡ Some x
get_read xs i x low h = slice_get-get_or xs i x low ∙ ap Some (sym h)

-- what stands in a list with one more at its end
pub get-push : {X : Type 0} (xs : List X) (x y : X) (m : ℕ) → slice_get (xs ++ x ∷ []) m ≡ Some y → (slice_get xs m ≡ Some y) ⊎ ((m ≡ length xs) × (x ≡ y))
get-push [] x y zero h = inr (refl, let e : x ≡ y = cc in e)
get-push [] x y (suc m) h = absurd (cc)
get-push (z ∷ xs) x y zero h = inl h
get-push (z ∷ xs) x y (suc m) h =
    elim (get-push xs x y m h) [
      | inl before ↦ inl before
      | inr at ↦ inr (ap suc at.0, at.1)
    ]

pub get-seam : {X : Type 0} (xs : List X) (x : X) → slice_get (xs ++ x ∷ []) (length xs) ≡ Some x
get-seam [] x = refl
get-seam (z ∷ xs) x = get-seam xs x

pub get-before : {X : Type 0} (xs ys : List X) (n : ℕ) (x : X) → slice_get xs n ≡ Some x → slice_get (xs ++ ys) n ≡ Some x
get-before [] ys n x h = absurd (cc)
get-before (z ∷ xs) ys zero x h = h
get-before (z ∷ xs) ys (suc n) x h = get-before xs ys n x h

pub get-map : {X Y : Type 0} (f : X → Y) (xs : List X) (n : ℕ) → slice_get (map f xs) n ≡ option_map f (slice_get xs n)
get-map f [] n = refl
get-map f (z ∷ xs) zero = refl
get-map f (z ∷ xs) (suc n) = get-map f xs n

pub get-map_at : {X Y : Type 0} (f : X → Y) (xs : List X) (n : ℕ) (x : X) → n < length xs → x ≡ get_or xs n x → slice_get (map f xs) n ≡ Some (f x)
get-map_at f xs n x low at = get-map f xs n ∙ ap (option_map f) (get_read xs n x low at)
