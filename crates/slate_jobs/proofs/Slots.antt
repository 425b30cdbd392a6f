-- Which job stands at a place after one was added, or given another state.
use Rattle.std.proofs.Common.{◌≡◌, ℕ, zero, suc, ◌<◌, List, [], ◌∷◌, ◌++◌, length, Some, refl, ap, arith}
use Rattle.std.specs.Prelude.{slice_get, slice_set}

module _ {X : Type 0} where
  pub added-last : (xs : List X) (x : X) → slice_get (xs ++ x ∷ []) (length xs) ≡ Some x
  added-last [] x = refl
  added-last (y ∷ xs) x = added-last xs x

  pub added-other : (xs : List X) (x : X) (n : ℕ) → (n ≡ length xs → ⊥) → slice_get (xs ++ x ∷ []) n ≡ slice_get xs n
  added-other [] x zero differ = absurd (differ refl)
  added-other [] x (suc n) differ = refl
  added-other (y ∷ xs) x zero differ = refl
  added-other (y ∷ xs) x (suc n) differ = added-other xs x n (λ same. differ (ap suc same))

  pub set-there : (xs : List X) (k : ℕ) (x : X) → k < length xs → slice_get (slice_set xs k x) k ≡ Some x
  set-there [] k x within = absurd (omega (arith, within))
  set-there (y ∷ xs) zero x within = refl
  set-there (y ∷ xs) (suc k) x within = set-there xs k x (omega (arith, within))

  pub set-other : (xs : List X) (k : ℕ) (x : X) (n : ℕ) → (n ≡ k → ⊥) → slice_get (slice_set xs k x) n ≡ slice_get xs n
  set-other [] k x n differ = refl
  set-other (y ∷ xs) zero x zero differ = absurd (differ refl)
  set-other (y ∷ xs) zero x (suc n) differ = refl
  set-other (y ∷ xs) (suc k) x zero differ = refl
  set-other (y ∷ xs) (suc k) x (suc n) differ = set-other xs k x n (λ same. differ (ap suc same))
