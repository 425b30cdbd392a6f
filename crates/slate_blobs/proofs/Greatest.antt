-- The greatest of a number and a list, one number after the other.
use Rattle.std.proofs.Common.{◌≡◌, ℕ, List, [], ◌∷◌, max, arith}
use Rattle.slate_store.specs.Objects.{greatest}

-- the first of a list may be taken into the number
pub greatest-first : (n x : ℕ) (xs : List ℕ) → greatest (max n x) xs ≡ max x (greatest n xs)
greatest-first n x [] = omega arith
greatest-first n x (y ∷ xs) = let rest = greatest-first n x xs in omega (arith, rest)
