-- The greatest key of a map gives the last log file above a number.
use Rattle.std.proofs.Common.{◌≡◌, ℕ, zero, suc, ◌≤◌, List, [], ◌∷◌, Some, max, false, arith}
use Rattle.std.specs.List.{All, AllByRecursion, slice_get}
use Rattle.std.specs.Ordering.{nat_cmp, is_lt}
use Rattle.std.specs.Map.{keys_of}
use Rattle.std.proofs.lemmas.List.Elements.{recursion_from_All}
use Rattle.std.proofs.lemmas.Map.Keys.{ge_from_not_lt}
use Rattle.slate_store.specs.Objects.{greatest}

-- the greatest of a number and a list is at most what bounds both
below : (n k : ℕ) (xs : List ℕ) → AllByRecursion (λ q. is_lt (nat_cmp k q) ≡ false) xs → greatest n xs ≤ max n k
below n k [] all = omega arith
below n k (x ∷ xs) all = let h = below n k xs all.1 in let x_le : x ≤ k = ge_from_not_lt k x all.0 in omega arith

-- it is at least the number
pub at_least : (n : ℕ) (xs : List ℕ) → n ≤ greatest n xs
at_least n [] = omega arith
at_least n (x ∷ xs) = let h = at_least n xs in omega arith

-- and at least each key of the list
above : {X : Type 0} (n : ℕ) (es : List (ℕ × X)) (i : ℕ) (e : ℕ × X) → slice_get es i ≡ Some e → e.0 ≤ greatest n (keys_of es)
above n [] i e is = absurd (cc)
above n (x ∷ es) zero e is = let same : x ≡ e = cc in let key : x.0 ≡ e.0 = (cc) in omega arith
above n (x ∷ es) (suc i) e is = let h = above n es i e is in omega arith

-- where the greatest key is known, the greatest of a number and the keys is the greater of the two
pub greatest_key : {X : Type 0} (n k : ℕ) (v : X) (es : List (ℕ × X)) (i : ℕ) → slice_get es i ≡ Some (k, v) → All (λ q. is_lt (nat_cmp k q) ≡ false) (keys_of es) → max n k ≡ greatest n (keys_of es)
greatest_key n k v es i is all =
    let upper = below n k (keys_of es) (recursion_from_All _ (keys_of es) all) in
    let lower = at_least n (keys_of es) in
    let member : k ≤ greatest n (keys_of es) = above n es i (k, v) is in
    omega arith

-- no key is above the greatest
up_to : (k : ℕ) (xs : List ℕ) → AllByRecursion (λ q. is_lt (nat_cmp k q) ≡ false) xs → AllByRecursion (λ q. q ≤ k) xs
up_to k [] all = tt
up_to k (x ∷ xs) all = (ge_from_not_lt k x all.0, up_to k xs all.1)

pub all-up_to : {X : Type 0} (k : ℕ) (es : List (ℕ × X)) → All (λ q. is_lt (nat_cmp k q) ≡ false) (keys_of es) → AllByRecursion (λ q. q ≤ k) (keys_of es)
all-up_to k es all = up_to k (keys_of es) (recursion_from_All _ (keys_of es) all)
