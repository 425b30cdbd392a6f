-- Moving every other element to the front halves a list.
use Rattle.std.proofs.Common.{◌≡◌, refl, sym, ◌∙◌, ℕ, ◌+◌, ◌*◌, ◌<◌, ◌≤◌, zero, suc, List, [], ◌∷◌, length, get_or, take, arith}
use Rattle.std.proofs.lemmas.List.{same_lists, get_or-take, length-take}
use Rattle.slate_seqtrack.specs.Thinning.{evens}

twice-suc : (k : ℕ) → 2 * suc k ≡ suc (suc (2 * k))
twice-suc k = omega arith

-- half of the elements, rounded up
pub length-evens : {X : Type 0} (xs : List X) → (length xs ≤ 2 * length (evens xs)) × (2 * length (evens xs) ≤ length xs + 1)
length-evens [] = (omega arith, omega arith)
length-evens (x ∷ []) = (omega arith, omega arith)
length-evens (x ∷ y ∷ xs) = let rest = length-evens xs in (omega arith, omega arith)

pub get_or-evens : {X : Type 0} (xs : List X) (k : ℕ) (d : X) → get_or (evens xs) k d ≡ get_or xs (2 * k) d
get_or-evens [] k d = refl
get_or-evens (x ∷ []) zero d = refl
get_or-evens (x ∷ []) (suc k) d = rw twice-suc refl
get_or-evens (x ∷ y ∷ xs) zero d = refl
get_or-evens (x ∷ y ∷ xs) (suc k) d = rw twice-suc (get_or-evens xs k d)

-- the even positions are moved to the front up to a count: what stays of the list is cut off
pub record IsHalved {X : Type 0} (old new : List X) (count : ℕ) : Type 0 where
  pub length-is : length new ≡ length old
  pub moved : (k : ℕ) (d : X) → k < count → get_or new k d ≡ get_or old (2 * k) d
  pub same : (k : ℕ) (d : X) → count ≤ k → get_or new k d ≡ get_or old k d

pub evens-halved : {X : Type 0} (old new : List X) (i count : ℕ) → IsHalved old new i → i ≡ count → length old ≤ 2 * count → 2 * count ≤ length old + 1 → take count new ≡ evens old
evens-halved {X} old new i count half is low high = same_lists (take count new) (evens old) long at where
  long : length (take count new) ≡ length (evens old)
  long = let sizes = length-evens old in omega (arith, length-take count new, half.length-is)

  at : (k : ℕ) (d : X) → k < length (take count new) → get_or (take count new) k d ≡ get_or (evens old) k d
  at k d h =
      let below : k < count = omega (arith, length-take count new) in
      let below' : k < i = omega arith in
      get_or-take count new k d below ∙ half.moved k d below' ∙ sym (get_or-evens old k d)
