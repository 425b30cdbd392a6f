-- Which key the index of a table keeps for a block.
use Rattle.std.specs.Prelude.{◌≡◌, ℕ, ◌<◌, false, List, [], Option, Some, None, length, take}
use Rattle.std.specs.declared.cmp.Ordering.TheVariants.{Less}
use Rattle.std.specs.Ordering.{is_lt}
use Rattle.slate_types.specs.Range.{key_cmp}

-- the shortest front of a key that is greater than another key
pub record IsShortestAbove (previous key front : List ℕ) : Type 0 where
  pub begins : front ≡ take (length front) key
  pub above : key_cmp previous front ≡ Less
  pub shortest : (n : ℕ) → n < length front → is_lt (key_cmp previous (take n key)) ≡ false

-- What the index of a table says of a block whose first key this is: nothing at the first block. At others, the least
-- that parts it from the key before, or the whole key where that is the same.
abbrev pub IsIndexKey : Option (List ℕ) → List ℕ → List ℕ → Type 0
IsIndexKey None key answer = answer ≡ []
IsIndexKey (Some previous) key answer =
    (previous ≡ key → answer ≡ key) × (key_cmp previous key ≡ Less → IsShortestAbove previous key answer)
