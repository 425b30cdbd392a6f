-- A list in bounded room: past the capacity every other element goes.
use Rattle.std.specs.Prelude.{ℕ, if◌then◌else◌, nat_lt, List, [], ◌∷◌, length}

-- the elements at positions 0, 2, 4 and on
abbrev pub evens : {X : Type 0} → List X → List X
evens [] = []
evens (x ∷ []) = x ∷ []
evens (x ∷ y ∷ xs) = x ∷ evens xs

-- a list as it stays where it may have so many elements
abbrev pub thinned : {X : Type 0} → ℕ → List X → List X
thinned capacity xs = if nat_lt capacity (length xs) then evens xs else xs

-- the last element alone
abbrev pub last_alone : {X : Type 0} → List X → List X
last_alone [] = []
last_alone (x ∷ []) = x ∷ []
last_alone (x ∷ y ∷ xs) = last_alone (y ∷ xs)
