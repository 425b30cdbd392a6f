-- The front that two lists share.
use Rattle.std.specs.Prelude.{ℕ, suc, ◌==◌, if◌then◌else◌, List, [], ◌∷◌}

-- how many numbers two lists share at the front
abbrev pub shared_len : List ℕ → List ℕ → ℕ
shared_len [] right = 0
shared_len (x ∷ left) [] = 0
shared_len (x ∷ left) (y ∷ right) = if x == y then suc (shared_len left right) else 0
