-- Prefixes of a fixed length.
use Rattle.std.specs.Prelude.{ℕ, nat_le, List, length, take, Option, Some, None, if◌then◌else◌}

-- the first bytes of a key that has so many
abbrev pub fixed_prefix : ℕ → List ℕ → Option (List ℕ)
fixed_prefix n key = if nat_le n (length key) then Some (take n key) else None
