-- Which keys are in a range, and ranges behind a prefix.
use Rattle.std.specs.Prelude.{ℕ, ◌+◌, ◌<◌, Bool, true, ◌&&◌, if◌then◌else◌, nat_lt, List, [], ◌∷◌, ◌++◌, Option, Some, None, All}
use Rattle.std.specs.declared.cmp.Ordering.{Ordering}
use Rattle.std.specs.Ordering.{nat_cmp, is_lt, is_le}
use Rattle.std.specs.Cmp.Lexicographic.{slice_cmp}
use Rattle.slate_types.specs.declared.ranges.ByteRange.{ByteRange}
use Rattle.slate_types.specs.declared.ranges.KeyBound.{KeyBound}
use Rattle.slate_types.specs.declared.ranges.KeyBound.TheVariants.{Unbounded, Included, Excluded}

-- the order of keys: byte by byte, by value
abbrev pub key_cmp : List ℕ → List ℕ → Ordering
key_cmp = slice_cmp nat_cmp

-- whether a key is within a low bound
abbrev pub is_above : KeyBound → List ℕ → Bool
is_above Unbounded key = true
is_above (Included bound) key = is_le (key_cmp bound key)
is_above (Excluded bound) key = is_lt (key_cmp bound key)

-- whether a key is within a high bound
abbrev pub is_below : KeyBound → List ℕ → Bool
is_below Unbounded key = true
is_below (Included bound) key = is_le (key_cmp key bound)
is_below (Excluded bound) key = is_lt (key_cmp key bound)

-- whether a key is in a range: within both bounds
abbrev pub contains : ByteRange → List ℕ → Bool
contains range key = is_above range.low key && is_below range.high key

-- numbers that are bytes
abbrev pub AreBytes : List ℕ → Type 0
AreBytes key = All (λ byte. byte < 256) key

-- goes on with the next bytes of the rest, or raises the first where there are none
abbrev pub raised : ℕ → Option (List ℕ) → Option (List ℕ)
raised byte (Some rest) = Some (byte ∷ rest)
raised byte None = if nat_lt byte 255 then Some ((byte + 1) ∷ []) else None

-- the least key above all keys with a prefix; none where each of its bytes is 255
abbrev pub end_of_prefix : List ℕ → Option (List ℕ)
end_of_prefix [] = None
end_of_prefix (byte ∷ bytes) = raised byte (end_of_prefix bytes)

-- the keys below a key, or all
abbrev pub below : Option (List ℕ) → KeyBound
below None = Unbounded
below (Some key) = Excluded key

-- a low bound behind a prefix; where there is none, the prefix itself
abbrev pub low_with_prefix : List ℕ → KeyBound → KeyBound
low_with_prefix prefix Unbounded = Included prefix
low_with_prefix prefix (Included bound) = Included (prefix ++ bound)
low_with_prefix prefix (Excluded bound) = Excluded (prefix ++ bound)

-- a high bound behind a prefix; where there is none, the end of the prefix
abbrev pub high_with_prefix : List ℕ → KeyBound → KeyBound
high_with_prefix prefix Unbounded = below (end_of_prefix prefix)
high_with_prefix prefix (Included bound) = Included (prefix ++ bound)
high_with_prefix prefix (Excluded bound) = Excluded (prefix ++ bound)

-- a range behind a prefix
abbrev pub with_prefix : List ℕ → ByteRange → ByteRange
with_prefix prefix range = record { low = low_with_prefix prefix range.low; high = high_with_prefix prefix range.high }
