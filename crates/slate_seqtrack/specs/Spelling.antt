-- The bytes that are written of a tracker.
use Rattle.std.specs.Prelude.{ℕ, zero, suc, ◌+◌, ◌-◌, ◌*◌, ◌/◌, ◌^◌, if◌then◌else◌, nat_eq, nat_lt, ℤ, pos, negsuc, ◌-ℤ◌, Bool, true, false, List, [], ◌∷◌, ◌++◌, length, take, drop}
use Rattle.std.specs.Int.{w32, to_le_bytes}
use Rattle.std.specs.Int.RustNames.{unsigned_abs}
use Rattle.slate_seqtrack.specs.Bits.{low_bits, number_of}
use Rattle.slate_seqtrack.specs.Bytes.{as_signed}
use Rattle.slate_seqtrack.specs.Tracker.{Tracker, numbers_of, times_of}

-- a value in so many bits, in two's complement
abbrev pub in_bits : ℕ → ℤ → List Bool
in_bits width (pos n) = low_bits width n
in_bits width (negsuc n) = low_bits width (2 ^ width - suc n)

-- a difference of differences in the first form that fits
abbrev pub first_code : ℤ → List Bool
first_code value =
    if nat_eq (unsigned_abs value) 0 then false ∷ []
    else if nat_lt (unsigned_abs value) 64 then true ∷ false ∷ in_bits 7 value
    else if nat_lt (unsigned_abs value) 256 then true ∷ true ∷ false ∷ in_bits 9 value
    else if nat_lt (unsigned_abs value) 2048 then true ∷ true ∷ true ∷ false ∷ in_bits 12 value
    else true ∷ true ∷ true ∷ true ∷ in_bits 32 value

-- the values after one with a difference to the one before it
abbrev pub later_bits : ℤ → ℤ → List ℤ → List Bool
later_bits previous delta [] = []
later_bits previous delta (value ∷ values) = first_code ((value -ℤ previous) -ℤ delta) ++ later_bits value (value -ℤ previous) values

abbrev pub values_bits : List ℤ → List Bool
values_bits [] = []
values_bits (value ∷ values) = in_bits 64 value ++ later_bits value (pos 0) values

abbrev pub counted_bits : List ℤ → List Bool
counted_bits values = low_bits 32 (length values) ++ values_bits values

-- the byte of the first eight bits, or of all with zero bits after them
abbrev pub first_byte : List Bool → ℕ
first_byte bits = number_of (take 8 bits) * 2 ^ (8 - length (take 8 bits))

-- so many bytes of bits
abbrev pub bytes_in : ℕ → List Bool → List ℕ
bytes_in zero bits = []
bytes_in (suc n) bits = first_byte bits ∷ bytes_in n (drop 8 bits)

-- the bytes of bits, the last one filled with zero bits
abbrev pub filled : List Bool → List ℕ
filled bits = bytes_in ((length bits + 7) / 8) bits

abbrev pub block_of : List ℤ → List ℕ
block_of values = filled (counted_bits values)

-- the bytes of two lists, and of a tracker, which can be written
unfoldable pub lists_bytes : List ℕ → List ℤ → List ℕ
lists_bytes numbers times = 1 ∷ (to_le_bytes w32 (length numbers) ++ (block_of (as_signed numbers) ++ block_of times))

abbrev pub tracker_bytes : Tracker → List ℕ
tracker_bytes tracker = lists_bytes (numbers_of tracker) (times_of tracker)
