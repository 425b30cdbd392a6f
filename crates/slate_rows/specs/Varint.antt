-- Numbers in LEB128, and how they are read.
use Rattle.std.specs.Prelude.{◌≡◌, ℕ, ◌+◌, ◌-◌, ◌*◌, ◌/◌, ◌%◌, ◌^◌, ◌<◌, ◌≤◌, zero, suc, if◌then◌else◌, nat_lt, List, [], ◌∷◌, Result, Ok, Err}
use Rattle.slate_rows.specs.declared.varints.VarintFault.{VarintFault}
use Rattle.slate_rows.specs.declared.varints.VarintFault.TheVariants.{Short, TooLong}

-- LEB128: seven bits a byte, the lowest first, and 128 is added to each byte but the last
abbrev pub IsLeb128 : ℕ → List ℕ → Type 0
IsLeb128 value [] = ⊥
IsLeb128 value (byte ∷ []) = (value < 128) × (byte ≡ value)
IsLeb128 value (byte ∷ next ∷ bytes) = (128 ≤ value) × (byte ≡ 128 + value % 128) × IsLeb128 (value / 128) (next ∷ bytes)

-- puts seven bits below a number
abbrev pub with_low_bits : ℕ → Result (ℕ × List ℕ) VarintFault → Result (ℕ × List ℕ) VarintFault
with_low_bits byte (Ok read) = Ok (byte - 128 + 128 * read.0, read.1)
with_low_bits byte (Err fault) = Err fault

-- a number of at most so many bytes at the front of a list, and what comes after it
abbrev pub number_at_front : ℕ → List ℕ → Result (ℕ × List ℕ) VarintFault
number_at_front zero bytes = Err TooLong
number_at_front (suc left) [] = Err Short
number_at_front (suc left) (byte ∷ bytes) =
    if nat_lt byte 128 then Ok (byte, bytes) else with_low_bits byte (number_at_front left bytes)

-- refuses a number past 32 bits
abbrev pub in_32_bits : Result (ℕ × List ℕ) VarintFault → Result (ℕ × List ℕ) VarintFault
in_32_bits (Ok read) = if nat_lt read.0 (2 ^ 32) then Ok read else Err TooLong
in_32_bits (Err fault) = Err fault

-- a number of 32 bits in at most five bytes at the front of a list, and what comes after it
abbrev pub varint : List ℕ → Result (ℕ × List ℕ) VarintFault
varint bytes = in_32_bits (number_at_front 5 bytes)
