-- Numbers and bytes as lists of bits, the most significant bit first.
use Rattle.std.specs.Prelude.{◌≡◌, ◌<◌, false, All, ℕ, ◌+◌, ◌*◌, ◌/◌, ◌%◌, ◌^◌, zero, suc, ℤ, pos, ◌-ℤ◌, Bool, if◌then◌else◌, nat_eq, nat_lt, List, [], ◌∷◌, ◌++◌, length}

-- so many low bits of a number
unfoldable pub low_bits : ℕ → ℕ → List Bool
low_bits zero value = []
low_bits (suc n) value = nat_eq (value / 2 ^ n % 2) 1 ∷ low_bits n value

-- the number with these bits
abbrev pub number_of : List Bool → ℕ
number_of [] = 0
number_of (bit ∷ bits) = (if bit then 2 ^ length bits else 0) + number_of bits

-- what so many bits stand for in two's complement, by the number that they are
abbrev pub signed : ℕ → ℕ → ℤ
signed width number = if nat_lt (2 * number) (2 ^ width) then pos number else pos number -ℤ pos (2 ^ width)

abbrev pub bits_of : List ℕ → List Bool
bits_of [] = []
bits_of (byte ∷ bytes) = low_bits 8 byte ++ bits_of bytes

-- bytes of bits, the last one filled with zero bits
abbrev pub IsPadded : List Bool → List ℕ → Type 0
IsPadded bits bytes = (padding : List Bool) × (bits_of bytes ≡ bits ++ padding) × (length padding < 8) × All (λ bit. bit ≡ false) padding
