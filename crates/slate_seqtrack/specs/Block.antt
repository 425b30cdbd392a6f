-- A block of numbers: their count, the first one, and for each later one how its difference to the number before it
-- differs from the difference before that one (at first from 0). Values are in two's complement.
use Rattle.std.specs.Prelude.{◌≡◌, ℕ, ◌<◌, ◌^◌, if◌then◌else◌, nat_eq, nat_lt, ℤ, pos, negsuc, ◌-ℤ◌, Bool, true, false, ◌&&◌, List, [], ◌∷◌, ◌++◌, length, take, ◌≤◌}
use Rattle.std.specs.List.{AllByRecursion}
use Rattle.std.specs.Int.RustNames.{unsigned_abs}
use Rattle.slate_seqtrack.specs.Bits.{number_of, signed, bits_of}

abbrev pub IsUnsigned : ℕ → ℕ → List Bool → Type 0
IsUnsigned width number bits = (length bits ≡ width) × (number_of bits ≡ number)

abbrev pub IsSigned : ℕ → ℤ → List Bool → Type 0
IsSigned width value bits = (length bits ≡ width) × (signed width (number_of bits) ≡ value)

-- a prefix, and the value in so many bits
abbrev pub HasForm : List Bool → ℕ → ℤ → List Bool → Type 0
HasForm prefix width value code = (bits : List Bool) × (code ≡ prefix ++ bits) × IsSigned width value bits

-- the forms of a difference of differences; in no bits there is only 0
pub data IsCode (value : ℤ) (code : List Bool) : Type 0 where
  in_0 : HasForm (false ∷ []) 0 value code → IsCode value code
  in_7 : HasForm (true ∷ false ∷ []) 7 value code → IsCode value code
  in_9 : HasForm (true ∷ true ∷ false ∷ []) 9 value code → IsCode value code
  in_12 : HasForm (true ∷ true ∷ true ∷ false ∷ []) 12 value code → IsCode value code
  in_32 : HasForm (true ∷ true ∷ true ∷ true ∷ []) 32 value code → IsCode value code

-- how many bits the first form that fits takes, with its prefix
abbrev pub code_length : ℤ → ℕ
code_length value =
    if nat_eq (unsigned_abs value) 0 then 1
    else if nat_lt (unsigned_abs value) 64 then 9
    else if nat_lt (unsigned_abs value) 256 then 12
    else if nat_lt (unsigned_abs value) 2048 then 16
    else 36

-- the form that is written
abbrev pub IsFirstCode : ℤ → List Bool → Type 0
IsFirstCode value code = IsCode value code × (length code ≡ code_length value)

-- the values after one with a difference to the one before it
abbrev pub AreLater : (ℤ → List Bool → Type 0) → ℤ → ℤ → List ℤ → List Bool → Type 0
AreLater Code previous delta [] bits = bits ≡ []
AreLater Code previous delta (value ∷ values) bits =
    (code : List Bool) × (later : List Bool) × (bits ≡ code ++ later) × Code ((value -ℤ previous) -ℤ delta) code × AreLater Code value (value -ℤ previous) values later

abbrev pub AreValues : (ℤ → List Bool → Type 0) → List ℤ → List Bool → Type 0
AreValues Code [] bits = bits ≡ []
AreValues Code (value ∷ values) bits =
    (first : List Bool) × (later : List Bool) × (bits ≡ first ++ later) × IsSigned 64 value first × AreLater Code value (pos 0) values later

abbrev pub AreCounted : (ℤ → List Bool → Type 0) → List ℤ → List Bool → Type 0
AreCounted Code values bits = (count : List Bool) × (rest : List Bool) × (bits ≡ count ++ rest) × IsUnsigned 32 (length values) count × AreValues Code values rest

-- bytes that are a block of the values; the bits that fill the last byte are free
abbrev pub IsBlock : List ℤ → List ℕ → Type 0
IsBlock values bytes = (bits : List Bool) × (padding : List Bool) × (bits_of bytes ≡ bits ++ padding) × (length padding < 8) × AreCounted IsCode values bits

-- whether a value is a number of 64 bits
abbrev pub fits_i64 : ℤ → Bool
fits_i64 (pos n) = nat_lt n (2 ^ 63)
fits_i64 (negsuc n) = nat_lt n (2 ^ 63)

-- bytes begin with a block of the values, which takes so many of them
pub record BeginsWithBlock (bytes : List ℕ) (values : List ℤ) (size : ℕ) : Type 0 where
  pub inside : size ≤ length bytes
  pub few : length values < 2 ^ 32
  pub fit : AllByRecursion (λ value. fits_i64 value ≡ true) values
  pub block : IsBlock values (take size bytes)

-- whether a difference of differences is a number of 32 bits
abbrev pub fits_i32 : ℤ → Bool
fits_i32 (pos n) = nat_lt n (2 ^ 31)
fits_i32 (negsuc n) = nat_lt n (2 ^ 31)

abbrev pub later_fit : ℤ → ℤ → List ℤ → Bool
later_fit previous delta [] = true
later_fit previous delta (value ∷ values) = fits_i32 ((value -ℤ previous) -ℤ delta) && later_fit value (value -ℤ previous) values

-- whether the values can be written
abbrev pub is_encodable : List ℤ → Bool
is_encodable [] = true
is_encodable (value ∷ values) = later_fit value (pos 0) values
