-- The one spelling of each value, and which values have one.
use Rattle.std.specs.Prelude.{ℕ, zero, suc, ℤ, ◌+◌, ◌/◌, ◌%◌, ◌<◌, ◌^◌, List, [], ◌∷◌, ◌++◌, length, Option, Some, None, IfSome, FitsSigned, nat_lt, if◌then◌else◌}
use Rattle.std.specs.List.{flat_map, AllByRecursion}
use Rattle.std.specs.Int.{w32, w64, to_be_bytes, cast_unsigned}

-- a number in at most so many bytes: seven bits in each, the lowest first, and 128 more in each but the last
abbrev pub digits : ℕ → ℕ → List ℕ
digits zero n = []
digits (suc left) n = if nat_lt n 128 then n ∷ [] else (n % 128 + 128) ∷ digits left (n / 128)

unfoldable pub number : ℕ → List ℕ
number = digits 10

-- a time in two's complement
abbrev pub time : ℤ → List ℕ
time t = number (cast_unsigned w64 t)

abbrev pub byte_of : ℕ → List ℕ
byte_of byte = byte ∷ []

-- a length, and the bytes
abbrev pub bytes_of : List ℕ → List ℕ
bytes_of bytes = number (length bytes) ++ bytes

-- the tag 0, or 1 and the value
abbrev pub option_of : {A : Type 0} → (A → List ℕ) → Option A → List ℕ
option_of spelled None = 0 ∷ []
option_of spelled (Some x) = 1 ∷ spelled x

-- a count, and the values
abbrev pub list_of : {A : Type 0} → (A → List ℕ) → List A → List ℕ
list_of spelled xs = number (length xs) ++ flat_map spelled xs

abbrev pub NumberFits : ℕ → Type 0
NumberFits n = n < 2 ^ 64

abbrev pub TimeFits : ℤ → Type 0
TimeFits = FitsSigned w64

abbrev pub ByteFits : ℕ → Type 0
ByteFits byte = byte < 256

abbrev pub BytesFit : List ℕ → Type 0
BytesFit bytes = length bytes < 2 ^ 64

abbrev pub OptionFits : {A : Type 0} → (A → Type 0) → Option A → Type 0
OptionFits Fits option = IfSome option Fits

-- each value has a spelling, and the count of them
abbrev pub ListFits : {A : Type 0} → (A → Type 0) → List A → Type 0
ListFits Fits xs = (length xs < 2 ^ 64) × AllByRecursion Fits xs

-- four bytes, the highest first
unfoldable pub word : ℕ → List ℕ
word n = to_be_bytes w32 n

-- one value, and then another
abbrev pub both_of : {A B : Type 0} → (A → List ℕ) → (B → List ℕ) → A × B → List ℕ
both_of first second pair = first pair.0 ++ second pair.1

abbrev pub BothFit : {A B : Type 0} → (A → Type 0) → (B → Type 0) → A × B → Type 0
BothFit First Second pair = First pair.0 × Second pair.1
