-- Reading from left to right: what stands at the front of bytes, and the bytes after it; or the first fault.
use Rattle.std.specs.Prelude.{◌≡◌, ℕ, zero, suc, ℤ, ◌+◌, ◌-◌, ◌*◌, ◌<◌, ◌^◌, List, [], ◌∷◌, length, slice_index, take, drop, Option, Some, None, Result, Ok, Err, nat_lt, ◌==◌, if◌then◌else◌}
use Rattle.std.specs.Int.{w32, w64, from_be_bytes, cast_signed}
use Rattle.slate_objects.specs.declared.faults.DecodeFault.{DecodeFault}
use Rattle.slate_objects.specs.declared.faults.DecodeFault.TheVariants.{NotANumber, TooShort, UnknownTag}
use Rattle.slate_objects.specs.declared.faults.DecodeError.{DecodeError}
use Rattle.slate_objects.specs.declared.faults.DecodeError.TheVariants as errors

infixl 10 ◌>>=◌
abbrev pub ◌>>=◌ : {A B : Type 0} → Result A DecodeFault → (A → Result B DecodeFault) → Result B DecodeFault
(Ok x) >>= f = f x
(Err fault) >>= f = Err fault

-- each item is a byte
abbrev pub IsBytes : List ℕ → Type 0
IsBytes bytes = (i : ℕ) → slice_index bytes i < 256

-- an error is the fault of a reading, unless memory ran out
abbrev pub Fails : {X : Type 0} → DecodeError → Result X DecodeFault → Type 0
Fails errors.NoMemory read = Unit {0}
Fails (errors.Fault fault) read = read ≡ Err fault

-- what a function returned is what a reading of all bytes gives, unless memory ran out
abbrev pub GivesDecoded : {X : Type 0} → Result X DecodeError → Result X DecodeFault → Type 0
GivesDecoded (Ok x) read = read ≡ Ok x
GivesDecoded (Err error) read = Fails error read

-- the same of a reading at the front of bytes, where these bytes are left
abbrev pub ReadsFront : {X : Type 0} → Result X DecodeError → List ℕ → Result (X × List ℕ) DecodeFault → Type 0
ReadsFront (Ok x) left read = read ≡ Ok (x, left)
ReadsFront (Err error) left read = Fails error read

-- a tag
unfoldable pub tag_at : List ℕ → Result (ℕ × List ℕ) DecodeFault
tag_at [] = Err TooShort
tag_at (tag ∷ rest) = Ok (tag, rest)

-- a word of four bytes, the highest first
unfoldable pub word_at : List ℕ → Result (ℕ × List ℕ) DecodeFault
word_at bytes = if nat_lt (length bytes) 4 then Err TooShort else Ok (from_be_bytes w32 (take 4 bytes), drop 4 bytes)

-- a byte from 128 on, and the number that follows: not 0, which could be left out, and within 64 bits
abbrev pub joined : ℕ → ℕ → Result ℕ DecodeFault
joined byte high =
    if high == 0 then Err NotANumber
    else if nat_lt high (2 ^ 57) then Ok (byte - 128 + 128 * high)
    else Err NotANumber

-- A number of at most so many bytes: seven bits in each, the lowest first. Each byte but the last is from 128 on.
abbrev pub number_in : ℕ → List ℕ → Result (ℕ × List ℕ) DecodeFault
number_in zero bytes = Err NotANumber
number_in (suc left) bytes = do
  byte ← tag_at bytes
  if nat_lt byte.0 128 then Ok byte else (do
    high ← number_in left byte.1
    n ← joined byte.0 high.0
    Ok (n, high.1))

unfoldable pub number_at : List ℕ → Result (ℕ × List ℕ) DecodeFault
number_at = number_in 10

-- a time, in two's complement
unfoldable pub time_at : List ℕ → Result (ℤ × List ℕ) DecodeFault
time_at bytes = do
  n ← number_at bytes
  Ok (cast_signed w64 n.0, n.1)

-- a length, and as many bytes
unfoldable pub bytes_at : List ℕ → Result (List ℕ × List ℕ) DecodeFault
bytes_at bytes = do
  n ← number_at bytes
  if nat_lt (length n.1) n.0 then Err TooShort else Ok (take n.0 n.1, drop n.0 n.1)

module _ {A : Type 0} (read : List ℕ → Result (A × List ℕ) DecodeFault) where
  -- the tag 0, or 1 and a value
  abbrev pub option_by : ℕ → List ℕ → Result (Option A × List ℕ) DecodeFault
  option_by zero bytes = Ok (None, bytes)
  option_by (suc zero) bytes = do
    x ← read bytes
    Ok (Some x.0, x.1)
  option_by (suc (suc n)) bytes = Err (UnknownTag (suc (suc n)))

  unfoldable pub option_at : List ℕ → Result (Option A × List ℕ) DecodeFault
  option_at bytes = do
    tag ← tag_at bytes
    option_by tag.0 tag.1

  -- so many values
  abbrev pub many_at : ℕ → List ℕ → Result (List A × List ℕ) DecodeFault
  many_at zero bytes = Ok ([], bytes)
  many_at (suc n) bytes = do
    x ← read bytes
    others ← many_at n x.1
    Ok (x.0 ∷ others.0, others.1)

  -- a count, and as many values
  unfoldable pub list_at : List ℕ → Result (List A × List ℕ) DecodeFault
  list_at bytes = do
    n ← number_at bytes
    many_at n.0 n.1

-- one value, and then another
abbrev pub both_at : {A B : Type 0} → (List ℕ → Result (A × List ℕ) DecodeFault) → (List ℕ → Result (B × List ℕ) DecodeFault) → List ℕ → Result ((A × B) × List ℕ) DecodeFault
both_at first second bytes = do
  x ← first bytes
  y ← second x.1
  Ok ((x.0, y.0), y.1)

-- a value that is made of what is read
abbrev pub made_at : {A B : Type 0} → (A → B) → (List ℕ → Result (A × List ℕ) DecodeFault) → List ℕ → Result (B × List ℕ) DecodeFault
made_at make read bytes = do
  x ← read bytes
  Ok (make x.0, x.1)
