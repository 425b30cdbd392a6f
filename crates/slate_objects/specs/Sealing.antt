-- An object as bytes: a head with its kind, the version of its format, the length of its body and the body's checksum; and
-- the body.
use Rattle.std.specs.Prelude.{ℕ, Bool, not, ◌&&◌, List, ◌++◌, length, take, drop, Result, Ok, Err, nat_lt, ◌==◌, if◌then◌else◌}
use Rattle.std.specs.Int.{w32, from_be_bytes}
use Rattle.slate_objects.specs.declared.faults.DecodeFault.{DecodeFault}
use Rattle.slate_objects.specs.declared.faults.DecodeFault.TheVariants.{AnotherKind, AnotherVersion, Checksum, TooShort, Trailing}
use Rattle.slate_objects.specs.declared.seals.Head.{Head}
use Rattle.slate_objects.specs.Checksum.{crc32}
use Rattle.slate_objects.specs.Reading.{◌>>=◌, number_at, word_at}
use Rattle.slate_objects.specs.Spelling.{number, word}

unfoldable pub kind_at : ℕ → List ℕ → Result (ℕ × List ℕ) DecodeFault
kind_at kind bytes = do
  found ← word_at bytes
  if found.0 == kind then Ok found else Err AnotherKind

unfoldable pub version_at : ℕ → List ℕ → Result (ℕ × List ℕ) DecodeFault
version_at version bytes = do
  found ← word_at bytes
  if found.0 == version then Ok found else Err (AnotherVersion found.0)

unfoldable pub head_at : ℕ → ℕ → List ℕ → Result (Head × List ℕ) DecodeFault
head_at kind version bytes = do
  found ← kind_at kind bytes
  version ← version_at version found.1
  length ← number_at version.1
  sum ← word_at length.1
  Ok (record { length = length.0; sum = sum.0 }, sum.1)

-- whether a body is the one that a head speaks of
unfoldable pub checked : Head → List ℕ → Result (Unit {0}) DecodeFault
checked head body =
    if nat_lt (length body) head.length then Err TooShort
    else if nat_lt head.length (length body) then Err Trailing
    else if head.sum == crc32 body then Ok tt
    else Err Checksum

-- the body of an object of this kind, in this version of its format
unfoldable pub body_in : ℕ → ℕ → List ℕ → Result (List ℕ) DecodeFault
body_in kind version bytes = do
  head ← head_at kind version bytes
  right ← checked head.0 head.1
  Ok head.1

-- what was read, where all bytes were taken
unfoldable pub whole : {A : Type 0} → A × List ℕ → Result A DecodeFault
whole value = if length value.1 == 0 then Ok value.0 else Err Trailing

-- the object that all of the bytes are
unfoldable pub object_in : {A : Type 0} → (List ℕ → Result (A × List ℕ) DecodeFault) → ℕ → ℕ → List ℕ → Result A DecodeFault
object_in read_at kind version bytes = do
  body ← body_in kind version bytes
  value ← read_at body
  whole value

abbrev pub sealed : ℕ → ℕ → List ℕ → List ℕ
sealed kind version body = word kind ++ word version ++ number (length body) ++ word (crc32 body) ++ body

-- whether an object says of itself that it is in this version of its format
abbrev pub has_version : ℕ → List ℕ → Bool
has_version version bytes = not (nat_lt (length bytes) 8) && (from_be_bytes w32 (take 4 (drop 4 bytes)) == version)
