-- How bytes are spelled as a word of a script, and how they print.
use Rattle.std.specs.Prelude.{ℕ, ◌+◌, ◌-◌, ◌*◌, ◌/◌, ◌%◌, ◌==◌, Bool, not, ◌&&◌, ◌||◌, List, [], ◌∷◌, Option, Some, None, nat_lt, nat_le, if◌then◌else◌, option_and_then}
use Rattle.std.specs.Option.{option_map}
use Rattle.std.specs.List.{flat_map}

-- a byte that prints as it is: 21 to 7e, except `%`
abbrev pub is_plain : ℕ → Bool
is_plain b = nat_le 0x21 b && nat_le b 0x7e && not (b == 37)

-- the lower-case hexadecimal digit of a value below 16
abbrev pub hex_digit : ℕ → ℕ
hex_digit d = if nat_lt d 10 then 48 + d else 87 + d

-- how a byte prints
abbrev pub byte_text : ℕ → List ℕ
byte_text b = if is_plain b then b ∷ [] else 37 ∷ hex_digit (b / 16) ∷ hex_digit (b % 16) ∷ []

-- how bytes print as a word: the empty text is `%`
abbrev pub word_text : List ℕ → List ℕ
word_text [] = 37 ∷ []
word_text (b ∷ bs) = flat_map byte_text (b ∷ bs)

-- the value of a hexadecimal digit of either case
abbrev pub hex_value : ℕ → Option ℕ
hex_value c =
    if nat_le 48 c && nat_le c 57 then Some (c - 48)
    else (if nat_le 97 c && nat_le c 102 then Some (c - 87)
    else (if nat_le 65 c && nat_le c 70 then Some (c - 55) else None))

-- the byte that two hexadecimal digits spell
abbrev pub hex_pair : ℕ → ℕ → Option ℕ
hex_pair high low = option_and_then (λ h. option_map (λ l. 16 * h + l) (hex_value low)) (hex_value high)

-- a byte that stands for itself: no space, newline, carriage return or `%`
abbrev pub is_literal : ℕ → Bool
is_literal b = not (b == 32 || b == 10 || b == 13 || b == 37)

-- a byte before other bytes
abbrev pub prefixed : Option ℕ → Option (List ℕ) → Option (List ℕ)
prefixed byte bytes = option_and_then (λ b. option_map (λ bs. b ∷ bs) bytes) byte

-- a byte that stands for itself, and what follows it
abbrev pub literal : ℕ → Option (List ℕ) → Option (List ℕ)
literal b bytes = if is_literal b then prefixed (Some b) bytes else None

-- what the bytes of a word spell: `%` and two digits stand for a byte
abbrev pub spelled : List ℕ → Option (List ℕ)
spelled [] = Some []
spelled (b ∷ []) = literal b (Some [])
spelled (b ∷ c ∷ []) = literal b (spelled (c ∷ []))
spelled (b ∷ c ∷ d ∷ rest) = if b == 37 then prefixed (hex_pair c d) (spelled rest) else literal b (spelled (c ∷ d ∷ rest))

-- the bytes that a word spells: `%` alone is the empty text, and no word is empty
abbrev pub word_of : List ℕ → Option (List ℕ)
word_of [] = None
word_of (b ∷ []) = if b == 37 then Some [] else literal b (Some [])
word_of (b ∷ c ∷ bs) = spelled (b ∷ c ∷ bs)
