-- What words spell.
use Rattle.std.proofs.Common.{◌≡◌, ℕ, ◌+◌, ◌*◌, ◌/◌, ◌%◌, ◌<◌, ◌≤◌, Bool, true, false, ltb, ◌&&◌, List, [], ◌∷◌, ◌++◌, length, get_or, drop, Option, Some, None, refl, sym, ap, ◌∙◌, arith, append_assoc, eqb, inl, inr, All}
use Rattle.std.specs.Option.{option_map}
use Rattle.std.specs.List.{list_all, flat_map, AllByRecursion}
use Rattle.std.proofs.lemmas.Bool.{cases_Bool, cases_lt, lt-ltb, le-ltb}
use Rattle.std.proofs.lemmas.Bool.Decides.{nat_tests}
use Rattle.std.proofs.lemmas.List.Elements.{recursion_from_All}
use Rattle.slate_text.specs.Words.{is_literal, is_plain, hex_pair, hex_digit, hex_value, byte_text, word_text, prefixed, spelled, word_of}

-- what was read, before what the rest spells
abbrev pub after : List ℕ → Option (List ℕ) → Option (List ℕ)
after front bytes = option_map (λ bs. front ++ bs) bytes

push_front : (front : List ℕ) (b : ℕ) (bytes : Option (List ℕ)) → after (front ++ b ∷ []) bytes ≡ after front (prefixed (Some b) bytes)
push_front front b None = refl
push_front front b (Some bs) = ap (λ (t : List ℕ). Some t) (append_assoc front (b ∷ []) bs)

spelled_literal : (xs : List ℕ) → 0 < length xs → is_literal (get_or xs 0 0) ≡ true → spelled xs ≡ prefixed (Some (get_or xs 0 0)) (spelled (drop 1 xs))
spelled_literal [] some h = absurd (omega arith)
spelled_literal (b ∷ []) some h = rw h refl
spelled_literal (b ∷ c ∷ []) some h = rw h refl
spelled_literal (b ∷ c ∷ d ∷ rest) some h = let no : eqb b 37 ≡ false = grind (arith, nat_tests) in rw (h, no) refl

spelled_escape : (xs : List ℕ) → 3 ≤ length xs → get_or xs 0 0 ≡ 37 → spelled xs ≡ prefixed (hex_pair (get_or xs 1 0) (get_or xs 2 0)) (spelled (drop 3 xs))
spelled_escape [] long h = absurd (omega arith)
spelled_escape (b ∷ []) long h = absurd (omega arith)
spelled_escape (b ∷ c ∷ []) long h = absurd (omega arith)
spelled_escape (b ∷ c ∷ d ∷ rest) long h = let yes : eqb b 37 ≡ true = grind (arith, nat_tests) in rw yes refl

-- one more byte that stands for itself
pub goes_on : (front xs rest out : List ℕ) (total : Option (List ℕ)) → 0 < length xs → is_literal (get_or xs 0 0) ≡ true → rest ≡ drop 1 xs → out ≡ front ++ get_or xs 0 0 ∷ [] → after front (spelled xs) ≡ total → after out (spelled rest) ≡ total
goes_on front xs rest out total some h rest-is out-is so_far =
    rw (rest-is, out-is) (push_front front (get_or xs 0 0) (spelled (drop 1 xs)) ∙ sym (ap (after front) (spelled_literal xs some h)) ∙ so_far)

-- one more byte that `%` and two digits stand for
pub escapes : (front xs rest out : List ℕ) (total : Option (List ℕ)) (b : ℕ) → 3 ≤ length xs → get_or xs 0 0 ≡ 37 → Some b ≡ hex_pair (get_or xs 1 0) (get_or xs 2 0) → rest ≡ drop 3 xs → out ≡ front ++ b ∷ [] → after front (spelled xs) ≡ total → after out (spelled rest) ≡ total
escapes front xs rest out total b long h pair rest-is out-is so_far =
    rw (rest-is, out-is) (push_front front b (spelled (drop 3 xs)) ∙ ap (λ (o : Option ℕ). after front (prefixed o (spelled (drop 3 xs)))) pair ∙ sym (ap (after front) (spelled_escape xs long h)) ∙ so_far)

-- both sides of a test that holds
pub and_true : (x y : Bool) → (x && y) ≡ true → (x ≡ true) × (y ≡ true)
and_true true y h = (refl, h)
and_true false y h = absurd cc

-- a word of bytes that stand for themselves spells itself
all_literal : (bs : List ℕ) → list_all is_literal bs ≡ true → spelled bs ≡ Some bs
all_literal [] h = refl
all_literal (b ∷ bs) h =
    let parts = and_true (is_literal b) (list_all is_literal bs) h in
    spelled_literal (b ∷ bs) (omega arith) parts.0 ∙ ap (prefixed (Some b)) (all_literal bs parts.1)

pub spells_itself : (bs : List ℕ) → 0 < length bs → list_all is_literal bs ≡ true → Some bs ≡ word_of bs
spells_itself [] some h = absurd (omega arith)
spells_itself (b ∷ []) some h =
    let parts = and_true (is_literal b) true h in
    let no : eqb b 37 ≡ false = grind (arith, nat_tests) in
    rw (parts.0, no) refl
spells_itself (b ∷ c ∷ bs) some h = sym (all_literal (b ∷ c ∷ bs) h)

-- a digit is read again
hex_again : (d : ℕ) → d < 16 → hex_value (hex_digit d) ≡ Some d
hex_again d lt = elim (cases_lt d 10) [ inl small ↦ low_again d small | inr large ↦ high_again d large lt ]
  where
    low_again : (d : ℕ) → d < 10 → hex_value (hex_digit d) ≡ Some d
    low_again d lt = let t : ltb d 10 ≡ true = lt-ltb d 10 lt in rw t (grind (arith, nat_tests))

    high_again : (d : ℕ) → 10 ≤ d → d < 16 → hex_value (hex_digit d) ≡ Some d
    high_again d ge lt = let f : ltb d 10 ≡ false = le-ltb d 10 ge in rw f (grind (arith, nat_tests))

-- a byte that prints as it is stands for itself
plain_literal : (b : ℕ) → is_plain b ≡ true → is_literal b ≡ true
plain_literal b h = grind (arith, nat_tests)

pair_again : (b : ℕ) → b < 256 → hex_pair (hex_digit (b / 16)) (hex_digit (b % 16)) ≡ Some b
pair_again b lt =
    let high : hex_value (hex_digit (b / 16)) ≡ Some (b / 16) = hex_again (b / 16) (omega arith) in
    let low : hex_value (hex_digit (b % 16)) ≡ Some (b % 16) = hex_again (b % 16) (omega arith) in
    let same : 16 * (b / 16) + b % 16 ≡ b = omega arith in
    rw (high, low) (ap (λ (n : ℕ). Some n) same)

-- a byte that was printed is read again, whatever follows
byte_again : (b : ℕ) (rest : List ℕ) → b < 256 → spelled (byte_text b ++ rest) ≡ prefixed (Some b) (spelled rest)
byte_again b rest lt = elim (cases_Bool (is_plain b)) [ inl is ↦ plain is | inr other ↦ escaped other ]
  where
    plain : is_plain b ≡ true → spelled (byte_text b ++ rest) ≡ prefixed (Some b) (spelled rest)
    plain is = rw is (spelled_literal (b ∷ rest) (omega arith) (plain_literal b is))

    escaped : is_plain b ≡ false → spelled (byte_text b ++ rest) ≡ prefixed (Some b) (spelled rest)
    escaped other = rw other (ap (λ (o : Option ℕ). prefixed o (spelled rest)) (pair_again b lt))

bytes_again : (bs : List ℕ) → AllByRecursion (λ b. b < 256) bs → spelled (flat_map byte_text bs) ≡ Some bs
bytes_again [] all = refl
bytes_again (b ∷ bs) all = byte_again b (flat_map byte_text bs) all.0 ∙ ap (prefixed (Some b)) (bytes_again bs all.1)

-- a word that a byte's text begins is no `%` alone
begins : (b : ℕ) (rest : List ℕ) → word_of (byte_text b ++ rest) ≡ spelled (byte_text b ++ rest)
begins b rest = elim (cases_Bool (is_plain b)) [ inl is ↦ rw is (plain rest is) | inr other ↦ rw other refl ]
  where
    plain : (rest : List ℕ) → is_plain b ≡ true → word_of (b ∷ rest) ≡ spelled (b ∷ rest)
    plain [] is = let other : eqb b 37 ≡ false = grind (arith, nat_tests) in rw other refl
    plain (c ∷ cs) is = refl

-- what was printed as a word is read again
pub word_again : (bs : List ℕ) → All (λ b. b < 256) bs → word_of (word_text bs) ≡ Some bs
word_again [] all = refl
word_again (b ∷ bs) all = begins b (flat_map byte_text bs) ∙ bytes_again (b ∷ bs) (recursion_from_All (λ b. b < 256) (b ∷ bs) all)
