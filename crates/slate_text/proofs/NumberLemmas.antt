-- When digits spell a number, and which.
use Rattle.std.proofs.Common.{◌≡◌, ℕ, zero, suc, ◌+◌, ◌-◌, ◌*◌, ◌^◌, ◌<◌, ◌≤◌, Bool, true, false, cond, ltb, ◌&&◌, List, [], ◌∷◌, length, get_or, take, Some, None, pos, refl, sym, ap, ◌∙◌, arith, rules, eqb, decimal}
use Rattle.std.specs.Char.{is_ascii_digit, digit_value}
use Rattle.std.specs.List.{list_all, position_or_len}
use Rattle.std.specs.Str.Parse.{digits_value}
use Rattle.std.proofs.lemmas.Bool.{le-ltb, lt-ltb}
use Rattle.std.proofs.lemmas.Bool.Decides.{nat_tests}
use Rattle.std.proofs.lemmas.List.{take_all}
use Rattle.std.proofs.lemmas.Int.Digits.{digits_value_more}
use Rattle.std.proofs.lemmas.Str.Parse.{digits_value-take-le, IsNumeralModel, numerals_by_value}
use Rattle.std.proofs.lemmas.Fmt.{digits_decimal, digits_value-decimal, decimal_nonempty}
use Rattle.slate_text.specs.Numbers.{number_below, moment_of}
use Rattle.slate_text.proofs.WordLemmas.{and_true}

-- a test of all fails where it fails at one
list_all-false : (p : ℕ → Bool) (bs : List ℕ) (i : ℕ) → i < length bs → p (get_or bs i 0) ≡ false → list_all p bs ≡ false
list_all-false p [] i lt h = absurd (omega arith)
list_all-false p (b ∷ bs) zero lt h = rw h refl
list_all-false p (b ∷ bs) (suc i) lt h = rw (list_all-false p bs i (omega arith) h) (and-false (p b))
  where
    and-false : (x : Bool) → (x && false) ≡ false
    and-false true = refl
    and-false false = refl

-- a byte that is no digit
pub refused_at : (limit : ℕ) (bs : List ℕ) (i : ℕ) → i < length bs → is_ascii_digit (get_or bs i 0) ≡ false → number_below limit bs ≡ None
refused_at limit [] i lt h = refl
refused_at limit (b ∷ bs) i lt h = rw (list_all-false is_ascii_digit (b ∷ bs) i lt h) refl

cond_and_false : {A : Type 0} (x y : Bool) (v : A) → y ≡ false → cond (x && y) (Some v) None ≡ None
cond_and_false true y v h = rw h refl
cond_and_false false y v h = refl

-- digits whose value passes the limit already
pub past_limit : (limit : ℕ) (bs : List ℕ) (i : ℕ) → limit ≤ digits_value 10 (take i bs) → number_below limit bs ≡ None
past_limit limit [] i le = refl
past_limit limit (b ∷ bs) i le =
    cond_and_false (list_all is_ascii_digit (b ∷ bs)) _ (digits_value 10 (b ∷ bs)) (le-ltb _ _ (omega (arith, le, digits_value-take-le 10 (b ∷ bs) i (omega arith))))

-- digits with a value below the limit
whole : (limit n : ℕ) (bs : List ℕ) → 0 < length bs → list_all is_ascii_digit bs ≡ true → n ≡ digits_value 10 bs → n < limit → number_below limit bs ≡ Some n
whole limit n [] some digits value lt = absurd (omega arith)
whole limit n (b ∷ bs) some digits value lt =
    let below : ltb (digits_value 10 (b ∷ bs)) limit ≡ true = lt-ltb _ _ (omega (arith, value)) in
    rw (digits, below) (ap (λ (k : ℕ). Some k) (sym value))

-- the same, read to the end
pub read_whole : (limit n : ℕ) (bs : List ℕ) (i : ℕ) → length bs ≤ i → 0 < length bs → list_all is_ascii_digit (take i bs) ≡ true → n ≡ digits_value 10 (take i bs) → n < limit → number_below limit bs ≡ Some n
read_whole limit n bs i end some digits value lt =
    let all : take i bs ≡ bs = take_all i bs end in
    whole limit n bs some (ap (list_all is_ascii_digit) (sym all) ∙ digits) (value ∙ ap (digits_value 10) all) lt

digit_is : (c : ℕ) → is_ascii_digit c ≡ true → digit_value c ≡ c - 48
digit_is c h = grind (arith, nat_tests)

-- one more digit
pub value_more : (bs : List ℕ) (i : ℕ) → i < length bs → is_ascii_digit (get_or bs i 0) ≡ true → digits_value 10 (take (i + 1) bs) ≡ digits_value 10 (take i bs) * 10 + (get_or bs i 0 - 48)
value_more bs i lt h = digits_value_more 10 bs i lt ∙ ap (λ (d : ℕ). digits_value 10 (take i bs) * 10 + d) (digit_is (get_or bs i 0) h)

-- digits and their value, in the words of std
digits_model : IsNumeralModel (λ ds. list_all is_ascii_digit ds ≡ true) (digits_value 10)
digits_model = numerals_by_value _ (search rules)

-- a printed number is read again
pub number_again : (limit n : ℕ) → n < limit → n < 2 ^ 64 → number_below limit (decimal n) ≡ Some n
number_again limit n lt fits = whole limit n (decimal n) (decimal_nonempty n fits) (digits_decimal digits_model n fits) (sym (digits_value-decimal digits_model n fits)) lt

-- no digit is a slash
no_slash : (ds : List ℕ) → list_all is_ascii_digit ds ≡ true → position_or_len (λ b. eqb b 47) ds ≡ length ds
no_slash [] h = refl
no_slash (d ∷ ds) h =
    let parts = and_true (is_ascii_digit d) (list_all is_ascii_digit ds) h in
    let other : eqb d 47 ≡ false = grind (arith, nat_tests) in
    rw (other, no_slash ds parts.1) (omega arith)

-- a printed moment is read again
pub moment_again : (n : ℕ) → n < 2 ^ 63 → moment_of (decimal n) ≡ Some (pos n, None)
moment_again n lt =
    let ds = decimal n in
    let fits : n < 2 ^ 64 = omega arith in
    let none : ltb (position_or_len (λ b. eqb b 47) ds) (length ds) ≡ false = le-ltb _ _ (omega (arith, no_slash ds (digits_decimal digits_model n fits))) in
    rw (none, number_again (2 ^ 63) n lt fits) refl
