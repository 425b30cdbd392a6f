-- Which names ids have.
use Rattle.std.proofs.Common.{◌≡◌, ◌≢◌, ℕ, zero, suc, ◌+◌, ◌-◌, ◌*◌, ◌^◌, ◌<◌, ◌≤◌, Bool, true, false, cond, ltb, nat_eq, ◌&&◌, List, [], ◌∷◌, ◌++◌, length, take, drop, replicate, Option, Some, None, All, MatchOption, IfSome, Bor, refl, sym, subst, ap, ◌∙◌, arith, rules, decimal}
use Rattle.std.specs.Char.{is_ascii_digit, digit_value}
use Rattle.std.specs.List.{list_all}
use Rattle.std.specs.Str.Parse.{digits_value, digits_value_after}
use Rattle.std.specs.Cmp.Lexicographic.{pointwise, same_text, other_text}
use Rattle.std.proofs.lemmas.Bool.{lt-ltb, ltb-true}
use Rattle.std.proofs.lemmas.Bool.Decides.{nat_tests}
use Rattle.std.proofs.lemmas.List.{length-replicate, length-append, take-append-drop, append-nil}
use Rattle.std.proofs.lemmas.List.Elements.{All-nil, All-cons}
use Rattle.std.proofs.lemmas.List.Folds.{list_all-append}
use Rattle.std.proofs.Math.Seq.{drop-append_seam}
use Rattle.std.proofs.lemmas.Str.Parse.{IsNumeralModel, numerals_by_value}
use Rattle.std.proofs.lemmas.Fmt.{digits_decimal, digits_value-decimal, length-decimal-le}
use Rattle.std.specs.Fmt.{styled_decimal, format_spec, padded_integral, char_count}
use Rattle.std.proofs.Math.Nat.{sub-zero}
use Rattle.slate_text.specs.Numbers.{number_of}
use Rattle.slate_text.proofs.WordLemmas.{and_true}
use Rattle.slate_directory.specs.Names.{number_stem}

-- digits and their value, in the words of std
digits_model : IsNumeralModel (λ ds. list_all is_ascii_digit ds ≡ true) (digits_value 10)
digits_model = numerals_by_value _ (search rules)

-- zeros before digits change no value
value_of_zeros : (k : ℕ) (ds : List ℕ) → digits_value 10 (replicate k 48 ++ ds) ≡ digits_value 10 ds
value_of_zeros zero ds = refl
value_of_zeros (suc k) ds = value_of_zeros k ds

zeros_are_digits : (k : ℕ) → list_all is_ascii_digit (replicate k 48) ≡ true
zeros_are_digits zero = refl
zeros_are_digits (suc k) = zeros_are_digits k

-- a number's name has 20 bytes, all digits, and the number is their value
pub length_stem : (n : ℕ) → n < 2 ^ 64 → length (number_stem n) ≡ 20
length_stem n fits =
    let short : length (decimal n) ≤ 20 = length-decimal-le 20 n (omega arith) (omega arith) fits in
    simp (length-append, length-replicate) (omega arith)

pub stem_digits : (n : ℕ) → n < 2 ^ 64 → list_all is_ascii_digit (number_stem n) ≡ true
stem_digits n fits =
    rw (list_all-append is_ascii_digit (replicate (20 - length (decimal n)) 48) (decimal n), zeros_are_digits (20 - length (decimal n)), digits_decimal digits_model n fits) refl

stem_value : (n : ℕ) → n < 2 ^ 64 → digits_value 10 (number_stem n) ≡ n
stem_value n fits = value_of_zeros (20 - length (decimal n)) (decimal n) ∙ digits_value-decimal digits_model n fits

-- a digit and its value
digit_is : (c : ℕ) → is_ascii_digit c ≡ true → digit_value c ≡ c - 48
digit_is c h = grind (arith, nat_tests)

digit_bounds : (c : ℕ) → is_ascii_digit c ≡ true → (48 ≤ c) × (c ≤ 57)
digit_bounds c h = (grind (arith, nat_tests), grind (arith, nat_tests))

-- of as many digits, those with one value are the same
same_digits : (m n : ℕ) (xs ys : List ℕ) → length xs ≡ length ys → list_all is_ascii_digit xs ≡ true → list_all is_ascii_digit ys ≡ true
    → digits_value_after 10 m xs ≡ digits_value_after 10 n ys → (m ≡ n) × (xs ≡ ys)
same_digits m n [] [] same all_x all_y value = (value, refl)
same_digits m n [] (y ∷ ys) same all_x all_y value = absurd (omega arith)
same_digits m n (x ∷ xs) [] same all_x all_y value = absurd (omega arith)
same_digits m n (x ∷ xs) (y ∷ ys) same all_x all_y value =
    let of_x = and_true (is_ascii_digit x) (list_all is_ascii_digit xs) all_x in
    let of_y = and_true (is_ascii_digit y) (list_all is_ascii_digit ys) all_y in
    let rest : (m * 10 + digit_value x ≡ n * 10 + digit_value y) × (xs ≡ ys) =
    same_digits (m * 10 + digit_value x) (n * 10 + digit_value y) xs ys (omega arith) of_x.1 of_y.1 value in
    let x_is = digit_is x of_x.0 in
    let y_is = digit_is y of_y.0 in
    let x_in = digit_bounds x of_x.0 in
    let y_in = digit_bounds y of_y.0 in
    let tails = rest.1 in
    let heads : x ≡ y = omega (arith, rest.0) in
    (omega (arith, rest.0), cc)

cond_some : (x y : Bool) (v n : ℕ) → cond (x && y) (Some v) None ≡ Some n → (x ≡ true) × ((y ≡ true) × (v ≡ n))
cond_some true true v n is = (refl, (refl, cc))
cond_some true false v n is = absurd (cc)
cond_some false y v n is = absurd (cc)

-- what is read as a number is digits with that value
some_number : (bs : List ℕ) (n : ℕ) → number_of bs ≡ Some n → (list_all is_ascii_digit bs ≡ true) × ((digits_value 10 bs ≡ n) × (n < 2 ^ 64))
some_number [] n is = absurd (cc)
some_number (b ∷ bs) n is =
    let parts = cond_some (list_all is_ascii_digit (b ∷ bs)) (ltb (digits_value 10 (b ∷ bs)) (2 ^ 64)) (digits_value 10 (b ∷ bs)) n is in
    let below : digits_value 10 (b ∷ bs) < 2 ^ 64 = ltb-true _ _ parts.1.0 in
    (parts.0, (parts.1.1, subst (λ (k : ℕ). k < 2 ^ 64) parts.1.1 below))

-- digits with that value are read as it
read_digits : (bs : List ℕ) (n : ℕ) → 0 < length bs → list_all is_ascii_digit bs ≡ true → digits_value 10 bs ≡ n → n < 2 ^ 64 → number_of bs ≡ Some n
read_digits [] n some digits value fits = absurd (omega arith)
read_digits (b ∷ bs) n some digits value fits =
    let below : ltb (digits_value 10 (b ∷ bs)) (2 ^ 64) ≡ true = lt-ltb _ _ (subst (λ (k : ℕ). k < 2 ^ 64) (sym value) fits) in
    rw (digits, below) (ap (λ (k : ℕ). Some k) value)

-- 20 digits that are read as a number are its name
pub number_found : (bs : List ℕ) (n : ℕ) → length bs ≡ 20 → number_of bs ≡ Some n → bs ≡ number_stem n
number_found bs n long is =
    let known = some_number bs n is in
    let same = same_digits 0 0 bs (number_stem n) (long ∙ sym (length_stem n known.1.1)) known.0 (stem_digits n known.1.1) (known.1.0 ∙ sym (stem_value n known.1.1)) in
    same.1

-- and the name of a number is read as that number
pub number_again : (n : ℕ) → n < 2 ^ 64 → number_of (number_stem n) ≡ Some n
number_again n fits = read_digits (number_stem n) n (omega (arith, length_stem n fits)) (stem_digits n fits) (stem_value n fits) fits

-- a name that ends in an extension
pub before_suffix : (name extension stem : List ℕ) → pointwise nat_eq (drop (length name - length extension) name) extension ≡ true → stem ≡ take (length name - length extension) name → name ≡ stem ++ extension
before_suffix name extension stem same is =
    let tail : drop (length name - length extension) name ≡ extension = same_text _ _ (sym same) in
    sym (take-append-drop (length name - length extension) name) ∙ (ap (λ t. take (length name - length extension) name ++ t) tail ∙ ap (λ s. s ++ extension) (sym is))

-- and one that doesn't
pub no_suffix : (name extension stem : List ℕ) → pointwise nat_eq (drop (length name - length extension) name) extension ≡ false → name ≢ stem ++ extension
no_suffix name extension stem other is =
    let long : length name - length extension ≡ length stem = omega (arith, ap length is, length-append stem extension) in
    let tail : drop (length name - length extension) name ≡ extension =
    ap (λ n. drop n name) long ∙ (ap (λ (xs : List ℕ). drop (length stem) xs) is ∙ drop-append_seam stem extension) in
    other_text _ _ (sym other) tail

-- no digit is a slash
pub no_slash : (ds : List ℕ) → list_all is_ascii_digit ds ≡ true → All (λ b. b ≢ 47) ds
no_slash [] digits = All-nil (λ b. b ≢ 47)
no_slash (d ∷ ds) digits =
    let parts = and_true (is_ascii_digit d) (list_all is_ascii_digit ds) digits in
    let bounds = digit_bounds d parts.0 in
    All-cons (λ b. b ≢ 47) d ds (λ is. absurd (omega (arith, bounds.0, is))) (no_slash ds parts.1)

-- what `strip_suffix` says of a name
pub suffix_found : (name extension : List ℕ) (result : Option (Bor (List ℕ))) → MatchOption result (pointwise nat_eq (drop (length name - length extension) name) extension ≡ false) (λ x. (pointwise nat_eq (drop (length name - length extension) name) extension ≡ true) × (x.now ≡ take (length name - length extension) name) × (length x.now + length extension ≡ length name)) → IfSome result (λ stem. name ≡ stem.now ++ extension)
suffix_found name extension (Some x) cases = before_suffix name extension x.now cases.0 cases.1
suffix_found name extension None cases = tt

pub suffix_none : (name extension : List ℕ) (result : Option (Bor (List ℕ))) → MatchOption result (pointwise nat_eq (drop (length name - length extension) name) extension ≡ false) (λ x. (pointwise nat_eq (drop (length name - length extension) name) extension ≡ true) × (x.now ≡ take (length name - length extension) name) × (length x.now + length extension ≡ length name)) → result ≡ None → (stem : List ℕ) → name ≢ stem ++ extension
suffix_none name extension (Some x) cases is = absurd (cc)
suffix_none name extension None cases is = λ stem. no_suffix name extension stem cases

-- a dash behind 20 bytes
pub dash_found : (name rest second : List ℕ) → rest ≡ drop 20 name → pointwise nat_eq (take 1 rest) (45 ∷ []) ≡ true → second ≡ drop 1 rest → name ≡ take 20 name ++ (45 ∷ second)
dash_found name rest second rest_is dash second_is =
    let head : take 1 rest ≡ 45 ∷ [] = same_text _ _ (sym dash) in
    let whole : rest ≡ 45 ∷ second = sym (take-append-drop 1 rest) ∙ (ap (λ (xs : List ℕ). xs ++ drop 1 rest) head ∙ ap (λ (xs : List ℕ). 45 ∷ xs) (sym second_is)) in
    sym (take-append-drop 20 name) ∙ ap (λ (xs : List ℕ). take 20 name ++ xs) (sym rest_is ∙ whole)

pub no_dash : (name rest first second : List ℕ) → rest ≡ drop 20 name → pointwise nat_eq (take 1 rest) (45 ∷ []) ≡ false → length first ≡ 20 → name ≢ first ++ (45 ∷ second)
no_dash name rest first second rest_is other long is =
    let tail : rest ≡ 45 ∷ second =
    rest_is ∙ (ap (λ (xs : List ℕ). drop 20 xs) is ∙ (ap (λ (n : ℕ). drop n (first ++ (45 ∷ second))) (sym long) ∙ drop-append_seam first (45 ∷ second))) in
    other_text _ _ (sym other) (ap (λ (xs : List ℕ). take 1 xs) tail)

-- the parts round a dash, of which the first ones are as long
pub same_parts : (a b c d : List ℕ) → length a ≡ length c → a ++ (45 ∷ b) ≡ c ++ (45 ∷ d) → (a ≡ c) × (b ≡ d)
same_parts [] b [] d long same = (refl, cc)
same_parts [] b (y ∷ c) d long same = absurd (omega arith)
same_parts (x ∷ a) b [] d long same = absurd (omega arith)
same_parts (x ∷ a) b (y ∷ c) d long same =
    let head : x ≡ y = cc in
    let tail : a ++ (45 ∷ b) ≡ c ++ (45 ∷ d) = cc in
    let rest = same_parts a b c d (omega arith) tail in
    let first = rest.0 in
    (cc, rest.1)

-- what is read of 20 bytes
pub stem_found : (bs : List ℕ) (result : Option ℕ) → length bs ≡ 20 → result ≡ number_of bs → IfSome result (λ id. bs ≡ number_stem id)
stem_found bs (Some n) long is = number_found bs n long (sym is)
stem_found bs None long is = tt

pub stem_none : (bs : List ℕ) (result : Option ℕ) → result ≡ number_of bs → result ≡ None → (id : ℕ) → id < 2 ^ 64 → bs ≢ number_stem id
stem_none bs result is none id fits same =
    let again : number_of bs ≡ Some id = ap (λ (xs : List ℕ). number_of xs) same ∙ number_again id fits in
    let both : Some id ≡ None = sym again ∙ (sym is ∙ none) in
    absurd (cc)

-- what `{:020}` writes
pub styled_stem : (n : ℕ) → styled_decimal (format_spec 32 0 4 20 (2 ^ 64 - 1)) n ≡ number_stem n
unfolding padded_integral char_count
styled_stem n = simp (sub-zero, append-nil {A = ℕ})
