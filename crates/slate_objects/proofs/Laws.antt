-- What is read is spelled so, and what is spelled so is read again: one law for each combinator.
use Rattle.std.proofs.Common.{◌≡◌, ℕ, ℤ, zero, suc, ◌+◌, ◌-◌, ◌*◌, ◌/◌, ◌%◌, ◌^◌, ◌<◌, ◌≤◌, Bool, true, false, cond, eqb, ltb, List, [], ◌∷◌, ◌++◌, length, take, drop, Option, Some, None, Result, Ok, Err, refl, sym, ap, subst, ◌∙◌, append_assoc, arith, inl, inr}
use Rattle.std.specs.List.{flat_map, AllByRecursion}
use Rattle.std.specs.Int.{w32, w64, from_be_bytes, to_be_bytes, cast_signed, cast_unsigned}
use Rattle.std.proofs.lemmas.Bool.{cases_lt, ltb-false, ltb-true, le-ltb, lt-ltb, ne_eqb}
use Rattle.std.proofs.lemmas.Grind.{pow_more}
use Rattle.std.proofs.Math.Facts.{Fits-of_z, sfits_to_z}
use Rattle.std.proofs.lemmas.Int.{to_z-of_z, of_z-to_z}
use Rattle.std.proofs.lemmas.List.{take_at, drop_at, take-append-drop, length-append, length-take, get_or-drop, get_or-take, get_or_past}
use Rattle.std.proofs.lemmas.List.Concat.{flat_map-cons}
use Rattle.std.proofs.lemmas.Nat.{be_bytes_4, from_be_bytes-to_be_bytes_4}
use Rattle.slate_objects.specs.declared.faults.DecodeFault.{DecodeFault}
use Rattle.slate_objects.specs.declared.faults.DecodeFault.TheVariants.{NotANumber, TooShort}
use Rattle.slate_objects.specs.Reading.{◌>>=◌, IsBytes, both_at, bytes_at, joined, list_at, made_at, many_at, number_at, number_in, option_at, tag_at, time_at, word_at}
use Rattle.slate_objects.specs.Spelling.{BothFit, ByteFits, BytesFit, ListFits, NumberFits, OptionFits, TimeFits, both_of, byte_of, bytes_of, digits, list_of, number, option_of, time, word}

pub IsBytes-drop : (n : ℕ) (bytes : List ℕ) → IsBytes bytes → IsBytes (drop n bytes)
IsBytes-drop n bytes h i = rw get_or-drop (h (n + i))

pub IsBytes-take : (n : ℕ) (bytes : List ℕ) → IsBytes bytes → IsBytes (take n bytes)
IsBytes-take n bytes h i =
    elim (cases_lt i n) [
      | inl lt ↦ rw (get_or-take n bytes i 0 lt) (h i)
      | inr le ↦ rw (get_or_past (take n bytes) i 0 (omega (arith, length-take n bytes))) (omega arith)
    ]

pub IsBytes-rest : (b : ℕ) (bytes : List ℕ) → IsBytes (b ∷ bytes) → IsBytes bytes
IsBytes-rest b bytes h i = h (suc i)

-- the value of a step that did not fail
pub bind_ok : {A B : Type 0} (r : Result A DecodeFault) (f : A → Result B DecodeFault) (y : B) → (r >>= f) ≡ Ok y → (x : A) × (r ≡ Ok x) × (f x ≡ Ok y)
bind_ok (Ok x) f y e = (x, refl, e)
bind_ok (Err d) f y e = absurd cc

-- a test that did not fail
pub guard_ok : {A : Type 0} (b : Bool) (d : DecodeFault) (x y : A) → cond b (Err d) (Ok x) ≡ Ok y → (b ≡ false) × (x ≡ y)
guard_ok true d x y e = absurd cc
guard_ok false d x y e = (refl, cc)

abbrev pub done : {A : Type 0} → A → Result A DecodeFault
done x = Ok x

pub ok_is : {A : Type 0} (x y : A) → done x ≡ done y → x ≡ y
ok_is x y e = cc

-- what a reader took from the front
pub record Takes (bytes text rest : List ℕ) : Type 0 where
  pub parts : bytes ≡ text ++ rest
  pub rest_fits : IsBytes rest

pub Takes-then : (a x b y c : List ℕ) → Takes a x b → Takes b y c → Takes a (x ++ y) c
Takes-then a x b y c p q = record { parts = p.parts ∙ ap (λ (t : List ℕ). x ++ t) q.parts ∙ sym (append_assoc x y c); rest_fits = q.rest_fits }

-- Both laws of a format: what is read at the front of bytes is spelled there, and fits; and a value that fits is read
-- from its spelling, whatever follows.
pub record IsFormat {A : Type 0} (read_at : List ℕ → Result (A × List ℕ) DecodeFault) (spelled : A → List ℕ) (Fits : A → Type 0) : Type 0 where
  pub takes : (bytes : List ℕ) (x : A) (rest : List ℕ) → IsBytes bytes → read_at bytes ≡ Ok (x, rest) → Takes bytes (spelled x) rest × Fits x
  pub again : (x : A) (rest : List ℕ) → Fits x → read_at (spelled x ++ rest) ≡ Ok (x, rest)

-- ---- words and numbers

-- a number in so many bytes, spelled and read so
record IsWide (count limit : ℕ) (spelled : ℕ → List ℕ) (value : List ℕ → ℕ) : Type 0 where
  len : (n : ℕ) → length (spelled n) ≡ count
  back : (bytes : List ℕ) → length bytes ≡ count → IsBytes bytes → spelled (value bytes) ≡ bytes
  again : (n : ℕ) → n < limit → value (spelled n) ≡ n
  below : (bytes : List ℕ) → IsBytes bytes → value bytes < limit

wide32 : IsWide 4 (2 ^ 32) (to_be_bytes w32) (from_be_bytes w32)
wide32 = record {
  len = λ n. refl;
  back = λ bytes len fits. be_bytes_4 bytes _ len fits refl;
  again = λ n lt. from_be_bytes-to_be_bytes_4 n lt;
  below = λ bytes fits. omega (arith, fits 0, fits 1, fits 2, fits 3);
}

abbrev wide_at : ℕ → (List ℕ → ℕ) → List ℕ → Result (ℕ × List ℕ) DecodeFault
wide_at count value bytes = cond (ltb (length bytes) count) (Err TooShort) (Ok (value (take count bytes), drop count bytes))

wide_format : (count limit : ℕ) (spelled : ℕ → List ℕ) (value : List ℕ → ℕ) → IsWide count limit spelled value → IsFormat (wide_at count value) spelled (λ n. n < limit)
wide_format count limit spelled value wide = record {
  takes = λ bytes n rest fits e.
      let g = guard_ok (ltb (length bytes) count) TooShort (value (take count bytes), drop count bytes) (n, rest) e in
      let long : count ≤ length bytes = ltb-false _ _ g.0 in
      let n-is : value (take count bytes) ≡ n = ap (λ (p : ℕ × List ℕ). p.0) g.1 in
      let rest-is : drop count bytes ≡ rest = ap (λ (p : ℕ × List ℕ). p.1) g.1 in
      let front : spelled n ≡ take count bytes = rw (← n-is) (wide.back (take count bytes) (omega (arith, length-take count bytes)) (IsBytes-take count bytes fits)) in
      (record { parts = rw (front, ← rest-is) (sym (take-append-drop count bytes)); rest_fits = rw (← rest-is) (IsBytes-drop count bytes fits) }, rw (← n-is) (wide.below (take count bytes) (IsBytes-take count bytes fits)));
  again = λ n rest lt.
      let len = wide.len n in
      let long : ltb (length (spelled n ++ rest)) count ≡ false = le-ltb _ _ (omega (arith, length-append (spelled n) rest)) in
      rw (long, take_at (spelled n) rest count len, drop_at (spelled n) rest count len, wide.again n lt) refl;
}

pub word_format : IsFormat word_at word (λ n. n < 2 ^ 32)
unfolding word_at word
word_format = wide_format 4 (2 ^ 32) (to_be_bytes w32) (from_be_bytes w32) wide32

-- a tag is a byte
tag_takes : (bytes : List ℕ) (tag : ℕ) (rest : List ℕ) → IsBytes bytes → tag_at bytes ≡ Ok (tag, rest) → Takes bytes (tag ∷ []) rest × (tag < 256)
unfolding tag_at
tag_takes [] tag rest fits e = absurd cc
tag_takes (b ∷ bytes) tag rest fits e =
    subst (λ (x : ℕ × List ℕ). Takes (b ∷ bytes) (x.0 ∷ []) x.1 × (x.0 < 256)) (ok_is (b, bytes) (tag, rest) e)
    (record { parts = refl; rest_fits = IsBytes-rest b bytes fits }, fits 0)

tag_again : (tag : ℕ) (rest : List ℕ) → tag_at (tag ∷ rest) ≡ Ok (tag, rest)
unfolding tag_at
tag_again tag rest = refl

pub byte_format : IsFormat tag_at byte_of ByteFits
byte_format = record { takes = tag_takes; again = λ byte rest fits. tag_again byte rest }

joined_by : (byte high n : ℕ) (none small : Bool) → eqb high 0 ≡ none → ltb high (2 ^ 57) ≡ small → cond none (Err NotANumber) (cond small (Ok (byte - 128 + 128 * high)) (Err NotANumber)) ≡ Ok n
    → (0 < high) × (high < 2 ^ 57) × (byte - 128 + 128 * high ≡ n)
joined_by byte high n true small z s e = absurd cc
joined_by byte high n false true z s e = (grind arith, ltb-true high (2 ^ 57) s, cc)
joined_by byte high n false false z s e = absurd cc

joined_is : (byte high n : ℕ) → joined byte high ≡ Ok n → (0 < high) × (high < 2 ^ 57) × (byte - 128 + 128 * high ≡ n)
joined_is byte high n e = joined_by byte high n (eqb high 0) (ltb high (2 ^ 57)) refl refl e

joined_again : (byte high : ℕ) → 0 < high → high < 2 ^ 57 → joined byte high ≡ Ok (byte - 128 + 128 * high)
joined_again byte high some small = rw (ne_eqb high 0 (λ e. omega (arith, e, some)), lt-ltb high (2 ^ 57) small) refl

abbrev more_digits : (left byte : ℕ) → List ℕ → Result (ℕ × List ℕ) DecodeFault
more_digits left byte bytes = number_in left bytes >>= λ high. joined byte high.0 >>= λ n. Ok (n, high.1)

digits_take : (left byte : ℕ) (bytes : List ℕ) (n : ℕ) (rest : List ℕ) → byte < 256 → IsBytes bytes
    → ((m : ℕ) (r : List ℕ) → number_in left bytes ≡ Ok (m, r) → Takes bytes (digits left m) r × NumberFits m)
    → (last : Bool) → ltb byte 128 ≡ last → cond last (Ok (byte, bytes)) (more_digits left byte bytes) ≡ Ok (n, rest)
    → Takes (byte ∷ bytes) (digits (suc left) n) rest × NumberFits n
digits_take left byte bytes n rest lt fits before true l e =
    let low : byte < 128 = ltb-true byte 128 l in
    subst (λ (x : ℕ × List ℕ). Takes (byte ∷ bytes) (digits (suc left) x.0) x.1 × NumberFits x.0) (ok_is (byte, bytes) (n, rest) e)
    (rw l (record { parts = refl; rest_fits = fits }), omega arith)
digits_take left byte bytes n rest lt fits before false l e =
    let a = bind_ok (number_in left bytes) (λ high. joined byte high.0 >>= λ n. Ok (n, high.1)) (n, rest) e in
    let b = bind_ok (joined byte a.0.0) (λ n. Ok (n, a.0.1)) (n, rest) a.2 in
    let t = before a.0.0 a.0.1 a.1 in
    let j = joined_is byte a.0.0 b.0 b.1 in
    let high : 128 ≤ byte = ltb-false byte 128 l in
    let some : 0 < a.0.0 = j.0 in
    let small : a.0.0 < 2 ^ 57 = j.1 in
    let is : byte - 128 + 128 * a.0.0 ≡ b.0 = j.2 in
    let rest-of : b.0 / 128 ≡ a.0.0 = omega arith in
    let first : b.0 % 128 + 128 ≡ byte = omega arith in
    let large : ltb b.0 128 ≡ false = le-ltb b.0 128 (omega arith) in
    let parts : Takes (byte ∷ bytes) (digits (suc left) b.0) a.0.1 =
    rw (large, rest-of, first) (record { parts = ap (λ (r : List ℕ). byte ∷ r) t.0.parts; rest_fits = t.0.rest_fits }) in
    let made : ℕ × List ℕ = (b.0, a.0.1) in
    let below : b.0 < 2 ^ 64 = omega arith in
    subst (λ (x : ℕ × List ℕ). Takes (byte ∷ bytes) (digits (suc left) x.0) x.1 × NumberFits x.0) (ok_is made (n, rest) b.2) (parts, below)

numbers_take : (left : ℕ) (bytes : List ℕ) (n : ℕ) (rest : List ℕ) → IsBytes bytes → number_in left bytes ≡ Ok (n, rest) → Takes bytes (digits left n) rest × NumberFits n
numbers_take zero bytes n rest fits e = absurd cc
numbers_take (suc left) bytes n rest fits e =
    let a = bind_ok (tag_at bytes) (λ byte. cond (ltb byte.0 128) (Ok byte) (more_digits left byte.0 byte.1)) (n, rest) e in
    let t = tag_takes bytes a.0.0 a.0.1 fits a.1 in
    let d = digits_take left a.0.0 a.0.1 n rest t.1 t.0.rest_fits (λ m r. numbers_take left a.0.1 m r t.0.rest_fits) (ltb a.0.0 128) refl a.2 in
    (record { parts = t.0.parts ∙ d.0.parts; rest_fits = d.0.rest_fits }, d.1)

one_again : (left n : ℕ) (rest : List ℕ) → n < 128 → number_in (suc left) (digits (suc left) n ++ rest) ≡ Ok (n, rest)
unfolding tag_at
one_again left n rest lt = rw (lt-ltb n 128 lt) (rw (lt-ltb n 128 lt) refl)

numbers_again : (left n : ℕ) (rest : List ℕ) → n < 128 ^ (suc left) → NumberFits n → number_in (suc left) (digits (suc left) n ++ rest) ≡ Ok (n, rest)
unfolding tag_at
numbers_again zero n rest lt fits = one_again zero n rest (omega (arith, lt))
numbers_again (suc left) n rest lt fits =
    elim (cases_lt n 128) [
      | inl small ↦ one_again (suc left) n rest small
      | inr large ↦
          let more : 128 ^ (suc left + 1) ≡ 128 ^ (suc left) * 128 = pow_more 128 (suc left) in
          let lt' : n / 128 < 128 ^ (suc left) = omega arith in
          let fits' : n / 128 < 2 ^ 64 = omega arith in
          let some : 0 < n / 128 = omega arith in
          let few : n / 128 < 2 ^ 57 = omega arith in
          let first : ltb (n % 128 + 128) 128 ≡ false = le-ltb _ _ (omega arith) in
          let back : n % 128 + 128 - 128 + 128 * (n / 128) ≡ n = omega arith in
          rw (le-ltb n 128 large) (rw (first, numbers_again left (n / 128) rest lt' fits', joined_again (n % 128 + 128) (n / 128) some few, back) refl)
    ]

pub number_format : IsFormat number_at number NumberFits
unfolding number_at number
number_format = record {
  takes = numbers_take 10;
  again = λ n rest fits. numbers_again 9 n rest (omega (arith, fits)) fits;
}

-- ---- one value after another, and a value that is made of what is read

module _ {A B : Type 0} where
  pub both_format : {first_at : List ℕ → Result (A × List ℕ) DecodeFault} {second_at : List ℕ → Result (B × List ℕ) DecodeFault} {first : A → List ℕ} {second : B → List ℕ} {First : A → Type 0} {Second : B → Type 0}
      → IsFormat first_at first First → IsFormat second_at second Second → IsFormat (both_at first_at second_at) (both_of first second) (BothFit First Second)
  both_format {first_at} {second_at} {first} {second} {First} {Second} f g = record {
    takes = λ bytes x rest fits e.
        let a = bind_ok (first_at bytes) (λ x. second_at x.1 >>= λ y. Ok ((x.0, y.0), y.1)) (x, rest) e in
        let b = bind_ok (second_at a.0.1) (λ y. Ok ((a.0.0, y.0), y.1)) (x, rest) a.2 in
        let t = f.takes bytes a.0.0 a.0.1 fits a.1 in
        let u = g.takes a.0.1 b.0.0 b.0.1 t.0.rest_fits b.1 in
        let made : (A × B) × List ℕ = ((a.0.0, b.0.0), b.0.1) in
        subst (λ (z : (A × B) × List ℕ). Takes bytes (both_of first second z.0) z.1 × BothFit First Second z.0) (ok_is made (x, rest) b.2)
        (Takes-then bytes (first a.0.0) a.0.1 (second b.0.0) b.0.1 t.0 u.0, (t.1, u.1));
    again = λ x rest fits.
        let regrouped : both_of first second x ++ rest ≡ first x.0 ++ (second x.1 ++ rest) = append_assoc (first x.0) (second x.1) rest in
        ap (both_at first_at second_at) regrouped ∙ rw (f.again x.0 (second x.1 ++ rest) fits.0, g.again x.1 rest fits.1) refl;
  }

  pub made_format : {read_at : List ℕ → Result (A × List ℕ) DecodeFault} {spelled : A → List ℕ} {Fits : A → Type 0} (make : A → B) (parts : B → A) → ((x : A) → parts (make x) ≡ x) → ((y : B) → make (parts y) ≡ y)
      → IsFormat read_at spelled Fits → IsFormat (made_at make read_at) (λ y. spelled (parts y)) (λ y. Fits (parts y))
  made_format {read_at} {spelled} {Fits} make parts back forth f = record {
    takes = λ bytes y rest fits e.
        let a = bind_ok (read_at bytes) (λ x. Ok (make x.0, x.1)) (y, rest) e in
        let t = f.takes bytes a.0.0 a.0.1 fits a.1 in
        let same : B × List ℕ = (make a.0.0, a.0.1) in
        let one : Takes bytes (spelled (parts (make a.0.0))) a.0.1 × Fits (parts (make a.0.0)) = subst (λ (x : A). Takes bytes (spelled x) a.0.1 × Fits x) (sym (back a.0.0)) t in
        subst (λ (z : B × List ℕ). Takes bytes (spelled (parts z.0)) z.1 × Fits (parts z.0)) (ok_is same (y, rest) a.2) one;
    again = λ y rest fits.
        rw (f.again (parts y) rest fits) (ap (λ (z : B). done (z, rest)) (forth y));
  }

-- ---- times, bytes and options

pub time_format : IsFormat time_at time TimeFits
unfolding time_at
time_format = record {
  takes = λ bytes t rest fits e.
      let a = bind_ok (number_at bytes) (λ n. Ok (cast_signed w64 n.0, n.1)) (t, rest) e in
      let n = number_format.takes bytes a.0.0 a.0.1 fits a.1 in
      let made : ℤ × List ℕ = (cast_signed w64 a.0.0, a.0.1) in
      subst (λ (z : ℤ × List ℕ). Takes bytes (time z.0) z.1 × TimeFits z.0) (ok_is made (t, rest) a.2)
      (rw (of_z-to_z w64 a.0.0 n.1) n.0, sfits_to_z {w = w64} {n = a.0.0} (record { fits = n.1 }));
  again = λ t rest fits.
      rw (number_format.again (cast_unsigned w64 t) rest (Fits-of_z {w = w64} {z = t} fits).fits) (ap (λ (z : ℤ). done (z, rest)) (to_z-of_z w64 t fits));
}

pub bytes_format : IsFormat bytes_at bytes_of BytesFit
unfolding bytes_at
bytes_format = record {
  takes = λ bytes text rest fits e.
      let b = bind_ok (number_at bytes) (λ n. cond (ltb (length n.1) n.0) (Err TooShort) (Ok (take n.0 n.1, drop n.0 n.1))) (text, rest) e in
      let n = b.0 in
      let t = number_format.takes bytes n.0 n.1 fits b.1 in
      let g = guard_ok (ltb (length n.1) n.0) TooShort (take n.0 n.1, drop n.0 n.1) (text, rest) b.2 in
      let long : n.0 ≤ length n.1 = ltb-false _ _ g.0 in
      let len : length (take n.0 n.1) ≡ n.0 = omega (arith, length-take n.0 n.1) in
      let second : Takes n.1 (take n.0 n.1) (drop n.0 n.1) = record { parts = sym (take-append-drop n.0 n.1); rest_fits = IsBytes-drop n.0 n.1 t.0.rest_fits } in
      let both = Takes-then bytes (number n.0) n.1 (take n.0 n.1) (drop n.0 n.1) t.0 second in
      let whole : Takes bytes (bytes_of (take n.0 n.1)) (drop n.0 n.1) = subst (λ (k : ℕ). Takes bytes (number k ++ take n.0 n.1) (drop n.0 n.1)) (sym len) both in
      subst (λ (p : List ℕ × List ℕ). Takes bytes (bytes_of p.0) p.1 × BytesFit p.0) g.1 (whole, omega (arith, t.1));
  again = λ text rest lt.
      let long : ltb (length (text ++ rest)) (length text) ≡ false = le-ltb _ _ (omega (arith, length-append text rest)) in
      let regrouped : bytes_of text ++ rest ≡ number (length text) ++ (text ++ rest) = append_assoc (number (length text)) text rest in
      ap bytes_at regrouped ∙ rw (number_format.again (length text) (text ++ rest) lt, long, take_at text rest (length text) refl, drop_at text rest (length text) refl) refl;
}

module _ {A : Type 0} {read_at : List ℕ → Result (A × List ℕ) DecodeFault} {spelled : A → List ℕ} {Fits : A → Type 0} (f : IsFormat read_at spelled Fits) where
  option_takes : (bytes : List ℕ) (o : Option A) (rest : List ℕ) → IsBytes bytes → option_at read_at bytes ≡ Ok (o, rest) → Takes bytes (option_of spelled o) rest × OptionFits Fits o
  unfolding option_at tag_at
  option_takes [] o rest fits e = absurd cc
  option_takes (zero ∷ bytes) o rest fits e =
      subst (λ (x : Option A × List ℕ). Takes (0 ∷ bytes) (option_of spelled x.0) x.1 × OptionFits Fits x.0) (ok_is (None, bytes) (o, rest) e) (record { parts = refl; rest_fits = IsBytes-rest 0 bytes fits }, tt)
  option_takes (suc zero ∷ bytes) o rest fits e =
      let b = bind_ok (read_at bytes) (λ x. Ok (Some x.0, x.1)) (o, rest) e in
      let t = f.takes bytes b.0.0 b.0.1 (IsBytes-rest 1 bytes fits) b.1 in
      subst (λ (x : Option A × List ℕ). Takes (1 ∷ bytes) (option_of spelled x.0) x.1 × OptionFits Fits x.0) (ok_is (Some b.0.0, b.0.1) (o, rest) b.2) (record { parts = ap (λ (w : List ℕ). 1 ∷ w) t.0.parts; rest_fits = t.0.rest_fits }, t.1)
  option_takes (suc (suc b) ∷ bytes) o rest fits e = absurd cc

  option_again : (o : Option A) (rest : List ℕ) → OptionFits Fits o → option_at read_at (option_of spelled o ++ rest) ≡ Ok (o, rest)
  unfolding option_at tag_at
  option_again None rest h = refl
  option_again (Some x) rest h = rw (f.again x rest h) refl

  pub option_format : IsFormat (option_at read_at) (option_of spelled) (OptionFits Fits)
  option_format = record { takes = option_takes; again = option_again }

  -- ---- lists

  many_take : (n : ℕ) (bytes : List ℕ) (x : List A × List ℕ) → IsBytes bytes → many_at read_at n bytes ≡ Ok x → Takes bytes (flat_map spelled x.0) x.1 × (length x.0 ≡ n) × AllByRecursion Fits x.0
  many_take zero bytes x fits e =
      subst (λ (y : List A × List ℕ). Takes bytes (flat_map spelled y.0) y.1 × (length y.0 ≡ 0) × AllByRecursion Fits y.0) (ok_is ([], bytes) x e) (record { parts = refl; rest_fits = fits }, refl, tt)
  many_take (suc n) bytes x fits e =
      let a = bind_ok (read_at bytes) (λ first. many_at read_at n first.1 >>= λ others. Ok (first.0 ∷ others.0, others.1)) x e in
      let b = bind_ok (many_at read_at n a.0.1) (λ others. Ok (a.0.0 ∷ others.0, others.1)) x a.2 in
      let first = f.takes bytes a.0.0 a.0.1 fits a.1 in
      let second = many_take n a.0.1 b.0 first.0.rest_fits b.1 in
      let both = Takes-then bytes (spelled a.0.0) a.0.1 (flat_map spelled b.0.0) b.0.1 first.0 second.0 in
      let made : List A × List ℕ = (a.0.0 ∷ b.0.0, b.0.1) in
      subst (λ (y : List A × List ℕ). Takes bytes (flat_map spelled y.0) y.1 × (length y.0 ≡ suc n) × AllByRecursion Fits y.0) (ok_is made x b.2) (rw flat_map-cons both, ap suc second.1, (first.1, second.2))

  many_again : (xs : List A) (rest : List ℕ) → AllByRecursion Fits xs → many_at read_at (length xs) (flat_map spelled xs ++ rest) ≡ Ok (xs, rest)
  many_again [] rest fits = refl
  many_again (x ∷ xs) rest fits =
      let regrouped : flat_map spelled (x ∷ xs) ++ rest ≡ spelled x ++ (flat_map spelled xs ++ rest) = ap (λ (y : List ℕ). y ++ rest) (flat_map-cons spelled x xs) ∙ append_assoc (spelled x) (flat_map spelled xs) rest in
      ap (many_at read_at (suc (length xs))) regrouped ∙ rw (f.again x (flat_map spelled xs ++ rest) fits.0, many_again xs rest fits.1) refl

  pub list_format : IsFormat (list_at read_at) (list_of spelled) (ListFits Fits)
  unfolding list_at
  list_format = record {
    takes = λ bytes xs rest fits e.
        let a = bind_ok (number_at bytes) (λ n. many_at read_at n.0 n.1) (xs, rest) e in
        let n = number_format.takes bytes a.0.0 a.0.1 fits a.1 in
        let m = many_take a.0.0 a.0.1 (xs, rest) n.0.rest_fits a.2 in
        let both = Takes-then bytes (number a.0.0) a.0.1 (flat_map spelled xs) rest n.0 m.0 in
        (subst (λ (k : ℕ). Takes bytes (number k ++ flat_map spelled xs) rest) (sym m.1) both, (omega (arith, m.1, n.1), m.2));
    again = λ xs rest fits.
        let regrouped : list_of spelled xs ++ rest ≡ number (length xs) ++ (flat_map spelled xs ++ rest) = append_assoc (number (length xs)) (flat_map spelled xs) rest in
        ap (list_at read_at) regrouped ∙ rw (number_format.again (length xs) (flat_map spelled xs ++ rest) fits.0) (many_again xs rest fits.1);
  }
