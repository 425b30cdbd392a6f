-- Reading finds what is in the grammar, and finds it again whatever follows.
use Rattle.std.proofs.Common.{◌≡◌, refl, sym, ◌∙◌, ap, subst, ℕ, ◌+◌, ◌-◌, ◌^◌, ◌<◌, ◌≤◌, zero, suc, ℤ, pos, negsuc, ◌+ℤ◌, ◌-ℤ◌, Bool, true, false, nat_lt, cond, List, [], ◌∷◌, ◌++◌, length, take, drop, Option, None, Some, Result, Ok, Err, MatchResult, inl, inr, lit<, ◌*◌, ◌%◌, w64, arith}
use Rattle.std.specs.List.{AllByRecursion}
use Rattle.std.proofs.lemmas.Bool.{cases_lt, lt-ltb, le-ltb, ltb-false}
use Rattle.std.proofs.lemmas.Int.{ints}
use Rattle.std.proofs.lemmas.List.{append_assoc, append-nil, length-append, length-take, take-append-drop}
use Rattle.std.proofs.Math.Seq.{take-append_seam, drop-append_seam}
use Rattle.slate_seqtrack.proofs.Twos.{pow-suc, cast-signed}
use Rattle.slate_seqtrack.specs.declared.faults.TrackerFault.{TrackerFault}
use Rattle.slate_seqtrack.specs.declared.faults.TrackerFault.TheVariants.{ShortData, Overflows}
use Rattle.std.specs.Int.{cast_signed}
use Rattle.std.proofs.Math.Nat.{mod-eq_of_lt}
use Rattle.slate_seqtrack.specs.Bits.{low_bits, number_of, signed}
use Rattle.slate_seqtrack.proofs.Binary.{length-low_bits, number_of-low_bits}
use Rattle.slate_seqtrack.specs.Block.{fits_i64, IsSigned, IsCode, in_0, in_7, in_9, in_12, in_32, AreLater, AreValues, AreCounted}
use Rattle.slate_seqtrack.specs.Reading.{IsReadFault, width_at, signed_at, behind_width, code_at, behind, later_at, or_short, values_at, counted_at}

-- ---- what an answer says of its parts
some-is : {X : Type 0} {x y : X} → Some x ≡ Some y → x ≡ y
some-is e = cc

pub ok-is : {X : Type 0} {x y : X} → ◌≡◌ {A = Result X TrackerFault} (Ok x) (Ok y) → x ≡ y
ok-is e = cc

or_short-found : {X Y : Type 0} (r : Option X) (next : X → Result Y TrackerFault) (y : Y) → or_short r next ≡ Ok y → (x : X) × (r ≡ Some x) × (next x ≡ Ok y)
or_short-found None next y e = cc
or_short-found (Some x) next y e = (x, refl, e)

pub guard-found : {Y : Type 0} (b : Bool) (r : Result Y TrackerFault) (fault : TrackerFault) (y : Y) → cond b r (Err fault) ≡ Ok y → (b ≡ true) × (r ≡ Ok y)
guard-found true r fault y e = (refl, e)
guard-found false r fault y e = cc

-- ---- so many bits
signed-found : (width : ℕ) (bits rest : List Bool) (value : ℤ) → signed_at width bits ≡ Some (value, rest) → (front : List Bool) × (bits ≡ front ++ rest) × IsSigned width value front
signed-found width bits rest value e = go (nat_lt (length bits) width) refl e where
  whole : ℤ × List Bool
  whole = (signed width (number_of (take width bits)), drop width bits)

  go : (short : Bool) → nat_lt (length bits) width ≡ short → cond short None (Some whole) ≡ Some (value, rest) → (front : List Bool) × (bits ≡ front ++ rest) × IsSigned width value front
  go true s e = cc
  go false s e =
      let long : width ≤ length bits = ltb-false _ _ s in
      let same = some-is e in
      (take width bits, sym (take-append-drop width bits) ∙ ap (λ (p : ℤ × List Bool). take width bits ++ p.1) same, (omega (arith, length-take width bits), ap (λ (p : ℤ × List Bool). p.0) same))

signed-again : (width : ℕ) (front rest : List Bool) (value : ℤ) → IsSigned width value front → signed_at width (front ++ rest) ≡ Some (value, rest)
signed-again width front rest value (size, is) =
    let long : nat_lt (length (front ++ rest)) (length front) ≡ false = le-ltb _ _ (omega (arith, length-append front rest)) in
    let is_front : signed (length front) (number_of front) ≡ value = rw size is in
    rw (sym size, long, take-append_seam front rest, drop-append_seam front rest, is_front) refl

-- ---- a difference of differences
code-found : (bits rest : List Bool) (value : ℤ) → code_at bits ≡ Some (value, rest) → (code : List Bool) × (bits ≡ code ++ rest) × IsCode value code
code-found [] rest value e = cc
code-found (false ∷ bits) rest value e = let found = signed-found 0 bits rest value e in (false ∷ found.0, ap (λ b. false ∷ b) found.1, in_0 (found.0, refl, found.2))
code-found (true ∷ []) rest value e = cc
code-found (true ∷ false ∷ bits) rest value e = let found = signed-found 7 bits rest value e in (true ∷ false ∷ found.0, ap (λ b. true ∷ false ∷ b) found.1, in_7 (found.0, refl, found.2))
code-found (true ∷ true ∷ []) rest value e = cc
code-found (true ∷ true ∷ false ∷ bits) rest value e = let found = signed-found 9 bits rest value e in (true ∷ true ∷ false ∷ found.0, ap (λ b. true ∷ true ∷ false ∷ b) found.1, in_9 (found.0, refl, found.2))
code-found (true ∷ true ∷ true ∷ []) rest value e = cc
code-found (true ∷ true ∷ true ∷ false ∷ bits) rest value e = let found = signed-found 12 bits rest value e in (true ∷ true ∷ true ∷ false ∷ found.0, ap (λ b. true ∷ true ∷ true ∷ false ∷ b) found.1, in_12 (found.0, refl, found.2))
code-found (true ∷ true ∷ true ∷ true ∷ bits) rest value e = let found = signed-found 32 bits rest value e in (true ∷ true ∷ true ∷ true ∷ found.0, ap (λ b. true ∷ true ∷ true ∷ true ∷ b) found.1, in_32 (found.0, refl, found.2))

code-again : (code rest : List Bool) (value : ℤ) → IsCode value code → code_at (code ++ rest) ≡ Some (value, rest)
code-again code rest value (in_0 (bits, is, form)) = rw is (signed-again 0 bits rest value form)
code-again code rest value (in_7 (bits, is, form)) = rw is (signed-again 7 bits rest value form)
code-again code rest value (in_9 (bits, is, form)) = rw is (signed-again 9 bits rest value form)
code-again code rest value (in_12 (bits, is, form)) = rw is (signed-again 12 bits rest value form)
code-again code rest value (in_32 (bits, is, form)) = rw is (signed-again 32 bits rest value form)

-- ---- the later values
behind-found : (front values : List ℤ) (rest : List Bool) (r : Result (List ℤ × List Bool) TrackerFault) → behind front r ≡ Ok (values, rest) → (later : List ℤ) × (r ≡ Ok (later, rest)) × (values ≡ front ++ later)
behind-found front values rest (Ok read) e =
    let same = ok-is e in
    (read.0, ap (λ (p : List ℤ × List Bool). Ok (read.0, p.1)) same, sym (ap (λ (p : List ℤ × List Bool). p.0) same))
behind-found front values rest (Err fault) e = cc

whole-value : (previous delta read : ℤ) → ((previous +ℤ (delta +ℤ read)) -ℤ previous) -ℤ delta ≡ read
whole-value previous delta read = omega (arith, ints)

whole-delta : (previous delta read : ℤ) → (previous +ℤ (delta +ℤ read)) -ℤ previous ≡ delta +ℤ read
whole-delta previous delta read = omega (arith, ints)

value-back : (value previous delta : ℤ) → previous +ℤ (delta +ℤ ((value -ℤ previous) -ℤ delta)) ≡ value
value-back value previous delta = omega (arith, ints)

delta-back : (value previous delta : ℤ) → delta +ℤ ((value -ℤ previous) -ℤ delta) ≡ value -ℤ previous
delta-back value previous delta = omega (arith, ints)

abbrev pub AllFit : List ℤ → Type 0
AllFit values = AllByRecursion (λ v. fits_i64 v ≡ true) values

-- what is read after a difference of differences
abbrev pub after_code : ℕ → ℤ → ℤ → ℤ × List Bool → Result (List ℤ × List Bool) TrackerFault
after_code n previous delta read =
    cond (fits_i64 (previous +ℤ (delta +ℤ read.0))) (behind ((previous +ℤ (delta +ℤ read.0)) ∷ []) (later_at n (previous +ℤ (delta +ℤ read.0)) (delta +ℤ read.0) read.1)) (Err Overflows)

pub later_at-suc : (n : ℕ) (previous delta : ℤ) (bits : List Bool) → later_at (suc n) previous delta bits ≡ or_short (code_at bits) (after_code n previous delta)
unfolding later_at
later_at-suc n previous delta bits = refl

pub later_at-zero : (previous delta : ℤ) (bits : List Bool) → later_at zero previous delta bits ≡ Ok ([], bits)
unfolding later_at
later_at-zero previous delta bits = refl

pub later-found : (n : ℕ) (previous delta : ℤ) (bits rest : List Bool) (values : List ℤ) → later_at n previous delta bits ≡ Ok (values, rest) →
    (front : List Bool) × (bits ≡ front ++ rest) × AreLater IsCode previous delta values front × (length values ≡ n) × AllFit values
later-found zero previous delta bits rest values e =
    let same = ok-is (sym (later_at-zero previous delta bits) ∙ e) in
    let none : [] ≡ values = ap (λ (p : List ℤ × List Bool). p.0) same in
    ([], ap (λ (p : List ℤ × List Bool). p.1) same, rw (sym none) refl, sym (ap length none), rw (sym none) tt)
later-found (suc n) previous delta bits rest values e =
    let read = or_short-found (code_at bits) (after_code n previous delta) (values, rest) (sym (later_at-suc n previous delta bits) ∙ e) in
    let value : ℤ = previous +ℤ (delta +ℤ read.0.0) in
    let kept = guard-found (fits_i64 value) (behind (value ∷ []) (later_at n value (delta +ℤ read.0.0) read.0.1)) Overflows (values, rest) read.2 in
    let tail = behind-found (value ∷ []) values rest (later_at n value (delta +ℤ read.0.0) read.0.1) kept.1 in
    let code = code-found bits read.0.1 read.0.0 read.1 in
    let later = later-found n value (delta +ℤ read.0.0) read.0.1 rest tail.0 tail.1 in (
      code.0 ++ later.0,
      code.1 ∙ ap (λ b. code.0 ++ b) later.1 ∙ sym (append_assoc code.0 later.0 rest),
      subst (λ vs. AreLater IsCode previous delta vs (code.0 ++ later.0)) (sym tail.2)
          (code.0, later.0, refl, rw (whole-value previous delta read.0.0) code.2, rw (whole-delta previous delta read.0.0) later.2),
      ap length tail.2 ∙ ap suc later.3,
      subst AllFit (sym tail.2) (kept.0, later.4),
    )

pub later-again : (previous delta : ℤ) (values : List ℤ) (front rest : List Bool) → AreLater IsCode previous delta values front → AllByRecursion (λ v. fits_i64 v ≡ true) values →
    later_at (length values) previous delta (front ++ rest) ≡ Ok (values, rest)
later-again previous delta [] front rest are fit = later_at-zero previous delta (front ++ rest) ∙ ap (λ b. Ok ([], b ++ rest)) are
later-again previous delta (value ∷ values) front rest (code, later, is, coded, are) fit =
    let read : ℤ = (value -ℤ previous) -ℤ delta in
    let bits : front ++ rest ≡ code ++ (later ++ rest) = ap (λ b. b ++ rest) is ∙ append_assoc code later rest in
    later_at-suc (length values) previous delta (front ++ rest) ∙
    ap (λ b. or_short (code_at b) (after_code (length values) previous delta)) bits ∙
    ap (λ r. or_short r (after_code (length values) previous delta)) (code-again code (later ++ rest) read coded) ∙
    rw (value-back value previous delta, delta-back value previous delta, fit.0, later-again value (value -ℤ previous) values later rest are fit.1) refl

-- ---- a block
pub number_of-lt : (bits : List Bool) → number_of bits < 2 ^ length bits
number_of-lt [] = lit< tt
number_of-lt (true ∷ bits) = let more : 2 ^ length (true ∷ bits) ≡ 2 * 2 ^ length bits = pow-suc (length bits) in omega (arith, number_of-lt bits)
number_of-lt (false ∷ bits) = let more : 2 ^ length (false ∷ bits) ≡ 2 * 2 ^ length bits = pow-suc (length bits) in omega (arith, number_of-lt bits)

signed-fits : (value : ℤ) (bits : List Bool) → IsSigned 64 value bits → fits_i64 value ≡ true
signed-fits value bits (size, is) = subst (λ v. fits_i64 v ≡ true) is (go (number_of bits) (rw size at (number_of-lt bits)))
  where
    below : (n p : ℕ) → n < p → pos n -ℤ pos p ≡ negsuc (p - suc n)
    below n p lt = omega (arith, ints)

    go : (n : ℕ) → n < 2 ^ 64 → fits_i64 (signed 64 n) ≡ true
    go n lt = elim (cases_lt (2 * n) (2 ^ 64)) [
      | inl low ↦ let test : nat_lt (2 * n) (2 ^ 64) ≡ true = lt-ltb _ _ low in rw test (lt-ltb n (2 ^ 63) (omega arith))
      | inr high ↦ let test : nat_lt (2 * n) (2 ^ 64) ≡ false = le-ltb _ _ high in rw (test, below n (2 ^ 64) lt) (lt-ltb (2 ^ 64 - suc n) (2 ^ 63) (omega arith))
    ]

abbrev after_first : ℕ → ℤ × List Bool → Result (List ℤ × List Bool) TrackerFault
after_first n read = behind (read.0 ∷ []) (later_at n read.0 (pos 0) read.1)

values-found : (n : ℕ) (bits rest : List Bool) (values : List ℤ) → values_at n bits ≡ Ok (values, rest) → (front : List Bool) × (bits ≡ front ++ rest) × AreValues IsCode values front × (length values ≡ n) × AllFit values
values-found zero bits rest values e =
    let same = ok-is e in
    let none : [] ≡ values = ap (λ (p : List ℤ × List Bool). p.0) same in
    ([], ap (λ (p : List ℤ × List Bool). p.1) same, rw (sym none) refl, sym (ap length none), rw (sym none) tt)
values-found (suc n) bits rest values e =
    let read = or_short-found (signed_at 64 bits) (after_first n) (values, rest) e in
    let tail = behind-found (read.0.0 ∷ []) values rest (later_at n read.0.0 (pos 0) read.0.1) read.2 in
    let first = signed-found 64 bits read.0.1 read.0.0 read.1 in
    let later = later-found n read.0.0 (pos 0) read.0.1 rest tail.0 tail.1 in (
      first.0 ++ later.0,
      first.1 ∙ ap (λ b. first.0 ++ b) later.1 ∙ sym (append_assoc first.0 later.0 rest),
      subst (λ vs. AreValues IsCode vs (first.0 ++ later.0)) (sym tail.2) (first.0, later.0, refl, first.2, later.2),
      ap length tail.2 ∙ ap suc later.3,
      subst AllFit (sym tail.2) (signed-fits read.0.0 first.0 first.2, later.4),
    )

values-again : (values : List ℤ) (front rest : List Bool) → AreValues IsCode values front → AllByRecursion (λ v. fits_i64 v ≡ true) values → values_at (length values) (front ++ rest) ≡ Ok (values, rest)
values-again [] front rest are fit = ap (λ b. Ok ([], b ++ rest)) are
values-again (value ∷ values) front rest (first, later, is, signed_first, are) fit =
    let bits : front ++ rest ≡ first ++ (later ++ rest) = ap (λ b. b ++ rest) is ∙ append_assoc first later rest in
    ap (λ b. or_short (signed_at 64 b) (after_first (length values))) bits ∙
    ap (λ r. or_short r (after_first (length values))) (signed-again 64 first (later ++ rest) value signed_first) ∙
    ap (behind (value ∷ [])) (later-again value (pos 0) values later rest are fit.1)

pub counted-found : (bits rest : List Bool) (values : List ℤ) → counted_at bits ≡ Ok (values, rest) → (front : List Bool) × (bits ≡ front ++ rest) × AreCounted IsCode values front × AllFit values
unfolding counted_at
counted-found bits rest values e = go (nat_lt (length bits) 32) refl e where
  go : (short : Bool) → nat_lt (length bits) 32 ≡ short → cond short (Err ShortData) (values_at (number_of (take 32 bits)) (drop 32 bits)) ≡ Ok (values, rest) →
      (front : List Bool) × (bits ≡ front ++ rest) × AreCounted IsCode values front × AllFit values
  go true s e = cc
  go false s e =
      let long : 32 ≤ length bits = ltb-false _ _ s in
      let found = values-found (number_of (take 32 bits)) (drop 32 bits) rest values e in (
        take 32 bits ++ found.0,
        sym (take-append-drop 32 bits) ∙ ap (λ b. take 32 bits ++ b) found.1 ∙ sym (append_assoc (take 32 bits) found.0 rest),
        (take 32 bits, found.0, refl, (omega (arith, length-take 32 bits), sym found.3), found.2),
        found.4,
      )

pub counted-again : (values : List ℤ) (front rest : List Bool) → AreCounted IsCode values front → AllByRecursion (λ v. fits_i64 v ≡ true) values → counted_at (front ++ rest) ≡ Ok (values, rest)
unfolding counted_at
counted-again values front rest (count, body, is, (size, number), are) fit =
    let bits : front ++ rest ≡ count ++ (body ++ rest) = ap (λ b. b ++ rest) is ∙ append_assoc count body rest in
    let long : nat_lt (length (count ++ (body ++ rest))) 32 ≡ false = le-ltb _ _ (omega (arith, length-append count (body ++ rest))) in
    let front_is : take 32 (count ++ (body ++ rest)) ≡ count = ap (λ n. take n (count ++ (body ++ rest))) (sym size) ∙ take-append_seam count (body ++ rest) in
    let rest_is : drop 32 (count ++ (body ++ rest)) ≡ body ++ rest = ap (λ n. drop n (count ++ (body ++ rest))) (sym size) ∙ drop-append_seam count (body ++ rest) in
    rw (bits, long, front_is, rest_is, number) (values-again values body rest are fit)

-- ---- what the reader met
pub code-read : (old mid new : List Bool) (width value : ℕ) → width_at old ≡ Some (width, mid) → mid ≡ low_bits width value ++ new → code_at old ≡ Some (signed width (value % 2 ^ width), new)
code-read old mid new width value at mid-is =
    ap behind_width at ∙ ap (signed_at width) mid-is ∙ (signed-again width (low_bits width value) new _ (length-low_bits width value, ap (signed width) (number_of-low_bits width value)))

pub counted-short : (bits : List Bool) → length bits < 32 → counted_at bits ≡ Err ShortData
unfolding counted_at
counted-short bits lt = let short : nat_lt (length bits) 32 ≡ true = lt-ltb _ _ lt in rw short refl

-- the count is read, and the values are left
pub counted-next : (bits rest : List Bool) (count : ℕ) → bits ≡ low_bits 32 count ++ rest → count < 2 ^ 32 → counted_at bits ≡ values_at count rest
unfolding counted_at
counted-next bits rest count is lt =
    let size = length-low_bits 32 count in
    let long : nat_lt (length (low_bits 32 count ++ rest)) 32 ≡ false = le-ltb _ _ (omega (arith, length-append (low_bits 32 count) rest)) in
    let front_is : take 32 (low_bits 32 count ++ rest) ≡ low_bits 32 count = ap (λ n. take n (low_bits 32 count ++ rest)) (sym size) ∙ take-append_seam (low_bits 32 count) rest in
    let rest_is : drop 32 (low_bits 32 count ++ rest) ≡ rest = ap (λ n. drop n (low_bits 32 count ++ rest)) (sym size) ∙ drop-append_seam (low_bits 32 count) rest in
    rw (is, long, front_is, rest_is, number_of-low_bits 32 count, mod-eq_of_lt lt) refl

pub first-short : (count : ℕ) (bits : List Bool) → 0 < count → length bits < 64 → values_at count bits ≡ Err ShortData
first-short zero bits some lt = absurd (omega arith)
first-short (suc n) bits some lt = let short : nat_lt (length bits) 64 ≡ true = lt-ltb _ _ lt in rw short refl

pub first-next : (count first : ℕ) (bits rest : List Bool) → 0 < count → bits ≡ low_bits 64 first ++ rest → first < 2 ^ 64 →
    values_at count bits ≡ behind (cast_signed w64 first ∷ []) (later_at (count - 1) (cast_signed w64 first) (pos 0) rest)
first-next zero first bits rest some is lt = absurd (omega arith)
first-next (suc n) first bits rest some is lt =
    let before : suc n - 1 ≡ n = omega arith in
    let value : signed 64 (first % 2 ^ 64) ≡ cast_signed w64 first = ap (signed 64) (mod-eq_of_lt lt) ∙ cast-signed first lt in
    rw (is, before)
    (ap (λ r. or_short r (after_first n)) (signed-again 64 (low_bits 64 first) rest _ (length-low_bits 64 first, ap (signed 64) (number_of-low_bits 64 first) ∙ value)))

-- ---- the loop over the later values
itself : (z : ℤ) → z -ℤ z ≡ pos 0
itself z = omega (arith, ints)

pub later-init : (n : ℕ) (first : ℤ) (items : List ℤ) (bits : List Bool) → behind items (later_at (n - 0) first (first -ℤ first) bits) ≡ behind items (later_at n first (pos 0) bits)
later-init n first items bits = let all : n - 0 ≡ n = omega arith in rw (all, itself first) refl

later-left : (n i : ℕ) (previous delta : ℤ) (bits : List Bool) → i < n → later_at (n - i) previous delta bits ≡ or_short (code_at bits) (after_code (n - (i + 1)) previous delta)
later-left n i previous delta bits lt = let more : n - i ≡ suc (n - (i + 1)) = omega arith in rw more (later_at-suc (n - (i + 1)) previous delta bits)

behind-behind : (items : List ℤ) (value : ℤ) (r : Result (List ℤ × List Bool) TrackerFault) → behind items (behind (value ∷ []) r) ≡ behind (items ++ value ∷ []) r
behind-behind items value (Ok read) = ap (λ values. Ok (values, read.1)) (sym (append_assoc items (value ∷ []) read.0))
behind-behind items value (Err fault) = refl

pub later-more : (n i : ℕ) (before previous code value : ℤ) (items new : List ℤ) (bits rest : List Bool) → i < n → code_at bits ≡ Some (code, rest) →
    value ≡ previous +ℤ ((previous -ℤ before) +ℤ code) → fits_i64 (previous +ℤ ((previous -ℤ before) +ℤ code)) ≡ true → new ≡ items ++ value ∷ [] →
    behind new (later_at (n - (i + 1)) value (value -ℤ previous) rest) ≡ behind items (later_at (n - i) previous (previous -ℤ before) bits)
later-more n i before previous code value items new bits rest lt at is fits new-is =
    let delta : ℤ = previous -ℤ before in
    let next : Result (List ℤ × List Bool) TrackerFault = later_at (n - (i + 1)) (previous +ℤ (delta +ℤ code)) (delta +ℤ code) rest in
    let step : or_short (code_at bits) (after_code (n - (i + 1)) previous delta) ≡ behind ((previous +ℤ (delta +ℤ code)) ∷ []) next = ap (λ r. or_short r (after_code (n - (i + 1)) previous delta)) at ∙ rw fits refl in
    let whole : behind items (later_at (n - i) previous delta bits) ≡ behind (items ++ (previous +ℤ (delta +ℤ code)) ∷ []) next =
    ap (behind items) (later-left n i previous delta bits lt ∙ step) ∙ behind-behind items (previous +ℤ (delta +ℤ code)) next in
    rw (new-is, is, whole-delta previous delta code) (sym whole)

pub later-short : (n i : ℕ) (previous delta : ℤ) (items : List ℤ) (bits : List Bool) → i < n → code_at bits ≡ None → behind items (later_at (n - i) previous delta bits) ≡ Err ShortData
later-short n i previous delta items bits lt at = ap (behind items) (later-left n i previous delta bits lt ∙ ap (λ r. or_short r (after_code (n - (i + 1)) previous delta)) at)

pub later-overflows : (n i : ℕ) (previous delta code : ℤ) (items : List ℤ) (bits rest : List Bool) → i < n → code_at bits ≡ Some (code, rest) → fits_i64 (previous +ℤ (delta +ℤ code)) ≡ false →
    behind items (later_at (n - i) previous delta bits) ≡ Err Overflows
later-overflows n i previous delta code items bits rest lt at fits =
    let step : after_code (n - (i + 1)) previous delta (code, rest) ≡ Err Overflows = rw fits refl in
    ap (behind items) (later-left n i previous delta bits lt ∙ ap (λ r. or_short r (after_code (n - (i + 1)) previous delta)) at ∙ step)

pub later-end : (n i : ℕ) (previous delta : ℤ) (items : List ℤ) (bits : List Bool) → n ≤ i → behind items (later_at (n - i) previous delta bits) ≡ Ok (items, bits)
later-end n i previous delta items bits le =
    let none : n - i ≡ 0 = omega arith in
    rw none (ap (behind items) (later_at-zero previous delta bits) ∙ ap (λ values. Ok (values, bits)) (append-nil items))

pub behind-fault : (items : List ℤ) (r : Result (List ℤ × List Bool) TrackerFault) (fault : TrackerFault) → behind items r ≡ Err fault → r ≡ Err fault
behind-fault items (Ok read) fault e = cc
behind-fault items (Err other) fault e = e

-- ---- a fault of a part is one of the whole
behind-read_fault : (front : List ℤ) (r : Result (List ℤ × List Bool) TrackerFault) (fault : TrackerFault) → IsReadFault r fault → IsReadFault (behind front r) fault
behind-read_fault front r fault (inl e) = inl (ap (behind front) e)
behind-read_fault front r fault (inr e) = inr e

pub counted-behind : {T : Type 0} (r : Result T TrackerFault) (items_of : T → List ℤ) (new : List Bool) (counted later : Result (List ℤ × List Bool) TrackerFault) (front start : List ℤ) → counted ≡ behind front later → start ≡ front →
    MatchResult r (λ all. behind start later ≡ Ok (items_of all, new)) (IsReadFault later) → MatchResult r (λ all. counted ≡ Ok (items_of all, new)) (IsReadFault counted)
counted-behind (Ok all) items_of new counted later front start is same h = is ∙ ap (λ f. behind f later) (sym same) ∙ h
counted-behind (Err fault) items_of new counted later front start is same h = rw is (behind-read_fault front later fault h)
