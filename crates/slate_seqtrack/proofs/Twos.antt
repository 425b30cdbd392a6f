-- Two's complement: as it is written, and as it is read.
use Rattle.std.proofs.Common.{◌≡◌, refl, sym, ◌∙◌, ap, ℕ, ◌+◌, ◌-◌, ◌*◌, ◌%◌, ◌^◌, ◌<◌, ◌≤◌, zero, suc, true, false, nat_lt, bit_and, ℤ, pos, negsuc, ◌+ℤ◌, ◌-ℤ◌, Result, Ok, Err, MatchOption, inl, inr, w32, w64, arith}
use mir.Syntax.{w128}
use lib.Signed.{mag}
use mir.Val.{of_z, to_z, SFits}
use Rattle.std.proofs.lemmas.Bool.{lt-ltb, le-ltb, ltb-true, cases_lt}
use Rattle.std.specs.Int.{cast_signed}
use Rattle.std.specs.Result.{OkIff, result_ok}
use Rattle.std.proofs.lemmas.Int.{ints, to_z_pos}
use Rattle.std.proofs.lemmas.Nat.{pow-add, pow_pos, mod_low, one_shl, and_mask}
use Rattle.slate_seqtrack.specs.Bits.{low_bits, signed}
use Rattle.slate_seqtrack.specs.Block.{fits_i64, IsSigned, fits_i32}
use Rattle.slate_seqtrack.proofs.Binary.{length-low_bits, number_of-low_bits}

pub pow-suc : (w : ℕ) → 2 ^ suc w ≡ 2 * 2 ^ w
pow-suc w = let one : suc w ≡ 1 + w = omega arith in rw (one, pow-add 2 1 w) refl

-- the number that is written for an integer in so many bits
abbrev unsigned_at : ℕ → ℤ → ℕ
unsigned_at total (pos n) = n
unsigned_at total (negsuc n) = 2 ^ total - suc n

-- the number's remainder below a shorter width
remainder-neg : (total w n : ℕ) → suc w ≤ total → n < 2 ^ w → (2 ^ total - suc n) % 2 ^ suc w ≡ 2 ^ suc w - suc n
remainder-neg total w n within small =
    let parts : total ≡ (total - suc w) + suc w = omega arith in
    let whole : 2 ^ total ≡ 2 ^ (total - suc w) * 2 ^ suc w = ap (λ k. 2 ^ k) parts ∙ pow-add 2 (total - suc w) (suc w) in
    go (2 ^ (total - suc w)) (pow_pos (total - suc w)) whole
  where
    go : (q : ℕ) → 0 < q → 2 ^ total ≡ q * 2 ^ suc w → (2 ^ total - suc n) % 2 ^ suc w ≡ 2 ^ suc w - suc n
    go zero some e = absurd (omega arith)
    go (suc q) some e =
        let double : 2 ^ suc w ≡ 2 * 2 ^ w = pow-suc w in
        let less : 2 ^ suc w - suc n < 2 ^ suc w = omega arith in
        let sum : 2 ^ total - suc n ≡ q * 2 ^ suc w + (2 ^ suc w - suc n) = omega arith in
        rw sum (mod_low q (suc w) (2 ^ suc w - suc n) less)

signed-unsigned : (total w : ℕ) (z : ℤ) → suc w ≤ total → mag z < 2 ^ w → signed (suc w) (unsigned_at total z % 2 ^ suc w) ≡ z
signed-unsigned total w (pos n) within small =
    let double : 2 ^ suc w ≡ 2 * 2 ^ w = pow-suc w in
    let less : n < 2 ^ suc w = omega arith in
    let plain : 0 * 2 ^ suc w + n ≡ n = omega arith in
    let same : n % 2 ^ suc w ≡ n = rw plain at (mod_low 0 (suc w) n less) in
    let low : nat_lt (2 * n) (2 ^ suc w) ≡ true = lt-ltb _ _ (omega arith) in
    rw (same, low) refl
signed-unsigned total w (negsuc n) within small =
    let double : 2 ^ suc w ≡ 2 * 2 ^ w = pow-suc w in
    let high : nat_lt (2 * (2 ^ suc w - suc n)) (2 ^ suc w) ≡ false = le-ltb _ _ (omega arith) in
    rw (remainder-neg total w n within small, high) (back (2 ^ suc w) n (omega arith))
  where
    back : (p n : ℕ) → n < p → pos (p - suc n) -ℤ pos p ≡ negsuc n
    back p n lt = omega (arith, ints)

unsigned-32 : (z : ℤ) → of_z w32 z ≡ unsigned_at 32 z
unsigned-32 (pos n) = refl
unsigned-32 (negsuc n) = refl

unsigned-64 : (z : ℤ) → of_z w64 z ≡ unsigned_at 64 z
unsigned-64 (pos n) = refl
unsigned-64 (negsuc n) = refl

-- an integer as it is pushed: low bits of its 32 or 64
pub IsSigned-32 : (w : ℕ) (z : ℤ) → suc w ≤ 32 → mag z < 2 ^ w → IsSigned (suc w) z (low_bits (suc w) (of_z w32 z))
IsSigned-32 w z within small = (
  length-low_bits (suc w) (of_z w32 z),
  ap (signed (suc w)) (number_of-low_bits (suc w) (of_z w32 z) ∙ ap (λ v. v % 2 ^ suc w) (unsigned-32 z)) ∙ signed-unsigned 32 w z within small,
)

pub IsSigned-64 : (z : ℤ) → mag z < 2 ^ 63 → IsSigned 64 z (low_bits 64 (of_z w64 z))
IsSigned-64 z small = (
  length-low_bits 64 (of_z w64 z),
  ap (signed 64) (number_of-low_bits 64 (of_z w64 z) ∙ ap (λ v. v % 2 ^ 64) (unsigned-64 z)) ∙ signed-unsigned 64 63 z (omega arith) small,
)

-- ---- `sign_extend`
pub masked : (bits value : ℕ) → 0 < bits → bits ≤ 32 → bit_and value (2 * (1 * 2 ^ (bits - 1) % 2 ^ 64) - 1) ≡ value % 2 ^ bits
masked zero value some few = absurd (omega arith)
masked (suc w) value some few =
    let before : suc w - 1 ≡ w = omega arith in
    let inside : w < 64 = omega arith in
    rw (before, one_shl w 64 inside, sym (pow-suc w)) (and_mask value (suc w))

pub halved : (bits : ℕ) → 0 < bits → bits ≤ 32 → (2 * (1 * 2 ^ (bits - 1) % 2 ^ 64) ≡ 2 ^ bits) × (2 ^ bits ≤ 2 ^ 32)
halved zero some few = absurd (omega arith)
halved (suc w) some few =
    let before : suc w - 1 ≡ w = omega arith in
    let inside : w < 64 = omega arith in
    (rw (before, one_shl w 64 inside) (sym (pow-suc w)), pow-le (suc w) few)
  where
    pow-le : (k : ℕ) → k ≤ 32 → 2 ^ k ≤ 2 ^ 32
    pow-le k le =
        let parts : 32 ≡ (32 - k) + k = omega arith in
        let whole : 2 ^ 32 ≡ 2 ^ (32 - k) * 2 ^ k = ap (λ j. 2 ^ j) parts ∙ pow-add 2 (32 - k) k in
        go (2 ^ (32 - k)) (pow_pos (32 - k)) whole
      where
        go : (q : ℕ) → 0 < q → 2 ^ 32 ≡ q * 2 ^ k → 2 ^ k ≤ 2 ^ 32
        go zero some e = absurd (omega arith)
        go (suc q) some e = omega arith

pub signed-low : (bits low : ℕ) → 2 * low < 2 ^ bits → 2 ^ bits ≤ 2 ^ 32 → to_z w32 low ≡ signed bits low
signed-low bits low lt le =
    let test : nat_lt (2 * low) (2 ^ bits) ≡ true = lt-ltb _ _ lt in
    let small : low < 2 ^ 31 = omega arith in
    rw test (to_z_pos w32 low small)

pub signed-high : (bits low : ℕ) → 2 ^ bits ≤ 2 * low → low < 2 ^ bits → 2 ^ bits ≤ 2 ^ 32 →
    to_z w32 (of_z w32 (to_z w64 (of_z w64 (to_z w64 low -ℤ to_z w64 (2 ^ bits))))) ≡ signed bits low
signed-high bits low ge lt le = let test : nat_lt (2 * low) (2 ^ bits) ≡ false = le-ltb _ _ ge in rw test (extended low (2 ^ bits) ge lt le)
  where
    extended : (low p : ℕ) → p ≤ 2 * low → low < p → p ≤ 2 ^ 32 → to_z w32 (of_z w32 (to_z w64 (of_z w64 (to_z w64 low -ℤ to_z w64 p)))) ≡ pos low -ℤ pos p
    extended low p ge lt le = omega (arith, ints)

-- ---- differences of 64-bit numbers fit 128 bits
wide : (z : ℤ) → SFits w64 z → to_z w128 (of_z w128 z) ≡ z
wide z fits = omega (arith, ints)

wide-difference : (a b : ℤ) → SFits w64 a → SFits w64 b → to_z w128 (of_z w128 (a -ℤ b)) ≡ a -ℤ b
wide-difference a b fa fb = omega (arith, ints)

pub fits-difference : (v p b : ℤ) → SFits w64 v → SFits w64 p → SFits w64 b → SFits w128 ((v -ℤ p) -ℤ (p -ℤ b))
fits-difference v p b fv fp fb = search (arith, ints)

pub delta-is : (v p b : ℤ) → SFits w64 v → SFits w64 p → SFits w64 b →
    to_z w128 (of_z w128 (to_z w128 (of_z w128 v) -ℤ to_z w128 (of_z w128 p))) -ℤ to_z w128 (of_z w128 (to_z w128 (of_z w128 p) -ℤ to_z w128 (of_z w128 b))) ≡ (v -ℤ p) -ℤ (p -ℤ b)
delta-is v p b fv fp fb = rw (wide v fv, wide p fp, wide b fb, wide-difference v p fv fp, wide-difference p b fp fb) refl

pub delta-fits : (v p b : ℤ) → SFits w64 v → SFits w64 p → SFits w64 b →
    SFits w128 (to_z w128 (of_z w128 (to_z w128 (of_z w128 v) -ℤ to_z w128 (of_z w128 p))) -ℤ to_z w128 (of_z w128 (to_z w128 (of_z w128 p) -ℤ to_z w128 (of_z w128 b))))
delta-fits v p b fv fp fb = rw (delta-is v p b fv fp fb) (fits-difference v p b fv fp fb)

fits_i32-yes : (z : ℤ) → SFits w32 z → fits_i32 z ≡ true
fits_i32-yes (pos n) fits = lt-ltb n (2 ^ 31) fits.sfits
fits_i32-yes (negsuc n) fits = lt-ltb n (2 ^ 31) fits.sfits

fits_i32-no : (z : ℤ) → (SFits w32 z → ⊥) → fits_i32 z ≡ false
fits_i32-no (pos n) not_fits = le-ltb n (2 ^ 31) (elim (cases_lt n (2 ^ 31)) [ inl lt ↦ absurd (not_fits (record { sfits = lt })) | inr le ↦ le ])
fits_i32-no (negsuc n) not_fits = le-ltb n (2 ^ 31) (elim (cases_lt n (2 ^ 31)) [ inl lt ↦ absurd (not_fits (record { sfits = lt })) | inr le ↦ le ])

-- a conversion to 32 bits that may fail
pub narrowed : {E : Type 0} (z : ℤ) (r : Result ℤ E) → OkIff r (SFits w32 z) z → MatchOption (result_ok r) (fits_i32 z ≡ false) (λ delta. (delta ≡ z) × (fits_i32 z ≡ true))
narrowed z (Ok x) h = (h.1, fits_i32-yes z h.0)
narrowed z (Err e) h = fits_i32-no z h

-- ---- the next value fits 128 bits
wide-code : (z : ℤ) → SFits w32 z → to_z w128 (of_z w128 z) ≡ z
wide-code z fits = omega (arith, ints)

wide-delta : (p b code : ℤ) → SFits w64 p → SFits w64 b → SFits w32 code → to_z w128 (of_z w128 ((p -ℤ b) +ℤ code)) ≡ (p -ℤ b) +ℤ code
wide-delta p b code fp fb fc = omega (arith, ints)

pub fits-next : (p b code : ℤ) → SFits w64 p → SFits w64 b → SFits w32 code → SFits w128 (p +ℤ ((p -ℤ b) +ℤ code))
fits-next p b code fp fb fc = search (arith, ints)

pub next-is : (p b code : ℤ) → SFits w64 p → SFits w64 b → SFits w32 code →
    to_z w128 (of_z w128 p) +ℤ to_z w128 (of_z w128 (to_z w128 (of_z w128 (to_z w128 (of_z w128 p) -ℤ to_z w128 (of_z w128 b))) +ℤ to_z w128 (of_z w128 code))) ≡ p +ℤ ((p -ℤ b) +ℤ code)
next-is p b code fp fb fc = rw (wide p fp, wide b fb, wide-code code fc, wide-difference p b fp fb, wide-delta p b code fp fb fc) refl

pub next-fits : (p b code : ℤ) → SFits w64 p → SFits w64 b → SFits w32 code →
    SFits w128 (to_z w128 (of_z w128 p) +ℤ to_z w128 (of_z w128 (to_z w128 (of_z w128 (to_z w128 (of_z w128 p) -ℤ to_z w128 (of_z w128 b))) +ℤ to_z w128 (of_z w128 code))))
next-fits p b code fp fb fc = rw (next-is p b code fp fb fc) (fits-next p b code fp fb fc)

pub fits_i64-yes : (z : ℤ) → SFits w64 z → fits_i64 z ≡ true
fits_i64-yes (pos n) fits = lt-ltb n (2 ^ 63) fits.sfits
fits_i64-yes (negsuc n) fits = lt-ltb n (2 ^ 63) fits.sfits

fits_i64-no : (z : ℤ) → (SFits w64 z → ⊥) → fits_i64 z ≡ false
fits_i64-no (pos n) not_fits = le-ltb n (2 ^ 63) (elim (cases_lt n (2 ^ 63)) [ inl lt ↦ absurd (not_fits (record { sfits = lt })) | inr le ↦ le ])
fits_i64-no (negsuc n) not_fits = le-ltb n (2 ^ 63) (elim (cases_lt n (2 ^ 63)) [ inl lt ↦ absurd (not_fits (record { sfits = lt })) | inr le ↦ le ])

pub narrowed-64 : {E : Type 0} (z : ℤ) (r : Result ℤ E) → OkIff r (SFits w64 z) z → MatchOption (result_ok r) (fits_i64 z ≡ false) (λ value. (value ≡ z) × (fits_i64 z ≡ true))
narrowed-64 z (Ok x) h = (h.1, fits_i64-yes z h.0)
narrowed-64 z (Err e) h = fits_i64-no z h

pub cast-signed : (n : ℕ) → n < 2 ^ 64 → signed 64 n ≡ cast_signed w64 n
cast-signed n lt = elim (cases_lt (2 * n) (2 ^ 64)) [
  | inl low ↦
      let test : nat_lt (2 * n) (2 ^ 64) ≡ true = lt-ltb _ _ low in
      let small : n < 2 ^ 63 = omega arith in
      rw test (sym (to_z_pos w64 n small))
  | inr high ↦
      let test : nat_lt (2 * n) (2 ^ 64) ≡ false = le-ltb _ _ high in
      rw test (wrapped n lt high)
] where
  wrapped : (n : ℕ) → n < 2 ^ 64 → 2 ^ 64 ≤ 2 * n → pos n -ℤ pos (2 ^ 64) ≡ to_z w64 n
  wrapped n lt high = grind (arith, ints)

pub SFits-fits : (z : ℤ) → fits_i64 z ≡ true → SFits w64 z
SFits-fits (pos n) e = record { sfits = ltb-true n (2 ^ 63) e }
SFits-fits (negsuc n) e = record { sfits = ltb-true n (2 ^ 63) e }
