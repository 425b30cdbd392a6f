-- What is written of a tracker is its one spelling.
use Rattle.std.proofs.Common.{◌≡◌, refl, sym, ◌∙◌, ap, subst, ℕ, zero, suc, ◌+◌, ◌-◌, ◌*◌, ◌/◌, ◌%◌, ◌^◌, ◌<◌, ◌≤◌, Bool, true, false, nat_eq, nat_lt, cond, ℤ, pos, negsuc, ◌-ℤ◌, List, [], ◌∷◌, ◌++◌, length, take, drop, get_or, All, Option, Result, Ok, Err, MatchResult, IfOk, inl, inr, w32, lit<, arith}
use Rattle.std.specs.Cmp.{nat_cmp_total, int_cmp_total}
use Rattle.std.specs.Int.{to_le_bytes}
use Rattle.std.specs.List.{AllByRecursion}
use Rattle.std.specs.Int.RustNames.{unsigned_abs}
use Rattle.std.proofs.lemmas.Bool.{cases_lt}
use Rattle.std.proofs.lemmas.Int.{ints}
use Rattle.std.proofs.lemmas.List.{append-nil, length-append, take-append-le, drop-append-le, take_all}
use Rattle.std.proofs.lemmas.Nat.{shr_high, mod_low, pow-add}
use Rattle.std.proofs.Math.Nat.{mod-eq_of_lt}
use Rattle.std.proofs.Math.Seq.{take-append_seam, drop-append_seam}
use Rattle.slate_seqtrack.specs.Bits.{low_bits, number_of, bits_of}
use Rattle.slate_seqtrack.specs.declared.faults.TrackerFault.{TrackerFault}
use Rattle.slate_seqtrack.specs.Block.{fits_i64, IsSigned, IsCode, in_0, in_7, in_9, in_12, in_32, IsFirstCode, AreLater, AreValues, AreCounted}
use Rattle.slate_seqtrack.specs.Bytes.{as_signed, AreLists, AreTrackerBytes, lists_at, read_then, tracker_at, tracker_of}
use Rattle.slate_seqtrack.specs.Kept.{IsKeptTracker}
use Rattle.slate_seqtrack.specs.Spelling.{in_bits, first_code, later_bits, values_bits, counted_bits, first_byte, bytes_in, filled, block_of, lists_bytes}
use Rattle.slate_seqtrack.specs.Writing.{IsWrittenBlock}
use Rattle.slate_seqtrack.proofs.Binary.{length-low_bits, low_bits-mod, number_of-low_bits, length-bits_of}
use Rattle.slate_seqtrack.proofs.Grammar.{number_of-lt}
use Rattle.slate_seqtrack.proofs.Lists.{written-again}
use Rattle.slate_seqtrack.proofs.Rising.{rises-IsSorted}

-- ---- the bits of a number
-- a higher bit, and those below it
high-bit : (b : Bool) (w n : ℕ) → n < 2 ^ w → nat_eq ((cond b (2 ^ w) 0 + n) / 2 ^ w % 2) 1 ≡ b
high-bit true w n lt = let one : 2 ^ w + n ≡ 1 * 2 ^ w + n = omega arith in rw (one, shr_high 1 w n lt) refl
high-bit false w n lt = let none : 0 + n ≡ 0 * 2 ^ w + n = omega arith in rw (none, shr_high 0 w n lt) refl

low-bits : (b : Bool) (w n : ℕ) → n < 2 ^ w → low_bits w (cond b (2 ^ w) 0 + n) ≡ low_bits w n
low-bits true w n lt =
    let one : 2 ^ w + n ≡ 1 * 2 ^ w + n = omega arith in
    sym (low_bits-mod w w (2 ^ w + n) (omega arith)) ∙ ap (low_bits w) (ap (λ v. v % 2 ^ w) one ∙ mod_low 1 w n lt)
low-bits false w n lt = let none : 0 + n ≡ n = omega arith in ap (low_bits w) none

-- bits are those of their number
low_bits-number_of : (bits : List Bool) → low_bits (length bits) (number_of bits) ≡ bits
unfolding low_bits
low_bits-number_of [] = refl
low_bits-number_of (bit ∷ bits) =
    ap (λ b. b ∷ low_bits (length bits) (number_of (bit ∷ bits))) (high-bit bit (length bits) (number_of bits) (number_of-lt bits))
    ∙ ap (λ bs. bit ∷ bs) (low-bits bit (length bits) (number_of bits) (number_of-lt bits) ∙ low_bits-number_of bits)

in_bits-is : (width : ℕ) (value : ℤ) (bits : List Bool) → IsSigned width value bits → bits ≡ in_bits width value
in_bits-is width value bits (size, is) = go (nat_lt (2 * number_of bits) (2 ^ width)) refl where
  lt : number_of bits < 2 ^ width
  lt = subst (λ (w : ℕ). number_of bits < 2 ^ w) size (number_of-lt bits)

  same : bits ≡ low_bits width (number_of bits)
  same = sym (low_bits-number_of bits) ∙ ap (λ w. low_bits w (number_of bits)) size

  below : (n p : ℕ) → n < p → pos n -ℤ pos p ≡ negsuc (p - suc n)
  below n p less = omega (arith, ints)

  back : (n p : ℕ) → n < p → p - suc (p - suc n) ≡ n
  back n p less = omega arith

  go : (b : Bool) → nat_lt (2 * number_of bits) (2 ^ width) ≡ b → bits ≡ in_bits width value
  go true low =
      let value_is : pos (number_of bits) ≡ value = sym (ap (λ t. cond t (pos (number_of bits)) (pos (number_of bits) -ℤ pos (2 ^ width))) low) ∙ is in
      same ∙ ap (in_bits width) value_is
  go false high =
      let value_is : pos (number_of bits) -ℤ pos (2 ^ width) ≡ value = sym (ap (λ t. cond t (pos (number_of bits)) (pos (number_of bits) -ℤ pos (2 ^ width))) high) ∙ is in
      same ∙ ap (low_bits width) (sym (back (number_of bits) (2 ^ width) lt)) ∙ ap (in_bits width) (sym (below (number_of bits) (2 ^ width) lt) ∙ value_is)

-- ---- a difference of differences
no-bits : (bits : List Bool) → length bits ≡ 0 → bits ≡ []
no-bits [] none = refl
no-bits (b ∷ bits) none = absurd (omega arith)

-- the form, by which of the tests hold
abbrev form : (b0 b7 b9 b12 : Bool) → ℤ → List Bool
form b0 b7 b9 b12 z =
    cond b0 (false ∷ []) (cond b7 (true ∷ false ∷ in_bits 7 z) (cond b9 (true ∷ true ∷ false ∷ in_bits 9 z)
    (cond b12 (true ∷ true ∷ true ∷ false ∷ in_bits 12 z) (true ∷ true ∷ true ∷ true ∷ in_bits 32 z))))

abbrev size : (b0 b7 b9 b12 : Bool) → ℕ
size b0 b7 b9 b12 = cond b0 1 (cond b7 9 (cond b9 12 (cond b12 16 36)))

form-is : (b0 b7 b9 b12 : Bool) (z : ℤ) (code : List Bool) → IsCode z code → length code ≡ size b0 b7 b9 b12 → code ≡ form b0 b7 b9 b12 z
form-is true b7 b9 b12 z code (in_0 (bits, is, (none, value))) e = is ∙ ap (λ bs. false ∷ bs) (no-bits bits none)
form-is true b7 b9 b12 z code (in_7 (bits, is, (few, value))) e = absurd (omega (arith, ap length is, few, e))
form-is true b7 b9 b12 z code (in_9 (bits, is, (few, value))) e = absurd (omega (arith, ap length is, few, e))
form-is true b7 b9 b12 z code (in_12 (bits, is, (few, value))) e = absurd (omega (arith, ap length is, few, e))
form-is true b7 b9 b12 z code (in_32 (bits, is, (few, value))) e = absurd (omega (arith, ap length is, few, e))
form-is false true b9 b12 z code (in_0 (bits, is, (few, value))) e = absurd (omega (arith, ap length is, few, e))
form-is false true b9 b12 z code (in_7 (bits, is, signed_is)) e = is ∙ ap (λ bs. true ∷ false ∷ bs) (in_bits-is 7 z bits signed_is)
form-is false true b9 b12 z code (in_9 (bits, is, (few, value))) e = absurd (omega (arith, ap length is, few, e))
form-is false true b9 b12 z code (in_12 (bits, is, (few, value))) e = absurd (omega (arith, ap length is, few, e))
form-is false true b9 b12 z code (in_32 (bits, is, (few, value))) e = absurd (omega (arith, ap length is, few, e))
form-is false false true b12 z code (in_0 (bits, is, (few, value))) e = absurd (omega (arith, ap length is, few, e))
form-is false false true b12 z code (in_7 (bits, is, (few, value))) e = absurd (omega (arith, ap length is, few, e))
form-is false false true b12 z code (in_9 (bits, is, signed_is)) e = is ∙ ap (λ bs. true ∷ true ∷ false ∷ bs) (in_bits-is 9 z bits signed_is)
form-is false false true b12 z code (in_12 (bits, is, (few, value))) e = absurd (omega (arith, ap length is, few, e))
form-is false false true b12 z code (in_32 (bits, is, (few, value))) e = absurd (omega (arith, ap length is, few, e))
form-is false false false true z code (in_0 (bits, is, (few, value))) e = absurd (omega (arith, ap length is, few, e))
form-is false false false true z code (in_7 (bits, is, (few, value))) e = absurd (omega (arith, ap length is, few, e))
form-is false false false true z code (in_9 (bits, is, (few, value))) e = absurd (omega (arith, ap length is, few, e))
form-is false false false true z code (in_12 (bits, is, signed_is)) e = is ∙ ap (λ bs. true ∷ true ∷ true ∷ false ∷ bs) (in_bits-is 12 z bits signed_is)
form-is false false false true z code (in_32 (bits, is, (few, value))) e = absurd (omega (arith, ap length is, few, e))
form-is false false false false z code (in_0 (bits, is, (few, value))) e = absurd (omega (arith, ap length is, few, e))
form-is false false false false z code (in_7 (bits, is, (few, value))) e = absurd (omega (arith, ap length is, few, e))
form-is false false false false z code (in_9 (bits, is, (few, value))) e = absurd (omega (arith, ap length is, few, e))
form-is false false false false z code (in_12 (bits, is, (few, value))) e = absurd (omega (arith, ap length is, few, e))
form-is false false false false z code (in_32 (bits, is, signed_is)) e = is ∙ ap (λ bs. true ∷ true ∷ true ∷ true ∷ bs) (in_bits-is 32 z bits signed_is)

code-is : (z : ℤ) (code : List Bool) → IsFirstCode z code → code ≡ first_code z
code-is z code (coded, e) = form-is (nat_eq (unsigned_abs z) 0) (nat_lt (unsigned_abs z) 64) (nat_lt (unsigned_abs z) 256) (nat_lt (unsigned_abs z) 2048) z code coded e

-- ---- a block
later-is : (previous delta : ℤ) (values : List ℤ) (bits : List Bool) → AreLater IsFirstCode previous delta values bits → bits ≡ later_bits previous delta values
later-is previous delta [] bits are = are
later-is previous delta (value ∷ values) bits (code, later, is, first, are) =
    is ∙ ap (λ c. c ++ later) (code-is ((value -ℤ previous) -ℤ delta) code first)
    ∙ ap (λ l. first_code ((value -ℤ previous) -ℤ delta) ++ l) (later-is value (value -ℤ previous) values later are)

values-are : (values : List ℤ) (bits : List Bool) → AreValues IsFirstCode values bits → bits ≡ values_bits values
values-are [] bits are = are
values-are (value ∷ values) bits (first, later, is, signed_is, are) =
    is ∙ ap (λ f. f ++ later) (in_bits-is 64 value first signed_is) ∙ ap (λ l. in_bits 64 value ++ l) (later-is value (pos 0) values later are)

counted-are : (values : List ℤ) (bits : List Bool) → AreCounted IsFirstCode values bits → bits ≡ counted_bits values
counted-are values bits (count, rest, is, (few, number), are) =
    is ∙ ap (λ c. c ++ rest) (sym (low_bits-number_of count) ∙ ap (λ w. low_bits w (number_of count)) few ∙ ap (low_bits 32) number)
    ∙ ap (λ r. low_bits 32 (length values) ++ r) (values-are values rest are)

-- ---- bytes of bits
number_of-append : (xs ys : List Bool) → number_of (xs ++ ys) ≡ number_of xs * 2 ^ length ys + number_of ys
number_of-append [] ys = omega arith
number_of-append (x ∷ xs) ys = by x (number_of-append xs ys) where
  sum : (a p q n m : ℕ) → a ≡ p * q → n ≡ m * q + number_of ys → a + n ≡ (p + m) * q + number_of ys
  sum a p q n m a-is n-is = rw (a-is, n-is) (grind arith)

  by : (b : Bool) → number_of (xs ++ ys) ≡ number_of xs * 2 ^ length ys + number_of ys → cond b (2 ^ length (xs ++ ys)) 0 + number_of (xs ++ ys) ≡ (cond b (2 ^ length xs) 0 + number_of xs) * 2 ^ length ys + number_of ys
  by true rest = sum _ (2 ^ length xs) (2 ^ length ys) _ (number_of xs) (ap (λ n. 2 ^ n) (length-append xs ys) ∙ pow-add 2 (length xs) (length ys)) rest
  by false rest = sum 0 0 (2 ^ length ys) _ (number_of xs) (omega arith) rest

number_of-none : (bits : List Bool) → All (λ bit. bit ≡ false) bits → number_of bits ≡ 0
number_of-none [] none = refl
number_of-none (b ∷ bits) none =
    let no : b ≡ false = none 0 b (omega arith) in
    rw (no, number_of-none bits (λ k d lt. none (suc k) d (omega arith))) refl

abbrev AreBytes : List ℕ → Type 0
AreBytes bytes = (i : ℕ) → get_or bytes i 0 < 256

byte-is : (byte : ℕ) → byte < 256 → number_of (low_bits 8 byte) ≡ byte
byte-is byte small = number_of-low_bits 8 byte ∙ mod-eq_of_lt small

-- a byte, where the bits fill it
whole-byte : (byte : ℕ) (bits rest padding : List Bool) → byte < 256 → low_bits 8 byte ++ rest ≡ bits ++ padding → 8 ≤ length bits →
    (byte ≡ first_byte bits) × (rest ≡ drop 8 bits ++ padding)
whole-byte byte bits rest padding small e long =
    let eight = length-low_bits 8 byte in
    let front : low_bits 8 byte ≡ take 8 bits = sym (take-append_seam (low_bits 8 byte) rest) ∙ ap (λ n. take n (low_bits 8 byte ++ rest)) eight ∙ ap (take 8) e ∙ take-append-le 8 bits padding long in
    let back : rest ≡ drop 8 bits ++ padding = sym (drop-append_seam (low_bits 8 byte) rest) ∙ ap (λ n. drop n (low_bits 8 byte ++ rest)) eight ∙ ap (drop 8) e ∙ drop-append-le 8 bits padding long in
    let full : length (take 8 bits) ≡ 8 = ap length (sym front) ∙ eight in
    let plain : byte * 2 ^ (8 - 8) ≡ byte = omega arith in
    (sym plain ∙ ap (λ n. n * 2 ^ (8 - 8)) (sym (byte-is byte small)) ∙ ap (λ bs. number_of bs * 2 ^ (8 - 8)) front ∙ ap (λ n. number_of (take 8 bits) * 2 ^ (8 - n)) (sym full), back)

-- the last byte, where zero bits fill it
last-byte : (byte : ℕ) (bits padding : List Bool) → byte < 256 → low_bits 8 byte ≡ bits ++ padding → length bits < 8 → All (λ bit. bit ≡ false) padding → byte ≡ first_byte bits
last-byte byte bits padding small e short none =
    let size : 8 ≡ length bits + length padding = sym (length-low_bits 8 byte) ∙ ap length e ∙ length-append bits padding in
    let all : take 8 bits ≡ bits = take_all 8 bits (omega arith) in
    let left : 8 - length bits ≡ length padding = omega arith in
    let value : byte ≡ number_of bits * 2 ^ length padding + 0 = sym (byte-is byte small) ∙ ap number_of e ∙ number_of-append bits padding ∙ ap (λ n. number_of bits * 2 ^ length padding + n) (number_of-none padding none) in
    let plain : number_of bits * 2 ^ length padding + 0 ≡ number_of bits * 2 ^ length padding = omega arith in
    value ∙ plain ∙ rw (all, left) refl

no-bytes : (bs : List ℕ) → length bs ≡ 0 → bs ≡ []
no-bytes [] none = refl
no-bytes (b ∷ bs) none = absurd (omega arith)

filled-is : (bytes : List ℕ) (bits padding : List Bool) → AreBytes bytes → bits_of bytes ≡ bits ++ padding → length padding < 8 → All (λ bit. bit ≡ false) padding →
    bytes ≡ bytes_in (length bytes) bits
filled-is [] bits padding are e few none = refl
filled-is (byte ∷ bytes) bits padding are e few none = elim (cases_lt (length bits) 8) [ inl short ↦ last short | inr long ↦ whole long (λ rest. filled-is bytes (drop 8 bits) padding (λ i. are (suc i)) rest few none) ] where
  last : length bits < 8 → byte ∷ bytes ≡ first_byte bits ∷ bytes_in (length bytes) (drop 8 bits)
  last short =
      let none_left : bytes ≡ [] = no-bytes bytes (omega (arith, ap length e, length-append (low_bits 8 byte) (bits_of bytes), length-append bits padding, length-low_bits 8 byte, length-bits_of bytes)) in
      let front : low_bits 8 byte ≡ bits ++ padding = sym (append-nil (low_bits 8 byte)) ∙ ap (λ bs. low_bits 8 byte ++ bits_of bs) (sym none_left) ∙ e in
      ap (λ b. b ∷ bytes) (last-byte byte bits padding (are 0) front short none) ∙ ap (λ bs. first_byte bits ∷ bs) (none_left ∙ ap (λ bs. bytes_in (length bs) (drop 8 bits)) (sym none_left))

  whole : 8 ≤ length bits → (bits_of bytes ≡ drop 8 bits ++ padding → bytes ≡ bytes_in (length bytes) (drop 8 bits)) → byte ∷ bytes ≡ first_byte bits ∷ bytes_in (length bytes) (drop 8 bits)
  whole long others =
      let parts = whole-byte byte bits (bits_of bytes) padding (are 0) e long in
      ap (λ b. b ∷ bytes) parts.0 ∙ ap (λ bs. first_byte bits ∷ bs) (others parts.1)

-- a block that is written has one spelling
block-is : (values : List ℤ) (bytes : List ℕ) → AreBytes bytes → IsWrittenBlock values bytes → bytes ≡ block_of values
block-is values bytes are (bits, counted, (padding, e, few, none)) =
    let count : length bytes ≡ (length bits + 7) / 8 = omega (arith, ap length e, length-append bits padding, length-bits_of bytes) in
    filled-is bytes bits padding are e few none ∙ ap (λ n. bytes_in n bits) count ∙ ap filled (counted-are values bits counted)

bytes-left : (xs ys : List ℕ) → AreBytes (xs ++ ys) → AreBytes xs
bytes-left [] ys are i = lit< tt
bytes-left (x ∷ xs) ys are zero = are 0
bytes-left (x ∷ xs) ys are (suc i) = bytes-left xs ys (λ k. are (suc k)) i

bytes-right : (xs ys : List ℕ) → AreBytes (xs ++ ys) → AreBytes ys
bytes-right [] ys are = are
bytes-right (x ∷ xs) ys are = bytes-right xs ys (λ k. are (suc k))

-- and so have the bytes of a tracker
pub spelled-is : (numbers : List ℕ) (times : List ℤ) (bytes : List ℕ) → AreBytes bytes → AreTrackerBytes IsWrittenBlock numbers times bytes → bytes ≡ lists_bytes numbers times
unfolding lists_bytes
spelled-is numbers times bytes are (first, second, is, one, two) =
    let size : List ℕ = to_le_bytes w32 (length numbers) in
    let both : AreBytes (first ++ second) = bytes-right (1 ∷ size) (first ++ second) (subst AreBytes is are) in
    let firsts : AreBytes first = bytes-left first second both in
    let seconds : AreBytes second = bytes-right first second both in
    is ∙ ap (λ f. 1 ∷ (size ++ (f ++ second))) (block-is (as_signed numbers) first firsts one) ∙ ap (λ s. 1 ∷ (size ++ (block_of (as_signed numbers) ++ s))) (block-is times second seconds two)

-- ---- what a call that writes a tracker answers
pub answer-again : {T : Type 0} (r : Result T TrackerFault) (items : T → List ℕ) (numbers : List ℕ) (times : List ℤ) (P F : Type 0) (Q : TrackerFault → Type 0) → (F → AreLists numbers times) → IfOk r (λ bytes. F) →
    MatchResult r (λ bytes. AreTrackerBytes IsWrittenBlock numbers times (items bytes) × P) Q → IfOk r (λ bytes. tracker_at (items bytes) ≡ Ok (tracker_of numbers times))
answer-again (Ok bytes) items numbers times P F Q lists fit h =
    let read : lists_at (items bytes) ≡ Ok (numbers, times) = ap lists_at (sym (append-nil (items bytes))) ∙ written-again numbers times (items bytes) [] (lists fit) h.0 in
    ap (λ l. read_then l (λ lists. Ok (tracker_of lists.0 lists.1))) read
answer-again (Err fault) items numbers times P F Q lists fit h = tt

-- what the type of numbers says
pub numbers-fit : (numbers : List ℕ) → ((i : ℕ) → get_or numbers i 0 < 2 ^ 64) → AllByRecursion (λ n. n < 2 ^ 64) numbers
numbers-fit [] fit = tt
numbers-fit (n ∷ numbers) fit = (fit 0, numbers-fit numbers (λ i. fit (suc i)))

-- the lists of a tracker that is kept
pub kept-lists : (capacity : ℕ) (recorded : Option ℤ) (numbers : List ℕ) (times : List ℤ) (a b : ℕ) → IsKeptTracker capacity recorded numbers times a b →
    AllByRecursion (λ n. n < 2 ^ 64) numbers → AllByRecursion (λ t. fits_i64 t ≡ true) times → AreLists numbers times
kept-lists capacity recorded numbers times a b kept numbers_fit times_fit = record {
  same = kept.paired;
  few = kept.few;
  numbers_fit = numbers_fit;
  times_fit = times_fit;
  numbers_rise = rises-IsSorted nat_cmp_total numbers kept.numbers_rise;
  times_rise = rises-IsSorted int_cmp_total times kept.times_rise;
}
