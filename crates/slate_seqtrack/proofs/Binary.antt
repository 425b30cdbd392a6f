-- Laws of the bits of numbers and bytes.
use Rattle.std.proofs.Common.{◌≡◌, refl, sym, ◌∙◌, ap, ℕ, ◌+◌, ◌-◌, ◌*◌, ◌/◌, ◌%◌, ◌^◌, ◌<◌, ◌≤◌, zero, suc, Bool, true, false, nat_eq, List, [], ◌∷◌, ◌++◌, length, cond, All, leb, bit_and, bit_or, lit<, arith}
use mir.Val.{bool_byte}
use Rattle.std.specs.Int.{bit_at}
use Rattle.std.proofs.lemmas.Nat.{shr-shr, shr_split, shr_le, mod-pow-add, shr_high, mod_low, mod_below, pow_pos, one_shl, shl_whole, and_mask, or_shifted, pow-add}
use Rattle.std.proofs.lemmas.Nat.Bits.{bit_at_cat_low}
use Rattle.std.proofs.lemmas.List.{append_assoc, append-nil, length-append}
use Rattle.slate_seqtrack.specs.Bits.{low_bits, number_of, bits_of, IsPadded}

pub length-low_bits : (n value : ℕ) → length (low_bits n value) ≡ n
unfolding low_bits
length-low_bits zero value = refl
length-low_bits (suc n) value = ap suc (length-low_bits n value)

-- a number of two parts: the high part's bits come first
pub low_bits-split : (m n value : ℕ) → low_bits (m + n) value ≡ low_bits m (value / 2 ^ n) ++ low_bits n value
unfolding low_bits
low_bits-split zero n value = let z : 0 + n ≡ n = omega arith in rw z refl
low_bits-split (suc m) n value =
    let s : suc m + n ≡ suc (m + n) = omega arith in
    let turn : n + m ≡ m + n = omega arith in
    let top : value / 2 ^ n / 2 ^ m ≡ value / 2 ^ (m + n) = shr-shr value n m ∙ ap (λ k. value / 2 ^ k) turn in
    rw (s, top) (ap (λ bits. nat_eq (value / 2 ^ (m + n) % 2) 1 ∷ bits) (low_bits-split m n value))

-- higher bits don't matter
pub low_bits-mod : (n m value : ℕ) → n ≤ m → low_bits n (value % 2 ^ m) ≡ low_bits n value
unfolding low_bits
low_bits-mod zero m value h = refl
low_bits-mod (suc n) m value h =
    let lt : n < m = omega arith in
    let same : bit_at value n ≡ bit_at (value % 2 ^ m) n = ap (λ v. bit_at v n) (sym (shr_split value m)) ∙ bit_at_cat_low (value / 2 ^ m) m (value % 2 ^ m) n lt in
    rw (sym same, low_bits-mod n m value (omega arith)) refl

pub number_of-low_bits : (n value : ℕ) → number_of (low_bits n value) ≡ value % 2 ^ n
unfolding low_bits
number_of-low_bits zero value = omega arith
number_of-low_bits (suc n) value =
    let more : value % 2 ^ (1 + n) ≡ (value / 2 ^ n % 2 ^ 1) * 2 ^ n + value % 2 ^ n = mod-pow-add value 1 n in
    let one : 1 + n ≡ suc n = omega arith in
    rw (length-low_bits n value, number_of-low_bits n value)
    (by-bit (value / 2 ^ n % 2) (2 ^ n) (value % 2 ^ n) (value % 2 ^ (suc n)) (omega arith) (ap (λ k. value % 2 ^ k) (sym one) ∙ more))
  where
    by-bit : (bit p low all : ℕ) → bit < 2 → all ≡ bit * p + low → cond (nat_eq bit 1) p 0 + low ≡ all
    by-bit zero p low all lt e = omega arith
    by-bit (suc zero) p low all lt e = omega arith
    by-bit (suc (suc bit)) p low all lt e = absurd (omega arith)

pub bits_of-append : (xs ys : List ℕ) → bits_of (xs ++ ys) ≡ bits_of xs ++ bits_of ys
bits_of-append [] ys = refl
bits_of-append (x ∷ xs) ys = ap (λ bits. low_bits 8 x ++ bits) (bits_of-append xs ys) ∙ sym (append_assoc (low_bits 8 x) (bits_of xs) (bits_of ys))

pub length-bits_of : (bytes : List ℕ) → length (bits_of bytes) ≡ 8 * length bytes
length-bits_of [] = refl
length-bits_of (b ∷ bytes) = omega (arith, length-append (low_bits 8 b) (bits_of bytes), length-low_bits 8 b, length-bits_of bytes)

-- bits pushed below others in one word
pub low_bits-word : (m n high low : ℕ) → low < 2 ^ n → low_bits (m + n) (high * 2 ^ n + low) ≡ low_bits m high ++ low_bits n low
low_bits-word m n high low lt =
    low_bits-split m n (high * 2 ^ n + low) ∙
    ap (λ v. low_bits m v ++ low_bits n (high * 2 ^ n + low)) (shr_high high n low lt) ∙
    ap (λ bits. low_bits m high ++ bits) (sym (low_bits-mod n n (high * 2 ^ n + low) (omega arith)) ∙ ap (low_bits n) (mod_low high n low lt))

-- the highest byte of a word goes to the bytes
pub bits_of-shift : (bytes : List ℕ) (left word : ℕ) → bits_of (bytes ++ (word / 2 ^ left % 256) ∷ []) ++ low_bits left word ≡ bits_of bytes ++ low_bits (8 + left) word
bits_of-shift bytes left word =
    let byte : low_bits 8 (word / 2 ^ left % 256) ≡ low_bits 8 (word / 2 ^ left) = low_bits-mod 8 8 (word / 2 ^ left) (omega arith) in
    ap (λ bits. bits ++ low_bits left word) (bits_of-append bytes ((word / 2 ^ left % 256) ∷ []) ∙ ap (λ bits. bits_of bytes ++ bits) (append-nil _ ∙ byte)) ∙
    append_assoc (bits_of bytes) (low_bits 8 (word / 2 ^ left)) (low_bits left word) ∙
    ap (λ bits. bits_of bytes ++ bits) (sym (low_bits-split 8 left word))

-- a word of the bits that are pending and those that come
pub word-is : (pending value bits : ℕ) → pending < 2 ^ 8 → bits ≤ 64 →
    bit_or (pending * 2 ^ bits % 2 ^ 128) (bit_and value (1 * 2 ^ bits % 2 ^ 128 - 1)) ≡ pending * 2 ^ bits + value % 2 ^ bits
word-is pending value bits lt few =
    let inside : bits < 128 = omega arith in
    let whole : 8 + bits ≤ 128 = omega arith in
    rw (one_shl bits 128 inside, shl_whole pending 8 bits 128 lt whole, and_mask value bits)
    (or_shifted pending bits (value % 2 ^ bits) (mod_below value (2 ^ bits) (pow_pos bits)))

-- the word's bytes went to the bytes: its bits are those that were pending and those that came
pub pushed : (bytes bytes' : List ℕ) (count pending p value v bits result : ℕ) → p ≡ pending → v ≡ value → pending < 2 ^ 8 → bits ≤ 64 →
    bits_of bytes' ++ low_bits ((count + bits) % 8) result ≡ bits_of bytes ++ low_bits (count + bits) (bit_or (p * 2 ^ bits % 2 ^ 128) (bit_and v (1 * 2 ^ bits % 2 ^ 128 - 1))) →
    bits_of bytes' ++ low_bits ((count + bits) % 8) result ≡ (bits_of bytes ++ low_bits count pending) ++ low_bits bits value
pushed bytes bytes' count pending p value v bits result p-is v-is small few e =
    let word : bit_or (p * 2 ^ bits % 2 ^ 128) (bit_and v (1 * 2 ^ bits % 2 ^ 128 - 1)) ≡ pending * 2 ^ bits + value % 2 ^ bits = rw (p-is, v-is) (word-is pending value bits small few) in
    e ∙ ap (λ w. bits_of bytes ++ low_bits (count + bits) w) word ∙
    ap (λ b. bits_of bytes ++ b)
    (low_bits-word count bits pending (value % 2 ^ bits) (mod_below value (2 ^ bits) (pow_pos bits)) ∙ ap (λ b. low_bits count pending ++ b) (low_bits-mod bits bits value (omega arith))) ∙
    sym (append_assoc (bits_of bytes) (low_bits count pending) (low_bits bits value))

zero-shr : (n : ℕ) → 0 / 2 ^ n ≡ 0
zero-shr n = let h : 0 / 2 ^ n ≤ 0 = shr_le 0 n in omega arith

low_bits-zero : (k : ℕ) → All (λ bit. bit ≡ false) (low_bits k 0)
unfolding low_bits
low_bits-zero zero i d lt = absurd (omega arith)
low_bits-zero (suc k) zero d lt = rw zero-shr refl
low_bits-zero (suc k) (suc i) d lt = low_bits-zero k i d (omega arith)

-- the last byte, filled with zero bits
pub last-byte : (bytes : List ℕ) (count pending : ℕ) → 0 < count → count < 8 → IsPadded (bits_of bytes ++ low_bits count pending) (bytes ++ (pending * 2 ^ (8 - count) % 2 ^ 8) ∷ [])
last-byte bytes count pending some few =
    let sum : 8 ≡ count + (8 - count) = omega arith in
    let padding = low_bits (8 - count) 0 in
    let plain : pending * 2 ^ (8 - count) ≡ pending * 2 ^ (8 - count) + 0 = omega arith in
    let byte : low_bits 8 (pending * 2 ^ (8 - count) % 2 ^ 8) ≡ low_bits count pending ++ padding =
    low_bits-mod 8 8 (pending * 2 ^ (8 - count)) (omega arith) ∙ ap (λ k. low_bits k (pending * 2 ^ (8 - count))) sum ∙
    ap (low_bits (count + (8 - count))) plain ∙ low_bits-word count (8 - count) pending 0 (pow_pos (8 - count)) in (
      padding,
      bits_of-append bytes _ ∙ ap (λ bits. bits_of bytes ++ bits) (append-nil _ ∙ byte) ∙ sym (append_assoc (bits_of bytes) (low_bits count pending) padding),
      omega (arith, length-low_bits (8 - count) 0),
      low_bits-zero (8 - count),
    )

pub no-padding : (bytes : List ℕ) (pending : ℕ) → IsPadded (bits_of bytes ++ low_bits 0 pending) bytes
unfolding low_bits
no-padding bytes pending = ([], sym (append-nil _) ∙ sym (append-nil _), lit< tt, λ k d lt. absurd (omega arith))

-- a single bit
pub low_bits-bit : (bit : Bool) → low_bits 1 (bool_byte bit) ≡ bit ∷ []
unfolding low_bits
low_bits-bit true = refl
low_bits-bit false = refl

pub low_bits-none : (value : ℕ) → low_bits 0 value ≡ []
unfolding low_bits
low_bits-none value = refl

-- ---- reading
pub low_bits-next : (n value : ℕ) → 0 < n → low_bits n value ≡ nat_eq (value / 2 ^ (n - 1) % 2) 1 ∷ low_bits (n - 1) value
unfolding low_bits
low_bits-next zero value some = absurd (omega arith)
low_bits-next (suc n) value some = let before : suc n - 1 ≡ n = omega arith in rw before refl

highest-bit : (byte : ℕ) → byte < 256 → leb 128 byte ≡ nat_eq (byte / 2 ^ 7 % 2) 1
highest-bit byte lt = go (byte / 128) (omega arith) refl where
  go : (high : ℕ) → high < 2 → byte / 128 ≡ high → leb 128 byte ≡ nat_eq (byte / 128 % 2) 1
  go zero small e = let low : leb 128 byte ≡ false = grind arith in rw (low, e) refl
  go (suc zero) small e = let high : leb 128 byte ≡ true = grind arith in rw (high, e) refl
  go (suc (suc high)) small e = absurd (omega arith)

-- the first bit of the next byte, where none is pending
pub first-bit : (pending byte : ℕ) (bytes : List ℕ) → byte < 256 → low_bits 0 pending ++ bits_of (byte ∷ bytes) ≡ leb 128 byte ∷ (low_bits 7 byte ++ bits_of bytes)
first-bit pending byte bytes lt =
    ap (λ bits. bits ++ bits_of (byte ∷ bytes)) (low_bits-none pending) ∙
    ap (λ bits. bits ++ bits_of bytes) (low_bits-next 8 byte (omega arith) ∙ ap (λ bit. bit ∷ low_bits 7 byte) (sym (highest-bit byte lt)))

pub fits-more : (value n : ℕ) → value < 2 ^ 8 → value < 2 ^ (8 + n)
fits-more value n lt = rw (pow-add 2 8 n) (omega (arith, pow_pos n))

-- a word with one byte more
pub word-more : (have word byte : ℕ) → word < 2 ^ (8 + have) → have < 64 → byte < 2 ^ 8 → bit_or (word * 2 ^ 8 % 2 ^ 128) byte ≡ word * 2 ^ 8 + byte
word-more have word byte small few lt =
    let within : 8 + have + 8 ≤ 128 = omega arith in
    rw (shl_whole word (8 + have) 8 128 small within) (or_shifted word 8 byte lt)

pub word-more-fits : (have word byte : ℕ) → word < 2 ^ (8 + have) → byte < 2 ^ 8 → word * 2 ^ 8 + byte < 2 ^ (8 + (have + 8))
word-more-fits have word byte small lt =
    let sum : 8 + (have + 8) ≡ (8 + have) + 8 = omega arith in
    rw (sum, pow-add 2 (8 + have) 8) (omega arith)

pub word-more-bits : (have word byte : ℕ) (bytes : List ℕ) → byte < 2 ^ 8 → low_bits (have + 8) (word * 2 ^ 8 + byte) ++ bits_of bytes ≡ low_bits have word ++ bits_of (byte ∷ bytes)
word-more-bits have word byte bytes lt =
    ap (λ bits. bits ++ bits_of bytes) (low_bits-word have 8 word byte lt) ∙ append_assoc (low_bits have word) (low_bits 8 byte) (bits_of bytes)

-- how many bits there are
pub length-left : (count pending : ℕ) (bytes : List ℕ) → length (low_bits count pending ++ bits_of bytes) ≡ count + 8 * length bytes
length-left count pending bytes = omega (arith, length-append (low_bits count pending) (bits_of bytes), length-low_bits count pending, length-bits_of bytes)

-- the number of the high bits of a word, and the bits below them
pub unpacked : (bits count word : ℕ) (bytes : List ℕ) → bits ≤ 64 → count < 8 →
    low_bits (bits + count) word ++ bits_of bytes ≡
    low_bits bits (bit_and (word / 2 ^ count) (1 * 2 ^ bits % 2 ^ 128 - 1)) ++ (low_bits count (word % 256) ++ bits_of bytes)
unpacked bits count word bytes few partial =
    let inside : bits < 128 = omega arith in
    let masked : bit_and (word / 2 ^ count) (1 * 2 ^ bits % 2 ^ 128 - 1) ≡ word / 2 ^ count % 2 ^ bits = rw (one_shl bits 128 inside) (and_mask (word / 2 ^ count) bits) in
    rw (masked, low_bits-mod bits bits (word / 2 ^ count) (omega arith), low_bits-mod count 8 word (omega arith), low_bits-split bits count word)
    (append_assoc (low_bits bits (word / 2 ^ count)) (low_bits count word) (bits_of bytes))

pub unpacked-fits : (bits value : ℕ) → bits ≤ 64 → bit_and value (1 * 2 ^ bits % 2 ^ 128 - 1) < 2 ^ bits
unpacked-fits bits value few =
    let inside : bits < 128 = omega arith in
    rw (one_shl bits 128 inside, and_mask value bits) (mod_below value (2 ^ bits) (pow_pos bits))

-- no bit is left
pub none-left : (count pending : ℕ) (bytes : List ℕ) → count ≡ 0 → length bytes ≡ 0 → low_bits count pending ++ bits_of bytes ≡ []
unfolding low_bits
none-left zero pending [] e h = refl
none-left zero pending (b ∷ bytes) e h = absurd (omega arith)
none-left (suc count) pending bytes e h = absurd (omega arith)
