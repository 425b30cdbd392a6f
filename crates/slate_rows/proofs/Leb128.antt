-- Numbers in LEB128 are read as they were written, in as many bytes as were counted.
use Rattle.std.proofs.Common.{◌≡◌, ◌≢◌, refl, sym, ◌∙◌, ap, ℕ, ◌+◌, ◌-◌, ◌*◌, ◌/◌, ◌%◌, ◌^◌, ◌<◌, ◌≤◌, zero, suc, false, nat_lt, List, [], ◌∷◌, ◌++◌, length, Ok, lit≤, lit<, arith}
use Rattle.std.proofs.lemmas.Bool.{lt-ltb, le-ltb}
use Rattle.std.proofs.lemmas.Grind.{pow_more}
use Rattle.std.proofs.lemmas.List.{append_assoc, append-nil, length-append}
use Rattle.slate_rows.specs.Varint.{IsLeb128, number_at_front, varint}

-- ---- how many bytes a number takes
pub Leb128-one : (v : ℕ) → v < 128 → (bytes : List ℕ) × IsLeb128 v bytes × (1 ≡ length bytes)
Leb128-one v small = (v ∷ [], (small, refl), refl)

pub Leb128-more : (v n : ℕ) → 128 ≤ v → (bytes : List ℕ) × IsLeb128 (v / 128) bytes × (n ≡ length bytes) → (bytes : List ℕ) × IsLeb128 v bytes × (suc n ≡ length bytes)
Leb128-more v n large ([], none, l) = absurd none
Leb128-more v n large (b ∷ bs, is, l) = ((128 + v % 128) ∷ b ∷ bs, (large, refl, is), ap suc l)

-- ---- reading what was written
number_at_front-Leb128 : (n v : ℕ) (bytes rest : List ℕ) → v < 128 ^ (suc n) → IsLeb128 v bytes → number_at_front (suc n) (bytes ++ rest) ≡ Ok (v, rest)
number_at_front-Leb128 n v [] rest fits is = absurd is
number_at_front-Leb128 n v (b ∷ []) rest fits is = rw (is.1, lt-ltb v 128 is.0)
number_at_front-Leb128 zero v (b ∷ c ∷ bytes) rest fits is = absurd (omega arith)
number_at_front-Leb128 (suc n) v (b ∷ c ∷ bytes) rest fits is =
    let more : 128 ^ (suc n + 1) ≡ 128 ^ (suc n) * 128 = pow_more 128 (suc n) in
    let fits' : v / 128 < 128 ^ (suc n) = omega arith in
    let high : nat_lt b 128 ≡ false = le-ltb b 128 (omega arith) in
    let low : b - 128 + 128 * (v / 128) ≡ v = omega arith in
    rw (high, number_at_front-Leb128 n (v / 128) (c ∷ bytes) rest fits' is.2, low)

pub varint-Leb128 : (v : ℕ) (bytes rest : List ℕ) → v < 2 ^ 32 → IsLeb128 v bytes → varint (bytes ++ rest) ≡ Ok (v, rest)
varint-Leb128 v bytes rest fits is =
    let small : v < 128 ^ 5 = omega arith in
    rw (number_at_front-Leb128 4 v bytes rest small is, lt-ltb v (2 ^ 32) fits)

-- ---- writing: some bytes are done, and the rest of the number gives the others
pub record IsHalfway (old : List ℕ) (value rest : ℕ) (items : List ℕ) (capacity : ℕ) : Type 0 where
  pub done : List ℕ
  pub left : List ℕ
  pub items-is : items ≡ old ++ done
  pub left-is : IsLeb128 rest left
  pub whole : IsLeb128 value (done ++ left)
  pub room : length items + length left ≤ capacity

pub IsHalfway-init : (value n : ℕ) (items : List ℕ) (capacity : ℕ) → (bytes : List ℕ) × IsLeb128 value bytes × (n ≡ length bytes) → length items + n ≤ capacity →
    IsHalfway items value value items capacity
IsHalfway-init value n items capacity (bytes, is, len) room = record {
  done = [];
  left = bytes;
  items-is = sym (append-nil items);
  left-is = is;
  whole = is;
  room = omega arith;
}

pub IsHalfway-more : (old : List ℕ) (value rest : ℕ) (items new : List ℕ) (capacity capacity' byte : ℕ) → IsHalfway old value rest items capacity → 128 ≤ rest →
    byte ≡ rest % 128 + 128 → new ≡ items ++ byte ∷ [] → capacity' ≡ capacity → IsHalfway old value (rest / 128) new capacity'
IsHalfway-more old value rest items new capacity capacity' byte half large byte-is new-is same = go half.left half.left-is half.whole half.room where
  go : (left : List ℕ) → IsLeb128 rest left → IsLeb128 value (half.done ++ left) → length items + length left ≤ capacity → IsHalfway old value (rest / 128) new capacity'
  go [] is whole room = absurd is
  go (b ∷ []) is whole room = absurd (omega arith)
  go (b ∷ c ∷ left) is whole room =
      let here : byte ≡ b = omega arith in
      let at : new ≡ (old ++ half.done) ++ byte ∷ [] = new-is ∙ ap (λ x. x ++ byte ∷ []) half.items-is in
      record {
        done = half.done ++ b ∷ [];
        left = c ∷ left;
        items-is = at ∙ append_assoc old half.done (byte ∷ []) ∙ ap (λ x. old ++ (half.done ++ x ∷ [])) here;
        left-is = is.2;
        whole = rw append_assoc whole;
        room = omega (arith, ap length new-is, length-append items (byte ∷ []));
      }

pub IsHalfway-end : (old : List ℕ) (value rest : ℕ) (items new : List ℕ) (capacity byte : ℕ) → IsHalfway old value rest items capacity → rest < 128 → value < 2 ^ 32 →
    byte ≡ rest → new ≡ items ++ byte ∷ [] →
    (bytes : List ℕ) × (new ≡ old ++ bytes) × IsLeb128 value bytes × ((after : List ℕ) → varint (bytes ++ after) ≡ Ok (value, after))
IsHalfway-end old value rest items new capacity byte half small fits byte-is new-is = go half.left half.left-is half.whole where
  go : (left : List ℕ) → IsLeb128 rest left → IsLeb128 value (half.done ++ left) →
      (bytes : List ℕ) × (new ≡ old ++ bytes) × IsLeb128 value bytes × ((after : List ℕ) → varint (bytes ++ after) ≡ Ok (value, after))
  go [] is whole = absurd is
  go (b ∷ c ∷ left) is whole = absurd (omega arith)
  go (b ∷ []) is whole =
      let here : byte ≡ b = byte-is ∙ sym is.1 in
      let at : new ≡ (old ++ half.done) ++ byte ∷ [] = new-is ∙ ap (λ x. x ++ byte ∷ []) half.items-is in
      (half.done ++ b ∷ [], at ∙ append_assoc old half.done (byte ∷ []) ∙ ap (λ x. old ++ (half.done ++ x ∷ [])) here, whole, λ after. varint-Leb128 value (half.done ++ b ∷ []) after fits whole)

-- ---- the size of what is read
pub pow-five : (left : ℕ) → left ≤ 5 → 128 ^ left ≤ 2 ^ 35
pow-five zero few = lit≤ tt
pow-five (suc zero) few = lit≤ tt
pow-five (suc (suc zero)) few = lit≤ tt
pow-five (suc (suc (suc zero))) few = lit≤ tt
pow-five (suc (suc (suc (suc zero)))) few = lit≤ tt
pow-five (suc (suc (suc (suc (suc zero))))) few = lit≤ tt
pow-five (suc (suc (suc (suc (suc (suc left)))))) few = absurd (omega arith)

pub below-one : (left byte : ℕ) → left ≢ 0 → byte < 128 → byte < 128 ^ left
below-one zero byte some small = absurd (some refl)
below-one (suc left) byte some small =
    let more : 128 ^ (left + 1) ≡ 128 ^ left * 128 = pow_more 128 left in
    omega (arith, pow-pos left)
  where
    pow-pos : (k : ℕ) → 0 < 128 ^ k
    pow-pos zero = lit< tt
    pow-pos (suc k) = let more : 128 ^ (k + 1) ≡ 128 ^ k * 128 = pow_more 128 k in omega (arith, pow-pos k)

pub below-more : (left before byte number : ℕ) → left ≡ before + 1 → byte < 256 → 128 ≤ byte → number < 128 ^ before → byte - 128 + 128 * number < 128 ^ left
below-more left before byte number is small large below = rw (is, pow_more 128 before) (omega arith)
