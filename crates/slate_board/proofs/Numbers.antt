-- Lemmas on the numbers of a board at two moments.
use Rattle.std.proofs.Common.{◌≡◌, ℕ, zero, suc, ℤ, negsuc, ◌-◌, ◌^◌, ◌<◌, ◌≤◌, ◌≤ℤ◌, ◌⊎◌, max, List, [], ◌∷◌, length, slice_index, slice_set, refl, ◌∙◌, inl, inr, ⊎_elim, arith}
use Rattle.std.specs.Int.{int_max}
use Rattle.std.proofs.lemmas.Int.{ints, clamps}
use lib.Signed.{≤ℤ_refl}
use Rattle.slate_board.specs.declared.views.BoardView.{BoardView}
use Rattle.slate_board.specs.Views.{IsAtMost, greater_of}
use Rattle.slate_board.specs.Words.{tick_of, numbers_of, with_word}

pub IsAtMost-refl : (x : BoardView) → IsAtMost x x
IsAtMost-refl x = record { tick = ≤ℤ_refl x.tick; durable = omega arith; close = inr refl }

ticks-trans : (a b c : ℤ) → a ≤ℤ b → b ≤ℤ c → a ≤ℤ c
ticks-trans a b c p q = omega (arith, ints)

codes-trans : (a b c : ℕ) → (a ≡ 0) ⊎ (a ≡ b) → (b ≡ 0) ⊎ (b ≡ c) → (a ≡ 0) ⊎ (a ≡ c)
codes-trans a b c p q = ⊎_elim (λ e. inl e) (λ e. ⊎_elim (λ f. inl (e ∙ f)) (λ f. inr (e ∙ f)) q) p

pub IsAtMost-trans : (x y z : BoardView) → IsAtMost x y → IsAtMost y z → IsAtMost x z
IsAtMost-trans x y z p q = record {
  tick = ticks-trans x.tick y.tick z.tick p.tick q.tick;
  durable = let a = p.durable in let b = q.durable in omega arith;
  close = codes-trans x.close y.close z.close p.close q.close;
}

-- one word more is known of both
pub IsAtMost-with_word : (place word : ℕ) (x y : BoardView) → IsAtMost x y → IsAtMost (with_word place word x) (with_word place word y)
IsAtMost-with_word zero word x y p = record { tick = ≤ℤ_refl (tick_of word); durable = p.durable; close = p.close }
IsAtMost-with_word (suc zero) word x y p = record { tick = p.tick; durable = omega arith; close = p.close }
IsAtMost-with_word (suc (suc _)) word x y p = record { tick = p.tick; durable = p.durable; close = inr refl }

-- what a word rises to is not behind what was seen of it before
pub with_word-forward : (place word : ℕ) (x y : BoardView) → IsAtMost x y → IsAtMost y (with_word place word y) → IsAtMost x (with_word place word x)
with_word-forward zero word x y p q = record { tick = ticks-trans x.tick y.tick (tick_of word) p.tick q.tick; durable = omega arith; close = inr refl }
with_word-forward (suc zero) word x y p q = record { tick = ≤ℤ_refl x.tick; durable = let a = p.durable in let b = q.durable in omega arith; close = inr refl }
with_word-forward (suc (suc _)) word x y p q = record { tick = ≤ℤ_refl x.tick; durable = omega arith; close = codes-trans x.close y.close word p.close q.close }

pub numbers_of-set : (words : List ℕ) (place word : ℕ) → length words ≡ 3 → place < 3 → numbers_of (slice_set words place word) ≡ with_word place word (numbers_of words)
numbers_of-set [] place word long low = absurd (omega arith)
numbers_of-set (a ∷ []) place word long low = absurd (omega arith)
numbers_of-set (a ∷ b ∷ []) place word long low = absurd (omega arith)
numbers_of-set (a ∷ b ∷ c ∷ rest) zero word long low = refl
numbers_of-set (a ∷ b ∷ c ∷ rest) (suc zero) word long low = refl
numbers_of-set (a ∷ b ∷ c ∷ rest) (suc (suc zero)) word long low = refl
numbers_of-set (a ∷ b ∷ c ∷ rest) (suc (suc (suc _))) word long low = absurd (omega arith)

-- the word that is there changes nothing
pub with_word-same : (words : List ℕ) (place : ℕ) → place < 3 → with_word place (slice_index words place) (numbers_of words) ≡ numbers_of words
with_word-same words zero low = refl
with_word-same words (suc zero) low = refl
with_word-same words (suc (suc zero)) low = refl
with_word-same words (suc (suc (suc _))) low = absurd (omega arith)

-- ---- the greater of each

ticks_below : (a b c : ℤ) → a ≤ℤ c → b ≤ℤ c → int_max a b ≤ℤ c
ticks_below a b c p q = omega (arith, ints, clamps)

ticks_absorbed : (a b : ℤ) → b ≤ℤ a → int_max a b ≡ a
ticks_absorbed a b p = omega (arith, ints, clamps)

codes_below : (a b c : ℕ) → (a ≡ 0) ⊎ (a ≡ c) → (b ≡ 0) ⊎ (b ≡ c) → (max a b ≡ 0) ⊎ (max a b ≡ c)
codes_below a b c p q =
    ⊎_elim (λ (e : a ≡ 0). ⊎_elim (λ (f : b ≡ 0). inl (omega arith)) (λ (f : b ≡ c). inr (omega arith)) q)
    (λ (e : a ≡ c). ⊎_elim (λ (f : b ≡ 0). inr (omega arith)) (λ (f : b ≡ c). inr (omega arith)) q) p

codes_absorbed : (a b : ℕ) → (b ≡ 0) ⊎ (b ≡ a) → max a b ≡ a
codes_absorbed a b p = ⊎_elim (λ (e : b ≡ 0). omega arith) (λ (e : b ≡ a). omega arith) p

pub greater_of-below : (x y z : BoardView) → IsAtMost x z → IsAtMost y z → IsAtMost (greater_of x y) z
greater_of-below x y z p q = record {
  tick = ticks_below x.tick y.tick z.tick p.tick q.tick;
  durable = let a = p.durable in let b = q.durable in omega arith;
  close = codes_below x.close y.close z.close p.close q.close;
}

pub greater_of-absorbed : (x y : BoardView) → IsAtMost y x → greater_of x y ≡ x
greater_of-absorbed x y p =
    let tick = ticks_absorbed x.tick y.tick p.tick in
    let durable : max x.durable y.durable ≡ x.durable = let a = p.durable in omega arith in
    let close = codes_absorbed x.close y.close p.close in
    λ i. record { tick = tick i; durable = durable i; close = close i }

-- a word holds no tick below the least one
pub least_tick : (word : ℕ) → negsuc (2 ^ 63 - 1) ≤ℤ tick_of word
least_tick word = omega (arith, ints)

pub code_within : (a b : ℕ) → (a ≡ 0) ⊎ (a ≡ b) → b ≤ 3 → a ≤ 3
code_within a b p q = ⊎_elim (λ (e : a ≡ 0). omega arith) (λ (e : a ≡ b). omega arith) p

-- the order of ticks is that of their words
pub tick_of-max : (a b : ℕ) → tick_of (max a b) ≡ int_max (tick_of a) (tick_of b)
tick_of-max a b = omega (arith, ints, clamps)

pub tick_of-mono : (a b : ℕ) → a ≤ b → tick_of a ≤ℤ tick_of b
tick_of-mono a b p = omega (arith, ints)
