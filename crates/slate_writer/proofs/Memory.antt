-- The batches in memory above a number.
use Rattle.std.proofs.Common.{◌≡◌, ℕ, ◌+◌, ◌-◌, ◌<◌, ◌≤◌, ◌⊎◌, inl, inr, min, List, [], ◌∷◌, length, drop, take, sym, subst, ap, ◌∙◌, arith}
use Rattle.std.proofs.lemmas.List.{length-drop, take_rest}
use Rattle.std.proofs.Math.Seq.{drop-length}
use Rattle.std.specs.List.{AllByRecursion}
use Rattle.slate_types.specs.declared.batches.Batch.{Batch}
use Rattle.slate_types.specs.Line.{AreNumberedFrom, batches_above}
use Rattle.slate_types.proofs.Lines.{above-all, above-drop, above-none, numbered-drop}
use Rattle.slate_reads.specs.Index.{AreRising}

-- where the batches above a number begin
abbrev pub place : ℕ → ℕ → List Batch → ℕ
place floor n bs = min (n - floor) (length bs)

split : (floor n : ℕ) (bs : List Batch) → (n ≤ floor) ⊎ ((floor + (n - floor) ≡ n) × (n - floor ≤ length bs)) ⊎ (floor + length bs ≤ n)
split floor n bs = grind arith

pub above-from : (floor n : ℕ) (bs : List Batch) → AreNumberedFrom floor bs → batches_above n bs ≡ drop (place floor n bs) bs
above-from floor n bs numbered =
    elim (split floor n bs) [
      | inl low ↦
          let none : place floor n bs ≡ 0 = omega arith in
          above-all floor n bs numbered low ∙ sym (ap (λ k. drop k bs) none)
      | inr within ↦ elim within [
        | inl at ↦
            let same : place floor n bs ≡ n - floor = let few = at.1 in omega arith in
            above-drop floor n (n - floor) bs numbered at.0 ∙ sym (ap (λ k. drop k bs) same)
        | inr past ↦
            let same : place floor n bs ≡ length bs = omega arith in
            above-none floor n bs numbered past ∙ sym (ap (λ k. drop k bs) same ∙ drop-length bs)
      ]
    ]

numbered-over : (floor n : ℕ) (bs : List Batch) → AreNumberedFrom floor bs → n ≤ floor → AllByRecursion (λ later. n < later.number) bs
numbered-over floor n [] numbered low = tt
numbered-over floor n (b ∷ bs) numbered low = (omega (arith, numbered.0), numbered-over (floor + 1) n bs numbered.1 (omega arith))

-- batches that are numbered one after another rise
pub rising-numbered : (floor : ℕ) (bs : List Batch) → AreNumberedFrom floor bs → AreRising bs
rising-numbered floor [] numbered = tt
rising-numbered floor (b ∷ bs) numbered = (numbered-over (floor + 1) b.number bs numbered.1 (omega (arith, numbered.0)), rising-numbered (floor + 1) bs numbered.1)

-- those above a number are numbered, up to the same end
pub numbered-above : (floor n : ℕ) (bs : List Batch) → AreNumberedFrom floor bs → AreNumberedFrom (floor + length bs - length (batches_above n bs)) (batches_above n bs)
numbered-above floor n bs numbered =
    let k = place floor n bs in
    let at = above-from floor n bs numbered in
    let many : length (batches_above n bs) ≡ length bs - k = ap length at ∙ length-drop k bs in
    let from : floor + k ≡ floor + length bs - length (batches_above n bs) = omega (arith, many) in
    subst (λ f. AreNumberedFrom f (batches_above n bs)) from (subst (AreNumberedFrom (floor + k)) (sym at) (numbered-drop floor k bs numbered (omega arith)))

pub fewer-above : (floor n : ℕ) (bs : List Batch) → AreNumberedFrom floor bs → length (batches_above n bs) ≤ length bs
fewer-above floor n bs numbered =
    let many = ap length (above-from floor n bs numbered) ∙ length-drop (place floor n bs) bs in
    omega (arith, many)

-- a slice from the place on
pub slice-above : (floor n k : ℕ) (memory bs : List Batch) → AreNumberedFrom floor memory → bs ≡ memory → k ≡ place floor n bs → take (length bs - k) (drop k bs) ≡ batches_above n memory
slice-above floor n k memory bs numbered same at =
    take_rest bs k ∙ (ap (λ j. drop j bs) at ∙ (ap (λ xs. drop (place floor n xs) xs) same ∙ sym (above-from floor n memory numbered)))

pub slice-rising : (floor n k : ℕ) (memory bs : List Batch) → AreNumberedFrom floor memory → bs ≡ memory → k ≡ place floor n bs → AreRising (take (length bs - k) (drop k bs))
slice-rising floor n k memory bs numbered same at =
    subst AreRising (sym (slice-above floor n k memory bs numbered same at))
    (rising-numbered (floor + length memory - length (batches_above n memory)) (batches_above n memory) (numbered-above floor n memory numbered))
