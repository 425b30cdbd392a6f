-- The batches of a line above a number, from a place on, and with one more.
use Rattle.std.proofs.Common.{◌≡◌, ℕ, suc, zero, ◌+◌, ◌<◌, ◌≤◌, List, [], ◌∷◌, ◌++◌, length, drop, cond, true, false, refl, ap, subst, ◌∙◌, ltb, arith}
use Rattle.std.proofs.lemmas.List.Elements.{filter-append}
use Rattle.std.specs.List.{AllByRecursion}
use Rattle.std.proofs.lemmas.Bool.{lt-ltb, le-ltb}
use Rattle.slate_types.specs.declared.batches.Batch.{Batch}
use Rattle.slate_types.specs.Line.{AreNumberedFrom, batches_above}

-- the batches of a line have numbers below each number past its end
pub numbered-below : (floor n : ℕ) (bs : List Batch) → AreNumberedFrom floor bs → floor + length bs < n → AllByRecursion (λ b. b.number < n) bs
numbered-below floor n [] h less = tt
numbered-below floor n (b ∷ bs) h less = (omega arith, numbered-below (floor + 1) n bs h.1 (omega arith))

-- a line goes on by the batch with the next number
pub numbered-push : (floor : ℕ) (bs : List Batch) (b : Batch) → AreNumberedFrom floor bs → b.number ≡ floor + length bs + 1 → AreNumberedFrom floor (bs ++ b ∷ [])
numbered-push floor [] b h next = (omega arith, tt)
numbered-push floor (x ∷ bs) b h next = (h.0, numbered-push (floor + 1) bs b h.1 (omega arith))

-- all batches of a line are above its floor, and each number below it
pub above-all : (floor n : ℕ) (bs : List Batch) → AreNumberedFrom floor bs → n ≤ floor → batches_above n bs ≡ bs
above-all floor n [] h low = refl
above-all floor n (b ∷ bs) h low =
    let yes : ltb n b.number ≡ true = lt-ltb n b.number (omega arith) in
    rw yes (ap (λ xs. b ∷ xs) (above-all (floor + 1) n bs h.1 (omega arith)))

-- the batches of a line above a number are those from a place on
pub above-drop : (floor n k : ℕ) (bs : List Batch) → AreNumberedFrom floor bs → floor + k ≡ n → batches_above n bs ≡ drop k bs
above-drop floor n zero bs h at = above-all floor n bs h (omega arith)
above-drop floor n (suc k) [] h at = refl
above-drop floor n (suc k) (b ∷ bs) h at =
    let no : ltb n b.number ≡ false = le-ltb n b.number (omega arith) in
    rw no (above-drop (floor + 1) n k bs h.1 (omega arith))

-- the batches of a line from a place on are numbered from there
pub numbered-drop : (floor k : ℕ) (bs : List Batch) → AreNumberedFrom floor bs → k ≤ length bs → AreNumberedFrom (floor + k) (drop k bs)
numbered-drop floor zero bs h low = subst (λ n. AreNumberedFrom n bs) (omega arith) h
numbered-drop floor (suc k) [] h low = absurd (omega arith)
numbered-drop floor (suc k) (b ∷ bs) h low =
    subst (λ n. AreNumberedFrom n (drop k bs)) (omega arith) (numbered-drop (floor + 1) k bs h.1 (omega arith))

-- no batch of a line is above its end
pub above-none : (floor n : ℕ) (bs : List Batch) → AreNumberedFrom floor bs → floor + length bs ≤ n → batches_above n bs ≡ []
above-none floor n [] h low = refl
above-none floor n (b ∷ bs) h low =
    let no : ltb n b.number ≡ false = le-ltb n b.number (omega arith) in
    rw no (above-none (floor + 1) n bs h.1 (omega arith))

-- a batch above a number comes last among those above it
pub above-push : (n : ℕ) (bs : List Batch) (b : Batch) → n < b.number → batches_above n (bs ++ b ∷ []) ≡ batches_above n bs ++ b ∷ []
above-push n bs b h = filter-append (λ x. ltb n x.number) bs (b ∷ []) ∙ ap (λ t. batches_above n bs ++ cond t (b ∷ []) []) (lt-ltb n b.number h)
