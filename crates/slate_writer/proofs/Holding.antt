-- The batches above a number, where all or the first of some that rise are at or below it.
use Rattle.std.proofs.Common.{◌≡◌, ℕ, ◌+◌, ◌<◌, ◌≤◌, leb, List, [], ◌∷◌, ◌++◌, length, drop, take_while, refl, sym, ap, ◌∙◌, arith}
use Rattle.std.specs.List.{AllByRecursion}
use Rattle.std.proofs.lemmas.Bool.{le-ltb}
use Rattle.std.proofs.lemmas.List.{drop-drop, nil_from_length}
use Rattle.slate_types.specs.declared.batches.Batch.{Batch}
use Rattle.slate_types.specs.Line.{batches_above}
use Rattle.slate_reads.specs.Index.{AreRising}
use Rattle.slate_reads.proofs.Dropping.{above-counted, rising-drop}

last-holds : (n : ℕ) (earlier : List Batch) (last : Batch) → AllByRecursion (λ b. n < b.number) (earlier ++ last ∷ []) → n < last.number
last-holds n [] last all = all.0
last-holds n (x ∷ earlier) last all = last-holds n earlier last all.1

-- none is above a number that the last one isn't above
pub through-last : (number : ℕ) (earlier : List Batch) (last : Batch) → AreRising (earlier ++ last ∷ []) → last.number ≤ number → batches_above number (earlier ++ last ∷ []) ≡ []
through-last number [] last rising le = rw (le-ltb number last.number le) refl
through-last number (x ∷ earlier) last rising le =
    let lt : x.number < last.number = last-holds x.number earlier last rising.0 in
    let low : x.number ≤ number = omega arith in
    rw (le-ltb number x.number low) (through-last number earlier last rising.1 le)

-- the first ones that are dropped beside those that were
pub above-rest : (gone count number : ℕ) (table batches rest : List Batch) → AreRising table → batches ≡ table → rest ≡ drop gone batches → count ≡ length (take_while (λ b. leb b.number number) rest) →
    drop (gone + count) table ≡ batches_above number (drop gone table)
above-rest gone count number table batches rest rising same is counted =
    let here : rest ≡ drop gone table = is ∙ ap (drop gone) same in
    sym (drop-drop count gone table) ∙ (ap (λ n. drop n (drop gone table)) (counted ∙ ap (λ bs. length (take_while (λ b. leb b.number number) bs)) here)
    ∙ above-counted number (drop gone table) (rising-drop gone table rising))

-- none of no batches is
pub none-above : (number : ℕ) (batches : List Batch) → length batches ≡ 0 → batches_above number batches ≡ []
none-above number batches none = rw (nil_from_length batches none) refl
