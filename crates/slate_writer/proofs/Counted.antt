-- The bytes of the batches in memory above a number.
use Rattle.std.proofs.Common.{◌≡◌, ℕ, ◌+◌, ◌<◌, ◌≤◌, min, ltb, cond, Bool, true, false, List, [], ◌∷◌, ◌++◌, length, refl, sym, ap, ◌∙◌, arith}
use Rattle.std.proofs.lemmas.Bool.{lt-ltb, ltb-true}
use Rattle.std.proofs.lemmas.List.Sums.{sum_by_push}
use Rattle.slate_types.specs.declared.batches.Batch.{Batch}
use Rattle.slate_types.specs.Line.{AreNumberedFrom, batches_above}
use Rattle.slate_types.proofs.Lines.{above-all, above-none, above-push}
use Rattle.slate_reads.specs.Size.{ops_size, size_of}
use Rattle.slate_model.specs.Unflushed.{most_bytes}
use Rattle.slate_model.proofs.Keeping.{above-twice}

-- so many bytes are counted of the batches above a number
abbrev pub IsCounted : ℕ → List Batch → ℕ → Type 0
IsCounted n bs size = size ≡ min (size_of (batches_above n bs)) most_bytes

-- none above the last one
pub counted-none : (floor : ℕ) (memory bs : List Batch) → AreNumberedFrom floor memory → bs ≡ memory → IsCounted (floor + length bs) memory 0
counted-none floor memory bs numbered same =
    let many = ap length same in
    ap (λ xs. min (size_of xs) most_bytes) (sym (above-none floor (floor + length bs) memory numbered (omega (arith, many))))

-- all above the floor
pub counted-all : (floor n : ℕ) (memory : List Batch) (size : ℕ) → AreNumberedFrom floor memory → n ≤ floor → size ≡ min (size_of memory) most_bytes → IsCounted n memory size
counted-all floor n memory size numbered low all =
    all ∙ ap (λ xs. min (size_of xs) most_bytes) (sym (above-all floor n memory numbered low))

-- with a batch more
pub counted-push : (n : ℕ) (memory : List Batch) (b : Batch) (before more after : ℕ) → n < b.number → IsCounted n memory before → more ≡ min (ops_size b.ops) most_bytes → after ≡ min (before + more) most_bytes → IsCounted n (memory ++ b ∷ []) after
counted-push n memory b before more after above counted its sum =
    let push = sum_by_push (λ (batch : Batch). ops_size batch.ops) (batches_above n memory) b in
    let all : size_of (batches_above n (memory ++ b ∷ [])) ≡ size_of (batches_above n memory) + ops_size b.ops = ap size_of (above-push n memory b above) ∙ push in
    omega (arith, all, counted, its, sum)

-- of the batches above a number, those above a lower one are all
above-within : (n m : ℕ) (bs : List Batch) → n ≤ m → batches_above n (batches_above m bs) ≡ batches_above m bs
above-within n m [] le = refl
above-within n m (b ∷ bs) le = by (ltb m b.number) refl (above-within n m bs le) where
  by : (x : Bool) → ltb m b.number ≡ x → batches_above n (batches_above m bs) ≡ batches_above m bs → batches_above n (cond x (b ∷ batches_above m bs) (batches_above m bs)) ≡ cond x (b ∷ batches_above m bs) (batches_above m bs)
  by true is later =
      let over : m < b.number = ltb-true m b.number is in
      let yes : ltb n b.number ≡ true = lt-ltb n b.number (omega (arith, over, le)) in
      let rest = batches_above n (batches_above m bs) in
      ap (λ c. cond c (b ∷ rest) rest) yes ∙ ap (λ xs. b ∷ xs) later
  by false is later = later

-- those above a number that isn't greater than another one, once the batches up to that one are dropped: all that are left
pub counted-beyond : (n m : ℕ) (memory : List Batch) (size : ℕ) → n ≤ m → size ≡ min (size_of (batches_above m memory)) most_bytes → IsCounted n (batches_above m memory) size
counted-beyond n m memory size le all = all ∙ ap (λ xs. min (size_of xs) most_bytes) (sym (above-within n m memory le))

-- and above one that isn't below it: as many as before
pub counted-kept : (n m : ℕ) (memory : List Batch) (size : ℕ) → m ≤ n → IsCounted n memory size → IsCounted n (batches_above m memory) size
counted-kept n m memory size le counted = counted ∙ ap (λ xs. min (size_of xs) most_bytes) (sym (above-twice m n memory le))
