-- Batches that are passed unread, since one after them is at or below the cursor: what is taken of the rest is taken of all.
use Rattle.std.proofs.Common.{◌≡◌, ◌≢◌, ℕ, zero, suc, ◌+◌, ◌-◌, ◌<◌, ◌≤◌, ◌⊎◌, ◌||◌, inl, inr, max, true, List, [], ◌∷◌, ◌++◌, length, take, drop, cond, refl, sym, subst, ap, ◌∙◌, arith, append_assoc, ltb}
use Rattle.std.proofs.lemmas.Bool.{cases_lt, le-ltb, lt-ltb}
use Rattle.std.proofs.lemmas.List.{take-append-drop}
use Rattle.std.proofs.lemmas.List.Elements.{All-weaker, Contains-append_right, filter-append}
use Rattle.std.specs.List.{AllByRecursion, Contains, slice_get}
use Rattle.std.specs.Prelude.{Some, Result, Ok, Err}
use Rattle.slate_types.specs.declared.batches.Batch.{Batch}
use Rattle.slate_types.specs.declared.memory.NoMemory.{NoMemory}
use Rattle.slate_types.specs.Line.{batches_above}
use Rattle.slate_reads.specs.Index.{AreRising}
use Rattle.slate_store.specs.Content.{number_before}
use Rattle.slate_store.specs.Logs.{HaveNoGap}
use Rattle.slate_store.proofs.Logs.{no_gap-append}
use Rattle.slate_feed.specs.declared.pieces.Found.{Found}
use Rattle.slate_feed.specs.declared.pieces.Taken.{Taken}
use Rattle.slate_feed.specs.declared.pieces.Taken.TheVariants.{Whole, Gap, Below}
use Rattle.slate_feed.specs.Taking.{Grows, IsThrough, TakesPiece, greatest_number, is_some_batch}

-- none of these has a number above this one
abbrev AreThrough : ℕ → List Batch → Type 0
AreThrough number batches = AllByRecursion (λ batch. batch.number ≤ number) batches

-- there are none, or the first of the rest is at or below the cursor, and at or above all of them
abbrev Passed : ℕ → List Batch → List Batch → Type 0
Passed cursor passed rest =
    (passed ≡ []) ⊎ ((batch : Batch) × (later : List Batch) × (rest ≡ batch ∷ later) × (batch.number ≤ cursor) × AreThrough batch.number passed)

-- ---- by places
all-at : (P : Batch → Type 0) (bs : List Batch) (k : ℕ) (b : Batch) → AllByRecursion P bs → slice_get bs k ≡ Some b → P b
all-at P [] k b h is = absurd (cc)
all-at P (x ∷ bs) zero b h is = let same : x ≡ b = cc in subst P same h.0
all-at P (x ∷ bs) (suc k) b h is = all-at P bs k b h.1 is

through-place : (bs : List Batch) (k : ℕ) (b : Batch) → AreRising bs → slice_get bs k ≡ Some b → AreThrough b.number (take k bs)
through-place [] zero b h is = tt
through-place [] (suc k) b h is = tt
through-place (x ∷ bs) zero b h is = tt
through-place (x ∷ bs) (suc k) b h is =
    let less : x.number < b.number = all-at (λ later. x.number < later.number) bs k b h.0 is in
    (omega (arith, less), through-place bs k b h.1 is)

drop-place : (bs : List Batch) (k : ℕ) (b : Batch) → slice_get bs k ≡ Some b → drop k bs ≡ b ∷ drop (suc k) bs
drop-place [] k b is = absurd (cc)
drop-place (x ∷ bs) zero b is = let same : x ≡ b = cc in ap (λ y. y ∷ bs) same
drop-place (x ∷ bs) (suc k) b is = drop-place bs k b is

-- ---- those above a number
none-above : (n m : ℕ) (bs : List Batch) → AreThrough m bs → m ≤ n → batches_above n bs ≡ []
none-above n m [] h low = refl
none-above n m (b ∷ bs) h low = let at = h.0 in rw (le-ltb n b.number (omega (arith, at, low))) (none-above n m bs h.1 low)

through-above : (n m : ℕ) (bs : List Batch) → AreThrough m bs → AreThrough m (batches_above n bs)
through-above n m [] h = tt
through-above n m (b ∷ bs) h = elim (cases_lt n b.number) as (λ _. AreThrough m (batches_above n (b ∷ bs))) [
  | inl over ↦ rw (lt-ltb n b.number over) (h.0, through-above n m bs h.1)
  | inr under ↦ rw (le-ltb n b.number under) (through-above n m bs h.1)
]

passed-place : (cursor n place : ℕ) (bs : List Batch) → IsThrough cursor place bs → (place ≢ 0 → AreRising bs) → Passed cursor (batches_above n (take place bs)) (batches_above n (drop place bs))
passed-place cursor n zero bs through rising = inl (ap (batches_above n) (none bs)) where
  none : (xs : List Batch) → take 0 xs ≡ []
  none [] = refl
  none (x ∷ xs) = refl
passed-place cursor n (suc k) bs through rising = elim through as (λ _. Passed cursor (batches_above n (take (suc k) bs)) (batches_above n (drop (suc k) bs))) [
  | inl none ↦ absurd (omega (arith, none))
  | inr at ↦
      let b = at.0 in
      let all = through-place bs (suc k) b (rising (λ none. omega (arith, none))) at.1 in
      elim (cases_lt n b.number) as (λ _. Passed cursor (batches_above n (take (suc k) bs)) (batches_above n (drop (suc k) bs))) [
        | inl over ↦ inr (
          b,
          batches_above n (drop (suc (suc k)) bs),
          ap (batches_above n) (drop-place bs (suc k) b at.1) ∙ ap (λ t. cond t (b ∷ batches_above n (drop (suc (suc k)) bs)) (batches_above n (drop (suc (suc k)) bs))) (lt-ltb n b.number over),
          at.2,
          through-above n b.number (take (suc k) bs) all,
        )
        | inr under ↦ inl (none-above n b.number (take (suc k) bs) all under)
      ]
]

parts-above : (n place : ℕ) (bs : List Batch) → batches_above n bs ≡ batches_above n (take place bs) ++ batches_above n (drop place bs)
parts-above n place bs = ap (batches_above n) (sym (take-append-drop place bs)) ∙ filter-append (λ b. ltb n b.number) (take place bs) (drop place bs)

-- ---- what is taken of the rest is taken of all
no_gap-through : (from m : ℕ) (bs : List Batch) → AreThrough m bs → m ≤ from → HaveNoGap from from bs
no_gap-through from m [] h low = refl
no_gap-through from m (b ∷ bs) h low =
    let at = h.0 in
    let same : from ≡ max from b.number = omega (arith, at, low) in
    (omega (arith, at, low), subst (λ n. HaveNoGap n from bs) same (no_gap-through from m bs h.1 low))

module _ (cursor limit : ℕ) (passed rest : List Batch) (p : Passed cursor passed rest) where
  pub grows-all : (found found' : List Batch) → Grows rest found found' → Grows (passed ++ rest) found found'
  grows-all found found' g = (g.0, g.1, All-weaker (Contains rest) (Contains (passed ++ rest)) (λ b has. Contains-append_right passed rest b has) g.0 g.2)

  pub first-all : number_before rest cursor ≤ cursor → number_before (passed ++ rest) cursor ≤ cursor
  first-all low = go passed p where
    go : (xs : List Batch) → Passed cursor xs rest → number_before (xs ++ rest) cursor ≤ cursor
    go [] q = low
    go (x ∷ xs) q = elim q as (λ _. x.number - 1 ≤ cursor) [ inl none ↦ absurd (cc) | inr at ↦ let l = at.3 in let h = at.4.0 in omega (arith, l, h) ]

  leads-all : (from to : ℕ) → cursor ≤ from → HaveNoGap from to rest → HaveNoGap from to (passed ++ rest)
  leads-all from to low h = elim p as (λ _. HaveNoGap from to (passed ++ rest)) [
    | inl none ↦ subst (λ xs. HaveNoGap from to (xs ++ rest)) (sym none) h
    | inr at ↦ let l = at.3 in no_gap-append from from to passed rest (no_gap-through from at.0.number passed at.4 (omega (arith, l, low))) h
  ]

  some-all : is_some_batch (passed ++ rest) ≡ is_some_batch rest
  some-all = go passed p where
    go : (xs : List Batch) → Passed cursor xs rest → is_some_batch (xs ++ rest) ≡ is_some_batch rest
    go [] q = refl
    go (x ∷ xs) q = elim q as (λ _. true ≡ is_some_batch rest) [ inl none ↦ absurd (cc) | inr at ↦ sym (ap is_some_batch at.2) ]

  greatest-all : (end : ℕ) → greatest_number end (passed ++ rest) ≡ greatest_number end rest
  greatest-all end = elim p as (λ _. greatest_number end (passed ++ rest) ≡ greatest_number end rest) [
    | inl none ↦ ap (λ xs. greatest_number end (xs ++ rest)) none
    | inr at ↦ go passed at.4 (let g = ap (greatest_number end) at.2 in omega (arith, g))
  ] where
    go : {m : ℕ} (xs : List Batch) → AreThrough m xs → m ≤ greatest_number end rest → greatest_number end (xs ++ rest) ≡ greatest_number end rest
    go [] h low = refl
    go (x ∷ xs) h low = let more = go xs h.1 low in let at = h.0 in omega (arith, more, at, low)

  pub takes-all : (found found' : Found) (result : Result Taken NoMemory) → TakesPiece cursor limit rest found result found' → TakesPiece cursor limit (passed ++ rest) found result found'
  takes-all found found' (Ok Whole) t = elim t as (λ _. TakesPiece cursor limit (passed ++ rest) found (Ok Whole) found') [
    | inl full ↦ inl full
    | inr all ↦ inr (
      leads-all (cursor + length found.batches.items) (cursor + length found'.batches.items) (omega arith) all.0,
      all.1 ∙ ap (λ t. found.began || t) (sym some-all),
      all.2 ∙ sym (greatest-all found.end),
    )
  ]
  takes-all found found' (Ok Gap) t = (
    t.0,
    record {
      front = passed ++ t.1.front;
      batch = t.1.batch;
      rest = t.1.rest;
      parts = ap (λ xs. passed ++ xs) t.1.parts ∙ sym (append_assoc passed t.1.front (t.1.batch ∷ t.1.rest));
      no_gap = before t.1.front t.1.batch t.1.rest t.1.parts t.1.no_gap t.1.past;
      past = t.1.past;
    },
  )
    where
      before : (front : List Batch) (b : Batch) (later : List Batch) → rest ≡ front ++ b ∷ later → HaveNoGap (cursor + length found.batches.items) t.0 front → t.0 + 1 < b.number → HaveNoGap (cursor + length found.batches.items) t.0 (passed ++ front)
      before front b later parts h past = elim p as (λ _. HaveNoGap (cursor + length found.batches.items) t.0 (passed ++ front)) [
        | inl none ↦ subst (λ xs. HaveNoGap (cursor + length found.batches.items) t.0 (xs ++ front)) (sym none) h
        | inr at ↦ let l = at.3 in no_gap-append (cursor + length found.batches.items) (cursor + length found.batches.items) t.0 passed front (no_gap-through (cursor + length found.batches.items) at.0.number passed at.4 (omega (arith, l))) h
      ]
  takes-all found found' (Ok (Below floor)) (fresh, less, (batch, later, parts, is)) = elim p as (λ _. TakesPiece cursor limit (passed ++ rest) found (Ok (Below floor)) found') [
    | inl none ↦ (fresh, less, (batch, later, ap (λ xs. xs ++ rest) none ∙ parts, is))
    | inr at ↦ let l = at.3 in let same : at.0 ≡ batch = cc (at.2, parts) in let n = ap (λ (b : Batch). b.number) same in absurd (omega (arith, l, n, is, less))
  ]
  takes-all found found' (Err error) t = tt

-- of a table or a log file, from a place on
module _ (cursor limit n place : ℕ) (bs : List Batch) (through : IsThrough cursor place bs) (rising : place ≢ 0 → AreRising bs) where
  abbrev front : List Batch
  front = batches_above n (take place bs)

  abbrev back : List Batch
  back = batches_above n (drop place bs)

  pub grows-from : (found found' : List Batch) → Grows back found found' → Grows (batches_above n bs) found found'
  grows-from found found' g = subst (λ xs. Grows xs found found') (sym (parts-above n place bs)) (grows-all cursor limit front back (passed-place cursor n place bs through rising) found found' g)

  pub first-from : number_before back cursor ≤ cursor → number_before (batches_above n bs) cursor ≤ cursor
  first-from low = subst (λ xs. number_before xs cursor ≤ cursor) (sym (parts-above n place bs)) (first-all cursor limit front back (passed-place cursor n place bs through rising) low)

  pub takes-from : (found found' : Found) (result : Result Taken NoMemory) → TakesPiece cursor limit back found result found' → TakesPiece cursor limit (batches_above n bs) found result found'
  takes-from found found' result t = subst (λ xs. TakesPiece cursor limit xs found result found') (sym (parts-above n place bs)) (takes-all cursor limit front back (passed-place cursor n place bs through rising) found found' result t)
