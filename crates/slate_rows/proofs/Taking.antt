-- Taking rows one at a time.
use Rattle.std.proofs.Common.{◌≡◌, refl, sym, ◌∙◌, ap, ℕ, ◌+◌, ◌-◌, ◌<◌, suc, nat_lt, List, [], ◌∷◌, ◌++◌, length, take, Option, Some, None, Ok, arith, append_assoc}
use Rattle.std.proofs.lemmas.Bool.Decides.{nat_tests}
use Rattle.slate_types.specs.declared.batches.KeyValue.{KeyValue}
use Rattle.slate_types.specs.declared.read_faults.ReadFault.{ReadFault}
use Rattle.slate_rows.specs.Iteration.{Iteration, next_of, after_next}
use Rattle.slate_rows.specs.Taken.{after_taking}

nat_lt-suc : (m n : ℕ) → nat_lt (suc m) (suc n) ≡ nat_lt m n
nat_lt-suc m n = grind (arith, nat_tests)

take-next : (rows : List KeyValue) (fault : Option ReadFault) (it : Iteration) (row : KeyValue) (n : ℕ) → next_of rows fault ≡ Ok (Some row) →
    take (suc n) rows ≡ row ∷ take n (after_next rows fault it).rows
take-next [] None it row n next = cc
take-next [] (Some fault) it row n next = cc
take-next (first ∷ rows) fault it row n next = let same : first ≡ row = cc in ap (λ r. r ∷ take n rows) same

after_taking-next : (it : Iteration) (row : KeyValue) (n : ℕ) → next_of it.rows it.fault ≡ Ok (Some row) →
    after_taking (suc n) it ≡ after_taking n (after_next it.rows it.fault it)
after_taking-next it row n next = go it.rows it.fault refl next where
  go : (rows : List KeyValue) (fault : Option ReadFault) → it.rows ≡ rows → next_of rows fault ≡ Ok (Some row) → after_taking (suc n) it ≡ after_taking n (after_next rows fault it)
  go [] None is next = cc
  go [] (Some fault) is next = cc
  go (first ∷ rows) fault is next = rw (is, nat_lt-suc (length rows) n) refl

-- Taking the next row leaves one fewer to take: what was taken and is to be taken is the same, and so is what is left then.
pub taken_next : (it new : Iteration) (row : KeyValue) (count counter : ℕ) (old list : List KeyValue) → counter < count → next_of it.rows it.fault ≡ Ok (Some row) → new ≡ after_next it.rows it.fault it →
    list ≡ old ++ row ∷ [] → (list ++ take (count - (counter + 1)) new.rows ≡ old ++ take (count - counter) it.rows) × (after_taking (count - (counter + 1)) new ≡ after_taking (count - counter) it)
taken_next it new row count counter old list left next is pushed =
    let n : count - counter ≡ suc (count - (counter + 1)) = omega arith in
    rw (is, pushed, n) (
      append_assoc old (row ∷ []) _ ∙ ap (λ rows. old ++ rows) (sym (take-next it.rows it.fault it row (count - (counter + 1)) next)),
      sym (after_taking-next it row (count - (counter + 1)) next),
    )
