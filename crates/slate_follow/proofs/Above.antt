-- The batches above a number: of lists that are joined, of those above a lower number, and of log files.
pub use Rattle.slate_model.proofs.Fronts.{above-append}
pub use Rattle.slate_model.proofs.Keeping.{above-twice}
use Rattle.std.proofs.Common.{◌≡◌, ℕ, suc, zero, inl, inr, ◌+◌, ◌-◌, ◌<◌, ◌≤◌, List, [], ◌∷◌, ◌++◌, length, Option, Some, None, unwrap_or, true, false, refl, sym, subst, ap, drop, length-append, length-drop, ◌∙◌, arith, ltb}
use Rattle.std.proofs.lemmas.Bool.{lt-ltb, le-ltb, cases_lt}
use Rattle.std.proofs.lemmas.List.{append-nil}
use Rattle.std.proofs.lemmas.List.Elements.{recursion_from_All}
use Rattle.std.specs.List.{All, AllByRecursion, flat_map, range_with_len}
use Rattle.slate_types.specs.declared.batches.Batch.{Batch}
use Rattle.slate_types.specs.Line.{AreNumberedFrom, batches_above}
use Rattle.slate_types.proofs.Lines.{above-drop, numbered-drop}
use Rattle.slate_store.proofs.Logged.{numbered-append}
use Rattle.slate_store.specs.Logs.{batches_between}
use Rattle.slate_store.specs.Objects.{Objects, log_at}

-- there are no more of them
pub above-fewer : (n : ℕ) (bs : List Batch) → length (batches_above n bs) ≤ length bs
above-fewer n [] = omega arith
above-fewer n (b ∷ bs) =
    elim (cases_lt n b.number) [
      | inl over ↦ let yes : ltb n b.number ≡ true = lt-ltb n b.number over in let h = above-fewer n bs in rw yes (omega arith)
      | inr under ↦ let no : ltb n b.number ≡ false = le-ltb n b.number under in let h = above-fewer n bs in rw no (omega arith)
    ]

none-low : (n : ℕ) (bs : List Batch) → AllByRecursion (λ b. b.number ≤ n) bs → batches_above n bs ≡ []
none-low n [] low = refl
none-low n (b ∷ bs) low =
    let no : ltb n b.number ≡ false = le-ltb n b.number low.0 in rw no (none-low n bs low.1)

-- a log file that isn't stored has none
none-read : (n : ℕ) (log : Option (List Batch)) → ((bs : List Batch) → log ≡ Some bs → All (λ b. b.number ≤ n) bs) → batches_above n (unwrap_or log []) ≡ []
none-read n None low = refl
none-read n (Some bs) low = none-low n bs (recursion_from_All (λ (b : Batch). b.number ≤ n) bs (low bs refl))

none-range : (n : ℕ) (f : ℕ → List Batch) (a k : ℕ) → ((i : ℕ) → a ≤ i → i < a + k → batches_above n (f i) ≡ []) → batches_above n (flat_map f (range_with_len a k)) ≡ []
none-range n f a zero none = refl
none-range n f a (suc k) none =
    let rest = flat_map f (range_with_len (a + 1) k) in
    above-append n (f a) rest
    ∙ (ap (λ xs. xs ++ batches_above n rest) (none a (omega arith) (omega arith))
    ∙ none-range n f (a + 1) k (λ i low high. none i (omega arith) (omega arith)))

-- where no log file between two has a batch above a number, none of their batches is
pub none-between : (n mark last : ℕ) (o : Objects) → ((id : ℕ) (bs : List Batch) → mark < id → id ≤ last → log_at id o ≡ Some bs → All (λ b. b.number ≤ n) bs) → batches_above n (batches_between mark last o) ≡ []
none-between n mark last o low =
    none-range n (λ id. unwrap_or (log_at id o) []) (mark + 1) (last - mark) (λ id from to. none-read n (log_at id o) (λ bs is. low id bs (omega arith) (omega arith) is))

-- A line that goes on, above a number within it: it is numbered from there, and ends where it did.
pub numbered-on : (m n : ℕ) (bs added : List Batch) (floor : ℕ) → AreNumberedFrom m bs → n ≡ m + length bs → AreNumberedFrom n added → m ≤ floor → floor ≤ n →
    AreNumberedFrom floor (batches_above floor (bs ++ added)) × (floor + length (batches_above floor (bs ++ added)) ≡ n + length added)
numbered-on m n bs added floor numbered end_is more behind reached =
    let all = bs ++ added in
    let k = floor - m in
    let at : m + k ≡ floor = omega arith in
    let lengths = length-append bs added in
    let whole : AreNumberedFrom m all = numbered-append m bs added numbered (subst (λ x. AreNumberedFrom x added) end_is more) in
    let dropped : batches_above floor all ≡ drop k all = above-drop m floor k all whole at in
    let short = length-drop k all in (
      subst (AreNumberedFrom floor) (sym dropped) (subst (λ x. AreNumberedFrom x (drop k all)) at (numbered-drop m k all whole (omega (arith, lengths, end_is)))),
      ap (λ xs. floor + length xs) dropped ∙ omega (arith, short, lengths, end_is),
    )

-- what is above a number within it
pub numbered-above : (m floor : ℕ) (bs left : List Batch) → AreNumberedFrom m bs → m ≤ floor → floor ≤ m + length bs → left ≡ batches_above floor bs → AreNumberedFrom floor left × (floor + length left ≡ m + length bs)
numbered-above m floor bs left numbered behind reached is =
    let on = numbered-on m (m + length bs) bs [] floor numbered refl tt behind reached in
    let same : batches_above floor (bs ++ []) ≡ left = ap (batches_above floor) (append-nil bs) ∙ sym is in (
      subst (AreNumberedFrom floor) same on.0,
      sym (ap (λ xs. floor + length xs) same) ∙ (on.1 ∙ omega arith),
    )
