-- What the calls of a feed deliver, joined, is the stored line from cursor to cursor.
use Rattle.std.proofs.Common.{◌≡◌, ℕ, zero, suc, ◌+◌, ◌-◌, ◌<◌, inl, inr, List, [], ◌∷◌, ◌++◌, length, drop, refl, sym, subst, ap, ◌∙◌, arith, append_assoc, length-append, ltb}
use Rattle.std.proofs.Math.Seq.{drop-append_seam}
use Rattle.std.proofs.lemmas.Bool.{cases_lt}
use Rattle.std.proofs.lemmas.List.{append-nil}
use Rattle.std.proofs.lemmas.List.Elements.{filter-append}
use Rattle.slate_types.proofs.Lines.{above-all, above-drop}
use Rattle.slate_types.specs.declared.batches.Batch.{Batch}
use Rattle.slate_types.specs.Line.{AreNumberedFrom, IsLine, IsPrefix, Line, batches_above}
use Rattle.slate_store.proofs.Logged.{numbered-append}
use Rattle.slate_feed.specs.Delivered.{AreDeliveries, BeginsAbove, DeliversTheLine, Delivery, delivered_by, last_line}

-- what begins a line above a cursor begins each longer one
pub begins-longer : (cursor : ℕ) (line longer : Line) (batches : List Batch) → IsPrefix line longer → BeginsAbove cursor line batches → BeginsAbove cursor longer batches
begins-longer cursor line longer batches more b =
    let all : longer.batches ≡ line.batches ++ more.0 = ap (λ (l : Line). l.batches) more.1 in
    record {
      numbered = b.numbered;
      rest = b.rest ++ batches_above cursor more.0;
      begins = ap (batches_above cursor) all
          ∙ (filter-append (λ x. ltb cursor x.number) line.batches more.0
          ∙ (ap (λ xs. xs ++ batches_above cursor more.0) b.begins ∙ append_assoc batches b.rest (batches_above cursor more.0)));
    }

drop-none : (n : ℕ) (xs : List Batch) → xs ≡ [] → drop n xs ≡ []
drop-none zero xs is = is
drop-none (suc n) [] is = refl
drop-none (suc n) (x ∷ xs) is = absurd (cc)

drop-twice : (m n : ℕ) (xs : List Batch) → drop (m + n) xs ≡ drop n (drop m xs)
drop-twice zero n xs = let same : zero + n ≡ n = omega arith in ap (λ k. drop k xs) same
drop-twice (suc m) n [] = drop-none (suc m + n) [] refl ∙ sym (drop-none n [] refl)
drop-twice (suc m) n (x ∷ xs) = let next : suc m + n ≡ suc (m + n) = omega arith in ap (λ k. drop k (x ∷ xs)) next ∙ drop-twice m n xs

-- what is left is above the last of them
pub rest-above : (cursor : ℕ) (line : Line) (batches : List Batch) → IsLine line → (b : BeginsAbove cursor line batches) → b.rest ≡ batches_above (cursor + length batches) line.batches
rest-above cursor line [] is b =
    let same : cursor + 0 ≡ cursor = omega arith in
    sym b.begins ∙ ap (λ n. batches_above n line.batches) (sym same)
rest-above cursor line (x ∷ batches) is b =
    let first : x.number ≡ cursor + 1 = b.numbered.0 in
    elim (cases_lt cursor line.floor) as (λ _. b.rest ≡ batches_above (cursor + length (x ∷ batches)) line.batches) [
      | inl below ↦ absurd (past line.batches is below (sym (above-all line.floor cursor line.batches is (omega arith)) ∙ b.begins) first)
      | inr within ↦
          let k = cursor - line.floor in
          let at : line.floor + k ≡ cursor = omega (arith, within) in
          let parts : drop k line.batches ≡ (x ∷ batches) ++ b.rest = sym (above-drop line.floor cursor k line.batches is at) ∙ b.begins in
          let twice : drop (k + length (x ∷ batches)) line.batches ≡ drop (length (x ∷ batches)) (drop k line.batches) = drop-twice k (length (x ∷ batches)) line.batches in
          sym (above-drop line.floor (cursor + length (x ∷ batches)) (k + length (x ∷ batches)) line.batches is (omega (arith, at))
          ∙ (twice ∙ (ap (drop (length (x ∷ batches))) parts ∙ drop-append_seam (x ∷ batches) b.rest)))
    ]
  where
    past : (bs : List Batch) → AreNumberedFrom line.floor bs → cursor < line.floor → bs ≡ (x ∷ batches) ++ b.rest → x.number ≡ cursor + 1 → ⊥
    past bs numbered below same first = let n = subst (AreNumberedFrom line.floor) same numbered in let f = n.0 in omega (arith, f, first, below)

-- calls that deliver to a line that goes on deliver to it as it is in the end
prefix-then : (a b c : Line) → IsPrefix a b → IsPrefix b c → IsPrefix a c
prefix-then a b c p q =
    (p.0 ++ q.0, q.1 ∙ (ap (λ (l : Line). record { floor = l.floor; batches = l.batches ++ q.0 }) p.1 ∙ ap (λ bs. record { floor = a.floor; batches = bs }) (append_assoc a.batches p.0 q.0)))

pub last-is : (cursor : ℕ) (line : Line) (calls : List Delivery) → IsLine line → AreDeliveries cursor line calls → IsLine (last_line line calls) × IsPrefix line (last_line line calls)
last-is cursor line [] is h = (is, ([], ap (λ bs. record { floor = line.floor; batches = bs }) (sym (append-nil line.batches))))
last-is cursor line (call ∷ calls) is h =
    let rest = last-is (cursor + length call.batches) call.line calls h.1 h.3 in
    (rest.0, prefix-then line call.line (last_line call.line calls) h.0 rest.1)

pub delivers-line : DeliversTheLine
delivers-line cursor line [] is h =
    let same : cursor + 0 ≡ cursor = omega arith in
    (tt, ap (λ n. batches_above n line.batches) (sym same))
delivers-line cursor line (call ∷ calls) is h =
    let last = last_line call.line calls in
    let ends = last-is (cursor + length call.batches) call.line calls h.1 h.3 in
    let rest = delivers-line (cursor + length call.batches) call.line calls h.1 h.3 in
    let b = begins-longer cursor call.line last call.batches ends.1 h.2 in
    let more = delivered_by calls in
    let count : cursor + length call.batches + length more ≡ cursor + length (call.batches ++ more) = let l = length-append call.batches more in omega (arith, l) in (
      numbered-append cursor call.batches more b.numbered rest.0,
      b.begins
          ∙ (ap (λ xs. call.batches ++ xs) (rest-above cursor last call.batches ends.0 b ∙ rest.1)
          ∙ (sym (append_assoc call.batches more (batches_above (cursor + length call.batches + length more) last.batches))
          ∙ ap (λ n. (call.batches ++ more) ++ batches_above n last.batches) count)),
    )
