-- The line of a handle from a number on.
use Rattle.std.proofs.Common.{◌≡◌, ℕ, ◌+◌, ◌-◌, ◌<◌, ◌≤◌, inl, inr, List, [], ◌∷◌, All, Bool, true, false, cond, length, drop, refl, sym, subst, ap, ◌∙◌, arith, length-drop, ltb}
use Rattle.std.specs.List.{Contains, filter}
use Rattle.std.proofs.lemmas.Bool.{cases_lt, lt-ltb}
use Rattle.std.proofs.lemmas.List.Elements.{All-cons, All-nil, All-weaker, Contains-append_right}
use Rattle.slate_types.specs.declared.batches.Batch.{Batch}
use Rattle.slate_types.specs.Line.{AreNumberedFrom, IsLine, Line, batches_above, end}
use Rattle.slate_types.proofs.Lines.{above-all, above-drop, above-none, numbered-drop}
use Rattle.slate_model.specs.Handle.{line_above}

module _ (line : Line) (numbered : IsLine line) where
  abbrev bs : List Batch
  bs = line.batches

  -- from its floor on it is the same
  pub same-line : (n : ℕ) → n ≡ line.floor → line_above n line ≡ line
  same-line n at =
      let all = above-all line.floor n bs numbered (omega (arith, at)) in
      let floor : end line - length bs ≡ line.floor = omega arith in
      let one : line_above n line ≡ record { floor = end line - length bs; batches = bs } = ap (λ (xs : List Batch). let l : Line = record { floor = end line - length xs; batches = xs } in l) all in
      one ∙ ap (λ f. let l : Line = record { floor = f; batches = bs } in l) floor

  -- from its end on it has no batch
  pub empty-line : (n : ℕ) → n ≡ end line → line_above n line ≡ record { floor = n; batches = [] }
  empty-line n at =
      let none = above-none line.floor n bs numbered (omega (arith, at)) in
      let floor : end line - length {A = Batch} [] ≡ n = omega (arith, at) in
      let one : line_above n line ≡ record { floor = end line - length {A = Batch} []; batches = [] } = ap (λ (xs : List Batch). let l : Line = record { floor = end line - length xs; batches = xs } in l) none in
      one ∙ ap (λ f. let l : Line = record { floor = f; batches = [] } in l) floor

  -- from any number on its batches are numbered one after another
  pub numbered-above : (n : ℕ) → IsLine (line_above n line)
  numbered-above n = elim (cases_lt n line.floor) as (λ _. IsLine (line_above n line)) [
    | inl low ↦ all (omega (arith, low))
    | inr high ↦ elim (cases_lt n (end line)) as (λ _. IsLine (line_above n line)) [ inl within ↦ some high (omega (arith, within)) | inr past ↦ none past ]
  ] where
    all : n ≤ line.floor → IsLine (line_above n line)
    all low =
        let is = above-all line.floor n bs numbered low in
        let floor : line.floor ≡ end line - length bs = omega arith in
        subst (λ (xs : List Batch). AreNumberedFrom (end line - length xs) xs) (sym is) (subst (λ f. AreNumberedFrom f bs) floor numbered)

    some : line.floor ≤ n → n ≤ end line → IsLine (line_above n line)
    some high within =
        let k = n - line.floor in
        let is = above-drop line.floor n k bs numbered (omega (arith, high)) in
        let count = length-drop k bs in
        let floor : line.floor + k ≡ end line - length (drop k bs) = omega (arith, count, high, within) in
        subst (λ (xs : List Batch). AreNumberedFrom (end line - length xs) xs) (sym is) (subst (λ f. AreNumberedFrom f (drop k bs)) floor (numbered-drop line.floor k bs numbered (omega (arith, within))))

    none : end line ≤ n → IsLine (line_above n line)
    none past = subst (λ (xs : List Batch). AreNumberedFrom (end line - length xs) xs) (sym (above-none line.floor n bs numbered past)) tt

-- what passes a test is in the filter by it
pub filter-has : {X : Type 0} (p : X → Bool) (xs : List X) → All (λ x. p x ≡ true → Contains (filter p xs) x) xs
filter-has p [] = All-nil (λ x. p x ≡ true → Contains (filter p []) x)
filter-has {X} p (x ∷ xs) = by (p x) refl (filter-has p xs) where
  by : (t : Bool) → p x ≡ t → All (λ y. p y ≡ true → Contains (filter p xs) y) xs → All (λ y. p y ≡ true → Contains (cond t (x ∷ filter p xs) (filter p xs)) y) (x ∷ xs)
  by true is later =
      All-cons (λ y. p y ≡ true → Contains (x ∷ filter p xs) y) x xs (λ yes. (0, omega arith, refl))
      (All-weaker (λ y. p y ≡ true → Contains (filter p xs) y) (λ y. p y ≡ true → Contains (x ∷ filter p xs) y) (λ y has yes. Contains-append_right (x ∷ []) (filter p xs) y (has yes)) xs later)
  by false is later = All-cons (λ y. p y ≡ true → Contains (filter p xs) y) x xs (λ yes. absurd (cc (is, yes))) later

-- the batches above a number are among those above it
pub above-has : (n : ℕ) (bs : List Batch) → All (λ b. n < b.number → Contains (batches_above n bs) b) bs
above-has n bs =
    All-weaker (λ b. ltb n b.number ≡ true → Contains (batches_above n bs) b) (λ b. n < b.number → Contains (batches_above n bs) b) (λ b has less. has (lt-ltb n b.number less)) bs
    (filter-has (λ b. ltb n b.number) bs)
