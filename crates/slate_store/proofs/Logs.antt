-- Batches without a gap, and log files that are whole, truncated, or of a line.
use Rattle.std.proofs.Common.{◌≡◌, ℕ, zero, suc, ◌+◌, ◌-◌, ◌<◌, ◌≤◌, inl, inr, max, List, [], ◌∷◌, ◌++◌, length, Option, Some, None, unwrap_or, true, false, refl, sym, subst, ap, ◌∙◌, arith, append_assoc, ltb}
use Rattle.std.proofs.lemmas.Bool.{lt-ltb, le-ltb, cases_lt}
use Rattle.std.proofs.lemmas.Grind.{flat_map-append}
use Rattle.std.proofs.lemmas.List.{append-nil}
use Rattle.std.proofs.lemmas.List.Elements.{All-cons, All-nil, All-weaker, All-from_recursion, recursion_from_All}
use Rattle.std.specs.List.{All, AllByRecursion, flat_map, range_with_len, slice_get}
use Rattle.std.specs.Option.{MatchOption}
use Rattle.slate_types.specs.declared.batches.Batch.{Batch}
use Rattle.slate_types.specs.Line.{AreNumberedFrom, IsPrefix, Line, batches_above}
use Rattle.slate_store.specs.Objects.{Objects, log_at}
use Rattle.slate_store.specs.Logs.{AreTruncatedAt, AreWhole, BelongTo, HaveGap, HaveNoGap, StandsIn, batches_between}

-- ---- batches without a gap
pub no_gap-append : (n m e : ℕ) (xs ys : List Batch) → HaveNoGap n m xs → HaveNoGap m e ys → HaveNoGap n e (xs ++ ys)
no_gap-append n m e [] ys h k = subst (λ x. HaveNoGap x e ys) h k
no_gap-append n m e (x ∷ xs) ys h k = (h.0, no_gap-append (max n x.number) m e xs ys h.1 k)

pub no_gap-parts : (n e : ℕ) (xs ys : List Batch) → HaveNoGap n e (xs ++ ys) → (m : ℕ) × HaveNoGap n m xs × HaveNoGap m e ys
no_gap-parts n e [] ys h = (n, refl, h)
no_gap-parts n e (x ∷ xs) ys h = let r = no_gap-parts (max n x.number) e xs ys h.1 in (r.0, (h.0, r.1), r.2)

-- they lead to one number
pub no_gap-end : (n e e' : ℕ) (xs : List Batch) → HaveNoGap n e xs → HaveNoGap n e' xs → e ≡ e'
no_gap-end n e e' [] h k = h ∙ sym k
no_gap-end n e e' (x ∷ xs) h k = no_gap-end (max n x.number) e e' xs h.1 k.1

-- one more that is there already, and one with the next number
pub no_gap-passed : (n e : ℕ) (xs : List Batch) (b : Batch) → HaveNoGap n e xs → b.number ≤ e → HaveNoGap n e (xs ++ b ∷ [])
no_gap-passed n e xs b h low = no_gap-append n e e xs (b ∷ []) h (omega arith, omega arith)

pub no_gap-next : (n e : ℕ) (xs : List Batch) (b : Batch) → HaveNoGap n e xs → b.number ≡ e + 1 → HaveNoGap n (e + 1) (xs ++ b ∷ [])
no_gap-next n e xs b h next = no_gap-append n e (e + 1) xs (b ∷ []) h (omega arith, omega arith)

-- where those above a number are numbered one after another, there is no gap
pub no_gap-numbered : (n k : ℕ) (bs : List Batch) → n ≤ k → AreNumberedFrom k (batches_above n bs) → HaveNoGap k (k + length (batches_above n bs)) bs
no_gap-numbered n k [] low h = omega arith
no_gap-numbered n k (b ∷ bs) low h =
    elim (cases_lt n b.number) [
      | inl over ↦
          let yes : ltb n b.number ≡ true = lt-ltb n b.number over in
          let g = rw yes at h in
          let next : b.number ≡ k + 1 = g.0 in
          let rest = no_gap-numbered n (k + 1) bs (omega arith) g.1 in
          let top : k + 1 ≡ max k b.number = omega arith in
          let end : (k + 1) + length (batches_above n bs) ≡ k + length (b ∷ batches_above n bs) = omega arith in
          rw yes (omega arith, subst (λ x. HaveNoGap x (k + length (b ∷ batches_above n bs)) bs) top (subst (λ x. HaveNoGap (k + 1) x bs) end rest))
      | inr under ↦
          let no : ltb n b.number ≡ false = le-ltb n b.number under in
          let top : k ≡ max k b.number = omega arith in
          let rest = no_gap-numbered n k bs low (rw no at h) in
          rw no (omega arith, subst (λ x. HaveNoGap x (k + length (batches_above n bs)) bs) top rest)
    ]

-- ---- the batches of log files
range-append : (a m n : ℕ) → range_with_len a (m + n) ≡ range_with_len a m ++ range_with_len (a + m) n
range-append a zero n =
    let count : zero + n ≡ n = omega arith in
    let from : a ≡ a + zero = omega arith in
    ap (range_with_len a) count ∙ ap (λ x. range_with_len x n) from
range-append a (suc m) n =
    let count : suc m + n ≡ suc (m + n) = omega arith in
    let from : (a + 1) + m ≡ a + suc m = omega arith in
    ap (range_with_len a) count ∙ (ap (λ xs. a ∷ xs) (range-append (a + 1) m n) ∙ ap (λ x. a ∷ (range_with_len (a + 1) m ++ range_with_len x n)) from)

-- what is read under an id
abbrev read : Objects → ℕ → List Batch
read o id = unwrap_or (log_at id o) []

pub between-count : (mark a b : ℕ) (o : Objects) → a - mark ≡ b - mark → batches_between mark a o ≡ batches_between mark b o
between-count mark a b o same = ap (λ n. flat_map (read o) (range_with_len (mark + 1) n)) same

pub between-none : (mark last : ℕ) (o : Objects) → last ≤ mark → batches_between mark last o ≡ []
between-none mark last o low =
    let none : last - mark ≡ zero = omega arith in
    ap (λ n. flat_map (read o) (range_with_len (mark + 1) n)) none

pub between-parts : (mark before last : ℕ) (o : Objects) → mark ≤ before → before ≤ last → batches_between mark last o ≡ batches_between mark before o ++ batches_between before last o
between-parts mark before last o low high =
    let k = before - mark in
    let j = last - before in
    let count : last - mark ≡ k + j = omega arith in
    let from : (mark + 1) + k ≡ before + 1 = omega arith in
    ap (λ n. flat_map (read o) (range_with_len (mark + 1) n)) count
    ∙ (ap (flat_map (read o)) (range-append (mark + 1) k j ∙ ap (λ a. range_with_len (mark + 1) k ++ range_with_len a j) from)
    ∙ flat_map-append (read o) (range_with_len (mark + 1) k) (range_with_len (before + 1) j))

between-one : (before : ℕ) (o : Objects) → batches_between before (before + 1) o ≡ read o (before + 1)
between-one before o =
    let count : (before + 1) - before ≡ suc zero = omega arith in
    ap (λ n. flat_map (read o) (range_with_len (before + 1) n)) count ∙ append-nil (read o (before + 1))

pub between-next : (mark before : ℕ) (o : Objects) (log : List Batch) → mark ≤ before → log_at (before + 1) o ≡ Some log → batches_between mark (before + 1) o ≡ batches_between mark before o ++ log
between-next mark before o log low found =
    between-parts mark before (before + 1) o low (omega arith)
    ∙ ap (λ xs. batches_between mark before o ++ xs) (between-one before o ∙ ap (λ x. unwrap_or x []) found)

-- ---- whole and truncated log files
pub whole-start : (mark n : ℕ) (o : Objects) → AreWhole mark mark n n o
whole-start mark n o =
    record {
      stored = λ id over within none. omega arith;
      no_gap = subst (HaveNoGap n n) (sym (between-none mark mark o (omega arith))) refl;
    }

pub whole-next : (mark before n e e' : ℕ) (o : Objects) (log : List Batch) → mark ≤ before → AreWhole mark before n e o → log_at (before + 1) o ≡ Some log → HaveNoGap e e' log → AreWhole mark (before + 1) n e' o
whole-next mark before n e e' o log low whole found next =
    record {
      stored = λ id over within.
          elim (cases_lt before id) [
            | inl above ↦ let same : before + 1 ≡ id = omega arith in subst (λ k. log_at k o ≡ None → ⊥) same (λ none. absurd (cc))
            | inr below ↦ whole.stored id over below
          ];
      no_gap = subst (HaveNoGap n e') (sym (between-next mark before o log low found)) (no_gap-append n e e' (batches_between mark before o) log whole.no_gap next);
    }

pub whole-count : (mark a b n e : ℕ) (o : Objects) → a - mark ≡ b - mark → AreWhole mark a n e o → AreWhole mark b n e o
whole-count mark a b n e o same whole =
    record {
      stored = λ id over within. whole.stored id over (omega arith);
      no_gap = subst (HaveNoGap n e) (between-count mark a b o same) whole.no_gap;
    }

-- whole log files are not truncated
uncut : (mark before last n e reached end : ℕ) (o : Objects) (log : Option (List Batch)) → mark ≤ before → before + 1 ≤ last → AreWhole mark last n e o → AreWhole mark before n reached o → log_at (before + 1) o ≡ log → MatchOption log (end ≡ reached) (HaveGap reached end) → ⊥
uncut mark before last n e reached end o None low high whole earlier found cut = whole.stored (before + 1) (omega arith) high found
uncut mark before last n e reached end o (Some log) low high whole earlier found cut =
    let all = between-parts mark (before + 1) last o (omega arith) high ∙ ap (λ xs. xs ++ batches_between (before + 1) last o) (between-next mark before o log low found) in
    let to_log = no_gap-parts n e (batches_between mark before o ++ log) (batches_between (before + 1) last o) (subst (HaveNoGap n e) all whole.no_gap) in
    let of_log = no_gap-parts n to_log.0 (batches_between mark before o) log to_log.1 in
    let same = no_gap-end n of_log.0 reached (batches_between mark before o) of_log.1 earlier.no_gap in
    let of_parts = no_gap-parts of_log.0 to_log.0 cut.front (cut.batch ∷ cut.rest) (subst (HaveNoGap of_log.0 to_log.0) cut.parts of_log.2) in
    let end_is = no_gap-end of_log.0 of_parts.0 end cut.front of_parts.1 (subst (λ x. HaveNoGap x end cut.front) (sym same) cut.no_gap) in
    let next = of_parts.2.0 in
    let past = cut.past in
    omega (arith, end_is, next, past)

pub untruncated : (id mark last n e end : ℕ) (o : Objects) → AreWhole mark last n e o → AreTruncatedAt id mark last n end o → ⊥
untruncated id mark last n e end o whole cut =
    let above = cut.above in
    let within = cut.within in
    let at : id ≡ (id - 1) + 1 = omega (arith, above) in
    uncut mark (id - 1) last n e cut.reached end o (log_at id o) (omega (arith, above)) (omega (arith, above, within)) whole cut.earlier (ap (λ k. log_at k o) (sym at)) cut.cut

-- ---- log files of a line
above-parts : (P : Batch → Type 0) (n : ℕ) (xs ys : List Batch) → AllByRecursion P (batches_above n (xs ++ ys)) → AllByRecursion P (batches_above n xs) × AllByRecursion P (batches_above n ys)
above-parts P n [] ys h = (tt, h)
above-parts P n (x ∷ xs) ys h =
    elim (cases_lt n x.number) [
      | inl over ↦
          let yes : ltb n x.number ≡ true = lt-ltb n x.number over in
          let g = rw yes at h in
          let r = above-parts P n xs ys g.1 in
          rw yes ((g.0, r.0), r.1)
      | inr under ↦
          let no : ltb n x.number ≡ false = le-ltb n x.number under in
          rw no (above-parts P n xs ys (rw no at h))
    ]

-- fewer batches are above a greater number
above-later : (P : Batch → Type 0) (n m : ℕ) (xs : List Batch) → n ≤ m → AllByRecursion P (batches_above n xs) → AllByRecursion P (batches_above m xs)
above-later P n m [] low h = tt
above-later P n m (x ∷ xs) low h =
    elim (cases_lt m x.number) [
      | inl over ↦
          let yes : ltb m x.number ≡ true = lt-ltb m x.number over in
          let also : ltb n x.number ≡ true = lt-ltb n x.number (omega arith) in
          let g = rw also at h in
          rw yes (g.0, above-later P n m xs low g.1)
      | inr under ↦
          let no : ltb m x.number ≡ false = le-ltb m x.number under in
          rw no
          (elim (cases_lt n x.number) [
            | inl over ↦ let also : ltb n x.number ≡ true = lt-ltb n x.number over in let g = rw also at h in above-later P n m xs low g.1
            | inr below ↦ let nor : ltb n x.number ≡ false = le-ltb n x.number below in above-later P n m xs low (rw nor at h)
          ])
    ]

pub belong-front : (mark before last n : ℕ) (line : Line) (o : Objects) → mark ≤ before → before ≤ last → BelongTo mark last n line o → BelongTo mark before n line o
belong-front mark before last n line o low high all =
    let P : Batch → Type 0 = λ b. StandsIn b line in
    let parts = between-parts mark before last o low high in
    All-from_recursion P (batches_above n (batches_between mark before o))
    (above-parts P n (batches_between mark before o) (batches_between before last o)
    (subst (λ xs. AllByRecursion P (batches_above n xs)) parts (recursion_from_All P (batches_above n (batches_between mark last o)) all))).0

-- the batches of one of the log files above a later number
pub belong-log : (mark before last n m : ℕ) (line : Line) (o : Objects) (log : List Batch) → mark ≤ before → before < last → n ≤ m → log_at (before + 1) o ≡ Some log → BelongTo mark last n line o → All (λ b. StandsIn b line) (batches_above m log)
belong-log mark before last n m line o log low high later found all =
    let P : Batch → Type 0 = λ b. StandsIn b line in
    let front = belong-front mark (before + 1) last n line o (omega arith) (omega arith) all in
    let parts = between-next mark before o log low found in
    let of_log = (above-parts P n (batches_between mark before o) log
    (subst (λ xs. AllByRecursion P (batches_above n xs)) parts (recursion_from_All P (batches_above n (batches_between mark (before + 1) o)) front))).1 in
    All-from_recursion P (batches_above m log) (above-later P n m log later of_log)

pub belong-count : (mark a b n : ℕ) (line : Line) (o : Objects) → a - mark ≡ b - mark → BelongTo mark a n line o → BelongTo mark b n line o
belong-count mark a b n line o same = subst (λ xs. All (λ x. StandsIn x line) (batches_above n xs)) (between-count mark a b o same)

-- one that is above the number is among them
pub belong-at : (n : ℕ) (line : Line) (xs : List Batch) (b : Batch) (ys all : List Batch) → all ≡ xs ++ b ∷ ys → n < b.number → All (λ x. StandsIn x line) (batches_above n all) → StandsIn b line
belong-at n line xs b ys all parts over h =
    let P : Batch → Type 0 = λ x. StandsIn x line in
    let yes : ltb n b.number ≡ true = lt-ltb n b.number over in
    let g = (above-parts P n xs (b ∷ ys) (subst (λ zs. AllByRecursion P (batches_above n zs)) parts (recursion_from_All P (batches_above n all) h))).1 in
    (rw yes at g).0

-- the batches of a line stand in it
pub numbered-stand : (floor : ℕ) (bs : List Batch) → AreNumberedFrom floor bs → All (λ b. StandsIn b (record { floor = floor; batches = bs })) bs
numbered-stand floor [] h = All-nil (λ b. StandsIn b (record { floor = floor; batches = [] }))
numbered-stand floor (b ∷ bs) h =
    let here : Batch → Type 0 = λ x. StandsIn x (record { floor = floor; batches = b ∷ bs }) in
    let there : Batch → Type 0 = λ x. StandsIn x (record { floor = floor + 1; batches = bs }) in
    let first : b.number ≡ floor + 1 = h.0 in
    All-cons here b bs (zero, refl, omega (arith, first))
    (All-weaker there here (λ x s. let at = s.2 in (suc s.0, s.1, omega (arith, at))) bs (numbered-stand (floor + 1) bs h.1))

-- a prefix of a line goes on by the batch that stands in the line with the next number
seam : (xs ys : List Batch) (k : ℕ) (b : Batch) → k ≡ length xs → slice_get (xs ++ ys) k ≡ Some b → (rest : List Batch) × (ys ≡ b ∷ rest)
seam [] [] k b at is = absurd (cc)
seam [] (y ∷ ys) zero b at is = let same : y ≡ b = cc in (ys, ap (λ x. x ∷ ys) same)
seam [] (y ∷ ys) (suc k) b at is = absurd (omega arith)
seam (x ∷ xs) ys zero b at is = absurd (omega arith)
seam (x ∷ xs) ys (suc k) b at is = seam xs ys k b (omega arith) is

pub prefix-push : (floor : ℕ) (m : List Batch) (b : Batch) (line : Line) → IsPrefix (record { floor = floor; batches = m }) line → StandsIn b line → b.number ≡ floor + length m + 1 → IsPrefix (record { floor = floor; batches = m ++ b ∷ [] }) line
prefix-push floor m b line prefix stands next =
    let batches : line.batches ≡ m ++ prefix.0 = ap (λ (l : Line). l.batches) prefix.1 in
    let floor_is : line.floor ≡ floor = ap (λ (l : Line). l.floor) prefix.1 in
    let at = stands.2 in
    let r = seam m prefix.0 stands.0 b (omega (arith, at, floor_is)) (subst (λ xs. slice_get xs stands.0 ≡ Some b) batches stands.1) in
    (r.0, prefix.1 ∙ ap (λ xs. record { floor = floor; batches = xs }) (ap (λ xs. m ++ xs) r.1 ∙ sym (append_assoc m (b ∷ []) r.0)))

-- ---- what depends on the log files alone that are read
flat_map-agree : (f g : ℕ → List Batch) (a n : ℕ) → ((i : ℕ) → a ≤ i → i < a + n → f i ≡ g i) → flat_map f (range_with_len a n) ≡ flat_map g (range_with_len a n)
flat_map-agree f g a zero same = refl
flat_map-agree f g a (suc n) same =
    let rest = flat_map-agree f g (a + 1) n (λ i low high. same i (omega arith) (omega arith)) in
    ap (λ xs. f a ++ xs) rest ∙ ap (λ xs. xs ++ flat_map g (range_with_len (a + 1) n)) (same a (omega arith) (omega arith))

-- the same log files are stored above a mark, up to an id
abbrev pub SameLogs : (mark last : ℕ) → Objects → Objects → Type 0
SameLogs mark last o o' = (id : ℕ) → mark < id → id ≤ last → log_at id o' ≡ log_at id o

pub between-same : (mark last : ℕ) (o o' : Objects) → SameLogs mark last o o' → batches_between mark last o' ≡ batches_between mark last o
between-same mark last o o' same =
    flat_map-agree (read o') (read o) (mark + 1) (last - mark) (λ id low high. ap (λ x. unwrap_or x []) (same id (omega arith) (omega arith)))

pub whole-same : (mark last n e : ℕ) (o o' : Objects) → SameLogs mark last o o' → AreWhole mark last n e o' → AreWhole mark last n e o
whole-same mark last n e o o' same whole =
    record {
      stored = λ id over within none. whole.stored id over within (same id over within ∙ none);
      no_gap = subst (HaveNoGap n e) (between-same mark last o o' same) whole.no_gap;
    }

pub truncated-same : (id mark last n e : ℕ) (o o' : Objects) → SameLogs mark last o o' → AreTruncatedAt id mark last n e o' → AreTruncatedAt id mark last n e o
truncated-same id mark last n e o o' same cut =
    let above = cut.above in
    let within = cut.within in
    record {
      above = above;
      within = within;
      reached = cut.reached;
      earlier = whole-same mark (id - 1) n cut.reached o o' (λ k over below. same k over (omega arith)) cut.earlier;
      cut = subst (λ log. MatchOption log (e ≡ cut.reached) (HaveGap cut.reached e)) (same id above within) cut.cut;
    }

pub belong-same : (mark last n : ℕ) (line : Line) (o o' : Objects) → SameLogs mark last o o' → BelongTo mark last n line o → BelongTo mark last n line o'
belong-same mark last n line o o' same = subst (λ xs. All (λ b. StandsIn b line) (batches_above n xs)) (sym (between-same mark last o o' same))
