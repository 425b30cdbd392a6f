-- Log files whose ids have no gap are those that are read one after another.
use Rattle.slate_store.proofs.LastLog.{at_least}
use Rattle.slate_store.proofs.Logs.{between-next, between-none}
use Rattle.slate_store.specs.Checkpoints.{found}
use Rattle.slate_store.specs.Content.{AreGapless, logs_above}
use Rattle.slate_store.specs.Logs.{batches_between}
use Rattle.slate_store.specs.Objects.{Objects, entry_at, greatest, log_at}
use Rattle.slate_types.proofs.Prefixes.{nat_cmp-greater}
use Rattle.slate_types.specs.declared.batches.Batch.{Batch}
use Rattle.std.proofs.Common.{◌++◌, ◌+◌, ◌-◌, ◌<◌, ◌∙◌, ◌∷◌, ◌≡◌, ◌≤◌, [], List, None, Option, Some, ap, append_assoc, arith, false, inl, inr, length, ltb, map, max, refl, subst, suc, sym, take, true, zero, ℕ}
use Rattle.std.proofs.lemmas.Bool.{cases_lt, eqb-true, le-ltb, lt-ltb}
use Rattle.std.proofs.lemmas.List.{append-nil, take_all}
use Rattle.std.proofs.lemmas.Map.Entries.{lookup-filter-keys}
use Rattle.std.specs.BTreeMap.{is_at}
use Rattle.std.specs.Cmp.{nat_cmp_is, unsigned_ties}
use Rattle.std.specs.List.{filter, flat_map}
use Rattle.std.specs.Ordering.{is_eq, nat_cmp}
use Rattle.std.specs.declared.cmp.Ordering.TheVariants.{Equal, Greater}

-- a number that compares as another is that one
equal : (k e : ℕ) → is_eq (nat_cmp k e) ≡ true → k ≡ e
equal k e h = eqb-true k e (unsigned_ties k e ∙ h)

-- what stands under an id above a mark is what stands under it among the entries above the mark
entry-above : {X : Type 0} (mark id : ℕ) (es : List (ℕ × X)) → mark < id → entry_at id (filter (λ e. ltb mark e.0) es) ≡ entry_at id es
entry-above mark id es over =
    lookup-filter-keys (is_at (nat_cmp id)) (λ k. ltb mark k) true (λ k same. let e = equal id k same in lt-ltb mark k (omega arith)) es

-- where ids have no gaps, an entry stands under each id that they reach
gapless-stored : {X : Type 0} (before i : ℕ) (es : List (ℕ × X)) → AreGapless before (map (λ e. e.0) es) → i < length es → entry_at (before + i + 1) es ≡ None → ⊥
gapless-stored before i [] h less none = omega arith
gapless-stored before zero (e ∷ es) h less none =
    let first : before + zero + 1 ≡ e.0 = let k : e.0 ≡ before + 1 = h.0 in omega arith in
    let here : nat_cmp (before + zero + 1) e.0 ≡ Equal = sym (nat_cmp_is (before + zero + 1) e.0 Equal first) in
    absurd (let n = rw here at none in cc)
gapless-stored before (suc i) (e ∷ es) h less none =
    let first : e.0 ≡ before + 1 = h.0 in
    let over : nat_cmp (before + suc i + 1) e.0 ≡ Greater = nat_cmp-greater (before + suc i + 1) e.0 (omega arith) in
    let n = rw over at none in
    let at : before + suc i + 1 ≡ e.0 + i + 1 = omega arith in
    gapless-stored e.0 i es h.1 (omega arith) (subst (λ k. entry_at k es ≡ None) at n)

-- and the entries up to it are those before it and that one
gapless-next : {X : Type 0} (before i : ℕ) (x : List X) (es : List (ℕ × List X)) → AreGapless before (map (λ e. e.0) es) → entry_at (before + i + 1) es ≡ Some x → flat_map (λ e. e.1) (take (suc i) es) ≡ flat_map (λ e. e.1) (take i es) ++ x
gapless-next before i x [] h is = absurd (cc)
gapless-next before zero x (e ∷ es) h is =
    let first : before + zero + 1 ≡ e.0 = let k : e.0 ≡ before + 1 = h.0 in omega arith in
    let here : nat_cmp (before + zero + 1) e.0 ≡ Equal = sym (nat_cmp_is (before + zero + 1) e.0 Equal first) in
    let n = rw here at is in
    let same : e.1 ≡ x = cc in
    append-nil e.1 ∙ same
gapless-next before (suc i) x (e ∷ es) h is =
    let first : e.0 ≡ before + 1 = h.0 in
    let over : nat_cmp (before + suc i + 1) e.0 ≡ Greater = nat_cmp-greater (before + suc i + 1) e.0 (omega arith) in
    let n = rw over at is in
    let at : before + suc i + 1 ≡ e.0 + i + 1 = omega arith in
    let rest = gapless-next e.0 i x es h.1 (subst (λ k. entry_at k es ≡ Some x) at n) in
    ap (λ xs. e.1 ++ xs) rest ∙ sym (append_assoc e.1 (flat_map (λ e. e.1) (take i es)) x)

greatest-max : (n k : ℕ) (xs : List ℕ) → n ≤ k → greatest k xs ≡ max k (greatest n xs)
greatest-max n k [] h = omega arith
greatest-max n k (x ∷ xs) h = let e = greatest-max n k xs h in omega (arith, e)

-- where the ids above a mark have no gaps, the greatest one is as far behind as there are ids
pub gapless-greatest : {X : Type 0} (mark n : ℕ) (es : List (ℕ × X)) → mark ≤ n → AreGapless n (map (λ e. e.0) (filter (λ e. ltb mark e.0) es)) → greatest n (map (λ e. e.0) es) ≡ n + length (filter (λ e. ltb mark e.0) es)
gapless-greatest mark n [] low h = omega arith
gapless-greatest {X} mark n (e ∷ es) low h =
    elim (cases_lt mark e.0) [
      | inl above ↦
          let yes : ltb mark e.0 ≡ true = lt-ltb mark e.0 above in
          let g = rw yes at h in
          let next : e.0 ≡ n + 1 = g.0 in
          let rest = gapless-greatest mark e.0 es (omega arith) g.1 in
          let more = greatest-max n e.0 (map (λ e. e.0) es) (omega arith) in
          rw yes (omega (arith, rest, more, next))
      | inr below ↦
          let no : ltb mark e.0 ≡ false = le-ltb mark e.0 below in
          let g = rw no at h in
          let rest = gapless-greatest mark n es low g in
          let least = at_least n (map (λ e. e.0) es) in
          rw no (omega (arith, rest, least))
    ]

module _ (mark : ℕ) (o : Objects) (gapless : AreGapless mark (map (λ log. log.0) (logs_above mark o))) where
  -- each log file that the ids reach is stored
  pub stored-gapless : (id : ℕ) → mark < id → id ≤ mark + length (logs_above mark o) → log_at id o ≡ None → ⊥
  stored-gapless id over within none =
      let at : id ≡ mark + (id - mark - 1) + 1 = omega arith in
      gapless-stored mark (id - mark - 1) (logs_above mark o) gapless (omega arith)
      (subst (λ k. entry_at k (logs_above mark o) ≡ None) at (entry-above mark id o.logs over ∙ none))

  step : (i : ℕ) (log : Option (List Batch)) → i < length (logs_above mark o) → log_at (mark + i + 1) o ≡ log → batches_between mark (mark + i) o ≡ flat_map (λ log. log.1) (take i (logs_above mark o)) → batches_between mark (mark + i + 1) o ≡ flat_map (λ log. log.1) (take (suc i) (logs_above mark o))
  step i None less found so_far = absurd (stored-gapless (mark + i + 1) (omega arith) (omega arith) found)
  step i (Some log) less found so_far =
      between-next mark (mark + i) o log (omega arith) found
      ∙ (ap (λ xs. xs ++ log) so_far ∙ sym (gapless-next mark i log (logs_above mark o) gapless (entry-above mark (mark + i + 1) o.logs (omega arith) ∙ found)))

  -- the first of them in the order of their ids
  pub between-front : (i : ℕ) → i ≤ length (logs_above mark o) → batches_between mark (mark + i) o ≡ flat_map (λ log. log.1) (take i (logs_above mark o))
  between-front zero low = between-none mark (mark + zero) o (omega arith)
  between-front (suc i) low =
      let at : mark + suc i ≡ mark + i + 1 = omega arith in
      ap (λ k. batches_between mark k o) at ∙ step i (log_at (mark + i + 1) o) (omega arith) refl (between-front i (omega arith))

  -- and they are read in the order of their ids
  pub between-gapless : (last : ℕ) → last ≡ mark + length (logs_above mark o) → batches_between mark last o ≡ flat_map (λ log. log.1) (logs_above mark o)
  between-gapless last at =
      ap (λ k. batches_between mark k o) at
      ∙ (between-front (length (logs_above mark o)) (omega arith)
      ∙ ap (flat_map (λ log. log.1)) (take_all (length (logs_above mark o)) (logs_above mark o) (omega arith)))
