-- Of the log files of sound objects, those after one that has a batch past the tables have later ones.
use Rattle.std.proofs.Common.{◌≡◌, ◌∙◌, ◌⊎◌, inl, inr, ℕ, ◌+◌, ◌-◌, ◌<◌, ◌≤◌, List, [], ◌∷◌, ◌++◌, cond, length, map, Some, refl, sym, ap, subst, arith, length-append}
use Rattle.std.proofs.lemmas.Bool.{cases_lt, le-ltb, lt-ltb}
use Rattle.std.proofs.lemmas.List.Elements.{All-cons, All-filter, All-head, All-nil, All-tail}
use Rattle.std.specs.List.{All}
use Rattle.std.specs.Prelude.{nat_lt}
use Rattle.slate_types.specs.Line.{AreNumberedFrom, batches_above}
use Rattle.slate_types.specs.declared.batches.Batch.{Batch}
use Rattle.slate_store.proofs.LastLog.{at_least}
use Rattle.slate_store.proofs.Logs.{between-next, between-parts}
use Rattle.slate_store.specs.Content.{IsSound}
use Rattle.slate_store.specs.Logs.{batches_between}
use Rattle.slate_store.specs.Objects.{Objects, last_log, latest_manifest, log_at}
use Rattle.slate_store.specs.declared.objects.VersionedManifest.{VersionedManifest}
use Rattle.slate_model.specs.Begun.{greatest_number}
use Rattle.slate_model.proofs.Free.{numbered-front}
use Rattle.slate_model.proofs.Fronts.{above-append}
use Rattle.slate_model.proofs.Reopened.{numbered_rest}
use Rattle.slate_follow.proofs.Lagging.{all-within, greatest-within}
use Rattle.slate_follow.proofs.Later.{later-numbered}
use Rattle.slate_follow.proofs.Rebuilt.{kept-end}

-- batches that are numbered from one on are within what they count to
numbered-within : (n : ℕ) (bs : List Batch) → AreNumberedFrom n bs → All (λ b. b.number ≤ n + length bs) bs
numbered-within n [] numbered = All-nil (λ (b : Batch). b.number ≤ n + 0)
numbered-within n (b ∷ bs) numbered =
    let first = numbered.0 in
    All-cons (λ (x : Batch). x.number ≤ n + length (b ∷ bs)) b bs (omega (arith, first)) (λ k d less. let rest = numbered-within (n + 1) bs numbered.1 k d less in omega (arith, rest))

-- where those above a number are within another one, all are
within-by : (n m : ℕ) (bs : List Batch) → n ≤ m → All (λ b. b.number ≤ m) (batches_above n bs) → All (λ b. b.number ≤ m) bs
within-by n m [] low all = All-nil (λ (b : Batch). b.number ≤ m)
within-by n m (b ∷ bs) low all = elim (cases_lt n b.number) [
  | inl over ↦
      let more = subst (λ t. All (λ (x : Batch). x.number ≤ m) (cond t (b ∷ batches_above n bs) (batches_above n bs))) (lt-ltb n b.number over) all in
      All-cons (λ (x : Batch). x.number ≤ m) b bs (All-head (λ (x : Batch). x.number ≤ m) b (batches_above n bs) more) (within-by n m bs low (All-tail (λ (x : Batch). x.number ≤ m) b (batches_above n bs) more))
  | inr under ↦
      let rest = subst (λ t. All (λ (x : Batch). x.number ≤ m) (cond t (b ∷ batches_above n bs) (batches_above n bs))) (le-ltb n b.number under) all in
      All-cons (λ (x : Batch). x.number ≤ m) b bs (omega (arith, under, low)) (within-by n m bs low rest)
]

module _ (o : Objects) (sound : IsSound o) (l : VersionedManifest) (is : latest_manifest o ≡ Some l) where
  abbrev mark : ℕ
  mark = l.manifest.replay_after_wal_id

  abbrev tabled : ℕ
  tabled = l.manifest.last_l0_seq

  abbrev top : ℕ
  top = last_log mark o

  -- the batches past the tables that log files up to one of them have
  abbrev up_to : ℕ → List Batch
  up_to id = batches_above tabled (batches_between mark id o)

  all-numbered : AreNumberedFrom tabled (up_to top)
  all-numbered =
      let ends = kept-end o l sound is in
      let least = at_least mark (map (λ (e : ℕ × List Batch). e.0) o.logs) in
      later-numbered o l sound is mark tabled (omega arith) (omega (arith, least)) (omega arith) (omega (arith, ends)) (λ id bs over under there. absurd (omega (arith, over, under)))

  parts : (k : ℕ) → mark ≤ k → k ≤ top → up_to top ≡ up_to k ++ batches_above tabled (batches_between k top o)
  parts k low high = ap (batches_above tabled) (between-parts mark k top o low high) ∙ above-append tabled (batches_between mark k o) (batches_between k top o)

  -- one more log file
  next : (k : ℕ) (bs : List Batch) → mark ≤ k → log_at (k + 1) o ≡ Some bs → up_to (k + 1) ≡ up_to k ++ batches_above tabled bs
  next k bs low there = ap (batches_above tabled) (between-next mark k o bs low there) ∙ above-append tabled (batches_between mark k o) bs

  next-numbered : (k : ℕ) (bs : List Batch) → mark ≤ k → k + 1 ≤ top → log_at (k + 1) o ≡ Some bs → AreNumberedFrom (tabled + length (up_to k)) (batches_above tabled bs)
  next-numbered k bs low high there =
      let whole = subst (AreNumberedFrom tabled) (parts (k + 1) (omega (arith, low)) high) all-numbered in
      let front = subst (AreNumberedFrom tabled) (next k bs low there) (numbered-front tabled (up_to (k + 1)) (batches_above tabled (batches_between (k + 1) top o)) whole) in
      numbered_rest tabled (up_to k) (batches_above tabled bs) front

  -- they count to what one of them has
  counted : (k : ℕ) (bs : List Batch) → mark ≤ k → k + 1 ≤ top → log_at (k + 1) o ≡ Some bs → greatest_number bs ≤ tabled + length (up_to (k + 1))
  counted k bs low high there =
      let numbered = next-numbered k bs low high there in
      let count : length (up_to (k + 1)) ≡ length (up_to k) + length (batches_above tabled bs) = ap length (next k bs low there) ∙ length-append (up_to k) (batches_above tabled bs) in
      let m = tabled + length (up_to k) + length (batches_above tabled bs) in
      let most = greatest-within m bs (within-by tabled m bs (omega arith) (numbered-within (tabled + length (up_to k)) (batches_above tabled bs) numbered)) in
      omega (arith, most, count)

  count-more : (k n : ℕ) → mark ≤ k → k ≤ n → length (up_to k) ≤ length (up_to n)
  count-more k n low high =
      let split = ap (batches_above tabled) (between-parts mark k n o low high) ∙ above-append tabled (batches_between mark k o) (batches_between k n o) in
      let count : length (up_to n) ≡ length (up_to k) + length (batches_above tabled (batches_between k n o)) = ap length split ∙ length-append (up_to k) (batches_above tabled (batches_between k n o)) in
      omega (arith, count)

  -- a log file has none past the tables, or one past those that they count to
  past-count : (k : ℕ) (bs : List Batch) → mark ≤ k → k + 1 ≤ top → log_at (k + 1) o ≡ Some bs → (greatest_number bs ≤ tabled) ⊎ (tabled + length (up_to k) ≤ greatest_number bs)
  past-count k bs low high there = by (batches_above tabled bs) refl (next-numbered k bs low high there)
    where
      by : (new : List Batch) → batches_above tabled bs ≡ new → AreNumberedFrom (tabled + length (up_to k)) new → (greatest_number bs ≤ tabled) ⊎ (tabled + length (up_to k) ≤ greatest_number bs)
      by [] none numbered = inl (greatest-within tabled bs (within-by tabled tabled bs (omega arith) (subst (All (λ (b : Batch). b.number ≤ tabled)) (sym none) (All-nil (λ (b : Batch). b.number ≤ tabled)))))
      by (y ∷ ys) some numbered =
          let kept = All-filter (λ (x : Batch). nat_lt tabled x.number) (λ (x : Batch). x.number ≤ greatest_number bs) bs (all-within bs) in
          let here = All-head (λ (x : Batch). x.number ≤ greatest_number bs) y ys (subst (All (λ (x : Batch). x.number ≤ greatest_number bs)) some kept) in
          let first = numbered.0 in
          inr (omega (arith, here, first))

  -- so one after a log file that has a number, or a later one, has none past the tables, or that or a later one
  pub later-ones : (target id : ℕ) (bs : List Batch) → mark < id → log_at id o ≡ Some bs → target ≤ greatest_number bs → (n : ℕ) (later : List Batch) → id < n → n ≤ top → log_at n o ≡ Some later → (greatest_number later ≤ tabled) ⊎ (target ≤ greatest_number later)
  later-ones target id bs above there has n later over high there_later =
      let id_is : id - 1 + 1 ≡ id = omega (arith, above) in
      let n_is : n - 1 + 1 ≡ n = omega (arith, over) in
      let most = counted (id - 1) bs (omega (arith, above)) (omega (arith, over, high, above)) (ap (λ k. log_at k o) id_is ∙ there) in
      let same = ap (λ k. length (up_to k)) id_is in
      let more = count-more id (n - 1) (omega (arith, above)) (omega (arith, over)) in
      elim (past-count (n - 1) later (omega (arith, above, over)) (omega (arith, over, high)) (ap (λ k. log_at k o) n_is ∙ there_later)) [
        | inl few ↦ inl few
        | inr many ↦ inr (omega (arith, has, most, same, more, many))
      ]
