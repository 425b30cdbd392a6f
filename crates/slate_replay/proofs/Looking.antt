-- The newest batches of log files.
use Rattle.std.proofs.Common.{◌≡◌, ℕ, ◌+◌, ◌-◌, ◌<◌, ◌≤◌, inl, inr, max, List, [], ◌∷◌, ◌++◌, length, map, take, get_or, Option, Some, None, refl, sym, ap, subst, ◌∙◌, arith}
use Rattle.std.proofs.Math.Nat.{eq-or-lt_of_le}
use Rattle.std.proofs.lemmas.List.{map-append, take_more}
use Rattle.std.specs.Option.{option_map}
use Rattle.std.specs.Prelude.{◌⊎◌}
use Rattle.slate_types.specs.declared.batches.Batch.{Batch}
use Rattle.slate_store.specs.Objects.{Objects, greatest, log_at}
use Rattle.slate_model.specs.Begun.{greatest_number}
use Rattle.slate_replay.specs.Newest.{HaveNothingNew}

greatest-push : (xs : List ℕ) (x : ℕ) → greatest 0 (xs ++ x ∷ []) ≡ max (greatest 0 xs) x
greatest-push [] x = omega arith
greatest-push (y ∷ xs) x = let rest = greatest-push xs x in omega (arith, rest)

-- one batch more
pub newest_more : (batches : List Batch) (i : ℕ) (batch : Batch) → i < length batches → batch ≡ get_or batches i batch → greatest_number (take (i + 1) batches) ≡ max (greatest_number (take i batches)) batch.number
newest_more batches i batch within is =
    ap greatest_number (take_more batches i batch within)
    ∙ (ap (greatest 0) (map-append (λ (b : Batch). b.number) (take i batches) (get_or batches i batch ∷ []))
    ∙ (greatest-push (map (λ (b : Batch). b.number) (take i batches)) (get_or batches i batch).number
    ∙ ap (λ (b : Batch). max (greatest_number (take i batches)) b.number) (sym is)))

-- ---- a log file that was looked at
found-at : (found : Option (List Batch)) (newest : ℕ) → Some newest ≡ option_map greatest_number found → (batches : List Batch) × (found ≡ Some batches) × (greatest_number batches ≡ newest)
found-at None newest is = absurd (cc)
found-at (Some batches) newest is = (batches, refl, let same : greatest_number batches ≡ newest = cc in same)

pub log-at : (o : Objects) (id newest : ℕ) → Some newest ≡ option_map greatest_number (log_at id o) → (batches : List Batch) × (log_at id o ≡ Some batches) × (greatest_number batches ≡ newest)
log-at o id newest is = found-at (log_at id o) newest is

gone-at : (found : Option (List Batch)) → None ≡ option_map greatest_number found → found ≡ None
gone-at None is = refl
gone-at (Some batches) is = absurd (cc)

pub no-log : (o : Objects) (id : ℕ) → None ≡ option_map greatest_number (log_at id o) → log_at id o ≡ None
no-log o id is = gone-at (log_at id o) is

-- it has nothing new, as those after it
pub nothing-more : (o : Objects) (number id last newest : ℕ) → HaveNothingNew number id last o → Some newest ≡ option_map greatest_number (log_at id o) → newest ≤ number → HaveNothingNew number (id - 1) last o
nothing-more o number id last newest later is low n over under = by (eq-or-lt_of_le (omega arith)) where
  by : (id ≡ n) ⊎ (id < n) → (batches : List Batch) × (log_at n o ≡ Some batches) × (greatest_number batches ≤ number)
  by (inl here) = let found = log-at o id newest is in (found.0, ap (λ k. log_at k o) (sym here) ∙ found.1, (let is = found.2 in omega (arith, is)))
  by (inr after) = later n after under

pub nothing-from : (o : Objects) (number id mark last : ℕ) → id ≤ mark → HaveNothingNew number id last o → HaveNothingNew number mark last o
nothing-from o number id mark last low later n over under = later n (omega arith) under
