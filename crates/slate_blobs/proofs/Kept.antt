-- Lists of tables that are kept: what is left where some are dropped.
use Rattle.std.proofs.Common.{◌≡◌, ◌<◌, ◌≤◌, ◌+◌, ◌∙◌, ◌∷◌, [], ℕ, Bool, true, false, List, Option, Some, refl, ap, sym, subst, not, nat_lt, cond, arith, inl, inr, Result, Ok, Err}
use Rattle.std.specs.List.{All, filter, find, remove}
use Rattle.std.specs.Option.{IfSome}
use Rattle.std.specs.Result.{MatchResult, result_ok}
use Rattle.std.proofs.lemmas.Bool.Decides.{nat_tests}
use Rattle.std.proofs.lemmas.List.Sums.{sum_by-cons}
use Rattle.std.proofs.lemmas.List.Filters.{sum_by-filter_both}
use Rattle.std.proofs.lemmas.List.Elements.{All-tail, All-filter, All-append, All-cons, All-nil}
use Rattle.slate_types.specs.declared.batches.Batch.{Batch}
use Rattle.slate_blobs.specs.declared.kept_tables.KeptTable.{KeptTable}
use Rattle.slate_blobs.specs.Kept.{Keeps, bytes_of, newest}

-- where all have too many bytes, the first is dropped
pub newest-step : (bound : ℕ) (tables : List KeptTable) → bound < bytes_of tables → newest bound (remove tables 0) ≡ newest bound tables
newest-step bound [] large = absurd (omega arith)
newest-step bound (kept ∷ rest) large =
    let test : nat_lt bound (bytes_of (kept ∷ rest)) ≡ true = grind (arith, nat_tests) in
    rw test refl

-- and where they haven't, none is
pub newest-all : (bound : ℕ) (tables : List KeptTable) → bytes_of tables ≤ bound → newest bound tables ≡ tables
newest-all bound [] small = refl
newest-all bound (kept ∷ rest) small =
    let test : nat_lt bound (bytes_of (kept ∷ rest)) ≡ false = grind (arith, nat_tests) in
    rw test refl

-- the bytes of the first and of the others
pub bytes-first : (tables : List KeptTable) (first : KeptTable) (rest : List KeptTable) → tables ≡ first ∷ rest → bytes_of tables ≡ first.bytes + bytes_of rest
bytes-first tables first rest is = ap bytes_of is ∙ sum_by-cons (λ (kept : KeptTable). kept.bytes) first rest

-- those that are left have no more bytes
pub bytes-others : (tables : List KeptTable) (p : KeptTable → Bool) → bytes_of (filter p tables) ≤ bytes_of tables
bytes-others tables p =
    let both = sum_by-filter_both p (λ kept. not (p kept)) (λ kept. refl) (λ (kept : KeptTable). kept.bytes) tables in
    omega (arith, both)

module _ (P : KeptTable → Type 0) where
  pub all-newest : (bound : ℕ) (tables : List KeptTable) → All P tables → All P (newest bound tables)
  all-newest bound [] all = all
  all-newest bound (kept ∷ rest) all = by (nat_lt bound (bytes_of (kept ∷ rest))) (all-newest bound rest (All-tail P kept rest all)) where
    by : (b : Bool) → All P (newest bound rest) → All P (cond b (newest bound rest) (kept ∷ rest))
    by true later = later
    by false later = all

  -- what holds of each table that was kept and of the one that came holds of each that is kept
  pub all-keeps : (bound : ℕ) (kept : KeptTable) (old new : List KeptTable) → P kept → All P old → Keeps bound kept old new → All P new
  all-keeps bound kept old new here all (inl last) =
      subst (All P) (sym last) (All-append P _ _ (all-newest _ _ (All-filter _ P old all)) (All-cons P kept [] here (All-nil P)))
  all-keeps bound kept old new here all (inr (inl left)) = subst (All P) (sym left) (all-newest _ _ (All-filter _ P old all))
  all-keeps bound kept old new here all (inr (inr left)) = subst (All P) (sym left) (All-filter _ P old all)

  -- and of the one that is found
  pub all-find : (p : KeptTable → Bool) (tables : List KeptTable) (found : KeptTable) → All P tables → find p tables ≡ Some found → P found × (p found ≡ true)
  all-find p [] found all is = absurd (cc)
  all-find p (kept ∷ rest) found all is = by (p kept) refl is (all-find p rest found (All-tail P kept rest all)) where
    by : (b : Bool) → p kept ≡ b → cond b (Some kept) (find p rest) ≡ Some found → (find p rest ≡ Some found → P found × (p found ≡ true)) → P found × (p found ≡ true)
    by true passes is later = let same : kept ≡ found = cc in (subst P same (all 0 kept (omega arith)), ap p (sym same) ∙ passes)
    by false fails is later = later is

-- what is answered of a copy is what was copied
pub copy-answer : {E : Type 0} (Q : E → Type 0) (x : List Batch) (at : Option (List Batch)) (copy : Result (List Batch) E) (answer : Option (List Batch)) → at ≡ Some x → MatchResult copy (λ y. y ≡ x) Q → answer ≡ result_ok copy → IfSome answer (λ table. at ≡ Some table)
copy-answer Q x at (Ok y) answer is same given = rw given (is ∙ ap Some (sym same))
copy-answer Q x at (Err e) answer is same given = rw given tt
