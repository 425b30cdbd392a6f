-- The value under a key after one more batch of puts.
use Rattle.std.proofs.Common.{◌≡◌, ℕ, List, [], ◌∷◌, ◌++◌, Some, None, Ok, Bool, true, false, refl, sym, ap, ◌∙◌}
use Rattle.std.proofs.lemmas.List.{append-nil}
use Rattle.std.proofs.lemmas.Slice.Eq.{bytes_eq-Decides}
use Rattle.std.specs.Str.{bytes_eq}
use Rattle.slate_types.specs.declared.batches.Batch.{Batch}
use Rattle.slate_types.specs.declared.batches.Op.TheVariants.{Put}
use Rattle.slate_reads.specs.Read.{Version, fold_versions, history, since_base, versions_in}
use Rattle.slate_reads.proofs.Ends.{history-append}
use Rattle.slate_reads.proofs.Tails.{since_base-base}
use Rattle.slate_jobs.specs.Rows.{put, value_at, value_found}

module _ (bs : List Batch) (b : Batch) (key : List ℕ) where
  longer : (vs : List Version) → versions_in key b ≡ vs → history (bs ++ b ∷ []) None key ≡ history bs None key ++ vs
  longer vs is = history-append bs (b ∷ []) None key ∙ ap (λ new. history bs None key ++ new) (append-nil (versions_in key b) ∙ is)

  -- a batch without an operation on the key leaves its value
  pub value-stays : versions_in key b ≡ [] → value_at (bs ++ b ∷ []) key ≡ value_at bs key
  value-stays none = ap (λ h. value_found (fold_versions None key None (since_base h))) (longer [] none ∙ append-nil (history bs None key))

  -- one that puts a value gives it that
  pub value-put : (value : List ℕ) → versions_in key b ≡ record { op = Put value None; number = b.number; create_ts = b.create_ts } ∷ [] → value_at (bs ++ b ∷ []) key ≡ Ok (Some value)
  value-put value one =
      let v : Version = record { op = Put value None; number = b.number; create_ts = b.create_ts } in
      ap (λ h. value_found (fold_versions None key None (since_base h))) (longer (v ∷ []) one)
      ∙ ap (λ vs. value_found (fold_versions None key None vs)) (since_base-base (history bs None key) v refl)

is-same : (a b : List ℕ) → a ≡ b → bytes_eq a b ≡ true
is-same a b same = (bytes_eq-Decides a b).1 same

is-other : (a b : List ℕ) → (b ≡ a → ⊥) → bytes_eq a b ≡ false
is-other a b differ = by (bytes_eq a b) refl where
  by : (t : Bool) → bytes_eq a b ≡ t → bytes_eq a b ≡ false
  by true is_so = absurd (differ (sym ((bytes_eq-Decides a b).0 is_so)))
  by false not_so = not_so

module _ (bs : List Batch) (b : Batch) (key k1 v1 k2 v2 : List ℕ) where
  -- of a batch of one put
  module _ (ops : b.ops ≡ put k1 v1 ∷ []) where
    pub one-put : k1 ≡ key → value_at (bs ++ b ∷ []) key ≡ Ok (Some v1)
    one-put same = value-put bs b key v1 (rw (ops, is-same k1 key same) refl)

    pub one-other : (key ≡ k1 → ⊥) → value_at (bs ++ b ∷ []) key ≡ value_at bs key
    one-other differ = value-stays bs b key (rw (ops, is-other k1 key differ) refl)

  -- and of one of two
  module _ (ops : b.ops ≡ put k1 v1 ∷ put k2 v2 ∷ []) where
    pub first-put : k1 ≡ key → (key ≡ k2 → ⊥) → value_at (bs ++ b ∷ []) key ≡ Ok (Some v1)
    first-put same differ = value-put bs b key v1 (rw (ops, is-same k1 key same, is-other k2 key differ) refl)

    pub second-put : (key ≡ k1 → ⊥) → k2 ≡ key → value_at (bs ++ b ∷ []) key ≡ Ok (Some v2)
    second-put differ same = value-put bs b key v2 (rw (ops, is-other k1 key differ, is-same k2 key same) refl)

    pub two-other : (key ≡ k1 → ⊥) → (key ≡ k2 → ⊥) → value_at (bs ++ b ∷ []) key ≡ value_at bs key
    two-other first second = value-stays bs b key (rw (ops, is-other k1 key first, is-other k2 key second) refl)
