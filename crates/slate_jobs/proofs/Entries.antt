-- What is found under a number after an entry was put, and that taking it out again leaves the others.
use Rattle.std.proofs.Common.{◌≡◌, ℕ, inl, inr, List, [], ◌∷◌, Some, None, false, cond, refl, sym, ap, ◌∙◌}
use Rattle.std.proofs.lemmas.Bool.{cases_order}
use Rattle.std.specs.BTreeMap.{insert_entry, is_at}
use Rattle.std.specs.Map.{remove_entry}
use Rattle.std.specs.Ordering.{is_eq, match_ordering, nat_cmp}
use Rattle.std.specs.declared.cmp.Ordering.{Ordering}
use Rattle.std.specs.declared.cmp.Ordering.TheVariants.{Less, Equal, Greater}
use Rattle.slate_store.specs.Objects.{entry_at}
use Rattle.slate_types.proofs.Prefixes.{nat_cmp-greater, nat_cmp-less, nat_cmp-same}

-- two numbers that differ
pub apart : (q k : ℕ) → (q ≡ k → ⊥) → is_eq (nat_cmp q k) ≡ false
apart q k differ = elim (cases_order q k) [
  | inl same ↦ absurd (differ same)
  | inr unlike ↦ elim unlike [
    | inl less ↦ ap is_eq (nat_cmp-less q k less)
    | inr more ↦ ap is_eq (nat_cmp-greater q k more)
  ]
]

-- numbers that compare as equal are
equal-is : (k n : ℕ) → nat_cmp k n ≡ Equal → k ≡ n
equal-is k n is = elim (cases_order k n) [
  | inl same ↦ same
  | inr unlike ↦ elim unlike [
    | inl less ↦ absurd (let other = nat_cmp-less k n less in cc)
    | inr more ↦ absurd (let other = nat_cmp-greater k n more in cc)
  ]
]

module _ {X : Type 0} (k : ℕ) (v : X) where
  -- the entry that was put is found
  pub entry-put : (es : List (ℕ × X)) → entry_at k (insert_entry nat_cmp es k v) ≡ Some v
  entry-put [] = ap (λ o. cond (is_eq o) (Some v) None) (nat_cmp-same k)
  entry-put (e ∷ es) = by (entry-put es) (nat_cmp k e.0) refl where
    by : entry_at k (insert_entry nat_cmp es k v) ≡ Some v → (o : Ordering) → nat_cmp k e.0 ≡ o → entry_at k (match_ordering o ((k, v) ∷ e ∷ es) ((e.0, v) ∷ es) (e ∷ insert_entry nat_cmp es k v)) ≡ Some v
    by rest Less is = ap (λ o. cond (is_eq o) (Some v) (entry_at k (e ∷ es))) (nat_cmp-same k)
    by rest Equal is = ap (λ o. cond (is_eq o) (Some v) (entry_at k es)) is
    by rest Greater is = ap (λ o. cond (is_eq o) (Some e.1) (entry_at k (insert_entry nat_cmp es k v))) is ∙ rest

  -- and the others as before
  pub entry-other : (q : ℕ) → (q ≡ k → ⊥) → (es : List (ℕ × X)) → entry_at q (insert_entry nat_cmp es k v) ≡ entry_at q es
  entry-other q differ [] = ap (λ b. cond b (Some v) None) (apart q k differ)
  entry-other q differ (e ∷ es) = by (entry-other q differ es) (nat_cmp k e.0) refl where
    by : entry_at q (insert_entry nat_cmp es k v) ≡ entry_at q es → (o : Ordering) → nat_cmp k e.0 ≡ o → entry_at q (match_ordering o ((k, v) ∷ e ∷ es) ((e.0, v) ∷ es) (e ∷ insert_entry nat_cmp es k v)) ≡ entry_at q (e ∷ es)
    by rest Less is = ap (λ b. cond b (Some v) (entry_at q (e ∷ es))) (apart q k differ)
    by rest Equal is =
        let off = apart q e.0 (λ at. differ (at ∙ sym (equal-is k e.0 is))) in
        ap (λ b. cond b (Some v) (entry_at q es)) off ∙ sym (ap (λ b. cond b (Some e.1) (entry_at q es)) off)
    by rest Greater is = ap (λ found. cond (is_eq (nat_cmp q e.0)) (Some e.1) found) rest

  -- where there was none, taking it out leaves what was there
  pub put-removed : (es : List (ℕ × X)) → entry_at k es ≡ None → remove_entry (is_at (nat_cmp k)) (insert_entry nat_cmp es k v) ≡ es
  put-removed [] none = ap (λ o. cond (is_eq o) [] ((k, v) ∷ [])) (nat_cmp-same k)
  put-removed (e ∷ es) none = by (put-removed es) (nat_cmp k e.0) refl where
    by : (entry_at k es ≡ None → remove_entry (is_at (nat_cmp k)) (insert_entry nat_cmp es k v) ≡ es) → (o : Ordering) → nat_cmp k e.0 ≡ o → remove_entry (is_at (nat_cmp k)) (match_ordering o ((k, v) ∷ e ∷ es) ((e.0, v) ∷ es) (e ∷ insert_entry nat_cmp es k v)) ≡ e ∷ es
    by others Less is = ap (λ o. cond (is_eq o) (e ∷ es) ((k, v) ∷ remove_entry (is_at (nat_cmp k)) (e ∷ es))) (nat_cmp-same k)
    by others Equal is =
        let found : entry_at k (e ∷ es) ≡ Some e.1 = ap (λ o. cond (is_eq o) (Some e.1) (entry_at k es)) is in
        absurd (let all = sym none ∙ found in cc)
    by others Greater is =
        let rest : entry_at k es ≡ None = sym (ap (λ o. cond (is_eq o) (Some e.1) (entry_at k es)) is) ∙ none in
        ap (λ o. cond (is_eq o) (insert_entry nat_cmp es k v) (e ∷ remove_entry (is_at (nat_cmp k)) (insert_entry nat_cmp es k v))) is
        ∙ ap (λ left. e ∷ left) (others rest)
