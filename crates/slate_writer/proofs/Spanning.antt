-- The segments that a prefix spans, and tables from the last to the first.
use Rattle.std.proofs.Common.{◌≡◌, ℕ, ◌-◌, ◌<◌, Bool, true, false, cond, not, ◌&&◌, ◌||◌, List, [], ◌∷◌, length, reverse, Option, Some, None, refl, sym, ap, subst, ◌∙◌, arith}
use Rattle.std.specs.List.{filter, find, list_any}
use Rattle.std.specs.Option.{IfSome}
use Rattle.std.specs.Str.{bytes_eq}
use Rattle.std.proofs.lemmas.List.{get_or-reverse, length-reverse}
use Rattle.std.proofs.lemmas.Slice.Eq.{bytes_eq-Decides}
use Rattle.slate_store.specs.declared.objects.TableId.{TableId}
use Rattle.slate_store.specs.Objects.{Objects}
use Rattle.slate_model.specs.Recency.{overlap, some_differ, span_two}
use Rattle.slate_model.specs.Tables.{AreStored}
use Rattle.slate_transactions.proofs.Tracking.{any-filter}

abbrev Prefix : Type 0
Prefix = List ℕ

-- whether one of these is another than this one
abbrev differs : List Prefix → Prefix → Bool
differs others one = list_any (λ other. not (bytes_eq one other)) others

same-of : (b : Bool) → not b ≡ false → b ≡ true
same-of true is = refl
same-of false is = absurd (cc)

or-parts : (a b : Bool) → (a || b) ≡ false → (a ≡ false) × (b ≡ false)
or-parts false b is = (refl, is)
or-parts true b is = absurd (cc)

-- where none is another than the first, none is another than any of them
none-differ : (first : Prefix) (all some : List Prefix) → differs all first ≡ false → differs some first ≡ false → list_any (differs all) some ≡ false
none-differ first all [] none is = refl
none-differ first all (x ∷ some) none is =
    let parts = or-parts (not (bytes_eq first x)) (differs some first) is in
    let same : first ≡ x = (bytes_eq-Decides first x).0 (same-of (bytes_eq first x) parts.0) in
    ap (λ b. b || list_any (differs all) some) (ap (differs all) (sym same) ∙ none) ∙ none-differ first all some none parts.1

-- of some, two differ where one is another than the first
first-differs : (first : Prefix) (rest : List Prefix) → differs (first ∷ rest) first ≡ some_differ (first ∷ rest)
first-differs first rest = by (differs (first ∷ rest) first) refl where
  by : (b : Bool) → differs (first ∷ rest) first ≡ b → differs (first ∷ rest) first ≡ some_differ (first ∷ rest)
  by true is = is ∙ sym (ap (λ b. b || list_any (differs (first ∷ rest)) rest) is)
  by false is = is ∙ sym (none-differ first (first ∷ rest) (first ∷ rest) is is)

-- what a test finds first begins what passes it
passing : (p : Prefix → Bool) (xs : List Prefix) (first : Prefix) → find p xs ≡ Some first → (rest : List Prefix) × (filter p xs ≡ first ∷ rest)
passing p [] first is = absurd (cc)
passing p (x ∷ xs) first is = by (p x) (passing p xs first) is where
  by : (b : Bool) → (find p xs ≡ Some first → (rest : List Prefix) × (filter p xs ≡ first ∷ rest)) → cond b (Some x) (find p xs) ≡ Some first
      → (rest : List Prefix) × (cond b (x ∷ filter p xs) (filter p xs) ≡ first ∷ rest)
  by true later is = let same : x ≡ first = cc in (filter p xs, ap (λ y. y ∷ filter p xs) same)
  by false later is = later is

none-passes : (p : Prefix → Bool) (xs : List Prefix) → find p xs ≡ None → filter p xs ≡ []
none-passes p [] is = refl
none-passes p (x ∷ xs) is = by (p x) (none-passes p xs) is where
  by : (b : Bool) → (find p xs ≡ None → filter p xs ≡ []) → cond b (Some x) (find p xs) ≡ None → cond b (x ∷ filter p xs) (filter p xs) ≡ []
  by true later is = absurd (cc)
  by false later is = later is

-- no segment overlaps a prefix
pub spans-none : (prefix : Prefix) (segments : List Prefix) → find (overlap prefix) segments ≡ None → false ≡ span_two prefix segments
spans-none prefix segments none = sym (ap some_differ (none-passes (overlap prefix) segments none))

-- the first one does, and another than it or none
pub spans-more : (prefix first : Prefix) (segments : List Prefix) → find (overlap prefix) segments ≡ Some first → list_any (λ segment. overlap prefix segment && not (bytes_eq first segment)) segments ≡ span_two prefix segments
spans-more prefix first segments is =
    let found = passing (overlap prefix) segments first is in
    sym (any-filter (overlap prefix) (λ segment. not (bytes_eq first segment)) segments)
    ∙ (ap (λ xs. differs xs first) found.1 ∙ (first-differs first found.0 ∙ sym (ap some_differ found.1)))

-- ---- tables
stored-back : (o : Objects) (ids : List TableId) → AreStored o ids → AreStored o (reverse ids)
stored-back o ids stored k d less =
    let long = length-reverse ids in
    let below : k < length ids = omega (arith, long) in
    rw get_or-reverse (stored (length ids - 1 - k) d (omega arith))

-- where one of them isn't stored from the last to the first, one isn't
pub missing-back : (t : Option Objects) (ids back : List TableId) → back ≡ reverse ids → IfSome t (λ o. AreStored o back → ⊥) → IfSome t (λ o. AreStored o ids → ⊥)
missing-back None ids back is missing = tt
missing-back (Some o) ids back is missing = λ stored. missing (subst (AreStored o) (sym is) (stored-back o ids stored))
