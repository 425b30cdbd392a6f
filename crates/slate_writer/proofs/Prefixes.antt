-- The least of the known prefixes that nests with one.
use Rattle.std.proofs.Common.{◌≡◌, ℕ, ◌⊎◌, inl, inr, Bool, true, false, cond, ◌<◌, ◌+◌, length, take, get_or, List, [], ◌∷◌, ◌++◌, Option, Some, None, refl, sym, ap, subst, ◌∙◌}
use Rattle.std.specs.Cmp.Lexicographic.{nat_list_cmp_total}
use Rattle.std.specs.FinMap.{keys}
use Rattle.std.specs.List.{AllByRecursion, find}
use Rattle.std.specs.List.Sorted.{IsStrictlySortedBy}
use Rattle.std.specs.Ordering.{eq_by_cmp, is_lt, ordering_reverse}
use Rattle.std.specs.declared.cmp.Ordering.{Ordering}
use Rattle.std.specs.declared.cmp.Ordering.TheVariants.{Less, Equal, Greater}
use Rattle.std.proofs.lemmas.Bool.{false_from_ne_true}
use Rattle.std.proofs.lemmas.List.{take_more}
use Rattle.std.proofs.lemmas.Map.Lookups.{exact_bytes}
use Rattle.slate_types.specs.Range.{key_cmp}
use Rattle.slate_status.specs.Segments.{PrefixesRise, set_of}
use Rattle.slate_model.specs.Segments.{conflict, nest}
use Rattle.slate_segments.specs.Prefixes.{HaveSame, is_one_of}
use Rattle.slate_segments.proofs.Prefixes.{in-either, in-itself, in-left, in-one, in-right, less-of, members-keys, or-cases, or-right, own-key, rising-keys, same-key}
use Rattle.slate_writer.specs.Segments.{IsConflict}

-- one that isn't below a isn't below what is below a
not-below : (c b a : List ℕ) → is_lt (key_cmp c a) ≡ false → is_lt (key_cmp b a) ≡ true → is_lt (key_cmp c b) ≡ false
not-below c b a nay under = false_from_ne_true (is_lt (key_cmp c b)) (λ h.
    let far : key_cmp c a ≡ Less = nat_list_cmp_total.trans c b a (less-of (key_cmp c b) h) (less-of (key_cmp b a) under) in
    let aye : is_lt (key_cmp c a) ≡ true = ap is_lt far in
    absurd (cc))

-- one that isn't below b isn't below a, where b isn't
not-below-either : (c b a : List ℕ) → is_lt (key_cmp c b) ≡ false → is_lt (key_cmp b a) ≡ false → is_lt (key_cmp c a) ≡ false
not-below-either c b a above nay = false_from_ne_true (is_lt (key_cmp c a)) (λ h. by (key_cmp c b) refl (less-of (key_cmp c a) h)) where
  by : (r : Ordering) → key_cmp c b ≡ r → key_cmp c a ≡ Less → ⊥
  by Less is under = let aye : is_lt (key_cmp c b) ≡ true = ap is_lt is in absurd (cc)
  by Equal is under =
      let far : key_cmp b a ≡ Less = subst (λ x. key_cmp x a ≡ Less) (exact_bytes c b is) under in
      let aye : is_lt (key_cmp b a) ≡ true = ap is_lt far in
      absurd (cc)
  by Greater is under =
      let back : key_cmp b c ≡ Less = nat_list_cmp_total.antisymm b c ∙ ap ordering_reverse is in
      let far : key_cmp b a ≡ Less = nat_list_cmp_total.trans b c a back under in
      let aye : is_lt (key_cmp b a) ≡ true = ap is_lt far in
      absurd (cc)

-- ---- conflicts
pub moved : (p : List ℕ) (xs ys : List (List ℕ)) (r : Option (List ℕ)) → HaveSame xs ys → IsConflict xs p r → IsConflict ys p r
moved p xs ys None same h = λ q at. h q (same q ∙ at)
moved p xs ys (Some f) same h = (sym (same f) ∙ h.0, h.1, λ q at. h.2 q (same q ∙ at))

pub no-conflict : (p : List ℕ) → IsConflict [] p None
no-conflict p = λ q at. absurd (cc)

pub single-some : (p k : List ℕ) → nest p k ≡ true → IsConflict (k ∷ []) p (Some k)
single-some p k aye = (in-itself k [], aye, λ q at too. subst (λ x. is_lt (key_cmp x k) ≡ false) (sym (in-one k q at)) (ap is_lt (own-key k)))

pub single-none : (p k : List ℕ) → nest p k ≡ false → IsConflict (k ∷ []) p None
single-none p k nay = λ q at. ap (nest p) (in-one k q at) ∙ nay

module _ (p : List ℕ) (xs ys : List (List ℕ)) where
  pub join-first : (a b : List ℕ) → IsConflict xs p (Some a) → IsConflict ys p (Some b) → is_lt (key_cmp b a) ≡ false → IsConflict (xs ++ ys) p (Some a)
  join-first a b h g nay = (
    in-left xs ys a h.0,
    h.1,
    λ q at too. elim (in-either xs ys q at) [
      | inl here ↦ h.2 q here too
      | inr there ↦ not-below-either q b a (g.2 q there too) nay
    ],
  )

  pub join-second : (a b : List ℕ) → IsConflict xs p (Some a) → IsConflict ys p (Some b) → is_lt (key_cmp b a) ≡ true → IsConflict (xs ++ ys) p (Some b)
  join-second a b h g aye = (
    in-right xs ys b g.0,
    g.1,
    λ q at too. elim (in-either xs ys q at) [
      | inl here ↦ not-below q b a (h.2 q here too) aye
      | inr there ↦ g.2 q there too
    ],
  )

  pub join-one : (a : List ℕ) → IsConflict xs p (Some a) → IsConflict ys p None → IsConflict (xs ++ ys) p (Some a)
  join-one a h g = (
    in-left xs ys a h.0,
    h.1,
    λ q at too. elim (in-either xs ys q at) [
      | inl here ↦ h.2 q here too
      | inr there ↦ absurd (let nay = g q there in cc)
    ],
  )

  pub join-other : (r : Option (List ℕ)) → IsConflict xs p None → IsConflict ys p r → IsConflict (xs ++ ys) p r
  join-other None h g = λ q at. elim (in-either xs ys q at) [ inl here ↦ h q here | inr there ↦ g q there ]
  join-other (Some b) h g = (
    in-right xs ys b g.0,
    g.1,
    λ q at too. elim (in-either xs ys q at) [
      | inl here ↦ absurd (let nay = h q here in cc)
      | inr there ↦ g.2 q there too
    ],
  )

-- the lesser of two that may be absent
module _ (p : List ℕ) (xs ys : List (List ℕ)) (a b : Option (List ℕ)) (h : IsConflict xs p a) (g : IsConflict ys p b) where
  pub lesser-other : a ≡ None → IsConflict (xs ++ ys) p b
  lesser-other none = join-other p xs ys b (subst (IsConflict xs p) none h) g

  pub lesser-one : (x : List ℕ) → a ≡ Some x → b ≡ None → IsConflict (xs ++ ys) p a
  lesser-one x is none = subst (IsConflict (xs ++ ys) p) (sym is) (join-one p xs ys x (subst (IsConflict xs p) is h) (subst (IsConflict ys p) none g))

  pub lesser-second : (x y : List ℕ) → a ≡ Some x → b ≡ Some y → is_lt (key_cmp y x) ≡ true → IsConflict (xs ++ ys) p b
  lesser-second x y is also less = subst (IsConflict (xs ++ ys) p) (sym also) (join-second p xs ys x y (subst (IsConflict xs p) is h) (subst (IsConflict ys p) also g) less)

  pub lesser-first : (x y : List ℕ) → a ≡ Some x → b ≡ Some y → is_lt (key_cmp y x) ≡ false → IsConflict (xs ++ ys) p a
  lesser-first x y is also over = subst (IsConflict (xs ++ ys) p) (sym is) (join-first p xs ys x y (subst (IsConflict xs p) is h) (subst (IsConflict ys p) also g) over)

-- what doesn't nest changes nothing
pub conflict-pass : (p : List ℕ) (xs ys : List (List ℕ)) (r : Option (List ℕ)) → IsConflict xs p r → IsConflict ys p None → IsConflict (xs ++ ys) p r
conflict-pass p xs ys None h g = join-other p xs ys None h g
conflict-pass p xs ys (Some a) h g = join-one p xs ys a h g

-- one more of some
pub conflict-more : (p : List ℕ) (ks : List (List ℕ)) (i : ℕ) (k : List ℕ) (r : Option (List ℕ)) → i < length ks → k ≡ get_or ks i k → IsConflict (take i ks ++ k ∷ []) p r → IsConflict (take (i + 1) ks) p r
conflict-more p ks i k r inside item h =
    subst (λ xs. IsConflict xs p r) (ap (λ x. take i ks ++ x ∷ []) item ∙ sym (take_more ks i k inside)) h

-- ---- the first that nests, in the order of all
-- what a search in a rising list finds
find-rising : (p : List ℕ) (ks : List (List ℕ)) (r : Option (List ℕ)) → PrefixesRise ks → IsConflict ks p r → find (nest p) ks ≡ r
unfolding IsStrictlySortedBy
find-rising p [] None rising h = refl
find-rising p [] (Some f) rising h = absurd (let nay = h.0 in cc)
find-rising p (k ∷ ks) None rising h =
    let here : nest p k ≡ false = h k (in-itself k ks) in
    rw here (find-rising p ks None rising.1 (λ q at. h q (or-right (eq_by_cmp key_cmp q k) (is_one_of ks q) at)))
find-rising p (k ∷ ks) (Some f) rising h = by (λ h. find-rising p ks (Some f) rising.1 h) (nest p k) refl (or-cases (eq_by_cmp key_cmp f k) (is_one_of ks f) h.0) where
  below : (q : List ℕ) (xs : List (List ℕ)) → AllByRecursion (λ y. key_cmp k y ≡ Less) xs → is_one_of xs q ≡ true → key_cmp k q ≡ Less
  below q [] all at = absurd (cc)
  below q (x ∷ xs) all at = elim (or-cases (eq_by_cmp key_cmp q x) (is_one_of xs q) at) [
    | inl same ↦ subst (λ y. key_cmp k y ≡ Less) (sym (same-key q x same)) all.0
    | inr later ↦ below q xs all.1 later
  ]

  by : (IsConflict ks p (Some f) → find (nest p) ks ≡ Some f) → (b : Bool) → nest p k ≡ b → (eq_by_cmp key_cmp f k ≡ true) ⊎ (is_one_of ks f ≡ true) → cond b (Some k) (find (nest p) ks) ≡ Some f
  by again true aye (inl same) = ap Some (sym (same-key f k same))
  by again true aye (inr later) =
      let under : is_lt (key_cmp k f) ≡ true = ap is_lt (below f ks rising.0 later) in
      let nay = h.2 k (in-itself k ks) aye in
      absurd (cc)
  by again false nay (inl same) = let aye : nest p k ≡ true = ap (nest p) (sym (same-key f k same)) ∙ h.1 in absurd (cc)
  by again false nay (inr later) = again (later, h.1, λ q at too. h.2 q (or-right (eq_by_cmp key_cmp q k) (is_one_of ks q) at) too)

pub conflict-is : (known : List (List ℕ)) (p : List ℕ) (r : Option (List ℕ)) → IsConflict known p r → conflict known p ≡ r
conflict-is known p r h = find-rising p (keys (set_of known)) r (rising-keys known) (moved p known (keys (set_of known)) r (λ q. sym (members-keys known q)) h)
