-- Which prefixes lists and sets have.
use Rattle.std.proofs.Common.{◌≡◌, ℕ, ◌⊎◌, inl, inr, ◌||◌, Bool, true, false, cond, ◌<◌, length, get_or, List, [], ◌∷◌, ◌++◌, map, Option, Some, None, refl, sym, ap, subst, ◌∙◌}
use Rattle.std.specs.Prelude.{T, ◌&&◌, is_some}
use Rattle.std.specs.BTreeSet.{BTreeSet}
use Rattle.std.specs.Cmp.{eq_by_cmp_equiv, tied_itself}
use Rattle.std.proofs.lemmas.Map.Views.{list_any-from_Contains}
use Rattle.std.specs.Cmp.Lexicographic.{nat_list_cmp_total}
use Rattle.std.specs.FinMap.{FinMap, contains_key, contains_key-keys, entries, entries_sorted, get, get-empty, get-insert, keys}
use Rattle.std.specs.FinMap.Entries.{below_all, is_sorted}
use Rattle.std.specs.List.{AllByRecursion}
use Rattle.std.specs.List.Sorted.{IsStrictlySortedBy}
use Rattle.std.specs.Ordering.{eq_by_cmp, is_eq, is_lt, ordering_reverse}
use Rattle.std.specs.declared.cmp.Ordering.{Ordering}
use Rattle.std.specs.declared.cmp.Ordering.TheVariants.{Less, Equal, Greater}
use Rattle.std.proofs.lemmas.List.Folds.{list_any-append}
use Rattle.std.proofs.lemmas.Map.Lookups.{btree_set_from_contains, exact_bytes}
use Rattle.slate_types.specs.Range.{key_cmp}
use Rattle.slate_status.specs.Segments.{PrefixesRise, set_of, union_of}
use Rattle.slate_segments.specs.Prefixes.{HaveSame, is_one_of}

-- ---- the order
pub less-of : (r : Ordering) → is_lt r ≡ true → r ≡ Less
less-of Less h = refl
less-of Equal h = absurd (cc)
less-of Greater h = absurd (cc)

equal-of : (r : Ordering) → is_eq r ≡ true → r ≡ Equal
equal-of Less h = absurd (cc)
equal-of Equal h = refl
equal-of Greater h = absurd (cc)

eq-reverse : (r : Ordering) → is_eq (ordering_reverse r) ≡ is_eq r
eq-reverse Less = refl
eq-reverse Equal = refl
eq-reverse Greater = refl

pub same-key : (a b : List ℕ) → eq_by_cmp key_cmp a b ≡ true → a ≡ b
same-key a b h = exact_bytes a b (equal-of (key_cmp a b) h)

pub own-key : (a : List ℕ) → key_cmp a a ≡ Equal
own-key a = tied_itself nat_list_cmp_total a

either-way : (a b : List ℕ) → eq_by_cmp key_cmp a b ≡ eq_by_cmp key_cmp b a
either-way a b = ap is_eq (nat_list_cmp_total.antisymm a b) ∙ eq-reverse (key_cmp b a)

-- ---- members
pub or-cases : (a b : Bool) → (a || b) ≡ true → (a ≡ true) ⊎ (b ≡ true)
or-cases true b h = inl refl
or-cases false b h = inr h

or-left : (a b : Bool) → a ≡ true → (a || b) ≡ true
or-left true b h = refl
or-left false b h = absurd (cc)

pub or-right : (a b : Bool) → b ≡ true → (a || b) ≡ true
or-right true b h = refl
or-right false b h = h

pub one_of-append : (xs ys : List (List ℕ)) (q : List ℕ) → is_one_of (xs ++ ys) q ≡ (is_one_of xs q || is_one_of ys q)
one_of-append xs ys q = list_any-append (eq_by_cmp key_cmp q) xs ys

pub in-left : (xs ys : List (List ℕ)) (q : List ℕ) → is_one_of xs q ≡ true → is_one_of (xs ++ ys) q ≡ true
in-left xs ys q h = one_of-append xs ys q ∙ or-left (is_one_of xs q) (is_one_of ys q) h

pub in-right : (xs ys : List (List ℕ)) (q : List ℕ) → is_one_of ys q ≡ true → is_one_of (xs ++ ys) q ≡ true
in-right xs ys q h = one_of-append xs ys q ∙ or-right (is_one_of xs q) (is_one_of ys q) h

pub in-either : (xs ys : List (List ℕ)) (q : List ℕ) → is_one_of (xs ++ ys) q ≡ true → (is_one_of xs q ≡ true) ⊎ (is_one_of ys q ≡ true)
in-either xs ys q h = or-cases (is_one_of xs q) (is_one_of ys q) (sym (one_of-append xs ys q) ∙ h)

pub in-itself : (k : List ℕ) (ks : List (List ℕ)) → is_one_of (k ∷ ks) k ≡ true
in-itself k ks = or-left (eq_by_cmp key_cmp k k) (is_one_of ks k) (ap is_eq (own-key k))

pub in-one : (k q : List ℕ) → is_one_of (k ∷ []) q ≡ true → q ≡ k
in-one k q h = elim (or-cases (eq_by_cmp key_cmp q k) false h) [ inl same ↦ same-key q k same | inr nay ↦ absurd (cc) ]

-- ---- sets
and-left : (a b : Bool) → T (a && b) → T a
and-left true b h = tt
and-left false b h = h

and-right : (a b : Bool) → T (a && b) → T b
and-right true b h = h
and-right false b h = absurd h

less-is : (r : Ordering) → T (is_lt r) → r ≡ Less
less-is Less h = refl
less-is Equal h = absurd h
less-is Greater h = absurd h

rising-below : (p : List ℕ) (es : List (List ℕ × Unit {0})) → T (below_all key_cmp p es) → AllByRecursion (λ q. key_cmp p q ≡ Less) (map (λ (e : List ℕ × Unit {0}). e.0) es)
rising-below p [] h = tt
rising-below p (e ∷ es) h = (less-is (key_cmp p e.0) (and-left _ _ h), rising-below p es (and-right _ _ h))

rising-entries : (es : List (List ℕ × Unit {0})) → T (is_sorted key_cmp es) → PrefixesRise (map (λ (e : List ℕ × Unit {0}). e.0) es)
unfolding IsStrictlySortedBy
rising-entries [] h = tt
rising-entries (e ∷ es) h = (rising-below e.0 es (and-left _ _ h), rising-entries es (and-right _ _ h))

pub rising-keys : (ps : List (List ℕ)) → PrefixesRise (keys (set_of ps))
rising-keys ps = let s : FinMap key_cmp (Unit {0}) = set_of ps in rising-entries (entries s) (entries_sorted s)

either-is_some : (b : Bool) (x : Option (Unit {0})) → is_some (cond b (Some tt) x) ≡ (b || is_some x)
either-is_some true x = refl
either-is_some false x = refl

members-set_of : (ps : List (List ℕ)) (q : List ℕ) → is_one_of ps q ≡ contains_key (set_of ps) q
members-set_of [] q = sym (ap is_some (get-empty key_cmp q))
members-set_of (p ∷ ps) q =
    let b = eq_by_cmp key_cmp q p in
    ap (λ c. b || c) (members-set_of ps q) ∙ sym (ap is_some (get-insert nat_list_cmp_total (set_of ps) p tt q) ∙ either-is_some b (get (set_of ps) q))

pub members-keys : (ps : List (List ℕ)) → HaveSame (keys (set_of ps)) ps
members-keys ps q = sym (contains_key-keys (set_of ps) q) ∙ sym (members-set_of ps q)

-- two rising lists of the same prefixes are one
pub rising-same : (a b : List (List ℕ)) → PrefixesRise a → PrefixesRise b → HaveSame a b → a ≡ b
rising-same a b ra rb same = btree_set_from_contains nat_list_cmp_total (record { keys = a }) (record { keys = b }) ra rb same exact_bytes

-- a rising list of the prefixes of two lists is their union
pub union-is : (some others all : List (List ℕ)) → PrefixesRise all → HaveSame all (some ++ others) → all ≡ union_of some others
union-is some others all rising same = rising-same all (union_of some others) rising (rising-keys (some ++ others)) (λ q. same q ∙ sym (members-keys (some ++ others) q))

-- ---- what an insertion adds
or-swap : (a b : Bool) → cond a true b ≡ (b || (a || false))
or-swap true true = refl
or-swap true false = refl
or-swap false true = refl
or-swap false false = refl

pub inserted : (old new : List (List ℕ)) (k : List ℕ) → ((q : List ℕ) → is_one_of new q ≡ cond (eq_by_cmp key_cmp k q) true (is_one_of old q)) → HaveSame new (old ++ k ∷ [])
inserted old new k h q =
    h q ∙ ap (λ c. cond c true (is_one_of old q)) (either-way k q) ∙ (or-swap (eq_by_cmp key_cmp q k) (is_one_of old q) ∙ sym (one_of-append old (k ∷ []) q))

-- ---- all of them, or none
pub no-rising : PrefixesRise []
unfolding IsStrictlySortedBy
no-rising = tt

pub rising-kept : (keep : Bool) (some all : List (List ℕ)) → PrefixesRise all → some ≡ cond keep all [] → PrefixesRise some
rising-kept true some all rising is = subst PrefixesRise (sym is) rising
rising-kept false some all rising is = subst PrefixesRise (sym is) no-rising

or-none : (a b : Bool) → b ≡ false → (a || b) ≡ a
or-none true b none = refl
or-none false b none = none

-- a prefix that is there already adds nothing
pub same-known : (old : List (List ℕ)) (k : List ℕ) → is_one_of old k ≡ true → HaveSame old (old ++ k ∷ [])
same-known old k known q = by (eq_by_cmp key_cmp q k) refl ∙ sym (one_of-append old (k ∷ []) q) where
  by : (b : Bool) → eq_by_cmp key_cmp q k ≡ b → is_one_of old q ≡ (is_one_of old q || is_one_of (k ∷ []) q)
  by true same =
      let here : is_one_of old q ≡ true = ap (is_one_of old) (same-key q k same) ∙ known in
      here ∙ sym (or-left (is_one_of old q) (is_one_of (k ∷ []) q) here)
  by false apart = sym (or-none (is_one_of old q) (is_one_of (k ∷ []) q) (ap (λ c. c || false) apart))

pub same-equal : (a b : List (List ℕ)) → a ≡ b → HaveSame a b
same-equal a b is q = ap (λ ps. is_one_of ps q) is

or-comm : (a b : Bool) → (a || b) ≡ (b || a)
or-comm true true = refl
or-comm true false = refl
or-comm false true = refl
or-comm false false = refl

pub same-swapped : (a b : List (List ℕ)) → HaveSame (a ++ b) (b ++ a)
same-swapped a b q = one_of-append a b q ∙ (or-comm (is_one_of a q) (is_one_of b q) ∙ sym (one_of-append b a q))

-- a prefix that is one of these
pub one_of-equal : (k q : List ℕ) (ks : List (List ℕ)) → k ≡ q → is_one_of (k ∷ ks) q ≡ true
one_of-equal k q ks is = or-left (eq_by_cmp key_cmp q k) (is_one_of ks q) (ap (λ x. is_eq (key_cmp q x)) is ∙ ap is_eq (own-key q))

pub one_of-at : (ks : List (List ℕ)) (i : ℕ) (k q : List ℕ) → i < length ks → k ≡ get_or ks i k → k ≡ q → is_one_of ks q ≡ true
one_of-at ks i k q inside item same =
    list_any-from_Contains (eq_by_cmp_equiv nat_list_cmp_total) q ks (i, inside, subst (λ y. get_or ks i y ≡ y) same (sym item))

-- the union of two lists has their prefixes
pub union-same : (some others all : List (List ℕ)) → all ≡ union_of some others → HaveSame all (some ++ others)
union-same some others all is q = ap (λ ps. is_one_of ps q) is ∙ members-keys (some ++ others) q

pub union-rising : (some others all : List (List ℕ)) → all ≡ union_of some others → PrefixesRise all
union-rising some others all is = subst PrefixesRise (sym is) (rising-keys (some ++ others))
