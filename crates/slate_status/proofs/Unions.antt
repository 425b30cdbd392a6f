-- Prefixes that are joined are a union, and adding those that are there adds nothing.
use Rattle.std.proofs.Common.{◌≡◌, ℕ, ◌+◌, ◌<◌, ◌⊎◌, inl, inr, false, true, List, [], ◌∷◌, ◌++◌, length, take, get_or, map, Result, Ok, Err, refl, ap, subst, sym, ◌∙◌, Bool}
use Rattle.std.specs.Prelude.{All, Contains, IfOk, T, cond, is_ok, is_some, ◌&&◌, ◌||◌, Option, Some}
use Rattle.std.specs.FinMap.{FinMap, contains_key, contains_key-keys, entries, entries_sorted, get, get-empty, get-insert, keys}
use Rattle.std.specs.FinMap.Entries.{below_all, is_sorted}
use Rattle.std.specs.List.{AllByRecursion, HoldsAt, list_any}
use Rattle.std.specs.declared.cmp.Ordering.{Ordering}
use Rattle.std.specs.declared.cmp.Ordering.TheVariants.{Less, Equal, Greater}
use Rattle.std.proofs.lemmas.List.{take_more}
use Rattle.std.specs.BTreeSet.{BTreeSet, IsFromIterResult}
use Rattle.std.specs.Ordering.{eq_by_cmp, is_lt, nat_cmp}
use Rattle.std.specs.Cmp.Lexicographic.{slice_cmp, nat_list_cmp_total}
use Rattle.std.proofs.lemmas.List.Elements.{All-push, Contains-append_left, Contains-append_right, Contains-append_cases}
use Rattle.std.proofs.lemmas.Map.Lookups.{btree_set_from_contains, exact_bytes}
use Rattle.std.proofs.lemmas.Map.Views.{btree_set_contains_iff, btree_set_contains_from_list}
use Rattle.std.specs.List.Sorted.{IsSearchInRange, IsStrictlySortedBy}
use Rattle.slate_status.specs.Records.{Record, Reports, with_segments}
use Rattle.slate_status.specs.Segments.{PrefixesRise, IsUnion, set_of, union_of}
use Rattle.slate_status.specs.declared.segments.SegmentPrefix.{SegmentPrefix}

in_either : (first second : List (List ℕ)) (p : List ℕ) → Contains first p ⊎ Contains second p → Contains (first ++ second) p
in_either first second p (inl h) = Contains-append_left first second p h
in_either first second p (inr h) = Contains-append_right first second p h

-- a set of all prefixes of two lists is their union
pub union_of_set : (first second all union : List (List ℕ)) (set : BTreeSet (List ℕ)) → all ≡ first ++ second → IsFromIterResult (slice_cmp nat_cmp) all set → union ≡ set.keys → IsUnion first second union
union_of_set first second all union set joined made listed =
    let of_set = λ (p : List ℕ). btree_set_contains_iff nat_list_cmp_total exact_bytes set p in
    let of_all = λ (p : List ℕ). btree_set_contains_from_list nat_list_cmp_total exact_bytes all set made p in
    record {
      rising = subst (λ (ps : List (List ℕ)). IsStrictlySortedBy (slice_cmp nat_cmp) ps) (sym listed) made.1;
      members = λ p. (
        λ h. Contains-append_cases first second p (subst (λ ps. Contains ps p) joined ((of_all p).0 ((of_set p).1 (subst (λ ps. Contains ps p) listed h)))),
        λ h. subst (λ ps. Contains ps p) (sym listed) ((of_set p).0 ((of_all p).1 (subst (λ ps. Contains ps p) (sym joined) (in_either first second p h)))),
      );
    }

-- what two tests tell where both hold
and-left : (a b : Bool) → T (a && b) → T a
and-left true b h = tt
and-left false b h = h

and-right : (a b : Bool) → T (a && b) → T b
and-right true b h = h
and-right false b h = absurd h

less-is : (r : Ordering) → T (is_lt r) → r ≡ Less
less-is Less h = refl
less-is Equal h = absurd h
less-is Greater h = absurd h

-- the members of a set stand in their order
rising-below : (p : List ℕ) (es : List (List ℕ × Unit {0})) → T (below_all (slice_cmp nat_cmp) p es) → AllByRecursion (λ q. slice_cmp nat_cmp p q ≡ Less) (map (λ (e : List ℕ × Unit {0}). e.0) es)
rising-below p [] h = tt
rising-below p (e ∷ es) h = (less-is (slice_cmp nat_cmp p e.0) (and-left _ _ h), rising-below p es (and-right _ _ h))

rising-entries : (es : List (List ℕ × Unit {0})) → T (is_sorted (slice_cmp nat_cmp) es) → PrefixesRise (map (λ (e : List ℕ × Unit {0}). e.0) es)
unfolding IsStrictlySortedBy
rising-entries [] h = tt
rising-entries (e ∷ es) h = (rising-below e.0 es (and-left _ _ h), rising-entries es (and-right _ _ h))

either-is_some : (b : Bool) (x : Option (Unit {0})) → is_some (cond b (Some tt) x) ≡ (b || is_some x)
either-is_some true x = refl
either-is_some false x = refl

-- the set of a list has its members
members-set_of : (ps : List (List ℕ)) (q : List ℕ) → list_any (eq_by_cmp (slice_cmp nat_cmp) q) ps ≡ contains_key (set_of ps) q
members-set_of [] q = sym (ap is_some (get-empty (slice_cmp nat_cmp) q))
members-set_of (p ∷ ps) q =
    let b = eq_by_cmp (slice_cmp nat_cmp) q p in
    ap (λ c. b || c) (members-set_of ps q) ∙ sym (ap is_some (get-insert nat_list_cmp_total (set_of ps) p tt q) ∙ either-is_some b (get (set_of ps) q))

-- a set of all prefixes of two lists has the members of their union, in their order
pub set_is_union : (first second all union : List (List ℕ)) (set : BTreeSet (List ℕ)) → all ≡ first ++ second → IsFromIterResult (slice_cmp nat_cmp) all set → union ≡ set.keys → union ≡ union_of first second
set_is_union first second all union set joined made listed =
    let either : FinMap (slice_cmp nat_cmp) (Unit {0}) = set_of (first ++ second) in
    listed ∙ btree_set_from_contains nat_list_cmp_total set (record { keys = keys either }) made.1 (rising-entries (entries either) (entries_sorted either))
    (λ q. made.0 q ∙ (ap (list_any (eq_by_cmp (slice_cmp nat_cmp) q)) joined ∙ (members-set_of (first ++ second) q ∙ contains_key-keys either q))) exact_bytes

-- no prefix is rising
pub rising-nil : PrefixesRise []
unfolding IsStrictlySortedBy
rising-nil = tt

-- segments of these prefixes have them
pub prefixes_of_named : (prefixes : List (List ℕ)) → map (λ (s : SegmentPrefix). s.prefix) (map (λ (p : List ℕ). record { prefix = p }) prefixes) ≡ prefixes
prefixes_of_named [] = refl
prefixes_of_named (p ∷ ps) = ap (λ qs. p ∷ qs) (prefixes_of_named ps)

-- a prefix that a search finds is there
pub contains_found : (present : List (List ℕ)) (p : List ℕ) (r : Result ℕ ℕ) → IsSearchInRange r (length present) → IfOk r (HoldsAt (λ y. slice_cmp nat_cmp y p ≡ Equal) present) → is_ok r ≡ true → Contains present p
contains_found present p (Ok i) within here found = (i, within, exact_bytes _ _ (here p))
contains_found present p (Err i) within here found = absurd (cc)

-- one more of the prefixes is there
pub All-take_more : (present prefixes : List (List ℕ)) (i : ℕ) (p : List ℕ) → i < length prefixes → p ≡ get_or prefixes i p → Contains present p → All (Contains present) (take i prefixes) → All (Contains present) (take (i + 1) prefixes)
All-take_more present prefixes i p within is here before =
    rw (take_more prefixes i p within) (All-push (Contains present) (take i prefixes) (get_or prefixes i p) before (subst (λ q. Contains present q) is here))

-- where all are there, the union is what is there, and nothing is reported
pub nothing_added : (old : Record) (present prefixes : List (List ℕ)) → present ≡ old.segments → PrefixesRise present → All (Contains present) prefixes
    → (added : List (List ℕ)) × IsUnion old.segments prefixes added × Reports old (with_segments added old) old false
nothing_added old present prefixes is rising all = (
  old.segments,
  subst (λ ps. IsUnion ps prefixes ps) is (record { rising = rising; members = λ p. (λ h. inl h, either p) }),
  record { differs = λ h. absurd (cc); same = λ _. refl; after = refl },
)
  where
    either : (p : List ℕ) → Contains present p ⊎ Contains prefixes p → Contains present p
    either p (inl h) = h
    either p (inr h) = subst (λ q. Contains present q) h.2 (all h.0 p h.1)
