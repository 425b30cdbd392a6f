-- Prefixes that rise: where a search finds one of them, and which of them nest with one.
use Rattle.std.proofs.Common.{◌≡◌, ℕ, zero, suc, ◌⊎◌, inl, inr, Bool, true, false, ◌||◌, append_assoc, length-append, ◌<◌, ◌≤◌, ◌+◌, length, take, drop, get_or, List, [], ◌∷◌, ◌++◌, Some, None, Result, Ok, Err, refl, sym, ap, subst, ◌∙◌, arith}
use Rattle.std.specs.Prelude.{Contains, nat_eq, not, ◌&&◌}
use Rattle.std.specs.Cmp.{unsigned_Decides}
use Rattle.std.specs.Str.{bytes_eq}
use Rattle.std.specs.Cmp.Lexicographic.{nat_list_cmp_total}
use Rattle.std.specs.List.{AllAdjacentBelow, AllByRecursion, AllWithin, insert, starts_with}
use Rattle.std.specs.List.Sorted.{IsBinarySearchResult, IsNonDecreasingBy, IsSearchInRange, IsStrictlySortedBy}
use Rattle.std.specs.Ordering.{is_lt, nat_cmp, ordering_index, ordering_reverse}
use Rattle.std.specs.declared.cmp.Ordering.{Ordering}
use Rattle.std.specs.declared.cmp.Ordering.TheVariants.{Less, Equal, Greater}
use Rattle.std.proofs.lemmas.Bool.{cases_lt, cases_order, false_from_ne_true}
use Rattle.std.proofs.lemmas.List.{append-nil, get_or_default, length-take-le, take-append-drop, take-take}
use Rattle.std.proofs.Math.Seq.{take-append_seam}
use Rattle.std.proofs.lemmas.List.Sorted.{searchable_from_sorted}
use Rattle.std.proofs.lemmas.Map.Keys.{sorted_tail}
use Rattle.std.proofs.lemmas.Map.Lookups.{exact_bytes}
use Rattle.std.proofs.lemmas.Map.Views.{All-after_first, Contains-from_any}
use Rattle.std.proofs.lemmas.Slice.Eq.{bytes_eq-Decides, starts_is}
use Rattle.slate_types.specs.Range.{key_cmp}
use Rattle.slate_types.proofs.Prefixes.{nat_cmp-less, nat_cmp-same, not_below_empty}
use Rattle.slate_status.specs.Segments.{PrefixesRise}
use Rattle.slate_model.specs.Segments.{nest}
use Rattle.slate_segments.specs.Prefixes.{HaveSame, is_one_of}
use Rattle.slate_segments.proofs.Prefixes.{one_of-at, own-key, same-equal, same-key, same-swapped}
use Rattle.slate_segments.proofs.Taking.{same-after, same-then}
use Rattle.slate_writer.specs.Segments.{IsConflict, IsNext, IsPlace, IsSame}

-- ---- the order
turned : (a b : List ℕ) → key_cmp a b ≡ Less → key_cmp b a ≡ Greater
turned a b less = nat_list_cmp_total.antisymm b a ∙ ap ordering_reverse less

turned-back : (a b : List ℕ) → key_cmp a b ≡ Greater → key_cmp b a ≡ Less
turned-back a b greater = nat_list_cmp_total.antisymm b a ∙ ap ordering_reverse greater

-- one below another isn't above it, nor the same
not-over : (a b : List ℕ) → key_cmp a b ≡ Less → is_lt (key_cmp b a) ≡ false
not-over a b less = ap is_lt (turned a b less)

apart : (a b : List ℕ) → key_cmp a b ≡ Less → a ≡ b → ⊥
apart a b less is = let same : key_cmp a b ≡ Equal = ap (λ x. key_cmp a x) (sym is) ∙ own-key a in absurd (cc)

-- ---- those that rise, place by place
rising-at : (ks : List (List ℕ)) (i j : ℕ) (d : List ℕ) → PrefixesRise ks → i < j → j < length ks → key_cmp (get_or ks i d) (get_or ks j d) ≡ Less
rising-at [] i j d rising under inside = absurd (omega arith)
rising-at (k ∷ ks) i zero d rising under inside = absurd (omega arith)
rising-at (k ∷ ks) zero (suc j) d rising under inside = All-after_first key_cmp k ks rising j d (omega arith)
rising-at (k ∷ ks) (suc i) (suc j) d rising under inside = rising-at ks i j d (sorted_tail key_cmp k ks rising) (omega arith) (omega arith)

searchable : (ks : List (List ℕ)) (p : List ℕ) → PrefixesRise ks → IsNonDecreasingBy (λ k. ordering_index (key_cmp k p)) ks
searchable ks p rising = searchable_from_sorted nat_list_cmp_total (λ k. k) ks p (λ k d low within. not-over (get_or ks k d) (get_or ks (k + 1) d) (rising-at ks k (k + 1) d rising (omega arith) within))

-- each below the next
all-above : (x y : List ℕ) (zs : List (List ℕ)) → key_cmp x y ≡ Less → AllByRecursion (λ z. key_cmp y z ≡ Less) zs → AllByRecursion (λ z. key_cmp x z ≡ Less) zs
all-above x y [] under all = tt
all-above x y (z ∷ zs) under all = (nat_list_cmp_total.trans x y z under all.0, all-above x y zs under all.1)

each-next : (x : List ℕ) (ks : List (List ℕ)) → AllAdjacentBelow (λ a b. key_cmp a b ≡ Less) (x ∷ ks) (length (x ∷ ks)) → AllAdjacentBelow (λ a b. key_cmp a b ≡ Less) ks (length ks)
each-next x ks each k d within = subst (λ n. key_cmp (get_or ks k d) (get_or (x ∷ ks) n d) ≡ Less) {x = suc k + 1} {y = suc (k + 1)} (omega arith) (each (suc k) d (omega arith))

pub rising-adjacent : (ks : List (List ℕ)) → AllAdjacentBelow (λ a b. key_cmp a b ≡ Less) ks (length ks) → PrefixesRise ks
unfolding IsStrictlySortedBy
rising-adjacent [] each = tt
rising-adjacent (x ∷ []) each = (tt, tt)
rising-adjacent (x ∷ y ∷ zs) each =
    let rest = rising-adjacent (y ∷ zs) (λ k d within. each-next x (y ∷ zs) each k d within) in
    let under : key_cmp x y ≡ Less = each 0 x (omega arith) in
    ((under, all-above x y zs under rest.0), rest)

-- one more in its place
insert-above : (x p : List ℕ) (ks : List (List ℕ)) (i : ℕ) → key_cmp x p ≡ Less → AllByRecursion (λ k. key_cmp x k ≡ Less) ks → AllByRecursion (λ k. key_cmp x k ≡ Less) (insert ks i p)
insert-above x p [] zero under all = (under, tt)
insert-above x p [] (suc i) under all = (under, tt)
insert-above x p (k ∷ ks) zero under all = (under, all)
insert-above x p (k ∷ ks) (suc i) under all = (all.0, insert-above x p ks i under all.1)

all-from : (p : List ℕ) (ks : List (List ℕ)) → AllWithin (λ k. key_cmp k p ≡ Greater) ks 0 (length ks) → AllByRecursion (λ k. key_cmp p k ≡ Less) ks
all-from p [] over = tt
all-from p (k ∷ ks) over = (turned-back k p (over 0 k (omega arith) (omega arith)), all-from p ks (λ j d low within. over (suc j) d (omega arith) (omega arith)))

pub rising-insert : (ks : List (List ℕ)) (i : ℕ) (p : List ℕ) → PrefixesRise ks → AllWithin (λ k. key_cmp k p ≡ Less) ks 0 i → AllWithin (λ k. key_cmp k p ≡ Greater) ks i (length ks) → PrefixesRise (insert ks i p)
unfolding IsStrictlySortedBy
rising-insert [] zero p rising under over = (tt, tt)
rising-insert [] (suc i) p rising under over = (tt, tt)
rising-insert (k ∷ ks) zero p rising under over = (all-from p (k ∷ ks) over, rising)
rising-insert (k ∷ ks) (suc i) p rising under over = (
  insert-above k p ks i (under 0 k (omega arith) (omega arith)) rising.0,
  rising-insert ks i p rising.1 (λ j d low within. under (suc j) d (omega arith) (omega arith)) (λ j d low within. over (suc j) d (omega arith) (omega arith)),
)

-- it adds what a push would
pub same-insert : (ks : List (List ℕ)) (i : ℕ) (p : List ℕ) → HaveSame (insert ks i p) (ks ++ p ∷ [])
same-insert ks i p =
    same-then (insert ks i p) (take i ks ++ (drop i ks ++ p ∷ [])) (ks ++ p ∷ [])
    (same-after (take i ks) (p ∷ drop i ks) (drop i ks ++ p ∷ []) (same-swapped (p ∷ []) (drop i ks)))
    (same-equal (take i ks ++ (drop i ks ++ p ∷ [])) (ks ++ p ∷ []) (sym (append_assoc (take i ks) (drop i ks) (p ∷ [])) ∙ ap (λ xs. xs ++ p ∷ []) (take-append-drop i ks)))

-- ---- where a search finds a prefix
pub place-is : (ks : List (List ℕ)) (p : List ℕ) (r : Result ℕ ℕ) → IsSearchInRange r (length ks) → IsBinarySearchResult (λ k. key_cmp k p) ks r → PrefixesRise ks → IsPlace ks p r
place-is ks p (Ok i) inside found rising = (inside, λ d. exact_bytes (get_or ks i d) p (found d))
place-is ks p (Err i) inside found rising = let parts = found (searchable ks p rising) in (inside, parts.0, parts.1)

pub placed : (xs ks : List (List ℕ)) (p : List ℕ) (r at : Result ℕ ℕ) → xs ≡ ks → r ≡ at → IsPlace xs p r → IsPlace ks p at
placed xs ks p r at same is place = subst (IsPlace ks p) is (subst (λ x. IsPlace x p r) same place)

-- the one in that place, or none
pub same-some : (ks : List (List ℕ)) (p : List ℕ) (i : ℕ) → IsPlace ks p (Ok i) → is_one_of ks p ≡ true
same-some ks p i place = one_of-at ks i p p place.0 (sym (place.1 p)) refl

pub found-same : (ks : List (List ℕ)) (p found : List ℕ) (i : ℕ) → IsPlace ks p (Ok i) → found ≡ get_or ks i found → IsSame ks p (Some found)
found-same ks p found i place item = let is : found ≡ p = item ∙ place.1 found in (same-some ks p i place, is)

pub none-same : (ks : List (List ℕ)) (p : List ℕ) (i : ℕ) → IsPlace ks p (Err i) → IsSame ks p None
none-same ks p i place = false_from_ne_true (is_one_of ks p) (λ h. let w : Contains ks p = Contains-from_any same-key p ks h in elim (cases_lt w.0 i) [
  | inl before ↦ apart (get_or ks w.0 p) p (place.1 w.0 p (omega arith) before) w.2
  | inr after ↦ apart p (get_or ks w.0 p) (turned-back (get_or ks w.0 p) p (place.2 w.0 p after w.1)) (sym w.2)
])

-- ---- the next above a prefix
-- none before this place is above it, and all from there on are
abbrev pub IsCut : (ks : List (List ℕ)) → List ℕ → ℕ → Type 0
IsCut ks p n = AllWithin (λ k. is_lt (key_cmp p k) ≡ false) ks 0 n × AllWithin (λ k. key_cmp p k ≡ Less) ks n (length ks)

pub cut-ok : (ks : List (List ℕ)) (p : List ℕ) (i : ℕ) → PrefixesRise ks → IsPlace ks p (Ok i) → IsCut ks p (i + 1)
cut-ok ks p i rising place = (
  λ j d low within. elim (cases_lt j i) [
    | inl before ↦ not-over (get_or ks j d) p (subst (λ x. key_cmp (get_or ks j d) x ≡ Less) (place.1 d) (rising-at ks j i d rising before place.0))
    | inr here ↦ let same : j ≡ i = omega arith in subst (λ n. is_lt (key_cmp p (get_or ks n d)) ≡ false) (sym same) (subst (λ x. is_lt (key_cmp p x) ≡ false) (sym (place.1 d)) (ap is_lt (own-key p)))
  ],
  λ j d low within. subst (λ x. key_cmp x (get_or ks j d) ≡ Less) (place.1 d) (rising-at ks i j d rising (omega arith) within),
)

pub cut-err : (ks : List (List ℕ)) (p : List ℕ) (i : ℕ) → IsPlace ks p (Err i) → IsCut ks p i
cut-err ks p i place = (
  λ j d low within. not-over (get_or ks j d) p (place.1 j d low within),
  λ j d low within. turned-back (get_or ks j d) p (place.2 j d low within),
)

pub next-some : (ks : List (List ℕ)) (p k : List ℕ) (n : ℕ) → PrefixesRise ks → IsCut ks p n → n < length ks → k ≡ get_or ks n k → IsNext ks p (Some k)
next-some ks p k n rising cut inside item = (
  one_of-at ks n k k inside item refl,
  subst (λ x. key_cmp p x ≡ Less) (sym item) (cut.1 n k (omega arith) inside),
  λ q at over. let w : Contains ks q = Contains-from_any same-key q ks at in
      elim (cases_order w.0 n) [
        | inl here ↦
            let same : q ≡ k = sym w.2 ∙ (ap (λ j. get_or ks j q) here ∙ (get_or_default ks n q k inside ∙ sym item)) in
            subst (λ x. is_lt (key_cmp x k) ≡ false) (sym same) (ap is_lt (own-key k))
        | inr other ↦ elim other [
          | inl before ↦
              let nay : is_lt (key_cmp p q) ≡ false = subst (λ x. is_lt (key_cmp p x) ≡ false) w.2 (cut.0 w.0 q (omega arith) before) in
              let aye : is_lt (key_cmp p q) ≡ true = ap is_lt over in
              absurd (cc)
          | inr after ↦
              not-over k q (subst (λ x. key_cmp x q ≡ Less) (get_or_default ks n q k inside ∙ sym item) (subst (λ x. key_cmp (get_or ks n q) x ≡ Less) w.2 (rising-at ks n w.0 q rising after w.1)))
        ]
      ],
)

pub next-none : (ks : List (List ℕ)) (p : List ℕ) (n : ℕ) → IsCut ks p n → length ks ≤ n → IsNext ks p None
next-none ks p n cut past = λ q at. let w : Contains ks q = Contains-from_any same-key q ks at in
    subst (λ x. is_lt (key_cmp p x) ≡ false) w.2 (cut.0 w.0 q (omega arith) (let inside = w.1 in omega arith))

pub cut-of : (ks : List (List ℕ)) (p : List ℕ) (r : Result ℕ ℕ) (n : ℕ) → PrefixesRise ks → IsPlace ks p r → ((i : ℕ) × (r ≡ Ok i) × (n ≡ i + 1)) ⊎ ((i : ℕ) × (r ≡ Err i) × (n ≡ i)) → IsCut ks p n
cut-of ks p r n rising place (inl w) = subst (IsCut ks p) (sym w.2) (cut-ok ks p w.0 rising (subst (IsPlace ks p) w.1 place))
cut-of ks p r n rising place (inr w) = subst (IsCut ks p) (sym w.2) (cut-err ks p w.0 (subst (IsPlace ks p) w.1 place))

-- ---- what begins a prefix
-- what begins another isn't above it
begins-below : (a s : List ℕ) → is_lt (key_cmp (a ++ s) a) ≡ false
begins-below [] s = not_below_empty s
begins-below (x ∷ a) s = rw (nat_cmp-same x) (begins-below a s)

-- and begins what stands between it and another that it begins
between : (p x s : List ℕ) → is_lt (key_cmp x p) ≡ false → is_lt (key_cmp (p ++ s) x) ≡ false → (t : List ℕ) × (x ≡ p ++ t)
between [] x s above below = (x, refl)
between (b ∷ p) [] s above below = absurd (cc)
between (b ∷ p) (y ∷ x) s above below = elim (cases_order b y) [
  | inl same ↦
      let w = between p x s (rw (ap (λ z. nat_cmp y z) same ∙ nat_cmp-same y) at above) (rw (ap (λ z. nat_cmp z y) same ∙ nat_cmp-same y) at below) in
      (w.0, let tail : x ≡ p ++ w.0 = w.1 in cc)
  | inr other ↦ elim other [
    | inl under ↦ let aye : true ≡ false = rw (nat_cmp-less b y under) at below in absurd (cc)
    | inr over ↦ let aye : true ≡ false = rw (nat_cmp-less y b over) at above in absurd (cc)
  ]
]

-- ---- what nests with a prefix
nest-true : (a b c : Bool) → a ≡ false → (b ≡ true) ⊎ (c ≡ true) → (not a && (b || c)) ≡ true
nest-true true b c nay either = absurd (cc)
nest-true false true c nay either = refl
nest-true false false c nay (inl h) = absurd (cc)
nest-true false false c nay (inr h) = h

nest-parts : (a b c : Bool) → (not a && (b || c)) ≡ true → (a ≡ false) × ((b ≡ true) ⊎ (c ≡ true))
nest-parts true b c h = absurd (cc)
nest-parts false true c h = (refl, inl refl)
nest-parts false false c h = (refl, inr h)

differ : (p q : List ℕ) → bytes_eq p q ≡ false → p ≡ q → ⊥
differ p q nay is = let aye : bytes_eq p q ≡ true = (bytes_eq-Decides p q).1 is in absurd (cc)

-- it begins the prefix and is shorter, or is above the prefix and begins with it
Nests : List ℕ → List ℕ → Type 0
Nests p q = ((k : ℕ) × (k < length p) × (q ≡ take k p)) ⊎ ((s : List ℕ) × (q ≡ p ++ s) × (key_cmp p q ≡ Less))

shorter : (p q r : List ℕ) → p ≡ q ++ r → (p ≡ q → ⊥) → (k : ℕ) × (k < length p) × (q ≡ take k p)
shorter p q [] is apart = absurd (apart (is ∙ append-nil q))
shorter p q (x ∷ r) is apart = (
  length q,
  let long : length p ≡ length (q ++ x ∷ r) = ap length is in omega (arith, length-append q (x ∷ r)),
  sym (ap (take (length q)) is ∙ take-append_seam q (x ∷ r)),
)

above-of : (p q s : List ℕ) → q ≡ p ++ s → (p ≡ q → ⊥) → key_cmp p q ≡ Less
above-of p q s is apart = by (key_cmp p q) refl where
  by : (r : Ordering) → key_cmp p q ≡ r → key_cmp p q ≡ Less
  by Less at = at
  by Equal at = absurd (apart (exact_bytes p q at))
  by Greater at =
      let aye : is_lt (key_cmp q p) ≡ true = ap is_lt (turned-back p q at) in
      let nay : is_lt (key_cmp q p) ≡ false = subst (λ x. is_lt (key_cmp x p) ≡ false) (sym is) (begins-below p s) in
      absurd (cc)

nests : (p q : List ℕ) → nest p q ≡ true → Nests p q
unfolding Nests
nests p q h =
    let parts = nest-parts (bytes_eq p q) (starts_with nat_eq p q) (starts_with nat_eq q p) h in
    elim parts.1 [
      | inl begins ↦ inl (shorter p q (drop (length q) p) ((starts_is unsigned_Decides p q (starts_with nat_eq p q) refl).0 begins) (differ p q parts.0))
      | inr begun ↦
          let is = (starts_is unsigned_Decides q p (starts_with nat_eq q p) refl).0 begun in
          inr (drop (length p) q, is, above-of p q (drop (length p) q) is (differ p q parts.0))
    ]

nest-begin : (p : List ℕ) (n : ℕ) → n < length p → nest p (take n p) ≡ true
nest-begin p n short =
    nest-true (bytes_eq p (take n p)) (starts_with nat_eq p (take n p)) (starts_with nat_eq (take n p) p)
    (false_from_ne_true (bytes_eq p (take n p)) (λ h. let long : length p ≡ length (take n p) = ap length ((bytes_eq-Decides p (take n p)).0 h) in absurd (omega (arith, length-take-le n p (omega arith)))))
    (inl ((starts_is unsigned_Decides p (take n p) (starts_with nat_eq p (take n p)) refl).1 (drop n p) (sym (take-append-drop n p))))

nest-above : (p k : List ℕ) → key_cmp p k ≡ Less → starts_with nat_eq k p ≡ true → nest p k ≡ true
nest-above p k over begun =
    nest-true (bytes_eq p k) (starts_with nat_eq p k) (starts_with nat_eq k p)
    (false_from_ne_true (bytes_eq p k) (λ h. apart p k over ((bytes_eq-Decides p k).0 h)))
    (inr begun)

-- ---- the least that nests
-- none that is shorter and begins the prefix
abbrev pub AreNone : (ks : List (List ℕ)) → List ℕ → ℕ → Type 0
AreNone ks p n = (k : ℕ) → k < n → is_one_of ks (take k p) ≡ false

begins-again : (p q : List ℕ) (n : ℕ) → n < length p → ((k : ℕ) → k < n → q ≡ take k p → ⊥) → Nests p q → (t : List ℕ) × (q ≡ take n p ++ t)
unfolding Nests
begins-again p q n short none (inl w) = elim (cases_lt w.0 n) [
  | inl under ↦ absurd (none w.0 under w.2)
  | inr over ↦ (drop n (take w.0 p), w.2 ∙ (sym (take-append-drop n (take w.0 p)) ∙ ap (λ x. x ++ drop n (take w.0 p)) (take-take n w.0 p over)))
]
begins-again p q n short none (inr w) = (drop n p ++ w.0, w.1 ∙ (ap (λ x. x ++ w.0) (sym (take-append-drop n p)) ∙ append_assoc (take n p) (drop n p) w.0))

-- the shortest that begins the prefix
pub conflict-begin : (ks : List (List ℕ)) (p found : List ℕ) (n : ℕ) → n < length p → AreNone ks p n → is_one_of ks (take n p) ≡ true → found ≡ take n p → IsConflict ks p (Some found)
conflict-begin ks p found n short none here is = (
  ap (is_one_of ks) is ∙ here,
  ap (nest p) is ∙ nest-begin p n short,
  λ q at too.
      let w = begins-again p q n short (λ k under same. let nay = none k under in let aye : is_one_of ks (take k p) ≡ true = ap (is_one_of ks) (sym same) ∙ at in absurd (cc)) (nests p q too) in
      subst (λ x. is_lt (key_cmp q x) ≡ false) (sym is) (subst (λ x. is_lt (key_cmp x (take n p)) ≡ false) (sym w.1) (begins-below (take n p) w.0)),
)

-- or else the next above it, where the prefix begins that
later : (ks : List (List ℕ)) (p q : List ℕ) → AreNone ks p (length p) → is_one_of ks q ≡ true → nest p q ≡ true → (s : List ℕ) × (q ≡ p ++ s) × (key_cmp p q ≡ Less)
unfolding Nests
later ks p q none at too = elim (nests p q too) [
  | inl w ↦ let nay = none w.0 w.1 in let aye : is_one_of ks (take w.0 p) ≡ true = ap (is_one_of ks) (sym w.2) ∙ at in absurd (cc)
  | inr w ↦ w
]

pub conflict-next : (ks : List (List ℕ)) (p k : List ℕ) → AreNone ks p (length p) → IsNext ks p (Some k) → starts_with nat_eq k p ≡ true → IsConflict ks p (Some k)
conflict-next ks p k none next begun = (next.0, nest-above p k next.1 begun, λ q at too. next.2 q at (later ks p q none at too).2)

pub conflict-apart : (ks : List (List ℕ)) (p k : List ℕ) → AreNone ks p (length p) → IsNext ks p (Some k) → starts_with nat_eq k p ≡ false → IsConflict ks p None
conflict-apart ks p k none next nay = λ q at. false_from_ne_true (nest p q) (λ too.
    let w = later ks p q none at too in
    let t = between p k w.0 (not-over p k next.1) (subst (λ x. is_lt (key_cmp x k) ≡ false) w.1 (next.2 q at w.2)) in
    let aye : starts_with nat_eq k p ≡ true = (starts_is unsigned_Decides k p (starts_with nat_eq k p) refl).1 t.0 t.1 in
    absurd (cc))

pub conflict-none : (ks : List (List ℕ)) (p : List ℕ) → AreNone ks p (length p) → IsNext ks p None → IsConflict ks p None
conflict-none ks p none next = λ q at. false_from_ne_true (nest p q) (λ too.
    let w = later ks p q none at too in
    let nay = next q at in
    let aye : is_lt (key_cmp p q) ≡ true = ap is_lt w.2 in
    absurd (cc))
