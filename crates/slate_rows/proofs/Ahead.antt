-- The next key of walks comes before all that are ahead of them then, and the keys ahead can be put in order.
use Rattle.std.proofs.Common.{◌≡◌, inl, inr, ◌⊎◌, refl, sym, ◌∙◌, ap, subst, ℕ, ◌<◌, ◌≤◌, zero, suc, Bool, true, false, cond, List, [], ◌∷◌, ◌++◌, Contains, length, reverse, Option, Some, None, MatchOption, arith, length-append}
use Rattle.std.specs.List.{AllByRecursion}
use Rattle.std.specs.List.Sorted.{IsStrictlySortedBy}
use Rattle.std.specs.Option.{option_copied}
use Rattle.std.specs.Str.{bytes_eq}
use Rattle.std.specs.declared.cmp.Ordering.{Ordering}
use Rattle.std.specs.declared.cmp.Ordering.TheVariants.{Less, Equal, Greater}
use Rattle.std.specs.Ordering.{is_lt, is_eq, ordering_reverse}
use Rattle.std.proofs.lemmas.Bool.{false≢true}
use Rattle.std.proofs.lemmas.Cmp.{tied_itself}
use Rattle.std.proofs.lemmas.List.{append-nil, reverse-append}
use Rattle.std.proofs.lemmas.List.Concat.{flat_map-append}
use Rattle.std.proofs.lemmas.Slice.Eq.{bytes_eq-Decides}
use Rattle.slate_types.specs.declared.scan_options.IterationOrder.{IterationOrder}
use Rattle.slate_types.specs.declared.scan_options.IterationOrder.TheVariants.{Ascending, Descending}
use Rattle.slate_types.specs.Order.{order_cmp, is_before, AreInOrder}
use Rattle.slate_types.specs.Range.{key_cmp}
use Rattle.slate_reads.proofs.Lists.{all-append, all-reverse, all-weaker}
use Rattle.slate_rows.specs.declared.table_walks.Walk.{Walk}
use Rattle.slate_rows.specs.Ahead.{turned, from_next, ahead, all_ahead, earlier, AreEach, AreAhead, IsNotBefore, IsOther, IsNext, IsFirst, Passes, Pass}
use Rattle.slate_rows.proofs.Passing.{order_cmp-total}
use Rattle.slate_rows.proofs.Scanning.{bytes_eq-same, after}
use Rattle.slate_rows.proofs.Steps.{ties-keys}

-- ---- what is in a list
abbrev pub IsIn : {A : Type 0} → A → List A → Type 0
IsIn x [] = ⊥
IsIn x (y ∷ ys) = (x ≡ y) ⊎ IsIn x ys

pub to_in : {A : Type 0} (xs : List A) (x : A) → Contains xs x → IsIn x xs
to_in [] x (k, lt, at) = absurd (omega arith)
to_in (y ∷ xs) x (zero, lt, at) = inl (sym at)
to_in (y ∷ xs) x (suc k, lt, at) = inr (to_in xs x (k, omega arith, at))

pub from_in : {A : Type 0} (xs : List A) (x : A) → IsIn x xs → Contains xs x
from_in [] x there = absurd there
from_in (y ∷ xs) x (inl is) = (zero, omega arith, sym is)
from_in (y ∷ xs) x (inr later) = let found = from_in xs x later in (suc found.0, omega (arith, found.1), found.2)

in_left : {A : Type 0} (xs ys : List A) (x : A) → IsIn x xs → IsIn x (xs ++ ys)
in_left [] ys x there = absurd there
in_left (y ∷ xs) ys x (inl is) = inl is
in_left (y ∷ xs) ys x (inr later) = inr (in_left xs ys x later)

in_right : {A : Type 0} (xs ys : List A) (x : A) → IsIn x ys → IsIn x (xs ++ ys)
in_right [] ys x there = there
in_right (y ∷ xs) ys x there = inr (in_right xs ys x there)

in_either : {A : Type 0} (xs ys : List A) (x : A) → IsIn x (xs ++ ys) → IsIn x xs ⊎ IsIn x ys
in_either [] ys x there = inr there
in_either (y ∷ xs) ys x (inl is) = inl (inl is)
in_either (y ∷ xs) ys x (inr later) = elim (in_either xs ys x later) [ inl left ↦ inl (inr left) | inr right ↦ inr right ]

pub all_from_in : {A : Type 0} (P : A → Type 0) (xs : List A) → ((x : A) → IsIn x xs → P x) → AllByRecursion P xs
all_from_in P [] each = tt
all_from_in P (x ∷ xs) each = (each x (inl refl), all_from_in P xs (λ y there. each y (inr there)))

pub all-is_in : {A : Type 0} (P : A → Type 0) (xs : List A) (x : A) → AllByRecursion P xs → IsIn x xs → P x
all-is_in P [] x all there = absurd there
all-is_in P (y ∷ xs) x all (inl is) = subst P (sym is) all.0
all-is_in P (y ∷ xs) x all (inr later) = all-is_in P xs x all.1 later

-- ---- keys in the order, from either end
sorted-push : (cmp : List ℕ → List ℕ → Ordering) (keys : List (List ℕ)) (last : List ℕ) → IsStrictlySortedBy cmp keys → AllByRecursion (λ key. cmp key last ≡ Less) keys → IsStrictlySortedBy cmp (keys ++ last ∷ [])
unfolding IsStrictlySortedBy
sorted-push cmp [] last sorted before = (tt, tt)
sorted-push cmp (key ∷ keys) last sorted before = (all-append (λ y. cmp key y ≡ Less) keys (last ∷ []) sorted.0 (before.0, tt), sorted-push cmp keys last sorted.1 before.1)

pub turned-in_order : (order : IterationOrder) (keys : List (List ℕ)) → IsStrictlySortedBy key_cmp keys → AreInOrder order (turned order keys)
unfolding IsStrictlySortedBy
turned-in_order Ascending keys sorted = sorted
turned-in_order Descending keys sorted = go keys sorted where
  go : (keys : List (List ℕ)) → IsStrictlySortedBy key_cmp keys → IsStrictlySortedBy (order_cmp Descending) (reverse keys)
  go [] sorted = tt
  go (key ∷ keys) sorted =
      rw (reverse-append (key ∷ []) keys) (sorted-push (order_cmp Descending) (reverse keys) key (go keys sorted.1) (all-reverse (λ (y : List ℕ). order_cmp Descending y key ≡ Less) keys sorted.0))

pub turned-all : (P : List ℕ → Type 0) (order : IterationOrder) (keys : List (List ℕ)) → AllByRecursion P keys → AllByRecursion P (turned order keys)
turned-all P Ascending keys all = all
turned-all P Descending keys all = all-reverse P keys all

pub turned-contains : (order : IterationOrder) (keys : List (List ℕ)) (key : List ℕ) → Contains keys key → Contains (turned order keys) key
turned-contains Ascending keys key has = has
turned-contains Descending keys key has = from_in (reverse keys) key (go keys (to_in keys key has)) where
  go : (keys : List (List ℕ)) → IsIn key keys → IsIn key (reverse keys)
  go [] there = absurd there
  go (k ∷ keys) (inl is) = rw (reverse-append (k ∷ []) keys) (in_right (reverse keys) (k ∷ []) key (inl is))
  go (k ∷ keys) (inr later) = rw (reverse-append (k ∷ []) keys) (in_left (reverse keys) (k ∷ []) key (go keys later))

-- the first key was taken from the end at which the order begins
pub taken-first : (old new : List (List ℕ)) (taken : Option (List ℕ)) → MatchOption taken ((old ≡ []) × (new ≡ [])) (λ key. old ≡ key ∷ new) → from_next taken new ≡ old
taken-first old new None none = sym none.0
taken-first old new (Some key) is = sym is

pub taken-last : (old new : List (List ℕ)) (taken : Option (List ℕ)) → MatchOption taken ((old ≡ []) × (new ≡ [])) (λ key. old ≡ new ++ key ∷ []) → from_next taken (reverse new) ≡ reverse old
taken-last old new None none = sym (ap reverse none.0)
taken-last old new (Some key) is = sym (ap reverse is ∙ reverse-append new (key ∷ []))

-- ---- the first of the next keys
not_before-self : (order : IterationOrder) (key : List ℕ) → is_before order key key ≡ false
not_before-self order key = ap is_lt (tied_itself (order_cmp-total order) key)

lower : (order : IterationOrder) (k first next : List ℕ) → is_before order next first ≡ true → is_before order k first ≡ false → is_before order k next ≡ false
lower order k first next lt not_before = go (order_cmp order k next) refl where
  less : (o : Ordering) → is_lt o ≡ true → o ≡ Less
  less Less is = refl
  less Equal is = absurd (false≢true is)
  less Greater is = absurd (false≢true is)

  go : (o : Ordering) → order_cmp order k next ≡ o → is_before order k next ≡ false
  go Less is = absurd (false≢true (sym not_before ∙ ap is_lt ((order_cmp-total order).trans k next first is (less (order_cmp order next first) lt))))
  go Equal is = ap is_lt is
  go Greater is = ap is_lt is

lower-all : (order : IterationOrder) (first next : List ℕ) (keys : List (List ℕ)) → is_before order next first ≡ true → IsNotBefore order first keys → IsNotBefore order next keys
lower-all order first next [] lt not_before = tt
lower-all order first next (k ∷ keys) lt not_before = lower order k first next lt not_before

none-ahead : (order : IterationOrder) (key : List ℕ) (walks : List Walk) → all_ahead order walks ≡ [] → AllByRecursion (λ walk. IsNotBefore order key (ahead order walk)) walks
none-ahead order key [] none = tt
none-ahead order key (w ∷ walks) none = go (ahead order w) none (none-ahead order key walks) where
  go : (keys : List (List ℕ)) → keys ++ all_ahead order walks ≡ [] → (all_ahead order walks ≡ [] → AllByRecursion (λ walk. IsNotBefore order key (ahead order walk)) walks) →
      IsNotBefore order key keys × AllByRecursion (λ walk. IsNotBefore order key (ahead order walk)) walks
  go [] none later = (tt, later none)
  go (k ∷ keys) none later = absurd (let no = none in cc)

next_left : (key : List ℕ) (walks : List Walk) (w : Walk) → IsNext key walks → IsNext key (walks ++ w ∷ [])
next_left key [] w among = absurd among
next_left key (x ∷ walks) w (inl is) = inl is
next_left key (x ∷ walks) w (inr later) = inr (next_left key walks w later)

next_last : (key : List ℕ) (walks : List Walk) (w : Walk) → option_copied w.next ≡ Some key → IsNext key (walks ++ w ∷ [])
next_last key [] w is = inl is
next_last key (x ∷ walks) w is = inr (next_last key walks w is)

-- the first of the next keys of walks, and of one more
abbrev pub IsFirstSoFar : IterationOrder → Option (List ℕ) → List Walk → Type 0
IsFirstSoFar order first walks = MatchOption first (all_ahead order walks ≡ []) (λ key. IsFirst order key walks)

pub first-more : (order : IterationOrder) (walks : List Walk) (w : Walk) (first : Option (List ℕ)) → IsFirstSoFar order first walks → IsFirstSoFar order (earlier order first (option_copied w.next)) (walks ++ w ∷ [])
first-more order walks w first so_far = go first (option_copied w.next) refl so_far where
  not_before : (key : List ℕ) (next : Option (List ℕ)) → option_copied w.next ≡ next → IsNotBefore order key (from_next next (turned order w.later)) → AllByRecursion (λ walk. IsNotBefore order key (ahead order walk)) (w ∷ [])
  not_before key next is one = (subst (λ n. IsNotBefore order key (from_next n (turned order w.later))) (sym is) one, tt)

  all : (key : List ℕ) → AllByRecursion (λ walk. IsNotBefore order key (ahead order walk)) walks → AllByRecursion (λ walk. IsNotBefore order key (ahead order walk)) (w ∷ []) →
      AllByRecursion (λ walk. IsNotBefore order key (ahead order walk)) (walks ++ w ∷ [])
  all key before one = all-append (λ (walk : Walk). IsNotBefore order key (ahead order walk)) walks (w ∷ []) before one

  go : (first next : Option (List ℕ)) → option_copied w.next ≡ next → IsFirstSoFar order first walks → IsFirstSoFar order (earlier order first next) (walks ++ w ∷ [])
  go None None is none =
      flat_map-append (ahead order) walks (w ∷ []) ∙ ap (λ keys. keys ++ (ahead order w ++ [])) none ∙ ap (λ n. from_next n (turned order w.later) ++ []) is
  go None (Some next) is none = record {
    among = next_last next walks w is;
    least = all next (none-ahead order next walks none) (not_before next (Some next) is (not_before-self order next));
  }
  go (Some first) None is so_far = record {
    among = next_left first walks w so_far.among;
    least = all first so_far.least (not_before first None is tt);
  }
  go (Some first) (Some next) is so_far = at (is_before order next first) refl where
    at : (t : Bool) → is_before order next first ≡ t → IsFirstSoFar order (cond t (Some next) (Some first)) (walks ++ w ∷ [])
    at true lt = record {
      among = next_last next walks w is;
      least = all next (all-weaker (λ (walk : Walk). IsNotBefore order first (ahead order walk)) (λ walk. IsNotBefore order next (ahead order walk)) walks
          (λ walk before. lower-all order first next (ahead order walk) lt before) so_far.least) (not_before next (Some next) is (not_before-self order next));
    }
    at false ge = record {
      among = next_left first walks w so_far.among;
      least = all first so_far.least (not_before first (Some next) is ge);
    }

-- ---- one more walk
pub AreEach-push : (order : IterationOrder) (walks : List Walk) (w : Walk) → AreInOrder order (ahead order w) → AreEach order walks → AreEach order (walks ++ w ∷ [])
AreEach-push order walks w one each = all-append (λ (walk : Walk). AreInOrder order (ahead order walk)) walks (w ∷ []) each (one, tt)

pub all_ahead-push : (order : IterationOrder) (walks : List Walk) (w : Walk) → all_ahead order (walks ++ w ∷ []) ≡ all_ahead order walks ++ ahead order w
all_ahead-push order walks w = flat_map-append (ahead order) walks (w ∷ []) ∙ ap (λ keys. all_ahead order walks ++ keys) (append-nil (ahead order w))

-- ---- walks that passed a key
pub Pass-push : (order : IterationOrder) (key : List ℕ) (olds news : List Walk) (old new : Walk) → Pass order key olds news → Passes order key old new → Pass order key (olds ++ old ∷ []) (news ++ new ∷ [])
Pass-push order key [] [] old new pass one = (one, tt)
Pass-push order key [] (n ∷ news) old new pass one = absurd pass
Pass-push order key (o ∷ olds) [] old new pass one = absurd pass
Pass-push order key (o ∷ olds) (n ∷ news) old new pass one = (pass.0, Pass-push order key olds news old new pass.1 one)

module _ (order : IterationOrder) (key : List ℕ) where
  in-passed : (olds news : List Walk) → Pass order key olds news → (x : List ℕ) → IsIn x (all_ahead order olds) → (x ≡ key) ⊎ IsIn x (all_ahead order news)
  in-passed [] [] pass x there = absurd there
  in-passed [] (n ∷ news) pass x there = absurd pass
  in-passed (o ∷ olds) [] pass x there = absurd pass
  in-passed (o ∷ olds) (n ∷ news) pass x there = elim (in_either (ahead order o) (all_ahead order olds) x there) [
    | inl here ↦ one pass.0 here
    | inr later ↦ elim (in-passed olds news pass.1 x later) [ inl is ↦ inl is | inr new ↦ inr (in_right (ahead order n) (all_ahead order news) x new) ]
  ] where
    one : Passes order key o n → IsIn x (ahead order o) → (x ≡ key) ⊎ IsIn x (all_ahead order (n ∷ news))
    one (inl is) here = first (subst (IsIn x) is here) where
      first : IsIn x (key ∷ ahead order n) → (x ≡ key) ⊎ IsIn x (all_ahead order (n ∷ news))
      first (inl is) = inl is
      first (inr new) = inr (in_left (ahead order n) (all_ahead order news) x new)
    one (inr (same, other)) here = inr (in_left (ahead order n) (all_ahead order news) x (subst (IsIn x) (sym same) here))

  passed-in : (olds news : List Walk) → Pass order key olds news → (x : List ℕ) → IsIn x (all_ahead order news) → IsIn x (all_ahead order olds)
  passed-in [] [] pass x there = there
  passed-in [] (n ∷ news) pass x there = absurd pass
  passed-in (o ∷ olds) [] pass x there = absurd pass
  passed-in (o ∷ olds) (n ∷ news) pass x there = elim (in_either (ahead order n) (all_ahead order news) x there) [
    | inl here ↦ in_left (ahead order o) (all_ahead order olds) x (one pass.0 here)
    | inr later ↦ in_right (ahead order o) (all_ahead order olds) x (passed-in olds news pass.1 x later)
  ] where
    one : Passes order key o n → IsIn x (ahead order n) → IsIn x (ahead order o)
    one (inl is) here = subst (IsIn x) (sym is) (inr here)
    one (inr (same, other)) here = subst (IsIn x) same here

  pub passed-each : (olds news : List Walk) → Pass order key olds news → AreEach order olds → AreEach order news
  unfolding IsStrictlySortedBy
  passed-each [] [] pass each = tt
  passed-each [] (n ∷ news) pass each = absurd pass
  passed-each (o ∷ olds) [] pass each = absurd pass
  passed-each (o ∷ olds) (n ∷ news) pass each = (one pass.0, passed-each olds news pass.1 each.1) where
    one : Passes order key o n → AreInOrder order (ahead order n)
    one (inl is) = (subst (AreInOrder order) is each.0).1
    one (inr (same, other)) = subst (AreInOrder order) (sym same) each.0

  -- what is ahead then comes after the key
  late : (keys : List (List ℕ)) → AreInOrder order keys → IsNotBefore order key keys → IsOther key keys → AllByRecursion (λ x. order_cmp order key x ≡ Less) keys
  unfolding IsStrictlySortedBy
  late [] sorted least other = tt
  late (k ∷ keys) sorted least other =
      let less = after order key k least other in
      (less, all-weaker (λ (x : List ℕ). order_cmp order k x ≡ Less) (λ x. order_cmp order key x ≡ Less) keys (λ x lt. (order_cmp-total order).trans key k x less lt) sorted.0)

  passed-after : (olds news : List Walk) → AreEach order olds → AllByRecursion (λ walk. IsNotBefore order key (ahead order walk)) olds → Pass order key olds news →
      AllByRecursion (λ x. order_cmp order key x ≡ Less) (all_ahead order news)
  unfolding IsStrictlySortedBy
  passed-after [] [] each least pass = tt
  passed-after [] (n ∷ news) each least pass = absurd pass
  passed-after (o ∷ olds) [] each least pass = absurd pass
  passed-after (o ∷ olds) (n ∷ news) each least pass =
      all-append (λ (x : List ℕ). order_cmp order key x ≡ Less) (ahead order n) (all_ahead order news) (one pass.0) (passed-after olds news each.1 least.1 pass.1)
    where
      one : Passes order key o n → AllByRecursion (λ x. order_cmp order key x ≡ Less) (ahead order n)
      one (inl is) = (subst (AreInOrder order) is each.0).0
      one (inr (same, other)) = subst (AllByRecursion (λ x. order_cmp order key x ≡ Less)) (sym same) (late (ahead order o) each.0 least.0 other)

  next-ahead : (walks : List Walk) → IsNext key walks → IsIn key (all_ahead order walks)
  next-ahead [] among = absurd among
  next-ahead (w ∷ walks) (inl is) = in_left (ahead order w) (all_ahead order walks) key (subst (λ n. IsIn key (from_next n (turned order w.later))) (sym is) (inl refl))
  next-ahead (w ∷ walks) (inr later) = in_right (ahead order w) (all_ahead order walks) key (next-ahead walks later)

  pub AreAhead-step : (olds news : List Walk) (rest : List (List ℕ)) → AreEach order olds → IsFirst order key olds → Pass order key olds news → AreAhead order news rest → AreAhead order olds (key ∷ rest)
  unfolding IsStrictlySortedBy
  AreAhead-step olds news rest each first pass later = record {
    in_order = (
      all_from_in (λ x. order_cmp order key x ≡ Less) rest (λ x there. all-is_in (λ y. order_cmp order key y ≡ Less) (all_ahead order news) x (passed-after olds news each first.least pass) (to_in (all_ahead order news) x ((later.same x).0 (from_in rest x there)))),
      later.in_order,
    );
    same = λ x. (λ has. from_in (all_ahead order olds) x (there x (to_in (key ∷ rest) x has)), λ has. from_in (key ∷ rest) x (back x (in-passed olds news pass x (to_in (all_ahead order olds) x has))));
  } where
    there : (x : List ℕ) → IsIn x (key ∷ rest) → IsIn x (all_ahead order olds)
    there x (inl is) = subst (λ k. IsIn k (all_ahead order olds)) (sym is) (next-ahead olds first.among)
    there x (inr has) = passed-in olds news pass x (to_in (all_ahead order news) x ((later.same x).0 (from_in rest x has)))

    back : (x : List ℕ) → (x ≡ key) ⊎ IsIn x (all_ahead order news) → IsIn x (key ∷ rest)
    back x (inl is) = inl is
    back x (inr has) = inr (to_in rest x ((later.same x).1 (from_in (all_ahead order news) x has)))

  -- and is fewer keys
  no-more : (olds news : List Walk) → Pass order key olds news → length (all_ahead order news) ≤ length (all_ahead order olds)
  no-more [] [] pass = omega arith
  no-more [] (n ∷ news) pass = absurd pass
  no-more (o ∷ olds) [] pass = absurd pass
  no-more (o ∷ olds) (n ∷ news) pass =
      omega (arith, length-append (ahead order o) (all_ahead order olds), length-append (ahead order n) (all_ahead order news), no-more olds news pass.1, one pass.0)
    where
      one : Passes order key o n → length (ahead order n) ≤ length (ahead order o)
      one (inl is) = omega (arith, ap length is)
      one (inr (same, other)) = omega (arith, ap length same)

  pub passed-fewer : (olds news : List Walk) → IsNext key olds → Pass order key olds news → length (all_ahead order news) < length (all_ahead order olds)
  passed-fewer [] news among pass = absurd among
  passed-fewer (o ∷ olds) [] among pass = absurd pass
  passed-fewer (o ∷ olds) (n ∷ news) (inl next) pass =
      omega (arith, length-append (ahead order o) (all_ahead order olds), length-append (ahead order n) (all_ahead order news), no-more olds news pass.1, one pass.0)
    where
      one : Passes order key o n → length (ahead order n) < length (ahead order o)
      one (inl is) = omega (arith, ap length is)
      one (inr (same, other)) =
          let no : bytes_eq key key ≡ false = subst (λ m. IsOther key (from_next m (turned order o.later))) next other in
          absurd (false≢true (sym no ∙ bytes_eq-same key))
  passed-fewer (o ∷ olds) (n ∷ news) (inr among) pass =
      omega (arith, length-append (ahead order o) (all_ahead order olds), length-append (ahead order n) (all_ahead order news), passed-fewer olds news among pass.1, one pass.0)
    where
      one : Passes order key o n → length (ahead order n) ≤ length (ahead order o)
      one (inl is) = omega (arith, ap length is)
      one (inr (same, other)) = omega (arith, ap length same)

-- ---- the keys ahead, in order
-- keys in order, with one more
record With (order : IterationOrder) (key : List ℕ) (keys : List (List ℕ)) : Type 0 where
  with : List (List ℕ)
  in_order : AreInOrder order with
  to : (x : List ℕ) → IsIn x with → (x ≡ key) ⊎ IsIn x keys
  from : (x : List ℕ) → (x ≡ key) ⊎ IsIn x keys → IsIn x with
  above : (b : List ℕ) → order_cmp order b key ≡ Less → AllByRecursion (λ y. order_cmp order b y ≡ Less) keys → AllByRecursion (λ y. order_cmp order b y ≡ Less) with

put_in : (order : IterationOrder) (key : List ℕ) (keys : List (List ℕ)) → AreInOrder order keys → With order key keys
unfolding IsStrictlySortedBy
put_in order key [] sorted = record { with = key ∷ []; in_order = (tt, tt); to = λ x there. there; from = λ x there. there; above = λ b lt all. (lt, tt) }
put_in order key (y ∷ keys) sorted = go (order_cmp order key y) refl (put_in order key keys sorted.1) where
  go : (o : Ordering) → order_cmp order key y ≡ o → With order key keys → With order key (y ∷ keys)
  go Less is later = record {
    with = key ∷ y ∷ keys;
    in_order = ((is, all-weaker (λ (z : List ℕ). order_cmp order y z ≡ Less) (λ z. order_cmp order key z ≡ Less) keys (λ z lt. (order_cmp-total order).trans key y z is lt) sorted.0), sorted);
    to = λ x there. there;
    from = λ x there. there;
    above = λ b lt all. (lt, all);
  }
  go Equal is later = record { with = y ∷ keys; in_order = sorted; to = λ x there. inr there; from = from; above = λ b lt all. all } where
    same : key ≡ y
    same = (bytes_eq-Decides key y).0 (ties-keys order key y ∙ ap is_eq is)

    from : (x : List ℕ) → (x ≡ key) ⊎ IsIn x (y ∷ keys) → IsIn x (y ∷ keys)
    from x (inl e) = inl (e ∙ same)
    from x (inr there) = there
  go Greater is later = record {
    with = y ∷ later.with;
    in_order = (later.above y ((order_cmp-total order).antisymm y key ∙ ap ordering_reverse is) sorted.0, later.in_order);
    to = to;
    from = from;
    above = λ b lt all. (all.0, later.above b lt all.1);
  } where
    to : (x : List ℕ) → IsIn x (y ∷ later.with) → (x ≡ key) ⊎ IsIn x (y ∷ keys)
    to x (inl e) = inr (inl e)
    to x (inr there) = elim (later.to x there) [ inl e ↦ inl e | inr old ↦ inr (inr old) ]

    from : (x : List ℕ) → (x ≡ key) ⊎ IsIn x (y ∷ keys) → IsIn x (y ∷ later.with)
    from x (inl e) = inr (later.from x (inl e))
    from x (inr (inl e)) = inl e
    from x (inr (inr old)) = inr (later.from x (inr old))

record Put (order : IterationOrder) (keys : List (List ℕ)) : Type 0 where
  put : List (List ℕ)
  in_order : AreInOrder order put
  to : (x : List ℕ) → IsIn x put → IsIn x keys
  from : (x : List ℕ) → IsIn x keys → IsIn x put

put_all : (order : IterationOrder) (keys : List (List ℕ)) → Put order keys
unfolding IsStrictlySortedBy
put_all order [] = record { put = []; in_order = tt; to = λ x there. there; from = λ x there. there }
put_all order (key ∷ keys) =
    let others = put_all order keys in
    let one = put_in order key others.put others.in_order in
    record {
      put = one.with;
      in_order = one.in_order;
      to = λ x there. elim (one.to x there) [ inl is ↦ inl is | inr old ↦ inr (others.to x old) ];
      from = λ x there. one.from x (elim there [ inl is ↦ inl is | inr old ↦ inr (others.from x old) ]);
    }

pub AreAhead-some : (order : IterationOrder) (walks : List Walk) → (keys : List (List ℕ)) × AreAhead order walks keys
AreAhead-some order walks =
    let all = put_all order (all_ahead order walks) in
    (all.put, record { in_order = all.in_order; same = λ x. (λ has. from_in (all_ahead order walks) x (all.to x (to_in all.put x has)), λ has. from_in all.put x (all.from x (to_in (all_ahead order walks) x has))) })

pub AreAhead-none : (order : IterationOrder) (walks : List Walk) → all_ahead order walks ≡ [] → AreAhead order walks []
unfolding IsStrictlySortedBy
AreAhead-none order walks none = record { in_order = tt; same = λ x. (λ has. rw none has, λ has. rw none at has) }
