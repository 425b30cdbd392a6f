-- The rows of the keys that a walk finds, in order and each once, are the plain scan.
use Rattle.std.proofs.Common.{◌≡◌, ◌≢◌, ◌↔◌, refl, sym, ◌∙◌, ap, subst, ℕ, ◌+◌, ◌<◌, zero, suc, Bool, true, false, cond, List, [], ◌∷◌, ◌++◌, Contains, length, get_or, drop, Option, None, Result, Ok, arith}
use Rattle.std.specs.List.{AllByRecursion, filter, flat_map, dedup, dedup_from}
use Rattle.std.specs.Borrow.{Bor}
use Rattle.std.specs.Cmp.{IsStrictWeakOrder}
use Rattle.std.specs.List.Sorted.{IsPermutation, IsSorted, IsSortedBy}
use Rattle.std.specs.Str.{bytes_eq}
use Rattle.std.proofs.lemmas.Cmp.{nat_list_eq_equiv}
use Rattle.std.proofs.lemmas.Slice.Eq.{bytes_eq-Decides}
use Rattle.std.proofs.lemmas.List.{length-map, get_or-map, drop_more}
use Rattle.std.proofs.lemmas.List.Sorted.{ranks_by, IsPermutation-sym, IsPermutation-map, Contains-permutation}
use Rattle.std.proofs.lemmas.List.Kept.{IsStrictlySortedBy-filter, IsStrictlySortedBy-dedup, Contains-dedup, Contains-from_dedup}
use Rattle.std.proofs.lemmas.List.Elements.{Contains-append_left, Contains-append_right}
use Rattle.std.proofs.lemmas.List.Concat.{flat_map-append}
use Rattle.slate_types.specs.declared.batches.Batch.{Batch}
use Rattle.slate_types.specs.declared.batches.KeyValue.{KeyValue}
use Rattle.slate_types.specs.declared.ranges.ByteRange.{ByteRange}
use Rattle.slate_types.specs.declared.read_faults.ReadFault.{ReadFault}
use Rattle.slate_types.specs.Operator.{Merge}
use Rattle.slate_types.specs.Range.{contains}
use Rattle.slate_reads.specs.Read.{Version, history, read_at, versions_in, since_base, fold_versions}
use Rattle.slate_reads.proofs.Ends.{within, within-all}
use Rattle.slate_reads.proofs.Lists.{all-append}
use Rattle.slate_types.specs.declared.scan_options.IterationOrder.{IterationOrder}
use Rattle.slate_types.specs.Order.{order_cmp, is_before, AreInOrder}
use Rattle.slate_rows.specs.Scan.{IsScan, with_found, rows_of}
use Rattle.slate_rows.specs.Walked.{key_list, AreWalked}
use Rattle.slate_rows.proofs.Passing.{order_cmp-total}
use Rattle.slate_rows.proofs.Steps.{ties-keys}

pub AreWalked-begun : (range : ByteRange) (keys : List (List ℕ)) → keys ≡ [] → AreWalked [] range keys
AreWalked-begun range keys none = rw none (record { within = tt; whole = λ key in_range some. absurd (some refl) })

-- the keys of one more table
pub AreWalked-more : (batches more : List Batch) (range : ByteRange) (keys new : List (List ℕ)) → AreWalked batches range keys → AllByRecursion (λ key. contains range key ≡ true) new →
    ((key : List ℕ) → contains range key ≡ true → flat_map (versions_in key) more ≢ [] → Contains new key) → AreWalked (batches ++ more) range (keys ++ new)
AreWalked-more batches more range keys new walked within whole = record {
  within = all-append (λ (key : List ℕ). contains range key ≡ true) keys new walked.within within;
  whole = λ key in_range some. go key in_range (flat_map (versions_in key) batches) refl (subst (λ vs. vs ≢ []) (flat_map-append (versions_in key) batches more) some);
} where
  go : (key : List ℕ) → contains range key ≡ true → (vs : List Version) → flat_map (versions_in key) batches ≡ vs → vs ++ flat_map (versions_in key) more ≢ [] → Contains (keys ++ new) key
  go key in_range [] is some = Contains-append_right keys new key (whole key in_range some)
  go key in_range (v ∷ vs) is some = Contains-append_left keys new key (walked.whole key in_range (λ none. (let no = sym is ∙ none in cc)))

-- ---- the rows of keys that have no history are none
-- whether a list has an item
some_in : {A : Type 0} → List A → Bool
some_in [] = false
some_in (x ∷ xs) = true

some_in-true : {A : Type 0} (xs : List A) → some_in xs ≡ true → xs ≢ []
unfolding some_in
some_in-true [] is = absurd (let no = is in cc)
some_in-true (x ∷ xs) is = λ none. cc

some_in-false : {A : Type 0} (xs : List A) → some_in xs ≡ false → xs ≡ []
unfolding some_in
some_in-false [] is = refl
some_in-false (x ∷ xs) is = absurd (let no = is in cc)

some_in-some : {A : Type 0} (xs : List A) → xs ≢ [] → some_in xs ≡ true
unfolding some_in
some_in-some [] some = absurd (some refl)
some_in-some (x ∷ xs) some = refl

rows_of-filter : (read : List ℕ → Result (Option KeyValue) ReadFault) (p : List ℕ → Bool) (keys : List (List ℕ)) → ((key : List ℕ) → p key ≡ false → read key ≡ Ok None) → rows_of read (filter p keys) ≡ rows_of read keys
rows_of-filter read p [] none = refl
rows_of-filter read p (key ∷ keys) none = go (p key) refl (rows_of-filter read p keys none) where
  go : (t : Bool) → p key ≡ t → rows_of read (filter p keys) ≡ rows_of read keys → rows_of read (cond t (key ∷ filter p keys) (filter p keys)) ≡ rows_of read (key ∷ keys)
  go true is later = ap (with_found (read key)) later
  go false is later = rw (none key is) later

kept-in : (p : List ℕ → Bool) (keys : List (List ℕ)) (key : List ℕ) → p key ≡ true → Contains keys key → Contains (filter p keys) key
kept-in p [] key passes (k, lt, at) = absurd (omega arith)
kept-in p (x ∷ keys) key passes (zero, lt, at) = rw (ap p at ∙ passes) (zero, omega arith, at)
kept-in p (x ∷ keys) key passes (suc k, lt, at) = go (p x) (kept-in p keys key passes (k, omega arith, at)) where
  go : (t : Bool) → Contains (filter p keys) key → Contains (cond t (x ∷ filter p keys) (filter p keys)) key
  go true later = (suc later.0, omega (arith, later.1), later.2)
  go false later = later

from-kept : (p : List ℕ → Bool) (keys : List (List ℕ)) (key : List ℕ) → Contains (filter p keys) key → (p key ≡ true) × Contains keys key
from-kept p [] key (k, lt, at) = absurd (omega arith)
from-kept p (x ∷ keys) key has = go (p x) refl has (from-kept p keys key) where
  go : (t : Bool) → p x ≡ t → Contains (cond t (x ∷ filter p keys) (filter p keys)) key → (Contains (filter p keys) key → (p key ≡ true) × Contains keys key) → (p key ≡ true) × Contains (x ∷ keys) key
  go true is (zero, lt, at) later = (ap p (sym at) ∙ is, (zero, omega arith, at))
  go true is (suc k, lt, at) later = let found = later (k, omega arith, at) in (found.0, (suc found.1.0, omega (arith, found.1.1), found.1.2))
  go false is has later = let found = later has in (found.0, (suc found.1.0, omega (arith, found.1.1), found.1.2))

pub all-in : (P : List ℕ → Type 0) (keys : List (List ℕ)) (key : List ℕ) → AllByRecursion P keys → Contains keys key → P key
all-in P [] key all (k, lt, at) = absurd (omega arith)
all-in P (x ∷ keys) key all (zero, lt, at) = subst P at all.0
all-in P (x ∷ keys) key all (suc k, lt, at) = all-in P keys key all.1 (k, omega arith, at)

-- a key with a history has an operation
history-some : (batches : List Batch) (bound : Option ℕ) (key : List ℕ) → history batches bound key ≢ [] → flat_map (versions_in key) batches ≢ []
history-some batches bound key some none = some (sym (within-all bound key batches) ∙ ap (within bound) none)

-- The rows of the keys of a walk are the plain scan.
pub IsScan-from_walk : (merge : Option Merge) (batches : List Batch) (bound : Option ℕ) (range : ByteRange) (order : IterationOrder) (keys : List (List ℕ)) (rows : List KeyValue) (fault : Option ReadFault) →
    AreWalked batches range keys → AreInOrder order keys → rows_of (read_at merge batches bound) keys ≡ record { rows = rows; fault = fault } → IsScan merge batches bound range order rows fault
IsScan-from_walk merge batches bound range order keys rows fault walked in_order taken = record {
  keys = filter p keys;
  in_order = IsStrictlySortedBy-filter (order_cmp order) p keys in_order;
  whole = λ key. (
    λ has. (let found = from-kept p keys key has in (all-in (λ k. contains range k ≡ true) keys key walked.within found.1, some_in-true (history batches bound key) found.0)),
    λ found. kept-in p keys key (some_in-some (history batches bound key) found.1) (walked.whole key found.0 (history-some batches bound key found.1)),
  );
  taken = rows_of-filter (read_at merge batches bound) p keys (λ key none. ap (λ vs. fold_versions merge key None (since_base vs)) (some_in-false (history batches bound key) none)) ∙ taken;
} where
  p : List ℕ → Bool
  p key = some_in (history batches bound key)

-- ---- the keys in order, each once
-- the keys that a sort puts in order
abbrev pub key_before : IterationOrder → Bor (List ℕ) → Bor (List ℕ) → Bool
key_before order left right = is_before order left.now right.now

pub key_before-order : (order : IterationOrder) → IsStrictWeakOrder (key_before order)
key_before-order order = ranks_by (order_cmp-total order) (λ (key : Bor (List ℕ)). key.now)

dedup-keys : (keys : List (Bor (List ℕ))) → key_list (dedup (λ x y. bytes_eq x.now y.now) keys) ≡ dedup bytes_eq (key_list keys)
dedup-keys [] = refl
dedup-keys (k ∷ keys) = go k keys where
  go : (k : Bor (List ℕ)) (keys : List (Bor (List ℕ))) → key_list (dedup_from (λ x y. bytes_eq x.now y.now) k keys) ≡ dedup_from bytes_eq k.now (key_list keys)
  go k [] = refl
  go k (x ∷ keys) = step (bytes_eq x.now k.now) (go k keys) (go x keys) where
    step : (t : Bool) → key_list (dedup_from (λ x y. bytes_eq x.now y.now) k keys) ≡ dedup_from bytes_eq k.now (key_list keys) → key_list (dedup_from (λ x y. bytes_eq x.now y.now) x keys) ≡ dedup_from bytes_eq x.now (key_list keys) →
        key_list (cond t (dedup_from (λ x y. bytes_eq x.now y.now) k keys) (k ∷ dedup_from (λ x y. bytes_eq x.now y.now) x keys)) ≡ cond t (dedup_from bytes_eq k.now (key_list keys)) (k.now ∷ dedup_from bytes_eq x.now (key_list keys))
    step true same other = same
    step false same other = ap (λ ks. k.now ∷ ks) other

sorted-keys : (order : IterationOrder) (keys : List (Bor (List ℕ))) → IsSortedBy (key_before order) keys → IsSorted (order_cmp order) (key_list keys)
sorted-keys order [] sorted k d low lt = absurd (omega arith)
sorted-keys order (x ∷ keys) sorted k d low lt =
    let len = length-map (x ∷ keys) (λ (key : Bor (List ℕ)). key.now) in
    rw (get_or-map (λ (key : Bor (List ℕ)). key.now) (x ∷ keys) (k + 1) x d (omega (arith, len)), get_or-map (λ (key : Bor (List ℕ)). key.now) (x ∷ keys) k x d (omega (arith, len)))
    (sorted k x low (omega (arith, len)))

pub keys-in_order : (order : IterationOrder) (sorted new : List (Bor (List ℕ))) → IsSortedBy (key_before order) sorted → new ≡ dedup (λ x y. bytes_eq x.now y.now) sorted → AreInOrder order (key_list new)
keys-in_order order sorted new is_sorted is = rw (is, dedup-keys sorted) (IsStrictlySortedBy-dedup (order_cmp-total order) (ties-keys order) (key_list sorted) (sorted-keys order sorted is_sorted))

pub keys-same : (keys sorted new : List (Bor (List ℕ))) → IsPermutation keys sorted → new ≡ dedup (λ x y. bytes_eq x.now y.now) sorted → (key : List ℕ) → (Contains (key_list new) key ↔ Contains (key_list keys) key)
keys-same keys sorted new moved is key = (
  λ has. Contains-permutation (key_list sorted) (key_list keys) key (IsPermutation-sym _ _ all_moved) (Contains-from_dedup bytes_eq (key_list sorted) key (subst (λ ks. Contains ks key) whole has)),
  λ has. subst (λ ks. Contains ks key) (sym whole) (Contains-dedup nat_list_eq_equiv (λ x y e. (bytes_eq-Decides x y).0 e) (key_list sorted) key (Contains-permutation (key_list keys) (key_list sorted) key all_moved has)),
) where
  all_moved : IsPermutation (key_list keys) (key_list sorted)
  all_moved = IsPermutation-map (λ (key : Bor (List ℕ)). key.now) keys sorted moved

  whole : key_list new ≡ dedup bytes_eq (key_list sorted)
  whole = ap key_list is ∙ dedup-keys sorted

-- a walk's keys in order are those of the walk
pub AreWalked-ordered : (batches : List Batch) (range : ByteRange) (keys new : List (List ℕ)) → ((key : List ℕ) → (Contains new key ↔ Contains keys key)) → AreWalked batches range keys → AreWalked batches range new
AreWalked-ordered batches range keys new same walked = record {
  within = go new (λ key has. all-in (λ k. contains range k ≡ true) keys key walked.within ((same key).0 has));
  whole = λ key in_range some. (same key).1 (walked.whole key in_range some);
} where
  go : (ks : List (List ℕ)) → ((key : List ℕ) → Contains ks key → contains range key ≡ true) → AllByRecursion (λ key. contains range key ≡ true) ks
  go [] each = tt
  go (k ∷ ks) each = (each k (zero, omega arith, refl), go ks (λ key has. each key (suc has.0, omega (arith, has.1), has.2)))

-- ---- the loop over the keys
pub key_list-drop : (keys : List (Bor (List ℕ))) (i : ℕ) (key : Bor (List ℕ)) → i < length keys → key ≡ get_or keys i key → key_list (drop i keys) ≡ key.now ∷ key_list (drop (i + 1) keys)
key_list-drop keys i key lt at = ap key_list (drop_more keys i key lt ∙ ap (λ k. k ∷ drop (i + 1) keys) (sym at))

pub contains-key : (keys : List (Bor (List ℕ))) (i : ℕ) (key : Bor (List ℕ)) → i < length keys → key ≡ get_or keys i key → Contains (key_list keys) key.now
contains-key keys i key lt at =
    let len = length-map keys (λ (k : Bor (List ℕ)). k.now) in
    (i, omega (arith, len), get_or-map (λ (k : Bor (List ℕ)). k.now) keys i key key.now lt ∙ ap (λ (k : Bor (List ℕ)). k.now) (sym at))
