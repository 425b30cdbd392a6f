-- Passing the rows before a key leaves those of the seek, still in order.
use Rattle.std.proofs.Common.{◌≡◌, refl, sym, ◌∙◌, ap, ℕ, ◌<◌, Bool, true, false, not, cond, List, [], ◌∷◌, ◌++◌, length, get_or, drop, Option, Some, None}
use Rattle.std.proofs.lemmas.List.{drop_more}
use Rattle.std.specs.List.{AllByRecursion, filter}
use Rattle.std.specs.Option.{option_to_list}
use Rattle.std.specs.declared.cmp.Ordering.{Ordering}
use Rattle.std.specs.declared.cmp.Ordering.TheVariants.{Less, Equal, Greater}
use Rattle.std.specs.Ordering.{is_lt}
use Rattle.std.specs.Cmp.{IsTotalOrder}
use Rattle.std.proofs.lemmas.Cmp.{nat_list_cmp_total, back_total}
use Rattle.std.proofs.lemmas.Map.Keys.{sorted_head, sorted_tail}
use Rattle.std.proofs.lemmas.List.Kept.{IsStrictlySortedBy-filter}
use Rattle.slate_types.specs.declared.batches.KeyValue.{KeyValue}
use Rattle.slate_rows.specs.declared.iterators.Kept.{Kept}
use Rattle.slate_types.specs.declared.scan_options.IterationOrder.{IterationOrder}
use Rattle.slate_types.specs.declared.scan_options.IterationOrder.TheVariants.{Ascending, Descending}
use Rattle.slate_types.specs.Order.{order_cmp, is_before, AreInOrder, row_keys}
use Rattle.slate_rows.specs.Kept.{kept_rows, kept_keys, AreCopies, AreKept}

pub order_cmp-total : (order : IterationOrder) → IsTotalOrder (order_cmp order)
order_cmp-total Ascending = nat_list_cmp_total
order_cmp-total Descending = back_total nat_list_cmp_total

-- ---- rows with copies of their keys
kept_keys-copies : (kept : List Kept) → AreCopies kept → kept_keys kept ≡ row_keys (kept_rows kept)
kept_keys-copies [] copies = refl
kept_keys-copies (k ∷ kept) copies = rw (copies.0, kept_keys-copies kept copies.1)

pub AreCopies-push : (kept : List Kept) (key : List ℕ) (row : KeyValue) → key ≡ row.key → AreCopies kept → AreCopies (kept ++ record { key = key; row = row } ∷ [])
AreCopies-push [] key row same copies = (same, tt)
AreCopies-push (k ∷ kept) key row same copies = (copies.0, AreCopies-push kept key row same copies.1)

pub AreKept-made : (order : IterationOrder) (kept : List Kept) (rows : List KeyValue) → AreCopies kept → kept_rows kept ≡ rows → AreInOrder order (row_keys rows) → AreKept order kept
AreKept-made order kept rows copies same in_order = record {
  copies = copies;
  in_order = rw (kept_keys-copies kept copies, same) in_order;
}

pub AreKept-rest : (order : IterationOrder) (kept rest : List Kept) (first : Option Kept) → kept ≡ option_to_list first ++ rest → AreKept order kept → AreKept order rest
AreKept-rest order kept rest None is held = rw (← is) held
AreKept-rest order kept rest (Some k) is held =
    let whole : AreKept order (k ∷ rest) = rw (← is) held in
    record { copies = whole.copies.1; in_order = sorted_tail (order_cmp order) k.key (kept_keys rest) whole.in_order }

-- ---- rows that aren't before a key
not_before-later : (order : IterationOrder) (first later key : List ℕ) → order_cmp order first later ≡ Less → is_before order first key ≡ false → is_before order later key ≡ false
not_before-later order first later key rises not_before = go (order_cmp order later key) refl where
  go : (o : Ordering) → order_cmp order later key ≡ o → is_lt o ≡ false
  go Less less = sym (ap is_lt ((order_cmp-total order).trans first later key rises less)) ∙ not_before
  go Equal equal = refl
  go Greater greater = refl

filter-not_before : (order : IterationOrder) (first key : List ℕ) (kept : List Kept) → AllByRecursion (λ later. order_cmp order first later ≡ Less) (kept_keys kept) →
    is_before order first key ≡ false → filter (λ k. not (is_before order k.key key)) kept ≡ kept
filter-not_before order first key [] rises not_before = refl
filter-not_before order first key (k ∷ kept) rises not_before =
    rw (not_before-later order first k.key key rises.0 not_before) (ap (λ ks. k ∷ ks) (filter-not_before order first key kept rises.1 not_before))

-- where the first row isn't before the key, none is
filter-first_not_before : (order : IterationOrder) (key : List ℕ) (kept rest : List Kept) (k : Kept) → kept ≡ k ∷ rest → AreInOrder order (kept_keys kept) →
    is_before order k.key key ≡ false → filter (λ k. not (is_before order k.key key)) kept ≡ kept
filter-first_not_before order key kept rest k is in_order not_before =
    let sorted : AreInOrder order (kept_keys (k ∷ rest)) = rw is at in_order in
    rw (is, not_before) (ap (λ ks. k ∷ ks) (filter-not_before order k.key key rest (sorted_head (order_cmp order) k.key (kept_keys rest) sorted) not_before))

-- a row before the key is passed
filter-passed : (order : IterationOrder) (key : List ℕ) (kept rest : List Kept) (k : Kept) → kept ≡ k ∷ rest → is_before order k.key key ≡ true →
    filter (λ k. not (is_before order k.key key)) rest ≡ filter (λ k. not (is_before order k.key key)) kept
filter-passed order key kept rest k is before = rw (is, before)

pub kept_rows-filter : (order : IterationOrder) (key : List ℕ) (kept : List Kept) → AreCopies kept →
    kept_rows (filter (λ k. not (is_before order k.key key)) kept) ≡ filter (λ r. not (is_before order r.key key)) (kept_rows kept)
kept_rows-filter order key [] copies = refl
kept_rows-filter order key (k ∷ kept) copies =
    rw (ap (λ x. is_before order x key) copies.0) (elim (is_before order k.row.key key) as (λ b. kept_rows (cond (not b) (k ∷ filter (λ x. not (is_before order x.key key)) kept) (filter (λ x. not (is_before order x.key key)) kept)) ≡ cond (not b) (k.row ∷ filter (λ r. not (is_before order r.key key)) (kept_rows kept)) (filter (λ r. not (is_before order r.key key)) (kept_rows kept))) [
      | true ↦ kept_rows-filter order key kept copies.1
      | false ↦ ap (λ rs. k.row ∷ rs) (kept_rows-filter order key kept copies.1)
    ])

kept_keys-filter : (order : IterationOrder) (key : List ℕ) (kept : List Kept) →
    kept_keys (filter (λ k. not (is_before order k.key key)) kept) ≡ filter (λ x. not (is_before order x key)) (kept_keys kept)
kept_keys-filter order key [] = refl
kept_keys-filter order key (k ∷ kept) =
    elim (is_before order k.key key) as (λ b. kept_keys (cond (not b) (k ∷ filter (λ x. not (is_before order x.key key)) kept) (filter (λ x. not (is_before order x.key key)) kept)) ≡ cond (not b) (k.key ∷ filter (λ x. not (is_before order x key)) (kept_keys kept)) (filter (λ x. not (is_before order x key)) (kept_keys kept))) [
      | true ↦ kept_keys-filter order key kept
      | false ↦ ap (λ ks. k.key ∷ ks) (kept_keys-filter order key kept)
    ]

AreCopies-filter : (p : Kept → Bool) (kept : List Kept) → AreCopies kept → AreCopies (filter p kept)
AreCopies-filter p [] copies = tt
AreCopies-filter p (k ∷ kept) copies = elim (p k) as (λ b. AreCopies (cond b (k ∷ filter p kept) (filter p kept))) [
  | true ↦ (copies.0, AreCopies-filter p kept copies.1)
  | false ↦ AreCopies-filter p kept copies.1
]

pub AreKept-passed : (order : IterationOrder) (key : List ℕ) (kept passed : List Kept) → passed ≡ filter (λ k. not (is_before order k.key key)) kept → AreKept order kept → AreKept order passed
AreKept-passed order key kept passed is held = rw is (record {
  copies = AreCopies-filter _ kept held.copies;
  in_order = rw (kept_keys-filter order key kept) (IsStrictlySortedBy-filter (order_cmp order) (λ x. not (is_before order x key)) (kept_keys kept) held.in_order);
})

-- ---- the row at the front, as the code reads it
front_is : (kept rest : List Kept) (first x : Kept) → kept ≡ first ∷ rest → x ≡ get_or kept 0 x → x ≡ first
front_is kept rest first x is at = rw is at at

pub pass_more : (order : IterationOrder) (key : List ℕ) (kept rest : List Kept) (first x : Kept) → kept ≡ first ∷ rest → x ≡ get_or kept 0 x → is_before order x.key key ≡ true →
    AreInOrder order (kept_keys kept) →
    (filter (λ k. not (is_before order k.key key)) rest ≡ filter (λ k. not (is_before order k.key key)) kept) × AreInOrder order (kept_keys rest)
pass_more order key kept rest first x is at before in_order =
    let same : x ≡ first = front_is kept rest first x is at in
    let sorted : AreInOrder order (kept_keys (first ∷ rest)) = rw is at in_order in
    (filter-passed order key kept rest first is (ap (λ k. is_before order k.key key) (sym same) ∙ before), sorted_tail (order_cmp order) first.key (kept_keys rest) sorted)

pub pass_end : (order : IterationOrder) (key : List ℕ) (kept : List Kept) (x : Kept) → 0 < length kept → x ≡ get_or kept 0 x → is_before order x.key key ≡ false →
    AreInOrder order (kept_keys kept) → filter (λ k. not (is_before order k.key key)) kept ≡ kept
pass_end order key kept x some at not_before in_order =
    filter-first_not_before order key kept (drop 1 kept) x (drop_more kept 0 x some ∙ ap (λ k. k ∷ drop 1 kept) (sym at)) in_order not_before
