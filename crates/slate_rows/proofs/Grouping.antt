-- Versions sorted by key: those of the first key, their tail, and what a stable sort keeps.
use Rattle.std.proofs.Common.{◌≡◌, refl, sym, ◌∙◌, ap, ℕ, ◌+◌, ◌<◌, ◌≤◌, zero, suc, Bool, true, false, not, cond, ◌&&◌, List, [], ◌∷◌, ◌++◌, length, get_or, take, drop, map, take_while, arith}
use Rattle.std.specs.List.{AllByRecursion, filter, prefix_len}
use Rattle.std.specs.List.Sorted.{IsPermutation, IsSortedBy, IsStableBy, ties}
use Rattle.std.specs.Str.{bytes_eq}
use Rattle.std.specs.declared.cmp.Ordering.{Ordering}
use Rattle.std.specs.declared.cmp.Ordering.TheVariants.{Less, Equal, Greater}
use Rattle.std.specs.Ordering.{is_lt, is_eq, ordering_reverse}
use Rattle.std.specs.Cmp.{IsStrictWeakOrder}
use Rattle.std.proofs.lemmas.Cmp.{nat_list_cmp_total}
use Rattle.std.proofs.lemmas.List.{take_more, drop_at, drop-append-le, length-take-le, nil_from_length, map_push}
use Rattle.std.proofs.lemmas.List.Folds.{length-prefix_len}
use Rattle.std.proofs.lemmas.List.Elements.{recursion_from_All}
use Rattle.std.proofs.lemmas.List.Sorted.{ranks_by, sorted_far, length_permutation}
use Rattle.std.proofs.lemmas.Map.Text.{is_eq-slice_cmp}
use Rattle.std.proofs.lemmas.Slice.Eq.{bytes_eq-Decides}
use Rattle.slate_types.specs.declared.scan_options.IterationOrder.{IterationOrder}
use Rattle.slate_types.specs.declared.scan_options.IterationOrder.TheVariants.{Ascending, Descending}
use Rattle.slate_reads.specs.declared.reads.Version.{Version as Held}
use Rattle.slate_rows.specs.Gathered.{AreSorted, of_key}
use Rattle.slate_types.specs.Order.{order_cmp, is_before}
use Rattle.slate_types.specs.Range.{key_cmp}
use Rattle.slate_reads.specs.Read.{is_base, since_base}
use Rattle.slate_reads.specs.Tails.{seen}
use Rattle.slate_rows.proofs.Passing.{order_cmp-total}
use Rattle.slate_reads.proofs.Tails.{since_base-base, since_base-merge}

-- the first of some versions isn't of a key
abbrev pub IsPast : List ℕ → List Held → Type 0
IsPast key [] = Unit {0}
IsPast key (h ∷ held) = bytes_eq h.key_op.now.key key ≡ false

-- versions begin with those of a key, and go on with others
pub record IsSplit (key : List ℕ) (held front others : List Held) : Type 0 where
  pub joined : held ≡ front ++ others
  pub same_key : AllByRecursion (λ h. h.key_op.now.key ≡ key) front
  pub past : IsPast key others

-- ---- where the last put or delete stands
pub tail_start-more : (held : List Held) (start i : ℕ) (h : Held) (base : Bool) → i < length held → h ≡ get_or held i h → base ≡ is_base h.key_op.now.op → start ≤ i →
    map seen (drop start (take i held)) ≡ since_base (map seen (take i held)) →
    map seen (drop (cond base i start) (take (i + 1) held)) ≡ since_base (map seen (take (i + 1) held))
tail_start-more held start i h base lt at is before tail =
    let more : take (i + 1) held ≡ take i held ++ h ∷ [] = take_more held i h lt ∙ ap (λ x. take i held ++ x ∷ []) (sym at) in
    let len : length (take i held) ≡ i = length-take-le i held (omega arith) in
    rw (more, map_push seen (take i held) h) (go base is len) where
      go : (base : Bool) → base ≡ is_base h.key_op.now.op → length (take i held) ≡ i → map seen (drop (cond base i start) (take i held ++ h ∷ [])) ≡ since_base (map seen (take i held) ++ seen h ∷ [])
      go true is len = rw (drop_at (take i held) (h ∷ []) i len) (sym (since_base-base (map seen (take i held)) (seen h) (sym is)))
      go false is len =
          let within : start ≤ length (take i held) = omega arith in
          rw (drop-append-le start (take i held) (h ∷ []) within, map_push seen (drop start (take i held)) h, tail)
          (sym (since_base-merge (map seen (take i held)) (seen h) (sym is)))

-- ---- the versions of a key at the front
front_of : List ℕ → List Held → ℕ
front_of key [] = 0
front_of key (h ∷ held) = cond (bytes_eq h.key_op.now.key key) (suc (front_of key held)) 0

front_of-count : (key : List ℕ) (held : List Held) → length (take_while (λ h. bytes_eq h.key_op.now.key key) held) ≡ front_of key held
unfolding front_of
front_of-count key held = length-prefix_len (λ h. bytes_eq h.key_op.now.key key) held ∙ go held where
  go : (held : List Held) → prefix_len (λ h. bytes_eq h.key_op.now.key key) held ≡ front_of key held
  go [] = refl
  go (h ∷ held) = elim (bytes_eq h.key_op.now.key key) as (λ t. cond t (1 + prefix_len (λ h. bytes_eq h.key_op.now.key key) held) 0 ≡ cond t (suc (front_of key held)) 0) [
    | true ↦ omega (arith, go held)
    | false ↦ refl
  ]

IsSplit-front : (key : List ℕ) (held : List Held) → IsSplit key held (take (front_of key held) held) (drop (front_of key held) held)
unfolding front_of
IsSplit-front key [] = record { joined = refl; same_key = tt; past = tt }
IsSplit-front key (h ∷ held) = go (bytes_eq h.key_op.now.key key) refl (IsSplit-front key held) where
  go : (t : Bool) → bytes_eq h.key_op.now.key key ≡ t → IsSplit key held (take (front_of key held) held) (drop (front_of key held) held) →
      IsSplit key (h ∷ held) (take (cond t (suc (front_of key held)) 0) (h ∷ held)) (drop (cond t (suc (front_of key held)) 0) (h ∷ held))
  go true same rest = record {
    joined = ap (λ x. h ∷ x) rest.joined;
    same_key = ((bytes_eq-Decides h.key_op.now.key key).0 same, rest.same_key);
    past = rest.past;
  }
  go false other rest = record { joined = refl; same_key = tt; past = other }

pub IsSplit-counted : (key : List ℕ) (held front others : List Held) (n : ℕ) → n ≡ length (take_while (λ h. bytes_eq h.key_op.now.key key) held) →
    front ≡ take n held → others ≡ drop n held → IsSplit key held front others
IsSplit-counted key held front others n counted front-is others-is =
    rw (front-is, others-is, counted, front_of-count key held) (IsSplit-front key held)

-- ---- what a stable sort by key gives
abbrev pub sorts_before : IterationOrder → Held → Held → Bool
sorts_before order left right = is_lt (order_cmp order left.key_op.now.key right.key_op.now.key)

pub sorts_before-order : (order : IterationOrder) → IsStrictWeakOrder (sorts_before order)
sorts_before-order order = ranks_by (order_cmp-total order) (λ (h : Held). h.key_op.now.key)

pub AreSorted-from_sort : (order : IterationOrder) (held : List Held) → IsSortedBy (sorts_before order) held → AreSorted order held
AreSorted-from_sort order held sorted = go held (λ i j d le lt. sorted_far (sorts_before order) (sorts_before-order order) held sorted i j d le lt) where
  go : (held : List Held) → ((i j : ℕ) (d : Held) → i ≤ j → j < length held → sorts_before order (get_or held j d) (get_or held i d) ≡ false) → AreSorted order held
  go [] far = tt
  go (h ∷ held) far = (
    recursion_from_All (λ later. is_before order later.key_op.now.key h.key_op.now.key ≡ false) held (λ k d lt. far zero (suc k) d (omega arith) (omega arith)),
    go held (λ i j d le lt. far (suc i) (suc j) d (omega arith) (omega arith)),
  )

-- neither of two keys comes before the other exactly where they are one
ties-key : (order : IterationOrder) (left right : Held) → ties (sorts_before order) left right ≡ bytes_eq right.key_op.now.key left.key_op.now.key
ties-key order left right = go order left.key_op.now.key right.key_op.now.key where
  both : (o : Ordering) → (not (is_lt o) && not (is_lt (ordering_reverse o))) ≡ is_eq (ordering_reverse o)
  both Less = refl
  both Equal = refl
  both Greater = refl

  other : (o : Ordering) → (not (is_lt (ordering_reverse o)) && not (is_lt o)) ≡ is_eq (ordering_reverse o)
  other Less = refl
  other Equal = refl
  other Greater = refl

  go : (order : IterationOrder) (a b : List ℕ) → (not (is_lt (order_cmp order a b)) && not (is_lt (order_cmp order b a))) ≡ bytes_eq b a
  go Ascending a b =
      ap (λ o. not (is_lt (key_cmp a b)) && not (is_lt o)) (nat_list_cmp_total.antisymm b a) ∙ both (key_cmp a b) ∙ ap is_eq (sym (nat_list_cmp_total.antisymm b a)) ∙ is_eq-slice_cmp b a
  go Descending a b =
      ap (λ o. not (is_lt o) && not (is_lt (key_cmp a b))) (nat_list_cmp_total.antisymm b a) ∙ other (key_cmp a b) ∙ ap is_eq (sym (nat_list_cmp_total.antisymm b a)) ∙ is_eq-slice_cmp b a

filter-same : (p q : Held → Bool) (held : List Held) → ((h : Held) → p h ≡ q h) → filter p held ≡ filter q held
filter-same p q [] same = refl
filter-same p q (h ∷ held) same = rw (same h, filter-same p q held same)

pub of_key-sorted : (order : IterationOrder) (old new : List Held) → IsPermutation old new → IsStableBy (sorts_before order) old new → (key : List ℕ) → of_key key new ≡ of_key key old
of_key-sorted order [] new moved stable key = ap (of_key key) (nil_from_length new (length_permutation [] new moved))
of_key-sorted order (h ∷ old) new moved stable key =
    let like : Held = record h { key_op = record { ref_ptr = h.key_op.ref_ptr; now = record { key = key; op = h.key_op.now.op } } } in
    filter-same _ _ new (λ x. sym (ties-key order like x)) ∙ stable like ∙ filter-same _ _ (h ∷ old) (ties-key order like)

pub front_of-within : (key : List ℕ) (held : List Held) (n : ℕ) → n ≡ length (take_while (λ h. bytes_eq h.key_op.now.key key) held) → n ≤ length held
unfolding front_of
front_of-within key held n counted = omega (arith, counted, front_of-count key held, le held) where
  le : (held : List Held) → front_of key held ≤ length held
  le [] = omega arith
  le (h ∷ held) = elim (bytes_eq h.key_op.now.key key) as (λ t. cond t (suc (front_of key held)) 0 ≤ suc (length held)) [
    | true ↦ omega (arith, le held)
    | false ↦ omega arith
  ]
