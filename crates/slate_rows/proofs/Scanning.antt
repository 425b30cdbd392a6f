-- The rows of sorted versions are the row of the first key and the rows of the others.
use Rattle.std.proofs.Common.{◌≡◌, refl, sym, ◌∙◌, ap, ℕ, Bool, true, false, cond, List, [], ◌∷◌, ◌++◌, map, Option, None, Result}
use Rattle.std.specs.List.{AllByRecursion, dedup, dedup_from}
use Rattle.std.specs.Str.{bytes_eq}
use Rattle.std.specs.declared.cmp.Ordering.{Ordering}
use Rattle.std.specs.declared.cmp.Ordering.TheVariants.{Less, Equal, Greater}
use Rattle.std.specs.Ordering.{is_lt, is_eq, ordering_reverse}
use Rattle.std.proofs.lemmas.Bool.{false≢true}
use Rattle.std.proofs.lemmas.Cmp.{tied_itself, alike_right}
use Rattle.std.proofs.lemmas.List.{append-nil}
use Rattle.std.proofs.lemmas.List.Elements.{filter-append}
use Rattle.std.proofs.lemmas.Map.Text.{is_eq-slice_cmp}
use Rattle.std.proofs.lemmas.Slice.Eq.{bytes_eq-Decides}
use Rattle.slate_types.specs.declared.batches.KeyValue.{KeyValue}
use Rattle.slate_types.specs.declared.scan_options.IterationOrder.{IterationOrder}
use Rattle.slate_types.specs.declared.scan_options.IterationOrder.TheVariants.{Ascending, Descending}
use Rattle.slate_types.specs.declared.read_faults.ReadFault.{ReadFault}
use Rattle.slate_reads.specs.declared.reads.Version.{Version as Held}
use Rattle.slate_rows.specs.Gathered.{AreSorted, held_keys, of_key, read_held, held_rows}
use Rattle.slate_types.specs.Operator.{Merge}
use Rattle.slate_types.specs.Order.{order_cmp, is_before}
use Rattle.slate_reads.specs.Read.{fold_versions, since_base}
use Rattle.slate_rows.specs.Scan.{with_found, rows_of}
use Rattle.slate_reads.specs.Tails.{seen}
use Rattle.slate_rows.proofs.Grouping.{IsPast}
use Rattle.slate_rows.proofs.Passing.{order_cmp-total}

-- ---- keys that differ
pub bytes_eq-same : (key : List ℕ) → bytes_eq key key ≡ true
bytes_eq-same key = (bytes_eq-Decides key key).1 refl

-- keys that stand in an order differ
pub apart : (order : IterationOrder) (a b : List ℕ) → order_cmp order a b ≡ Less → bytes_eq b a ≡ false
apart order a b less = go (bytes_eq b a) refl where
  go : (t : Bool) → bytes_eq b a ≡ t → t ≡ false
  go false is = refl
  go true is =
      let same : b ≡ a = (bytes_eq-Decides b a).0 is in
      let tie : Less ≡ Equal = sym less ∙ ap (order_cmp order a) same ∙ tied_itself (order_cmp-total order) a in
      absurd cc

-- a key that isn't before another, and isn't it, comes after it
pub after : (order : IterationOrder) (a b : List ℕ) → is_before order b a ≡ false → bytes_eq b a ≡ false → order_cmp order a b ≡ Less
after order a b not_before other = go (order_cmp order a b) refl where
  go : (o : Ordering) → order_cmp order a b ≡ o → o ≡ Less
  go Less is = refl
  go Greater is = absurd (false≢true (sym not_before ∙ ap is_lt ((order_cmp-total order).antisymm b a ∙ ap ordering_reverse is)))
  go Equal is = absurd (false≢true (sym other ∙ same order is)) where
    same : (order : IterationOrder) → order_cmp order a b ≡ Equal → bytes_eq b a ≡ true
    same Ascending equal = (bytes_eq-Decides b a).1 (sym ((bytes_eq-Decides a b).0 (sym (is_eq-slice_cmp a b) ∙ ap is_eq equal)))
    same Descending equal = sym (is_eq-slice_cmp b a) ∙ ap is_eq equal

-- and so does what isn't before that
after-later : (order : IterationOrder) (a b c : List ℕ) → order_cmp order a b ≡ Less → is_before order c b ≡ false → order_cmp order a c ≡ Less
after-later order a b c less not_before = go (order_cmp order b c) refl where
  go : (o : Ordering) → order_cmp order b c ≡ o → order_cmp order a c ≡ Less
  go Less is = (order_cmp-total order).trans a b c less is
  go Equal is = sym (alike_right (order_cmp-total order) b c a is) ∙ less
  go Greater is = absurd (false≢true (sym not_before ∙ ap is_lt ((order_cmp-total order).antisymm c b ∙ ap ordering_reverse is)))

-- ---- the versions of a key, and the others
of_key-front : (key : List ℕ) (front : List Held) → AllByRecursion (λ h. h.key_op.now.key ≡ key) front → of_key key front ≡ front
of_key-front key [] same = refl
of_key-front key (h ∷ front) same = rw ((bytes_eq-Decides h.key_op.now.key key).1 same.0) (ap (λ x. h ∷ x) (of_key-front key front same.1))

of_key-off : (key : List ℕ) (held : List Held) → AllByRecursion (λ h. bytes_eq h.key_op.now.key key ≡ false) held → of_key key held ≡ []
of_key-off key [] off = refl
of_key-off key (h ∷ held) off = rw off.0 (of_key-off key held off.1)

pub AreSorted-back : (order : IterationOrder) (front others : List Held) → AreSorted order (front ++ others) → AreSorted order others
AreSorted-back order [] others sorted = sorted
AreSorted-back order (h ∷ front) others sorted = AreSorted-back order front others sorted.1

all-back : (P : Held → Type 0) (front others : List Held) → AllByRecursion P (front ++ others) → AllByRecursion P others
all-back P [] others all = all
all-back P (h ∷ front) others all = all-back P front others all.1

-- no later version is of the key, where the first of them isn't
pub off-others : (order : IterationOrder) (key : List ℕ) (h : Held) (front others : List Held) → AreSorted order ((h ∷ front) ++ others) → h.key_op.now.key ≡ key → IsPast key others →
    AllByRecursion (λ later. bytes_eq later.key_op.now.key key ≡ false) others
off-others order key h front [] sorted is past = tt
off-others order key h front (o ∷ others) sorted is past =
    let not_before = all-back (λ later. is_before order later.key_op.now.key h.key_op.now.key ≡ false) front (o ∷ others) sorted.0 in
    let less : order_cmp order key o.key_op.now.key ≡ Less = after order key o.key_op.now.key (rw (← is) not_before.0) past in
    let rest : AreSorted order (o ∷ others) = AreSorted-back order (h ∷ front) (o ∷ others) sorted in
    (past, go others rest.0 less)
  where
    go : (held : List Held) → AllByRecursion (λ later. is_before order later.key_op.now.key o.key_op.now.key ≡ false) held → order_cmp order key o.key_op.now.key ≡ Less →
        AllByRecursion (λ later. bytes_eq later.key_op.now.key key ≡ false) held
    go [] later less = tt
    go (x ∷ held) later less = (apart order key x.key_op.now.key (after-later order key o.key_op.now.key x.key_op.now.key less later.0), go held later.1 less)

-- ---- the keys, each once
dedup-front : (key : List ℕ) (front others : List Held) → AllByRecursion (λ h. h.key_op.now.key ≡ key) front → AllByRecursion (λ h. bytes_eq h.key_op.now.key key ≡ false) others →
    dedup_from bytes_eq key (held_keys (front ++ others)) ≡ key ∷ dedup bytes_eq (held_keys others)
dedup-front key [] [] same off = refl
dedup-front key [] (o ∷ others) same off = rw off.0
dedup-front key (h ∷ front) others same off = rw ((bytes_eq-Decides h.key_op.now.key key).1 same.0) (dedup-front key front others same.1 off)

pub keys-split : (key : List ℕ) (h : Held) (front others : List Held) → h.key_op.now.key ≡ key → AllByRecursion (λ h. h.key_op.now.key ≡ key) front → AllByRecursion (λ h. bytes_eq h.key_op.now.key key ≡ false) others →
    dedup bytes_eq (held_keys ((h ∷ front) ++ others)) ≡ key ∷ dedup bytes_eq (held_keys others)
keys-split key h front others is same off = ap (λ k. dedup_from bytes_eq k (held_keys (front ++ others))) is ∙ dedup-front key front others same off

pub all-dedup : (P : List ℕ → Type 0) (keys : List (List ℕ)) → AllByRecursion P keys → AllByRecursion P (dedup bytes_eq keys)
all-dedup P [] all = tt
all-dedup P (k ∷ keys) all = go k keys all.0 all.1 where
  go : (k : List ℕ) (keys : List (List ℕ)) → P k → AllByRecursion P keys → AllByRecursion P (dedup_from bytes_eq k keys)
  go k [] one all = (one, tt)
  go k (x ∷ keys) one all = elim (bytes_eq x k) as (λ t. AllByRecursion P (cond t (dedup_from bytes_eq k keys) (k ∷ dedup_from bytes_eq x keys))) [
    | true ↦ go k keys one all.1
    | false ↦ (one, go x keys all.0 all.1)
  ]

-- ---- the rows of keys
pub rows_of-same : (f g : List ℕ → Result (Option KeyValue) ReadFault) (keys : List (List ℕ)) → AllByRecursion (λ key. f key ≡ g key) keys → rows_of f keys ≡ rows_of g keys
rows_of-same f g [] same = refl
rows_of-same f g (key ∷ keys) same = rw (same.0, rows_of-same f g keys same.1)

-- at other keys, a key's versions don't count
of_key-others : (key other : List ℕ) (front others : List Held) → AllByRecursion (λ h. h.key_op.now.key ≡ key) front → bytes_eq other key ≡ false → of_key other (front ++ others) ≡ of_key other others
of_key-others key other [] others same off = refl
of_key-others key other (h ∷ front) others same off = rw (different h.key_op.now.key same.0) (of_key-others key other front others same.1 off) where
  different : (k : List ℕ) → k ≡ key → bytes_eq k other ≡ false
  different k is = go (bytes_eq k other) refl where
    go : (t : Bool) → bytes_eq k other ≡ t → t ≡ false
    go false e = refl
    go true e = absurd (false≢true (sym off ∙ (bytes_eq-Decides other key).1 (sym ((bytes_eq-Decides k other).0 e) ∙ is)))

keys-off : (key : List ℕ) (held : List Held) → AllByRecursion (λ h. bytes_eq h.key_op.now.key key ≡ false) held → AllByRecursion (λ k. bytes_eq k key ≡ false) (held_keys held)
keys-off key [] off = tt
keys-off key (h ∷ held) off = (off.0, keys-off key held off.1)

weaker : (P Q : List ℕ → Type 0) (keys : List (List ℕ)) → ((k : List ℕ) → P k → Q k) → AllByRecursion P keys → AllByRecursion Q keys
weaker P Q [] f all = tt
weaker P Q (k ∷ keys) f all = (f k all.0, weaker P Q keys f all.1)

-- the rows of sorted versions: the row of the first key, and the rows of the others
pub held_rows-split : (merge : Option Merge) (order : IterationOrder) (key : List ℕ) (h : Held) (front others : List Held) → AreSorted order ((h ∷ front) ++ others) → h.key_op.now.key ≡ key →
    AllByRecursion (λ h. h.key_op.now.key ≡ key) front → IsPast key others →
    held_rows merge ((h ∷ front) ++ others) ≡ with_found (fold_versions merge key None (since_base (map seen (h ∷ front)))) (held_rows merge others)
held_rows-split merge order key h front others sorted is same past =
    let off = off-others order key h front others sorted is past in
    let all_same : AllByRecursion (λ h. h.key_op.now.key ≡ key) (h ∷ front) = (is, same) in
    let mine : of_key key ((h ∷ front) ++ others) ≡ h ∷ front =
    filter-append (λ (x : Held). bytes_eq x.key_op.now.key key) (h ∷ front) others ∙ ap (λ x. of_key key (h ∷ front) ++ x) (of_key-off key others off) ∙ append-nil _ ∙ of_key-front key (h ∷ front) all_same in
    let theirs = rows_of-same (read_held merge ((h ∷ front) ++ others)) (read_held merge others) (dedup bytes_eq (held_keys others))
    (all-dedup _ (held_keys others) (weaker _ _ (held_keys others) (λ k other. ap (λ x. fold_versions merge k None (since_base (map seen x))) (of_key-others key k (h ∷ front) others all_same other)) (keys-off key others off))) in
    ap (rows_of (read_held merge ((h ∷ front) ++ others))) (keys-split key h front others is same off)
    ∙ ap (λ x. with_found (fold_versions merge key None (since_base (map seen x))) (rows_of (read_held merge ((h ∷ front) ++ others)) (dedup bytes_eq (held_keys others)))) mine
    ∙ ap (with_found (fold_versions merge key None (since_base (map seen (h ∷ front))))) theirs
