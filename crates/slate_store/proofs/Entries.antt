-- Entries under their keys: what a put and a removal leave, an entry behind all others, and what is last in a list.
use Rattle.slate_store.specs.Content.{IdsRise}
use Rattle.slate_store.specs.Objects.{entry_at, greatest, last, table_cmp, without}
use Rattle.slate_store.specs.declared.objects.TableId.{TableId}
use Rattle.std.proofs.Common.{◌++◌, ◌-◌, ◌<◌, ◌∙◌, ◌∷◌, ◌≡◌, ◌≢◌, [], Bool, List, None, Some, ap, arith, cond, false, get_or, inl, inr, length, length-append, map, not, refl, sub-one, sym, true, ℕ}
use Rattle.std.proofs.Math.Seq.{get_or-append_seam}
use Rattle.std.proofs.lemmas.Bool.{cases_order, eqb-true}
use Rattle.std.proofs.lemmas.Cmp.{alike_right, nat_cmp_total, on_total, then_total, tied_itself}
use Rattle.std.proofs.lemmas.List.Elements.{All-cons, All-nil}
use Rattle.std.proofs.lemmas.Map.Entries.{lookup-filter-keys}
use Rattle.std.proofs.lemmas.Option.{slice_get-get_or}
use Rattle.std.specs.BTreeMap.{insert_entry, is_at}
use Rattle.std.specs.Cmp.{IsTotalOrder, nat_cmp_is, unsigned_ties}
use Rattle.std.specs.List.Sorted.{IsStrictlySortedBy}
use Rattle.std.specs.List.{All, AllByRecursion, IsDistinct, filter, slice_get}
use Rattle.std.specs.Map.{keys_of, lookup}
use Rattle.std.specs.Ordering.{is_eq, match_ordering, nat_cmp, ordering_reverse, ordering_then}
use Rattle.std.specs.declared.cmp.Ordering.TheVariants.{Equal, Greater, Less}
use Rattle.std.specs.declared.cmp.Ordering.{Ordering}

-- a number above another compares greater
pub greater : (k e : ℕ) → e < k → nat_cmp k e ≡ Greater
greater k e h = sym (nat_cmp_is k e Greater h)

-- nothing stands under a number above all ids
pub absent : {X : Type 0} (k n : ℕ) (es : List (ℕ × X)) → greatest n (map (λ e. e.0) es) < k → entry_at k es ≡ None
absent k n [] h = refl
absent k n (e ∷ es) h =
    let above : e.0 < k = omega arith in
    let rest : greatest n (map (λ e. e.0) es) < k = omega arith in
    rw (greater k e.0 above) (absent k n es rest)

-- an entry behind others stands under none of the lower numbers
pub entry-below : {X : Type 0} (id k : ℕ) (x : X) (es : List (ℕ × X)) → id < k → entry_at id (es ++ (k, x) ∷ []) ≡ entry_at id es
entry-below id k x [] less = let other : nat_cmp id k ≡ Less = sym (nat_cmp_is id k Less less) in rw other refl
entry-below id k x (e ∷ es) less = ap (λ rest. cond (is_at (nat_cmp id) e.0) (Some e.1) rest) (entry-below id k x es less)

-- an entry with an id above all others goes to the end
pub insert-last : {X : Type 0} (k n : ℕ) (x : X) (es : List (ℕ × X)) → greatest n (map (λ e. e.0) es) < k → insert_entry nat_cmp es k x ≡ es ++ (k, x) ∷ []
insert-last k n x [] h = refl
insert-last k n x (e ∷ es) h =
    let above : e.0 < k = omega arith in
    let rest : greatest n (map (λ e. e.0) es) < k = omega arith in
    rw (greater k e.0 above) (ap (λ xs. e ∷ xs) (insert-last k n x es rest))

pub last-at : {X : Type 0} (x : X) (xs : List X) → slice_get (x ∷ xs) (length xs) ≡ Some (get_or (x ∷ xs) (length xs) x)
last-at x xs = slice_get-get_or (x ∷ xs) (length xs) x (omega arith)

-- a list without a last element has none
pub nil-from-last : {X : Type 0} (xs : List X) → last xs ≡ None → xs ≡ []
nil-from-last [] h = refl
nil-from-last (x ∷ xs) h =
    let none = rw sub-one at h in
    let some = last-at x xs in
    absurd (cc (none, some))

-- the last element of a list that ends in it
pub last-push : {X : Type 0} (xs : List X) (x : X) → last (xs ++ x ∷ []) ≡ Some x
last-push xs x =
    let n : length (xs ++ x ∷ []) - 1 ≡ length xs = simp length-append (omega arith) in
    rw n (slice_get-get_or (xs ++ x ∷ []) (length xs) x (simp length-append (omega arith)) ∙ ap Some (get_or-append_seam xs x [] x))

-- ---- keys in a total order
pub tied : (r : Ordering) → is_eq r ≡ true → r ≡ Equal
tied Less h = absurd (cc)
tied Equal h = refl
tied Greater h = absurd (cc)

module _ {X K : Type 0} (key : X → K) (test : X → Bool) where
  -- what passes of each key passes of those that a filter leaves
  all-filter : (P : K → Type 0) (xs : List X) → AllByRecursion P (map key xs) → AllByRecursion P (map key (filter test xs))
  all-filter P [] all = tt
  all-filter P (x ∷ xs) all = elim (test x) as (λ t. AllByRecursion P (map key (cond t (x ∷ filter test xs) (filter test xs)))) [
    | true ↦ (all.0, all-filter P xs all.1)
    | false ↦ all-filter P xs all.1
  ]

  -- keys in order stay so in a filter
  pub sorted-filter : (cmp : K → K → Ordering) (xs : List X) → IsStrictlySortedBy cmp (map key xs) → IsStrictlySortedBy cmp (map key (filter test xs))
  unfolding IsStrictlySortedBy
  sorted-filter cmp [] sorted = tt
  sorted-filter cmp (x ∷ xs) sorted = elim (test x) as (λ t. IsStrictlySortedBy cmp (map key (cond t (x ∷ filter test xs) (filter test xs)))) [
    | true ↦ (all-filter (λ y. cmp (key x) y ≡ Less) xs sorted.0, sorted-filter cmp xs sorted.1)
    | false ↦ sorted-filter cmp xs sorted.1
  ]

  -- and keys that differ do
  pub distinct-filter : (eq : K → K → Bool) (xs : List X) → IsDistinct eq (map key xs) → IsDistinct eq (map key (filter test xs))
  unfolding IsDistinct
  distinct-filter eq [] differ = tt
  distinct-filter eq (x ∷ xs) differ = elim (test x) as (λ t. IsDistinct eq (map key (cond t (x ∷ filter test xs) (filter test xs)))) [
    | true ↦ (all-filter (λ y. eq (key x) y ≡ false) xs differ.0, distinct-filter eq xs differ.1)
    | false ↦ distinct-filter eq xs differ.1
  ]

pub rising-filter : {X : Type 0} (key : X → ℕ) (test : X → Bool) (xs : List X) → IdsRise (map key xs) → IdsRise (map key (filter test xs))
rising-filter key test [] rising = tt
rising-filter key test (x ∷ xs) rising = elim (test x) as (λ t. IdsRise (map key (cond t (x ∷ filter test xs) (filter test xs)))) [
  | true ↦ (all-filter key test (λ later. key x < later) xs rising.0, rising-filter key test xs rising.1)
  | false ↦ rising-filter key test xs rising.1
]

-- a filter that all pass
pub filter-all : {X : Type 0} (xs : List X) → filter (λ _. true) xs ≡ xs
filter-all [] = refl
filter-all (x ∷ xs) = ap (λ rest. x ∷ rest) (filter-all xs)

-- what passes of each key of entries passes of each entry's key
pub all-from_keys : {K X : Type 0} (P : K → Type 0) (es : List (K × X)) → AllByRecursion P (keys_of es) → All (λ e. P e.0) es
all-from_keys P [] all = All-nil (λ e. P e.0)
all-from_keys P (e ∷ es) all = All-cons (λ e. P e.0) e es all.0 (all-from_keys P es all.1)

module _ {K : Type 0} {cmp : K → K → Ordering} (total : IsTotalOrder cmp) where
  -- under another key than the one that is put stands what stood there
  pub lookup-insert_other : {X : Type 0} (q k : K) (v : X) (es : List (K × X)) → is_at (cmp q) k ≡ false → lookup (is_at (cmp q)) (insert_entry cmp es k v) ≡ lookup (is_at (cmp q)) es
  lookup-insert_other q k v [] apart = rw apart refl
  lookup-insert_other {X} q k v (e ∷ es) apart = by (cmp k e.0) refl (lookup-insert_other q k v es apart) where
    by : (r : Ordering) → cmp k e.0 ≡ r → lookup (is_at (cmp q)) (insert_entry cmp es k v) ≡ lookup (is_at (cmp q)) es → lookup (is_at (cmp q)) (match_ordering r ((k, v) ∷ e ∷ es) ((e.0, v) ∷ es) (e ∷ insert_entry cmp es k v)) ≡ lookup (is_at (cmp q)) (e ∷ es)
    by Less is later = rw apart refl
    by Equal is later = let other : is_at (cmp q) e.0 ≡ false = ap is_eq (sym (alike_right total k e.0 q is)) ∙ apart in rw other refl
    by Greater is later = ap (λ rest. cond (is_at (cmp q) e.0) (Some e.1) rest) later

  -- and under that one stands what was put
  pub lookup-insert_same : {X : Type 0} (k : K) (v : X) (es : List (K × X)) → lookup (is_at (cmp k)) (insert_entry cmp es k v) ≡ Some v
  lookup-insert_same k v [] = rw (tied_itself total k) refl
  lookup-insert_same {X} k v (e ∷ es) = by (cmp k e.0) refl (lookup-insert_same k v es) where
    by : (r : Ordering) → cmp k e.0 ≡ r → lookup (is_at (cmp k)) (insert_entry cmp es k v) ≡ Some v → lookup (is_at (cmp k)) (match_ordering r ((k, v) ∷ e ∷ es) ((e.0, v) ∷ es) (e ∷ insert_entry cmp es k v)) ≡ Some v
    by Less is later = rw (tied_itself total k) refl
    by Equal is later = rw is refl
    by Greater is later = rw is later

  -- under another key than the one that is removed stands what stood there
  pub lookup-without : {X : Type 0} (q k : K) (es : List (K × X)) → is_at (cmp k) q ≡ false → lookup (is_at (cmp q)) (without (is_at (cmp k)) es) ≡ lookup (is_at (cmp q)) es
  lookup-without q k es apart =
      lookup-filter-keys (is_at (cmp q)) (λ key. not (is_at (cmp k) key)) true
      (λ key same. ap not (ap is_eq (sym (alike_right total q key k (tied (cmp q key) same))) ∙ apart)) es

  -- what passes of each key and of the one that is put passes of each after the put
  pub all-insert : {X : Type 0} (P : K → Type 0) (k : K) (v : X) (es : List (K × X)) → AllByRecursion P (keys_of es) → P k → AllByRecursion P (keys_of (insert_entry cmp es k v))
  all-insert P k v [] all new = (new, tt)
  all-insert {X} P k v (e ∷ es) all new = elim (cmp k e.0) as (λ r. AllByRecursion P (keys_of (match_ordering r ((k, v) ∷ e ∷ es) ((e.0, v) ∷ es) (e ∷ insert_entry cmp es k v)))) [
    | Less ↦ (new, all)
    | Equal ↦ all
    | Greater ↦ (all.0, all-insert P k v es all.1 new)
  ]

  all-above : (k e : K) (ks : List K) → cmp k e ≡ Less → AllByRecursion (λ y. cmp e y ≡ Less) ks → AllByRecursion (λ y. cmp k y ≡ Less) ks
  all-above k e [] less all = tt
  all-above k e (x ∷ ks) less all = (total.trans k e x less all.0, all-above k e ks less all.1)

  -- keys in order stay so
  pub sorted-insert : {X : Type 0} (k : K) (v : X) (es : List (K × X)) → IsStrictlySortedBy cmp (keys_of es) → IsStrictlySortedBy cmp (keys_of (insert_entry cmp es k v))
  unfolding IsStrictlySortedBy
  sorted-insert k v [] sorted = (tt, tt)
  sorted-insert {X} k v (e ∷ es) sorted = by (cmp k e.0) refl (sorted-insert k v es sorted.1) where
    by : (r : Ordering) → cmp k e.0 ≡ r → IsStrictlySortedBy cmp (keys_of (insert_entry cmp es k v)) → IsStrictlySortedBy cmp (keys_of (match_ordering r ((k, v) ∷ e ∷ es) ((e.0, v) ∷ es) (e ∷ insert_entry cmp es k v)))
    by Less is later = ((is, all-above k e.0 (keys_of es) is sorted.0), sorted)
    by Equal is later = sorted
    by Greater is later = (all-insert (λ y. cmp e.0 y ≡ Less) k v es sorted.0 (total.antisymm e.0 k ∙ ap ordering_reverse is), later)

-- ---- the keys of a store
pub apart : (a b : ℕ) → a ≢ b → is_at (nat_cmp a) b ≡ false
apart a b differ = elim (cases_order a b) [
  | inl same ↦ absurd (differ same)
  | inr other ↦ elim other [
    | inl less ↦ let l : nat_cmp a b ≡ Less = sym (nat_cmp_is a b Less less) in rw l refl
    | inr more ↦ rw (greater a b more) refl
  ]
]

pub table_total : IsTotalOrder table_cmp
table_total = then_total (on_total (λ (t : TableId). t.epoch) nat_cmp_total) (on_total (λ (t : TableId). t.index) nat_cmp_total)

-- keys that are tied are one
pub same_number : (a b : ℕ) → nat_cmp a b ≡ Equal → a ≡ b
same_number a b h = eqb-true a b (unsigned_ties a b ∙ ap is_eq h)

pub same_table : (a b : TableId) → table_cmp a b ≡ Equal → a ≡ b
same_table a b h = by (nat_cmp a.epoch b.epoch) refl h where
  by : (r : Ordering) → nat_cmp a.epoch b.epoch ≡ r → ordering_then r (nat_cmp a.index b.index) ≡ Equal → a ≡ b
  by Less is h = absurd (cc)
  by Equal is h =
      let epochs = same_number a.epoch b.epoch is in
      let indices = same_number a.index b.index h in
      λ i. record { epoch = epochs i; index = indices i }
  by Greater is h = absurd (cc)
