-- The rows of a range's gathered versions, sorted, are the plain scan.
use Rattle.std.proofs.Common.{◌≡◌, ◌≢◌, IsTrue, refl, sym, ◌∙◌, ap, ℕ, zero, suc, Bool, true, false, cond, List, [], ◌∷◌, map, Contains, Option, None, arith}
use Rattle.std.specs.List.{AllByRecursion, dedup}
use Rattle.std.specs.List.Sorted.{IsPermutation}
use Rattle.std.specs.Str.{bytes_eq}
use Rattle.std.proofs.lemmas.Cmp.{nat_list_eq_equiv}
use Rattle.std.proofs.lemmas.List.Elements.{All-from_recursion, recursion_from_All}
use Rattle.std.proofs.lemmas.List.Kept.{Contains-dedup, Contains-from_dedup}
use Rattle.std.proofs.lemmas.List.Sorted.{All-permutation}
use Rattle.std.proofs.lemmas.Slice.Eq.{bytes_eq-Decides}
use Rattle.slate_types.specs.declared.batches.Batch.{Batch}
use Rattle.slate_types.specs.declared.batches.KeyValue.{KeyValue}
use Rattle.slate_types.specs.declared.scan_options.IterationOrder.{IterationOrder}
use Rattle.slate_types.specs.declared.ranges.ByteRange.{ByteRange}
use Rattle.slate_types.specs.declared.read_faults.ReadFault.{ReadFault}
use Rattle.slate_reads.specs.declared.reads.Version.{Version as Held}
use Rattle.slate_rows.specs.Gathered.{AreGathered, AreSorted, held_keys, of_key, read_held, held_rows}
use Rattle.slate_rows.specs.Iteration.{Iteration, begun}
use Rattle.slate_types.specs.Operator.{Merge}
use Rattle.slate_types.specs.Range.{contains}
use Rattle.slate_reads.specs.Read.{history, read_at, fold_versions, since_base}
use Rattle.slate_rows.specs.Scan.{IsScan}
use Rattle.slate_reads.specs.Tails.{seen}
use Rattle.slate_rows.proofs.Scanning.{all-dedup, rows_of-same}
use Rattle.slate_rows.proofs.Steps.{order-begin}

pub within-moved : (range : ByteRange) (old new : List Held) → IsPermutation old new → AllByRecursion (λ h. contains range h.key_op.now.key ≡ true) old → AllByRecursion (λ h. contains range h.key_op.now.key ≡ true) new
within-moved range old new moved all =
    let P : Held → Type 0 = λ h. contains range h.key_op.now.key ≡ true in
    recursion_from_All P new (All-permutation P old new moved (All-from_recursion P old all))

-- a key that is held is in the range, and has versions
key-held : (range : ByteRange) (held : List Held) (key : List ℕ) → AllByRecursion (λ h. contains range h.key_op.now.key ≡ true) held → Contains (held_keys held) key →
    (contains range key ≡ true) × (of_key key held ≢ [])
key-held range [] key all (k, lt, at) = absurd (omega arith)
key-held range (h ∷ held) key all (zero, lt, at) = (ap (contains range) (sym at) ∙ all.0, λ none. (let some : cond (bytes_eq h.key_op.now.key key) (h ∷ of_key key held) (of_key key held) ≡ [] = none in let here = rw ((bytes_eq-Decides h.key_op.now.key key).1 at) at some in cc))
key-held range (h ∷ held) key all (suc k, lt, at) =
    let later = key-held range held key all.1 (k, omega arith, at) in
    (later.0, go (bytes_eq h.key_op.now.key key) later.1)
  where
    go : (t : Bool) → of_key key held ≢ [] → cond t (h ∷ of_key key held) (of_key key held) ≢ []
    go true some none = cc
    go false some none = some none

-- a key that has versions is held
held-key : (held : List Held) (key : List ℕ) → of_key key held ≢ [] → Contains (held_keys held) key
held-key [] key some = absurd (some refl)
held-key (h ∷ held) key some = go (bytes_eq h.key_op.now.key key) refl some (held-key held key) where
  go : (t : Bool) → bytes_eq h.key_op.now.key key ≡ t → cond t (h ∷ of_key key held) (of_key key held) ≢ [] → (of_key key held ≢ [] → Contains (held_keys held) key) → Contains (held_keys (h ∷ held)) key
  go true same some later = (zero, omega arith, (bytes_eq-Decides h.key_op.now.key key).0 same)
  go false other some later = let found = later some in (suc found.0, omega (arith, found.1), found.2)

all-keys : (P : List ℕ → Type 0) (held : List Held) → AllByRecursion (λ h. P h.key_op.now.key) held → AllByRecursion P (held_keys held)
all-keys P [] all = tt
all-keys P (h ∷ held) all = (all.0, all-keys P held all.1)

weaker : (P Q : Held → Type 0) (held : List Held) → ((h : Held) → P h → Q h) → AllByRecursion P held → AllByRecursion Q held
weaker P Q [] f all = tt
weaker P Q (h ∷ held) f all = (f h all.0, weaker P Q held f all.1)

-- The rows of the versions of a range, sorted by key, are the plain scan.
pub IsScan-from_held : (merge : Option Merge) (batches : List Batch) (bound : Option ℕ) (range : ByteRange) (order : IterationOrder) (old held : List Held) (rows : List KeyValue) (fault : Option ReadFault) →
    AreGathered (history batches bound) range old → IsPermutation old held → AreSorted order held → ((key : List ℕ) → of_key key held ≡ of_key key old) →
    held_rows merge held ≡ record { rows = rows; fault = fault } → IsScan merge batches bound range order rows fault
IsScan-from_held merge batches bound range order old held rows fault gathered moved sorted same taken = record {
  keys = keys;
  in_order = order-begin order held sorted;
  whole = λ key. (λ has. from_keys key has, λ found. to_keys key found.0 found.1);
  taken = rows_of-same (read_at merge batches bound) (read_held merge held) keys (all-dedup _ (held_keys held) (all-keys _ held (weaker _ _ held (λ h in_range. read_same h.key_op.now.key in_range) within))) ∙ taken;
} where
  keys : List (List ℕ)
  keys = dedup bytes_eq (held_keys held)

  within : AllByRecursion (λ h. contains range h.key_op.now.key ≡ true) held
  within = within-moved range old held moved gathered.within

  versions : (key : List ℕ) → contains range key ≡ true → history batches bound key ≡ map seen (of_key key held)
  versions key in_range = sym (gathered.whole key in_range) ∙ ap (map seen) (sym (same key))

  read_same : (key : List ℕ) → contains range key ≡ true → read_at merge batches bound key ≡ read_held merge held key
  read_same key in_range = ap (λ vs. fold_versions merge key None (since_base vs)) (versions key in_range)

  none : (held : List Held) → map seen held ≡ [] → held ≡ []
  none [] e = refl
  none (h ∷ held) e = cc

  from_keys : (key : List ℕ) → Contains keys key → IsTrue (contains range key) × (history batches bound key ≢ [])
  from_keys key has =
      let found = key-held range held key within (Contains-from_dedup bytes_eq (held_keys held) key has) in
      (found.0, λ empty. found.1 (none (of_key key held) (sym (versions key found.0) ∙ empty)))

  to_keys : (key : List ℕ) → IsTrue (contains range key) → history batches bound key ≢ [] → Contains keys key
  to_keys key in_range some =
      Contains-dedup nat_list_eq_equiv (λ x y e. (bytes_eq-Decides x y).0 e) (held_keys held) key (held-key held key (λ empty. some (versions key in_range ∙ ap (map seen) empty)))

-- an iteration that begins with them gives them
pub IsScan-begun : (merge : Option Merge) (batches : List Batch) (bound : Option ℕ) (range : ByteRange) (order : IterationOrder) (rows held : List KeyValue) (fault : Option ReadFault) (its : ByteRange) →
    held ≡ rows → IsScan merge batches bound range order rows fault → (it : Iteration) → it ≡ begun its order held fault → IsScan merge batches bound range order it.rows it.fault
IsScan-begun merge batches bound range order rows held fault its same plain it is =
    let rows-is : it.rows ≡ rows = ap (λ (x : Iteration). x.rows) is ∙ same in
    let fault-is : it.fault ≡ fault = ap (λ (x : Iteration). x.fault) is in
    rw (rows-is, fault-is) plain
