-- A transaction's operations by key after one more.
use Rattle.std.proofs.Common.{◌≡◌, ◌≢◌, refl, sym, ◌∙◌, ap, subst, ℕ, suc, pos, Bool, true, false, cond, not, ◌&&◌, Decides, List, [], ◌∷◌, ◌++◌, Contains, map, filter, arith, Option, Some, None, IsSome, Result, Ok, Err, OnOk, OnErr}
use Rattle.std.specs.Borrow.{Bor}
use Rattle.std.specs.List.{AllByRecursion}
use Rattle.std.specs.Map.{lookup}
use Rattle.std.specs.Map.Iter.{deref_pair}
use Rattle.std.specs.BTreeMap.{BTreeMap, Updates, get, is_at}
use Rattle.std.specs.Option.{unwrap_or}
use Rattle.std.specs.Ordering.{is_eq}
use Rattle.std.specs.Str.{bytes_eq}
use Rattle.std.proofs.lemmas.List.{append-nil, append_assoc, map-append}
use Rattle.std.proofs.lemmas.List.Elements.{filter-append}
use Rattle.std.proofs.lemmas.Map.Text.{is_eq-slice_cmp}
use Rattle.std.proofs.lemmas.Slice.Eq.{bytes_eq-Decides}
use Rattle.slate_types.specs.declared.batches.Batch.{Batch}
use Rattle.slate_types.specs.declared.batches.KeyOp.{KeyOp}
use Rattle.slate_types.specs.declared.ranges.ByteRange.{ByteRange}
use Rattle.slate_types.specs.Range.{contains, key_cmp}
use Rattle.slate_reads.specs.Read.{is_base, versions_in}
use Rattle.slate_rows.specs.Walked.{AreWalked, key_list}
use Rattle.slate_rows.proofs.Walks.{AreWalked-more}
use Rattle.slate_transactions.specs.Kept.{AreByKey, has_any, own_at}
use Rattle.slate_transactions.specs.Own.{on_key, own_batch, with_op}

-- ---- a map of batches after one was set
pub set-is : {E : Type 0} (start : ℕ) (old new : BTreeMap (List ℕ) Batch) (key : List ℕ) (own : Batch) (result : Result (Option Batch) E) →
    IsSome (get key_cmp old key) → OnOk result (Updates key_cmp old new key (Some own)) → OnErr result (get key_cmp old key ≡ None) →
    (other : List ℕ) → own_at start new other ≡ cond (bytes_eq key other) own (own_at start old other)
set-is start old new key own (Err e) there ok err other = absurd (let none = err in let some = rw none at there in cc)
set-is start old new key own (Ok before) there ok err other =
    ap (λ o. unwrap_or o (own_batch start [])) (ok.0 other) ∙ ap (λ b. unwrap_or (cond b (Some own) (get key_cmp old other)) (own_batch start [])) (is_eq-slice_cmp key other)
    ∙ go (bytes_eq key other) where
      go : (b : Bool) → unwrap_or (cond b (Some own) (get key_cmp old other)) (own_batch start []) ≡ cond b own (own_at start old other)
      go true = refl
      go false = refl

-- and after room was made for a key
pub placed-is : (start : ℕ) (old new : BTreeMap (List ℕ) Batch) (key at : List ℕ) (none : Batch) → at ≡ key → none ≡ own_batch start [] → get key_cmp old key ≡ None →
    Updates key_cmp old new at (Some none) → (other : List ℕ) → own_at start new other ≡ own_at start old other
placed-is start old new key at none at-is none-is absent updates other =
    ap (λ o. unwrap_or o (own_batch start [])) (updates.0 other) ∙ ap (λ b. unwrap_or (cond b (Some none) (get key_cmp old other)) (own_batch start [])) (is_eq-slice_cmp at other)
    ∙ go (bytes_eq at other) (bytes_eq-Decides at other) where
      go : (b : Bool) → Decides b (at ≡ other) → unwrap_or (cond b (Some none) (get key_cmp old other)) (own_batch start []) ≡ own_at start old other
      go true d = none-is ∙ ap (λ o. unwrap_or o (own_batch start [])) (sym absent ∙ ap (get key_cmp old) (sym at-is ∙ d.0 refl))
      go false d = refl

-- ---- the operations on a key after one more
none-but : (ops : List KeyOp) (key : List ℕ) → on_key key ops ≡ [] → filter (λ o. not (bytes_eq o.key key)) ops ≡ ops
none-but [] key none = refl
none-but (o ∷ ops) key none = go (bytes_eq o.key key) none (none-but ops key) where
  go : (b : Bool) → cond b (o ∷ on_key key ops) (on_key key ops) ≡ [] → (on_key key ops ≡ [] → filter (λ o. not (bytes_eq o.key key)) ops ≡ ops)
      → cond (not b) (o ∷ filter (λ o. not (bytes_eq o.key key)) ops) (filter (λ o. not (bytes_eq o.key key)) ops) ≡ o ∷ ops
  go true none more = absurd (cc)
  go false none more = ap (λ os. o ∷ os) (more none)

-- those that a put or a delete leaves of another key, and of its own
other-left : (ops : List KeyOp) (key other : List ℕ) → bytes_eq key other ≡ false → on_key other (filter (λ o. not (bytes_eq o.key key)) ops) ≡ on_key other ops
other-left [] key other apart = refl
other-left (o ∷ ops) key other apart = go (bytes_eq o.key key) (bytes_eq-Decides o.key key) (other-left ops key other apart) where
  rest : List KeyOp
  rest = filter (λ o. not (bytes_eq o.key key)) ops

  go : (b : Bool) → Decides b (o.key ≡ key) → on_key other rest ≡ on_key other ops → on_key other (cond (not b) (o ∷ rest) rest) ≡ on_key other (o ∷ ops)
  go true d more = more ∙ ap (λ b. cond b (o ∷ on_key other ops) (on_key other ops)) (sym (ap (λ k. bytes_eq k other) (d.0 refl) ∙ apart))
  go false d more = ap (λ os. cond (bytes_eq o.key other) (o ∷ os) os) more

own-left : (ops : List KeyOp) (key : List ℕ) → on_key key (filter (λ o. not (bytes_eq o.key key)) ops) ≡ []
own-left [] key = refl
own-left (o ∷ ops) key = go (bytes_eq o.key key) refl (own-left ops key) where
  rest : List KeyOp
  rest = filter (λ o. not (bytes_eq o.key key)) ops

  go : (b : Bool) → bytes_eq o.key key ≡ b → on_key key rest ≡ [] → on_key key (cond (not b) (o ∷ rest) rest) ≡ []
  go true is more = more
  go false is more = rw is more

last-of : (key : List ℕ) (ops : List KeyOp) (o : KeyOp) (b : Bool) → bytes_eq o.key key ≡ b → on_key key (ops ++ o ∷ []) ≡ on_key key ops ++ cond b (o ∷ []) []
last-of key ops o b is = filter-append (λ (o : KeyOp). bytes_eq o.key key) ops (o ∷ []) ∙ ap (λ b. on_key key ops ++ cond b (o ∷ []) []) is

-- what is kept of them, and the one more
pub kept-with : (ops kept : List KeyOp) (o : KeyOp) (replaces : Bool) → replaces ≡ (is_base o.op && has_any (on_key o.key ops)) →
    kept ≡ cond replaces (filter (λ (x : KeyOp). not (bytes_eq x.key o.key)) ops) ops → kept ++ o ∷ [] ≡ with_op ops o
kept-with ops kept o replaces is kept-is = ap (λ os. os ++ o ∷ []) kept-is ∙ go (is_base o.op) (on_key o.key ops) refl replaces is where
  left : List KeyOp
  left = filter (λ (x : KeyOp). not (bytes_eq x.key o.key)) ops

  go : (b : Bool) (mine : List KeyOp) → on_key o.key ops ≡ mine → (r : Bool) → r ≡ (b && has_any mine) → cond r left ops ++ o ∷ [] ≡ cond b (left ++ o ∷ []) (ops ++ o ∷ [])
  go false mine mine-is r is = rw is refl
  go true [] mine-is r is = rw is (ap (λ os. os ++ o ∷ []) (sym (none-but ops o.key mine-is)))
  go true (x ∷ mine) mine-is r is = rw is refl

-- each key has its operations
pub on_key-with : (start : ℕ) (ops : List KeyOp) (o : KeyOp) (key : List ℕ) →
    cond (bytes_eq o.key key) (own_batch start (cond (is_base o.op) (o ∷ []) (on_key o.key ops ++ o ∷ []))) (own_batch start (on_key key ops)) ≡ own_batch start (on_key key (with_op ops o))
on_key-with start ops o key = go (bytes_eq o.key key) (bytes_eq-Decides o.key key) refl (is_base o.op) where
  left : List KeyOp
  left = filter (λ (x : KeyOp). not (bytes_eq x.key o.key)) ops

  nil : (xs : List KeyOp) → xs ++ [] ≡ xs
  nil [] = refl
  nil (x ∷ xs) = ap (λ ys. x ∷ ys) (nil xs)

  go : (b : Bool) → Decides b (o.key ≡ key) → bytes_eq o.key key ≡ b → (base : Bool) →
      cond b (own_batch start (cond base (o ∷ []) (on_key o.key ops ++ o ∷ []))) (own_batch start (on_key key ops)) ≡ own_batch start (on_key key (cond base (left ++ o ∷ []) (ops ++ o ∷ [])))
  go true d is true = ap (own_batch start) (sym (last-of key left o true is ∙ ap (λ os. os ++ o ∷ []) (ap (λ k. on_key k left) (sym (d.0 refl)) ∙ own-left ops o.key)))
  go true d is false = ap (own_batch start) (ap (λ k. on_key k ops ++ o ∷ []) (d.0 refl) ∙ sym (last-of key ops o true is))
  go false d is true = ap (own_batch start) (sym (last-of key left o false is ∙ nil (on_key key left) ∙ other-left ops o.key key is))
  go false d is false = ap (own_batch start) (sym (last-of key ops o false is ∙ nil (on_key key ops)))

-- the operations that are there on a key
found-ops : (start first : ℕ) (ops : List KeyOp) (by_key : BTreeMap (List ℕ) Batch) (key : List ℕ) (found : Option Batch) → AreByKey start ops by_key → found ≡ get key_cmp by_key key →
    (unwrap_or found (own_batch first [])).ops ≡ on_key key ops
found-ops start first ops by_key key found kept is = same found ∙ ap (λ (o : Option Batch). (unwrap_or o (own_batch start [])).ops) is ∙ ap (λ (b : Batch). b.ops) (kept key) where
  same : (o : Option Batch) → (unwrap_or o (own_batch first [])).ops ≡ (unwrap_or o (own_batch start [])).ops
  same None = refl
  same (Some b) = refl

-- What adding an operation leaves: each key has its operations, and they are those with one more.
pub added : (start : ℕ) (ops new : List KeyOp) (by_key made after : BTreeMap (List ℕ) Batch) (o : KeyOp) (key : List ℕ) (found : Option Batch) (own : Batch) (replaces : Bool) →
    AreByKey start ops by_key → key ≡ o.key → found ≡ get key_cmp by_key key →
    own ≡ own_batch start (cond (is_base o.op) (o ∷ []) ((unwrap_or found (own_batch start [])).ops ++ o ∷ [])) →
    replaces ≡ (is_base o.op && has_any (unwrap_or found (own_batch 0 [])).ops) →
    ((k : List ℕ) → own_at start made k ≡ own_at start by_key k) →
    ((k : List ℕ) → own_at start after k ≡ cond (bytes_eq key k) own (own_at start made k)) →
    new ≡ cond replaces (filter (λ (x : KeyOp). not (bytes_eq x.key o.key)) ops) ops ++ o ∷ [] →
    AreByKey start new after × (new ≡ with_op ops o)
added start ops new by_key made after o key found own replaces kept key-is found-is own-is replaces-is made-is after-is new-is = (each, whole) where
  mine : (first : ℕ) → (unwrap_or found (own_batch first [])).ops ≡ on_key o.key ops
  mine first = found-ops start first ops by_key key found kept found-is ∙ ap (λ k. on_key k ops) key-is

  whole : new ≡ with_op ops o
  whole = new-is ∙ kept-with ops (cond replaces (filter (λ (x : KeyOp). not (bytes_eq x.key o.key)) ops) ops) o replaces (replaces-is ∙ ap (λ os. is_base o.op && has_any os) (mine 0)) refl

  own-mine : own ≡ own_batch start (cond (is_base o.op) (o ∷ []) (on_key o.key ops ++ o ∷ []))
  own-mine = own-is ∙ ap (λ os. own_batch start (cond (is_base o.op) (o ∷ []) (os ++ o ∷ []))) (mine start)

  each : (k : List ℕ) → own_at start after k ≡ own_batch start (on_key k new)
  each k =
      after-is k ∙ ap (λ at. cond (bytes_eq at k) own (own_at start made k)) key-is
      ∙ ap (λ b. cond (bytes_eq o.key k) b (own_at start made k)) own-mine
      ∙ ap (λ b. cond (bytes_eq o.key k) (own_batch start (cond (is_base o.op) (o ∷ []) (on_key o.key ops ++ o ∷ []))) b) (made-is k ∙ kept k)
      ∙ on_key-with start ops o k ∙ ap (λ os. own_batch start (on_key k os)) (sym whole)

-- ---- the own keys of a range
pub keys-more : (first old new : List (Bor (List ℕ))) (yielded : List (Bor (List ℕ) × Bor Batch)) (k : Bor (List ℕ)) (v : Bor Batch) →
    key_list old ≡ key_list first ++ map (λ (e : List ℕ × Batch). e.0) (map deref_pair yielded) → new ≡ old ++ k ∷ [] →
    key_list new ≡ key_list first ++ map (λ (e : List ℕ × Batch). e.0) (map deref_pair (yielded ++ (k, v) ∷ []))
keys-more first old new yielded k v before is =
    ap key_list is ∙ map-append (λ (key : Bor (List ℕ)). key.now) old (k ∷ []) ∙ ap (λ ks. ks ++ k.now ∷ []) before
    ∙ append_assoc (key_list first) (map (λ (e : List ℕ × Batch). e.0) (map deref_pair yielded)) (k.now ∷ [])
    ∙ ap (λ ks. key_list first ++ ks) (sym (ap (map (λ (e : List ℕ × Batch). e.0)) (map-append deref_pair yielded ((k, v) ∷ [])) ∙ map-append (λ (e : List ℕ × Batch). e.0) (map deref_pair yielded) ((k.now, v.now) ∷ [])))

inside-all : (range : ByteRange) (entries : List (List ℕ × Batch)) → AllByRecursion (λ key. contains range key ≡ true) (map (λ (e : List ℕ × Batch). e.0) (filter (λ (e : List ℕ × Batch). contains range e.0) entries))
inside-all range [] = tt
inside-all range (e ∷ entries) = go (contains range e.0) refl (inside-all range entries) where
  rest : List (List ℕ × Batch)
  rest = filter (λ (x : List ℕ × Batch). contains range x.0) entries

  go : (b : Bool) → contains range e.0 ≡ b → AllByRecursion (λ key. contains range key ≡ true) (map (λ (x : List ℕ × Batch). x.0) rest) → AllByRecursion (λ key. contains range key ≡ true) (map (λ (x : List ℕ × Batch). x.0) (cond b (e ∷ rest) rest))
  go true is more = (is, more)
  go false is more = more

inside-there : (range : ByteRange) (key : List ℕ) (entries : List (List ℕ × Batch)) → contains range key ≡ true → IsSome (lookup (is_at (key_cmp key)) entries) →
    Contains (map (λ (e : List ℕ × Batch). e.0) (filter (λ (e : List ℕ × Batch). contains range e.0) entries)) key
inside-there range key [] inside some = absurd (let no = some in cc)
inside-there range key (e ∷ entries) inside some = go (bytes_eq key e.0) (bytes_eq-Decides key e.0) (is_eq-slice_cmp key e.0) some (inside-there range key entries inside) where
  rest : List (List ℕ × Batch)
  rest = filter (λ (x : List ℕ × Batch). contains range x.0) entries

  keys : List (List ℕ × Batch) → List (List ℕ)
  keys es = map (λ (x : List ℕ × Batch). x.0) es

  later : (b : Bool) → Contains (keys rest) key → Contains (keys (cond b (e ∷ rest) rest)) key
  later true there = (suc there.0, omega (arith, there.1), there.2)
  later false there = there

  go : (b : Bool) → Decides b (key ≡ e.0) → is_eq (key_cmp key e.0) ≡ b → IsSome (cond (is_eq (key_cmp key e.0)) (Some e.1) (lookup (is_at (key_cmp key)) entries)) → (IsSome (lookup (is_at (key_cmp key)) entries) → Contains (keys rest) key)
      → Contains (keys (cond (contains range e.0) (e ∷ rest) rest)) key
  go true d is some more = rw (sym (ap (contains range) (d.0 refl)) ∙ inside) (0, omega arith, sym (d.0 refl))
  go false d is some more = later (contains range e.0) (more (rw is at some))

own-found : (start : ℕ) (ops : List KeyOp) (by_key : BTreeMap (List ℕ) Batch) (key : List ℕ) → AreByKey start ops by_key → versions_in key (own_batch start ops) ≢ [] → IsSome (get key_cmp by_key key)
own-found start ops by_key key kept some = go (get key_cmp by_key key) refl where
  go : (found : Option Batch) → get key_cmp by_key key ≡ found → IsSome found
  go (Some b) is = refl
  go None is = absurd (some (ap (map (λ (o : KeyOp). record { op = o.op; number = start; create_ts = pos 0 })) (ap (λ (b : Batch). b.ops) (sym (kept key) ∙ ap (λ (o : Option Batch). unwrap_or o (own_batch start [])) is))))

-- after them the walk is one over the own operations too
pub own-walk : (batches : List Batch) (start : ℕ) (ops : List KeyOp) (by_key : BTreeMap (List ℕ) Batch) (range : ByteRange) (keys new : List (List ℕ)) → AreByKey start ops by_key → AreWalked batches range keys →
    new ≡ keys ++ map (λ (e : List ℕ × Batch). e.0) (filter (λ (e : List ℕ × Batch). contains range e.0) by_key.entries) → AreWalked (batches ++ own_batch start ops ∷ []) range new
own-walk batches start ops by_key range keys new kept walked is =
    subst (λ ks. AreWalked (batches ++ own_batch start ops ∷ []) range ks) (sym is)
    (AreWalked-more batches (own_batch start ops ∷ []) range keys _ walked (inside-all range by_key.entries)
    (λ key inside some. inside-there range key by_key.entries inside (own-found start ops by_key key kept (λ none. some (append-nil (versions_in key (own_batch start ops)) ∙ none)))))
