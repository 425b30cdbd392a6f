-- The tail of a key in batches and own operations after them, and the row that it makes.
use Rattle.std.proofs.Common.{◌≡◌, refl, sym, ◌∙◌, ap, subst, ℕ, Bool, true, false, cond, Decides, List, [], ◌∷◌, ◌++◌, ◌||◌, map, filter, pos, Option, Some, None, IfSome, Result, Ok, Err}
use Rattle.std.specs.List.{list_any, flat_map}
use Rattle.std.specs.Str.{bytes_eq}
use Rattle.std.proofs.lemmas.Bool.{false≢true}
use Rattle.std.proofs.lemmas.List.{append-nil}
use Rattle.std.proofs.lemmas.List.Concat.{flat_map-append}
use Rattle.std.proofs.lemmas.List.Folds.{list_any-append}
use Rattle.std.proofs.lemmas.Slice.Eq.{bytes_eq-Decides}
use Rattle.slate_types.specs.declared.batches.Batch.{Batch}
use Rattle.slate_types.specs.declared.batches.KeyOp.{KeyOp}
use Rattle.slate_types.specs.declared.batches.KeyValue.{KeyValue}
use Rattle.slate_types.specs.declared.read_faults.ReadFault.{ReadFault}
use Rattle.slate_types.specs.declared.read_faults.ReadFault.TheVariants.{ChecksumMismatch, MergeOperatorError, MergeOperatorMissing, NoMemory}
use Rattle.slate_types.specs.Operator.{Merge}
use Rattle.slate_reads.specs.Read.{Reads, Version, and_then, fold_versions, history, is_base, is_within, read_at, row_after, since_base, versions_in}
use Rattle.slate_reads.specs.Tails.{IsTail}
use Rattle.slate_reads.specs.declared.reads.Version.{Version as Held}
use Rattle.slate_reads.proofs.Ends.{history-append, within, within-all}
use Rattle.slate_types.specs.declared.ranges.ByteRange.{ByteRange}
use Rattle.slate_rows.specs.Walked.{AreWalked}
use Rattle.std.specs.BTreeMap.{BTreeMap, get}
use Rattle.std.specs.Option.{unwrap_or}
use Rattle.slate_types.specs.Range.{key_cmp}
use Rattle.slate_transactions.specs.Kept.{AreByKey, row_batch}
use Rattle.slate_transactions.specs.Own.{on_key, own_batch, seen_with}

-- whether one of these versions is a put or a delete
abbrev pub has_base : List Version → Bool
has_base versions = list_any (λ v. is_base v.op) versions

-- nothing counts before versions with a put or a delete
since_base-after : (earlier own : List Version) → has_base own ≡ true → since_base (earlier ++ own) ≡ since_base own
since_base-after [] own base = refl
since_base-after (v ∷ earlier) own base =
    rw (list_any-append (λ v. is_base v.op) earlier own, base)
    (elim (list_any (λ v. is_base v.op) earlier) as (λ b. cond (b || true) (since_base (earlier ++ own)) (v ∷ (earlier ++ own)) ≡ since_base own) [
      | true ↦ since_base-after earlier own base
      | false ↦ since_base-after earlier own base
    ])

-- merges alone: all of them count
since_base-merges : (own : List Version) → has_base own ≡ false → since_base own ≡ own
since_base-merges [] merges = refl
since_base-merges (v ∷ own) merges = go (is_base v.op) (has_base own) merges refl where
  go : (b any : Bool) → (b || any) ≡ false → has_base own ≡ any → cond (has_base own) (since_base own) (v ∷ own) ≡ v ∷ own
  go false false none is = rw is refl
  go false true none is = absurd (cc)
  go true any none is = absurd (cc)

-- merges go on after what counts before them
since_base-before : (earlier own : List Version) → has_base own ≡ false → since_base (earlier ++ own) ≡ since_base earlier ++ own
since_base-before [] own merges = since_base-merges own merges
since_base-before (v ∷ earlier) own merges =
    rw (list_any-append (λ v. is_base v.op) earlier own, merges)
    (elim (list_any (λ v. is_base v.op) earlier) as (λ b. cond (b || false) (since_base (earlier ++ own)) (v ∷ (earlier ++ own)) ≡ cond b (since_base earlier) (v ∷ earlier) ++ own) [
      | true ↦ since_base-before earlier own merges
      | false ↦ refl
    ])

-- a fold over versions goes on over those after them
fold_versions-append : (merge : Option Merge) (key : List ℕ) (before : Option KeyValue) (earlier own : List Version) →
    fold_versions merge key before (earlier ++ own) ≡ and_then (fold_versions merge key before earlier) (λ after. fold_versions merge key after own)
fold_versions-append merge key before [] own = refl
fold_versions-append merge key before (v ∷ earlier) own = go (row_after merge key before v v.op) (λ after. fold_versions-append merge key after earlier own) where
  go : (r : Result (Option KeyValue) ReadFault)
      → ((after : Option KeyValue) → fold_versions merge key after (earlier ++ own) ≡ and_then (fold_versions merge key after earlier) (λ last. fold_versions merge key last own))
      → and_then r (λ after. fold_versions merge key after (earlier ++ own)) ≡ and_then (and_then r (λ after. fold_versions merge key after earlier)) (λ after. fold_versions merge key after own)
  go (Ok after) more = more after
  go (Err fault) more = refl

pub same-key : (key : List ℕ) → bytes_eq key key ≡ true
same-key key = decided (bytes_eq key key) (bytes_eq-Decides key key) where
  decided : (b : Bool) → Decides b (key ≡ key) → b ≡ true
  decided true d = refl
  decided false d = absurd (false≢true (d.1 refl))

-- the row that a put of a row leaves is that row
row-again : (merge : Option Merge) (key : List ℕ) (before : Option KeyValue) → IfSome before (λ row. row.key ≡ key) →
    fold_versions merge key None (since_base (versions_in key (row_batch before))) ≡ Ok before
row-again merge key None keyed = refl
row-again merge key (Some row) keyed = rw keyed (rw (same-key key) refl)

-- ---- own operations after a row, and after the versions before it
pub over-base : (merge : Option Merge) (key : List ℕ) (before : Option KeyValue) (earlier own : List Version) → has_base own ≡ true →
    fold_versions merge key None (since_base (versions_in key (row_batch before) ++ own)) ≡ fold_versions merge key None (since_base (earlier ++ own))
over-base merge key before earlier own base =
    ap (fold_versions merge key None) (since_base-after (versions_in key (row_batch before)) own base ∙ sym (since_base-after earlier own base))

pub over-merges : (merge : Option Merge) (key : List ℕ) (before : Option KeyValue) (earlier own : List Version) → has_base own ≡ false →
    IfSome before (λ row. row.key ≡ key) → fold_versions merge key None (since_base earlier) ≡ Ok before →
    fold_versions merge key None (since_base (versions_in key (row_batch before) ++ own)) ≡ fold_versions merge key None (since_base (earlier ++ own))
over-merges merge key before earlier own merges keyed is =
    let same = row-again merge key before keyed ∙ sym is in
    ap (fold_versions merge key None) (since_base-before (versions_in key (row_batch before)) own merges)
    ∙ fold_versions-append merge key None (since_base (versions_in key (row_batch before))) own
    ∙ ap (λ r. and_then r (λ after. fold_versions merge key after own)) same
    ∙ sym (fold_versions-append merge key None (since_base earlier) own)
    ∙ ap (fold_versions merge key None) (sym (since_base-before earlier own merges))

-- and where the versions before them have a fault
pub over-fault : (merge : Option Merge) (key : List ℕ) (earlier own : List Version) (fault : ReadFault) → has_base own ≡ false →
    fold_versions merge key None (since_base earlier) ≡ Err fault → fold_versions merge key None (since_base (earlier ++ own)) ≡ Err fault
over-fault merge key earlier own fault merges is =
    ap (fold_versions merge key None) (since_base-before earlier own merges)
    ∙ fold_versions-append merge key None (since_base earlier) own
    ∙ ap (λ r. and_then r (λ after. fold_versions merge key after own)) is

-- ---- the versions that a read with own operations sees
pub all-pass : {A : Type 0} (xs : List A) → filter (λ _. true) xs ≡ xs
all-pass [] = refl
all-pass (x ∷ xs) = ap (λ ys. x ∷ ys) (all-pass xs)

pub seen-history : (bound : Option ℕ) (batches : List Batch) (own : Batch) (key : List ℕ) →
    history (seen_with bound batches own) None key ≡ history batches bound key ++ versions_in key own
seen-history bound batches own key =
    let front = filter (λ (b : Batch). is_within bound b.number) batches in
    history-append front (own ∷ []) None key
    ∙ ap (λ bs. flat_map (versions_in key) bs ++ (versions_in key own ++ [])) (all-pass front)
    ∙ ap (λ vs. history batches bound key ++ vs) (append-nil (versions_in key own))

pub row-history : (before : Option KeyValue) (own : Batch) (key : List ℕ) →
    history (row_batch before ∷ own ∷ []) None key ≡ versions_in key (row_batch before) ++ versions_in key own
row-history before own key = ap (λ vs. versions_in key (row_batch before) ++ vs) (append-nil (versions_in key own))

-- the versions of a key are those of the operations on it
on_key-again : (key : List ℕ) (ops : List KeyOp) → on_key key (on_key key ops) ≡ on_key key ops
on_key-again key [] = refl
on_key-again key (o ∷ ops) = go (bytes_eq o.key key) refl (on_key-again key ops) where
  go : (b : Bool) → bytes_eq o.key key ≡ b → on_key key (on_key key ops) ≡ on_key key ops → on_key key (cond b (o ∷ on_key key ops) (on_key key ops)) ≡ cond b (o ∷ on_key key ops) (on_key key ops)
  go true is more = rw is (ap (λ os. o ∷ os) more)
  go false is more = more

pub versions-on_key : (start : ℕ) (key : List ℕ) (ops : List KeyOp) → versions_in key (own_batch start (on_key key ops)) ≡ versions_in key (own_batch start ops)
versions-on_key start key ops = ap (λ os. map (λ (o : KeyOp). record { op = o.op; number = start; create_ts = pos 0 }) os) (on_key-again key ops)

pub has_base-ops : (batch : Batch) (ops : List KeyOp) → has_base (map (λ (o : KeyOp). record { op = o.op; number = batch.number; create_ts = batch.create_ts }) ops) ≡ list_any (λ o. is_base o.op) ops
has_base-ops batch [] = refl
has_base-ops batch (o ∷ ops) = ap (λ b. is_base o.op || b) (has_base-ops batch ops)

-- ---- the tail that the code takes
pub begun-tail : (key : List ℕ) (held : List Held) → held ≡ [] → IsTail key [] held
begun-tail key held none = rw none (record { tail = refl; same_key = tt })

-- ---- what a read answers, by what the code reads
module _ (merge : Option Merge) (bound : Option ℕ) (batches : List Batch) (own : Batch) (key : List ℕ) where
  abbrev earlier : List Version
  earlier = history batches bound key

  abbrev mine : List Version
  mine = versions_in key own

  target-is : read_at merge (seen_with bound batches own) None key ≡ fold_versions merge key None (since_base (earlier ++ mine))
  target-is = ap (λ vs. fold_versions merge key None (since_base vs)) (seen-history bound batches own key)

  -- without own operations on the key
  pub reads-none : (result : Result (Option KeyValue) ReadFault) → mine ≡ [] → Reads (read_at merge batches bound key) result → Reads (read_at merge (seen_with bound batches own) None key) result
  reads-none result none reads =
      subst (λ (r : Result (Option KeyValue) ReadFault). Reads r result)
      (sym (target-is ∙ ap (λ vs. fold_versions merge key None (since_base vs)) (ap (λ vs. earlier ++ vs) none ∙ append-nil earlier))) reads

  module _ (before : Option KeyValue) (at : Batch) (same : versions_in key at ≡ mine) where
    code-is : read_at merge (row_batch before ∷ at ∷ []) None key ≡ fold_versions merge key None (since_base (versions_in key (row_batch before) ++ mine))
    code-is = ap (λ vs. fold_versions merge key None (since_base vs)) (row-history before at key ∙ ap (λ vs. versions_in key (row_batch before) ++ vs) same)

    -- with a put or a delete among them
    pub reads-base : (result : Result (Option KeyValue) ReadFault) → has_base mine ≡ true → Reads (read_at merge (row_batch before ∷ at ∷ []) None key) result → Reads (read_at merge (seen_with bound batches own) None key) result
    reads-base result base reads =
        subst (λ (r : Result (Option KeyValue) ReadFault). Reads r result) (code-is ∙ over-base merge key before earlier mine base ∙ sym target-is) reads

    -- with merges alone, over the row that was found before them
    pub reads-merges : (result : Result (Option KeyValue) ReadFault) → has_base mine ≡ false → IfSome before (λ row. row.key ≡ key) → Reads (read_at merge batches bound key) (Ok before) →
        Reads (read_at merge (row_batch before ∷ at ∷ []) None key) result → Reads (read_at merge (seen_with bound batches own) None key) result
    reads-merges result merges keyed found reads =
        subst (λ (r : Result (Option KeyValue) ReadFault). Reads r result) (code-is ∙ over-merges merge key before earlier mine merges keyed found ∙ sym target-is) reads

  -- and where that was refused
  pub reads-fault : (fault : ReadFault) → has_base mine ≡ false → Reads (read_at merge batches bound key) (Err fault) → Reads (read_at merge (seen_with bound batches own) None key) (Err fault)
  reads-fault NoMemory merges reads = tt
  reads-fault ChecksumMismatch merges reads = target-is ∙ over-fault merge key earlier mine ChecksumMismatch merges reads
  reads-fault MergeOperatorMissing merges reads = target-is ∙ over-fault merge key earlier mine MergeOperatorMissing merges reads
  reads-fault MergeOperatorError merges reads = target-is ∙ over-fault merge key earlier mine MergeOperatorError merges reads

-- ---- the keys that a scan walks over
none-both : {A : Type 0} (xs ys : List A) → xs ++ ys ≡ [] → (xs ≡ []) × (ys ≡ [])
none-both [] ys none = (refl, none)
none-both (x ∷ xs) ys none = absurd (cc)

pub walked-seen : (bound : Option ℕ) (batches : List Batch) (own : Batch) (range : ByteRange) (keys : List (List ℕ)) → AreWalked (batches ++ own ∷ []) range keys → AreWalked (seen_with bound batches own) range keys
walked-seen bound batches own range keys walked = record {
  within = walked.within;
  whole = λ key inside some. walked.whole key inside (λ none.
      let parts = none-both (flat_map (versions_in key) batches) (versions_in key own ++ []) (sym (flat_map-append (versions_in key) batches (own ∷ [])) ∙ none) in
      let front : history batches bound key ≡ [] = sym (within-all bound key batches) ∙ ap (within bound) parts.0 in
      some (flat_map-append (versions_in key) (filter (λ (b : Batch). is_within bound b.number) batches) (own ∷ []) ∙ ap (λ vs. vs ++ (versions_in key own ++ [])) front ∙ parts.1));
}

-- ---- the operations that are kept of a key
module _ (start : ℕ) (ops : List KeyOp) (by_key : BTreeMap (List ℕ) Batch) (key : List ℕ) (own : Batch) (kept : AreByKey start ops by_key) (own-is : own_batch start ops ≡ own) where
  at-is : (at : Batch) → get key_cmp by_key key ≡ Some at → at ≡ own_batch start (on_key key ops)
  at-is at found = sym (ap (λ (o : Option Batch). unwrap_or o (own_batch start [])) found) ∙ kept key

  pub kept-versions : (at : Batch) → get key_cmp by_key key ≡ Some at → versions_in key at ≡ versions_in key own
  kept-versions at found = ap (versions_in key) (at-is at found) ∙ versions-on_key start key ops ∙ ap (versions_in key) own-is

  pub kept-none : get key_cmp by_key key ≡ None → versions_in key own ≡ []
  kept-none none =
      let empty : on_key key ops ≡ [] = ap (λ (b : Batch). b.ops) (sym (kept key) ∙ ap (λ (o : Option Batch). unwrap_or o (own_batch start [])) none) in
      ap (versions_in key) (sym own-is) ∙ ap (map (λ (o : KeyOp). record { op = o.op; number = start; create_ts = pos 0 })) empty

  pub kept-base : (at : Batch) → get key_cmp by_key key ≡ Some at → has_base (versions_in key own) ≡ list_any (λ (o : KeyOp). is_base o.op) at.ops
  kept-base at found =
      ap (λ (b : Batch). has_base (versions_in key b)) (sym own-is) ∙ has_base-ops (own_batch start ops) (on_key key ops)
      ∙ ap (λ (b : Batch). list_any (λ (o : KeyOp). is_base o.op) b.ops) (sym (at-is at found))
