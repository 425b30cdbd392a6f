-- Adding versions one by one gives the tail of a key, and folding them its row.
use Rattle.std.proofs.Common.{◌≡◌, refl, sym, ◌∙◌, ap, ℕ, ◌+◌, ◌<◌, Bool, true, false, cond, List, [], ◌∷◌, ◌++◌, ◌||◌, length, get_or, take, drop, map, Option, Some, None, IfSome, Result, Ok}
use Rattle.std.specs.List.{list_any, AllByRecursion}
use Rattle.std.specs.Str.{bytes_eq}
use Rattle.std.proofs.lemmas.List.{take_more, drop_more, map_push, map-append, append-nil, append_assoc}
use Rattle.std.proofs.lemmas.List.Folds.{list_any-append}
use Rattle.std.proofs.lemmas.List.Elements.{filter-append, All-from_recursion}
use Rattle.slate_types.specs.declared.batches.Batch.{Batch}
use Rattle.slate_types.specs.declared.batches.KeyOp.{KeyOp}
use Rattle.slate_types.specs.declared.batches.KeyValue.{KeyValue}
use Rattle.slate_types.specs.declared.read_faults.ReadFault.{ReadFault}
use Rattle.slate_reads.specs.declared.reads.Version.{Version as Held}
use Rattle.slate_types.specs.Operator.{Merge}
use Rattle.slate_reads.specs.Read.{Version, is_base, since_base, versions_in, history, row_after, and_then, fold_versions}
use Rattle.slate_reads.specs.Tails.{seen, IsTail}
use Rattle.slate_reads.proofs.Lists.{all-append}

-- a put or a delete at the end: nothing before it counts
pub since_base-base : (versions : List Version) (last : Version) → is_base last.op ≡ true → since_base (versions ++ last ∷ []) ≡ last ∷ []
since_base-base [] last base = refl
since_base-base (version ∷ versions) last base =
    rw (list_any-append (λ v. is_base v.op) versions (last ∷ []))
    (rw base (elim (list_any (λ v. is_base v.op) versions) as
    (λ b. cond (b || true) (since_base (versions ++ last ∷ [])) (version ∷ (versions ++ last ∷ [])) ≡ last ∷ [])
    [ true ↦ since_base-base versions last base | false ↦ since_base-base versions last base ]))

-- a merge at the end is one more
pub since_base-merge : (versions : List Version) (last : Version) → is_base last.op ≡ false → since_base (versions ++ last ∷ []) ≡ since_base versions ++ last ∷ []
since_base-merge [] last merge = refl
since_base-merge (version ∷ versions) last merge =
    rw (list_any-append (λ v. is_base v.op) versions (last ∷ []))
    (rw merge (elim (list_any (λ v. is_base v.op) versions) as
    (λ b. cond (b || false) (since_base (versions ++ last ∷ [])) (version ∷ (versions ++ last ∷ [])) ≡ cond b (since_base versions) (version ∷ versions) ++ last ∷ [])
    [ true ↦ since_base-merge versions last merge | false ↦ refl ]))

-- one more version, as `add_version` adds it: kept is what stays of the versions held
pub IsTail-more : (history : List Version) (held kept new : List Held) (last : Held) (base : Bool) → base ≡ is_base last.key_op.now.op →
    kept ≡ cond base [] held → new ≡ kept ++ last ∷ [] →
    IsTail last.key_op.now.key history held → IsTail last.key_op.now.key (history ++ seen last ∷ []) new
IsTail-more history held kept new last true is kept-is new-is before = record {
  tail = rw (new-is, kept-is) (sym (since_base-base history (seen last) (sym is)));
  same_key = rw (new-is, kept-is) (refl, tt);
}
IsTail-more history held kept new last false is kept-is new-is before = record {
  tail = rw (new-is, kept-is) (map_push seen held last ∙ ap (λ vs. vs ++ seen last ∷ []) before.tail ∙ sym (since_base-merge history (seen last) (sym is)));
  same_key = rw (new-is, kept-is) (all-append (λ (h : Held). h.key_op.now.key ≡ last.key_op.now.key) held (last ∷ []) before.same_key (refl, tt));
}

-- the versions of a key in the operations so far, and in one more
pub versions_in-more : (key : List ℕ) (batch : Batch) (items : List KeyOp) (i : ℕ) (o : KeyOp) → items ≡ batch.ops → i < length items → o ≡ get_or items i o →
    versions_in key (record batch { ops = take (i + 1) batch.ops }) ≡
    versions_in key (record batch { ops = take i batch.ops }) ++ versions_in key (record batch { ops = o ∷ [] })
versions_in-more key batch items i o same lt at =
    let more : take (i + 1) batch.ops ≡ take i batch.ops ++ o ∷ [] = rw (← same) (take_more items i o lt ∙ ap (λ x. take i items ++ x ∷ []) (sym at)) in
    rw (more, filter-append) (map-append _ _ _)

-- one more operation of the key
pub versions_in-more_same : (key : List ℕ) (batch : Batch) (items : List KeyOp) (i : ℕ) (o : KeyOp) → items ≡ batch.ops → i < length items → o ≡ get_or items i o →
    bytes_eq o.key key ≡ true → (history : List Version) →
    history ++ versions_in key (record batch { ops = take (i + 1) batch.ops }) ≡
    history ++ versions_in key (record batch { ops = take i batch.ops }) ++ record { op = o.op; number = batch.number; create_ts = batch.create_ts } ∷ []
versions_in-more_same key batch items i o same lt at is_key history =
    rw (versions_in-more key batch items i o same lt at, is_key) (sym (append_assoc history _ _))

-- one more operation of another key
pub versions_in-more_other : (key : List ℕ) (batch : Batch) (items : List KeyOp) (i : ℕ) (o : KeyOp) → items ≡ batch.ops → i < length items → o ≡ get_or items i o →
    bytes_eq o.key key ≡ false →
    versions_in key (record batch { ops = take (i + 1) batch.ops }) ≡ versions_in key (record batch { ops = take i batch.ops })
versions_in-more_other key batch items i o same lt at other =
    rw (versions_in-more key batch items i o same lt at, other) (append-nil _)

-- a fold goes on by the row after the next version
pub fold_versions-more : (merge : Option Merge) (key : List ℕ) (before after : Option KeyValue) (held : List Held) (i : ℕ) (h : Held) (whole : Result (Option KeyValue) ReadFault) →
    i < length held → h ≡ get_or held i h → AllByRecursion (λ v. v.key_op.now.key ≡ key) held →
    row_after merge h.key_op.now.key before (seen h) h.key_op.now.op ≡ Ok after →
    fold_versions merge key before (map seen (drop i held)) ≡ whole → fold_versions merge key after (map seen (drop (i + 1) held)) ≡ whole
fold_versions-more merge key before after held i h whole lt at same step start =
    let is_key : h.key_op.now.key ≡ key = rw at (All-from_recursion (λ (v : Held). v.key_op.now.key ≡ key) held same i h lt) in
    let there : drop i held ≡ h ∷ drop (i + 1) held = drop_more held i h lt ∙ ap (λ x. x ∷ drop (i + 1) held) (sym at) in
    ap (λ r. and_then r (λ next. fold_versions merge key next (map seen (drop (i + 1) held)))) (sym (rw is_key at step)) ∙
    rw there at start

-- the row has the key of the versions
pub keyed-more : (key : List ℕ) (held : List Held) (i : ℕ) (h : Held) (found : Option KeyValue) →
    i < length held → h ≡ get_or held i h → AllByRecursion (λ v. v.key_op.now.key ≡ key) held →
    IfSome found (λ row. row.key ≡ h.key_op.now.key) → IfSome found (λ row. row.key ≡ key)
keyed-more key held i h None lt at same keyed = keyed
keyed-more key held i h (Some row) lt at same keyed = keyed ∙ rw at (All-from_recursion (λ (v : Held). v.key_op.now.key ≡ key) held same i h lt)

-- after what came before, the versions in a batch up to an operation and that of the operation are those up to the next
pub versions_in-one_more : (f : List ℕ → List Version) (batch : Batch) (items : List KeyOp) (i : ℕ) (o : KeyOp) → items ≡ batch.ops → i < length items → o ≡ get_or items i o → (key : List ℕ) →
    (f key ++ versions_in key (record batch { ops = take i batch.ops })) ++ versions_in key (record batch { ops = o ∷ [] }) ≡ f key ++ versions_in key (record batch { ops = take (i + 1) batch.ops })
versions_in-one_more f batch items i o same lt at key = append_assoc (f key) _ _ ∙ ap (λ x. f key ++ x) (sym (versions_in-more key batch items i o same lt at))
