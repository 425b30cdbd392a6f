-- Reading the operations of a batch, and those that stay.
use Rattle.std.proofs.Common.{◌≡◌, ℕ, ◌+◌, Bool, true, false, not, ◌&&◌, cond, List, [], ◌∷◌, ◌++◌, take, drop, reverse, Option, Some, None, option_and_then, refl, sym, ap, ◌∙◌, append_assoc}
use Rattle.std.specs.List.{filter, position, slice_split}
use Rattle.std.specs.Option.{option_map}
use Rattle.std.specs.Str.{bytes_eq}
use Rattle.std.proofs.lemmas.Cmp.{nat_list_eq_equiv}
use Rattle.std.proofs.lemmas.List.{append-nil, reverse-append}
use Rattle.std.proofs.lemmas.List.Elements.{filter-append}
use Rattle.std.proofs.lemmas.List.Sums.{fold-append}
use Rattle.std.proofs.lemmas.Slice.Eq.{bytes_eq-Decides}
use Rattle.slate_types.specs.Written.{with_base, with_merge}
use Rattle.slate_types.specs.declared.batches.KeyOp.{KeyOp}
use Rattle.slate_script.specs.Writes.{is_merge, is_separator, piece_of, operations_of, with_operation, written}
use Rattle.slate_script.proofs.LineLemmas.{parts_at, one_part}

-- ---- reading one piece after another

-- operations before those that are still to come
abbrev pub after_ops : List KeyOp → Option (List KeyOp) → Option (List KeyOp)
after_ops front behind = option_map (λ ops. front ++ ops) behind

pub after_none : (behind : Option (List KeyOp)) → after_ops [] behind ≡ behind
after_none (Some ops) = refl
after_none None = refl

-- an operation before the others
abbrev before : KeyOp → Option (List KeyOp) → Option (List KeyOp)
before added behind = option_and_then (λ ops. Some (added ∷ ops)) behind

regroup : (front : List KeyOp) (added : KeyOp) (behind : Option (List KeyOp)) → after_ops (front ++ added ∷ []) behind ≡ after_ops front (before added behind)
regroup front added (Some ops) = ap (λ (os : List KeyOp). Some os) (append_assoc front (added ∷ []) ops)
regroup front added None = refl

first_piece : (piece : List (List ℕ)) (pieces : List (List (List ℕ))) (added : KeyOp) → Some added ≡ piece_of piece → operations_of (piece ∷ pieces) ≡ before added (operations_of pieces)
first_piece piece pieces added is = rw (sym is) refl

-- one more operation
pub op_read : (front out : List KeyOp) (xs rest piece : List (List ℕ)) (total : Option (List KeyOp)) (place : ℕ) (added : KeyOp) → position is_separator xs ≡ Some place → piece ≡ take place xs → rest ≡ drop (place + 1) xs → Some added ≡ piece_of piece → out ≡ front ++ added ∷ [] → after_ops front (operations_of (slice_split is_separator xs)) ≡ total → after_ops out (operations_of (slice_split is_separator rest)) ≡ total
op_read front out xs rest piece total place added at piece-is rest-is is out-is so_far =
    let behind = slice_split is_separator (drop (place + 1) xs) in
    let first : Some added ≡ piece_of (take place xs) = is ∙ ap piece_of piece-is in
    rw (out-is, rest-is) (regroup front added (operations_of behind) ∙ ap (after_ops front) (sym (ap operations_of (parts_at is_separator xs place [] at) ∙ first_piece (take place xs) behind added first)) ∙ so_far)

refused_piece : (front : List KeyOp) (piece : List (List ℕ)) (pieces : List (List (List ℕ))) → None ≡ piece_of piece → None ≡ after_ops front (operations_of (piece ∷ pieces))
refused_piece front piece pieces is = rw (sym is) refl

-- a piece that spells no operation
pub op_refused : (front : List KeyOp) (xs piece : List (List ℕ)) (total : Option (List KeyOp)) (place : ℕ) → position is_separator xs ≡ Some place → piece ≡ take place xs → None ≡ piece_of piece → after_ops front (operations_of (slice_split is_separator xs)) ≡ total → None ≡ total
op_refused front xs piece total place at piece-is is so_far =
    refused_piece front (take place xs) (slice_split is_separator (drop (place + 1) xs)) (is ∙ ap piece_of piece-is)
    ∙ ap (λ (ps : List (List (List ℕ))). after_ops front (operations_of ps)) (sym (parts_at is_separator xs place [] at)) ∙ so_far

-- the last piece
pub last_read : (front out : List KeyOp) (xs : List (List ℕ)) (total : Option (List KeyOp)) (added : KeyOp) → position is_separator xs ≡ None → Some added ≡ piece_of xs → out ≡ front ++ added ∷ [] → after_ops front (operations_of (slice_split is_separator xs)) ≡ total → Some out ≡ total
last_read front out xs total added at is out-is so_far =
    ap (λ (ops : List KeyOp). Some ops) out-is ∙ ap (after_ops front) (sym (ap operations_of (one_part is_separator xs at) ∙ first_piece xs [] added is)) ∙ so_far

pub last_refused : (front : List KeyOp) (xs : List (List ℕ)) (total : Option (List KeyOp)) → position is_separator xs ≡ None → None ≡ piece_of xs → after_ops front (operations_of (slice_split is_separator xs)) ≡ total → None ≡ total
last_refused front xs total at is so_far =
    refused_piece front xs [] is ∙ ap (λ (ps : List (List (List ℕ))). after_ops front (operations_of ps)) (sym (one_part is_separator xs at)) ∙ so_far

-- ---- those that stay

-- whether no later operation removes this one
abbrev stays : (List ℕ → Bool) → KeyOp → Bool
stays removed o = not (removed o.key)

-- whether an operation has another key
abbrev is_apart : KeyOp → KeyOp → Bool
is_apart added o = not (bytes_eq o.key added.key)

-- the operations that no later one removes
abbrev pub staying : (List ℕ → Bool) → List KeyOp → List KeyOp
staying removed ops = filter (λ o. not (removed o.key)) ops

filter-filter : {X : Type 0} (p q r : X → Bool) → ((x : X) → r x ≡ (p x && q x)) → (xs : List X) → filter p (filter q xs) ≡ filter r xs
filter-filter p q r both [] = refl
filter-filter {X = X} p q r both (x ∷ xs) = rw (both x) (go (p x) refl (q x) (filter-filter p q r both xs)) where
  go : (b : Bool) → p x ≡ b → (c : Bool) → filter p (filter q xs) ≡ filter r xs → filter p (cond c (x ∷ filter q xs) (filter q xs)) ≡ cond (b && c) (x ∷ filter r xs) (filter r xs)
  go true at true rest = rw at (ap (λ (ys : List X). x ∷ ys) rest)
  go false at true rest = rw at rest
  go true at false rest = rest
  go false at false rest = rest

and_false : (b : Bool) → false ≡ (b && false)
and_false true = refl
and_false false = refl

and_true : (b : Bool) → b ≡ (b && true)
and_true true = refl
and_true false = refl

-- operations before the key of a removed one
stays_apart : (removed : List ℕ → Bool) (added o : KeyOp) → removed added.key ≡ true → stays removed o ≡ (stays removed o && is_apart added o)
stays_apart removed added o is = go (bytes_eq o.key added.key) refl where
  go : (b : Bool) → bytes_eq o.key added.key ≡ b → stays removed o ≡ (stays removed o && is_apart added o)
  go true same = let gone : removed o.key ≡ true = ap removed ((bytes_eq-Decides o.key added.key).0 same) ∙ is in rw gone refl
  go false other = rw other (and_true (not (removed o.key)))

-- a put or a delete whose key is removed later
base_removed : (removed : List ℕ → Bool) (ops : List KeyOp) (added : KeyOp) → removed added.key ≡ true → staying removed (with_base ops added) ≡ staying removed ops
base_removed removed ops added is =
    filter-append (stays removed) (filter (is_apart added) ops) (added ∷ [])
    ∙ rw is (append-nil (filter (stays removed) (filter (is_apart added) ops)) ∙ filter-filter (stays removed) (is_apart added) (stays removed) (λ o. stays_apart removed added o is) ops)

merge_removed : (removed : List ℕ → Bool) (ops : List KeyOp) (added : KeyOp) → removed added.key ≡ true → staying removed (with_merge ops added) ≡ staying removed ops
merge_removed removed ops added is = filter-append (stays removed) ops (added ∷ []) ∙ rw is (append-nil (filter (stays removed) ops))

operation_removed : (removed : List ℕ → Bool) (ops : List KeyOp) (added : KeyOp) → removed added.key ≡ true → staying removed (with_operation ops added) ≡ staying removed ops
operation_removed removed ops added is = go (is_merge added.op) where
  go : (b : Bool) → staying removed (cond b (with_merge ops added) (with_base ops added)) ≡ staying removed ops
  go true = merge_removed removed ops added is
  go false = base_removed removed ops added is

-- a merge that stays
merge_stays : (removed : List ℕ → Bool) (ops : List KeyOp) (added : KeyOp) → removed added.key ≡ false → staying removed (with_merge ops added) ≡ staying removed ops ++ added ∷ []
merge_stays removed ops added stay = filter-append (stays removed) ops (added ∷ []) ∙ rw stay refl

-- a put or a delete that stays, and removes what is before it
base_stays : (removed removed' : List ℕ → Bool) (ops : List KeyOp) (added : KeyOp) → removed added.key ≡ false → ((key : List ℕ) → removed' key ≡ cond (bytes_eq added.key key) true (removed key)) → staying removed (with_base ops added) ≡ staying removed' ops ++ added ∷ []
base_stays removed removed' ops added stay more =
    filter-append (stays removed) (filter (is_apart added) ops) (added ∷ [])
    ∙ rw stay (ap (λ (os : List KeyOp). os ++ added ∷ []) (filter-filter (stays removed) (is_apart added) (stays removed') both ops))
  where
    both : (o : KeyOp) → stays removed' o ≡ (stays removed o && is_apart added o)
    both o = rw (more o.key, nat_list_eq_equiv.symm added.key o.key) (go (bytes_eq o.key added.key))
      where
        go : (b : Bool) → not (cond b true (removed o.key)) ≡ (not (removed o.key) && not b)
        go true = and_false (not (removed o.key))
        go false = and_true (not (removed o.key))

-- the operations with one more
written-push : (ops : List KeyOp) (added : KeyOp) → written (ops ++ added ∷ []) ≡ with_operation (written ops) added
written-push ops added = fold-append with_operation [] ops (added ∷ [])

-- from the last one on: one that is removed later is passed over
pub passed_over : (removed : List ℕ → Bool) (ops rest kept total : List KeyOp) (added : KeyOp) → ops ≡ rest ++ added ∷ [] → removed added.key ≡ true → staying removed (written ops) ++ reverse kept ≡ total → staying removed (written rest) ++ reverse kept ≡ total
passed_over removed ops rest kept total added is gone so_far =
    ap (λ (os : List KeyOp). os ++ reverse kept) (sym (ap (λ (os : List KeyOp). staying removed (written os)) is ∙ ap (staying removed) (written-push rest added) ∙ operation_removed removed (written rest) added gone)) ∙ so_far

-- what is kept, last one first
kept_more : (front kept kept' : List KeyOp) (added : KeyOp) → kept' ≡ kept ++ added ∷ [] → front ++ reverse kept' ≡ (front ++ added ∷ []) ++ reverse kept
kept_more front kept kept' added is =
    ap (λ (os : List KeyOp). front ++ reverse os) is ∙ ap (λ (os : List KeyOp). front ++ os) (reverse-append kept (added ∷ [])) ∙ sym (append_assoc front (added ∷ []) (reverse kept))

-- a merge that stays is kept
pub merge_kept : (removed : List ℕ → Bool) (ops rest kept kept' total : List KeyOp) (added : KeyOp) → ops ≡ rest ++ added ∷ [] → removed added.key ≡ false → is_merge added.op ≡ true → kept' ≡ kept ++ added ∷ [] → staying removed (written ops) ++ reverse kept ≡ total → staying removed (written rest) ++ reverse kept' ≡ total
merge_kept removed ops rest kept kept' total added is stay merge kept-is so_far =
    let one : staying removed (written ops) ≡ staying removed (written rest) ++ added ∷ [] =
    ap (λ (os : List KeyOp). staying removed (written os)) is ∙ ap (staying removed) (written-push rest added) ∙ rw merge (merge_stays removed (written rest) added stay)
    in
    kept_more (staying removed (written rest)) kept kept' added kept-is ∙ ap (λ (os : List KeyOp). os ++ reverse kept) (sym one) ∙ so_far

-- a put or a delete that stays is kept, and its key is removed before it
pub base_kept : (removed removed' : List ℕ → Bool) (ops rest kept kept' total : List KeyOp) (added : KeyOp) → ops ≡ rest ++ added ∷ [] → removed added.key ≡ false → is_merge added.op ≡ false → ((key : List ℕ) → removed' key ≡ cond (bytes_eq added.key key) true (removed key)) → kept' ≡ kept ++ added ∷ [] → staying removed (written ops) ++ reverse kept ≡ total → staying removed' (written rest) ++ reverse kept' ≡ total
base_kept removed removed' ops rest kept kept' total added is stay base more kept-is so_far =
    let one : staying removed (written ops) ≡ staying removed' (written rest) ++ added ∷ [] =
    ap (λ (os : List KeyOp). staying removed (written os)) is ∙ ap (staying removed) (written-push rest added) ∙ rw base (base_stays removed removed' (written rest) added stay more)
    in
    kept_more (staying removed' (written rest)) kept kept' added kept-is ∙ ap (λ (os : List KeyOp). os ++ reverse kept) (sym one) ∙ so_far

-- before the first one nothing is removed
pub none_removed : (removed : List ℕ → Bool) (ops : List KeyOp) → ((key : List ℕ) → removed key ≡ false) → staying removed ops ≡ ops
none_removed removed [] none = refl
none_removed removed (o ∷ ops) none = rw (none o.key) (ap (λ (os : List KeyOp). o ∷ os) (none_removed removed ops none))
