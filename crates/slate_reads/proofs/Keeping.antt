-- A table keeps its indexes as a batch is added and as the first one is dropped.
use Rattle.std.proofs.Common.{◌≡◌, refl, sym, ◌∙◌, ap, subst, ℕ, ◌+◌, ◌-◌, ◌≤◌, List, [], ◌∷◌, ◌++◌, length, drop, map, replicate, reverse, Option, arith, length-append}
use Rattle.std.specs.List.{flat_map}
use Rattle.std.specs.HashMap.{HashMap}
use Rattle.std.specs.BTreeSet.{BTreeSet}
use Rattle.std.proofs.lemmas.List.{length_push, length-map, length-replicate, length-drop}
use Rattle.std.proofs.lemmas.List.Sums.{sum_by-append}
use Rattle.slate_types.specs.declared.batches.Batch.{Batch}
use Rattle.slate_reads.specs.declared.tables.Entry.{Entry}
use Rattle.slate_reads.specs.Read.{versions_in}
use Rattle.slate_reads.specs.Run.{Run, Stands, IsSame, HasRoom}
use Rattle.slate_reads.specs.Index.{AreRising, IsAboveLast, Leads, IsIndex, IsTable, AreOrdered, Forgets, place_of, batch_places, ops_of}
use Rattle.slate_reads.specs.Size.{ops_size, size_of}
use Rattle.slate_reads.proofs.Index.{Leads-keep}
use Rattle.slate_reads.proofs.Dropping.{AreRising-push, IsIndex-drop}
use Rattle.slate_reads.proofs.Tracing.{IsTraced-same}

Stands-same_run : {A : Type 0} (run new : Run A) → IsSame run new → (place : ℕ) (item : A) → Stands run place item → Stands new place item
Stands-same_run run new same place item stands = record {
  from = rw same.start stands.from;
  at = rw (same.start, same.items) stands.at;
}

IsIndex-same : (batches new : Run Batch) (entries others : Run Entry) (latest newer : List ℕ → Option ℕ) → IsSame batches new → IsSame entries others → ((key : List ℕ) → newer key ≡ latest key) →
    IsIndex batches entries latest → IsIndex new others newer
IsIndex-same batches new entries others latest newer same_batches same_entries same index = record {
  led = λ key.
      subst (λ bs. Leads-at bs key) (sym same_batches.items)
      (subst (λ next. Leads new others key next (reverse (flat_map (versions_in key) batches.items))) (sym (same key))
      (Leads-keep batches new entries others (Stands-same_run batches new same_batches) (Stands-same_run entries others same_entries) same_entries.start key (latest key) (reverse (flat_map (versions_in key) batches.items)) (index.led key)));
  placed = rw (same_entries.items, same_batches.start, same_batches.items) index.placed;
  traced = IsTraced-same batches new entries others (ops_of batches.items) (ops_of new.items) latest newer (Stands-same_run batches new same_batches) same_entries.start same_entries.items (ap ops_of same_batches.items) same index.traced;
} where
  Leads-at : List Batch → List ℕ → Type 0
  Leads-at bs key = Leads new others key (newer key) (reverse (flat_map (versions_in key) bs))

pub IsTable-same : {S : Type 0} (batches new : Run Batch) (entries others : Run Entry) (latest newer : HashMap (List ℕ) (Option ℕ) S) (order keys : BTreeSet (List ℕ)) (size : ℕ) → IsSame batches new → IsSame entries others →
    ((key : List ℕ) → place_of newer key ≡ place_of latest key) → (AreOrdered latest order → AreOrdered newer keys) → IsTable batches entries latest order size → IsTable new others newer keys size
IsTable-same batches new entries others latest newer order keys size same_batches same_entries same ordered table = record {
  index = IsIndex-same batches new entries others (place_of latest) (place_of newer) same_batches same_entries same table.index;
  ordered = ordered table.ordered;
  rising = rw same_batches.items table.rising;
  sized = rw same_batches.items table.sized;
  batches_fit = rw (same_batches.start, same_batches.items) table.batches_fit;
  entries_fit = rw (same_entries.start, same_entries.items) table.entries_fit;
}

-- ---- one more batch
pub size-push : (batches : List Batch) (b : Batch) (size more new : ℕ) → size ≡ size_of batches → more ≡ ops_size b.ops → new ≡ size + more → new ≡ size_of (batches ++ b ∷ [])
size-push batches b size more new is is-more new-is = omega (arith, sum_by-append (λ (x : Batch). ops_size x.ops) batches (b ∷ []))

pub IsTable-pushed : {S : Type 0} (batches room new : Run Batch) (entries kept others : Run Entry) (latest middle newer : HashMap (List ℕ) (Option ℕ) S) (order keys : BTreeSet (List ℕ)) (size more total : ℕ) (b : Batch) →
    IsSame batches room → IsSame entries kept → HasRoom room 1 → HasRoom kept (length b.ops) → ((key : List ℕ) → place_of middle key ≡ place_of latest key) → AreOrdered newer keys →
    IsAboveLast b.number batches.items → more ≡ ops_size b.ops → total ≡ size + more →
    new.start ≡ room.start → new.items ≡ room.items ++ b ∷ [] → others.start ≡ kept.start → length others.items ≡ length kept.items + length b.ops →
    (IsIndex room kept (place_of middle) → IsIndex new others (place_of newer)) → IsTable batches entries latest order size → IsTable new others newer keys total
IsTable-pushed batches room new entries kept others latest middle newer order keys size more total b same_batches same_entries has_room has_places same ordered above is-more total-is start items others-start others-len index table =
    let whole : new.items ≡ batches.items ++ b ∷ [] = items ∙ ap (λ bs. bs ++ b ∷ []) same_batches.items in
    record {
      index = index (IsIndex-same batches room entries kept (place_of latest) (place_of middle) same_batches same_entries same table.index);
      ordered = ordered;
      rising = rw whole (AreRising-push batches.items b table.rising above);
      sized = rw whole (size-push batches.items b size more total table.sized is-more total-is);
      batches_fit = let l = length_push room.items b in let f = has_room.fits in rw (start, items) (omega (arith, l, f));
      entries_fit = let f = has_places.fits in omega (arith, f, others-start, others-len);
    }

-- ---- one batch less
ops-within : (batches : Run Batch) (entries : Run Entry) (b : Batch) (rest : List Batch) → batches.items ≡ b ∷ rest → map (λ (e : Entry). e.batch) entries.items ≡ batch_places batches.start batches.items → length b.ops ≤ length entries.items
ops-within batches entries b rest first placed =
    let all = ap length (placed ∙ ap (batch_places batches.start) first) in
    let one = length-map entries.items (λ (e : Entry). e.batch) in
    let both = length-append (replicate (length b.ops) batches.start) (batch_places (batches.start + 1) rest) in
    let n = length-replicate (length b.ops) batches.start in
    omega (arith, all, one, both, n)

pub ops-of-table : {S : Type 0} (batches : Run Batch) (entries : Run Entry) (latest : HashMap (List ℕ) (Option ℕ) S) (order : BTreeSet (List ℕ)) (size : ℕ) (b : Batch) (rest : List Batch) →
    batches.items ≡ b ∷ rest → IsTable batches entries latest order size → length b.ops ≤ length entries.items
ops-of-table batches entries latest order size b rest first table = ops-within batches entries b rest first table.index.placed

pub IsTable-dropped : {S : Type 0} (batches after : Run Batch) (entries left : Run Entry) (latest newer : HashMap (List ℕ) (Option ℕ) S) (order keys : BTreeSet (List ℕ)) (size less : ℕ) (b : Batch) →
    batches.items ≡ b ∷ after.items → after.start ≡ batches.start + 1 → left.start ≡ entries.start + length b.ops → left.items ≡ drop (length b.ops) entries.items →
    ((key : List ℕ) → Forgets (entries.start + length b.ops) (place_of latest key) (place_of newer key)) → (AreOrdered latest order → AreOrdered newer keys) → less ≡ ops_size b.ops →
    IsTable batches entries latest order size → IsTable after left newer keys (size - less)
IsTable-dropped batches after entries left latest newer order keys size less b first start left-start left-items forgets ordered less-is table =
    let rising : AreRising (b ∷ after.items) = subst AreRising first table.rising in
    let total : size ≡ ops_size b.ops + size_of after.items = let one = sum_by-append (λ (x : Batch). ops_size x.ops) (b ∷ []) after.items in let all = table.sized ∙ ap size_of first in omega (arith, one, all) in
    let len = ap length first in
    let some = ops-within batches entries b after.items first table.index.placed in
    record {
      index = IsIndex-drop batches after entries left b after.items first start refl left-start left-items rising.0 table.index.placed (place_of latest) (place_of newer)
          (λ key. subst (λ end. Forgets end (place_of latest key) (place_of newer key)) (sym left-start) (forgets key)) table.index;
      ordered = ordered table.ordered;
      rising = rising.1;
      sized = omega (arith, total, less-is);
      batches_fit = let f = table.batches_fit in omega (arith, f, len, start);
      entries_fit = let f = table.entries_fit in let l = length-drop (length b.ops) entries.items in rw (left-start, left-items) (omega (arith, f, l, some));
    }
