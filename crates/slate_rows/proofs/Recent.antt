-- Entries that are sorted source by source are in the order of recency.
use Rattle.std.proofs.Common.{◌≡◌, refl, sym, ℕ, ◌+◌, ◌<◌, List, [], ◌∷◌, ◌++◌, length, get_or, take, map}
use Rattle.std.specs.Cmp.{IsStrictWeakOrder}
use Rattle.std.specs.Ordering.{is_lt}
use Rattle.std.proofs.lemmas.Cmp.{on_total, then_total, back_total, nat_cmp_total}
use Rattle.std.proofs.lemmas.List.{take_more, map-append, append_assoc, append-nil}
use Rattle.std.proofs.lemmas.List.Sorted.{ranks_by}
use Rattle.slate_rows.specs.declared.entries.RowEntry.{RowEntry}
use Rattle.slate_types.specs.declared.scan_options.IterationOrder.{IterationOrder}
use Rattle.slate_rows.specs.Recency.{recency_cmp, AreNewestFirst, IsRecency}
use Rattle.slate_rows.proofs.Passing.{order_cmp-total}

-- the order is one
pub recency_cmp-order : (order : IterationOrder) → IsStrictWeakOrder (λ entry other. is_lt (recency_cmp order entry other))
recency_cmp-order order =
    ranks_by (then_total (on_total (λ (e : RowEntry). e.key) (order_cmp-total order)) (on_total (λ (e : RowEntry). e.seq) (back_total nat_cmp_total))) (λ (e : RowEntry). e)

-- one more source
IsRecency-push : (order : IterationOrder) (sources : List (List RowEntry)) (source entries front : List RowEntry) → IsRecency order sources entries → AreNewestFirst order source front → IsRecency order (sources ++ source ∷ []) (entries ++ front)
IsRecency-push order [] source entries front all one = (front, [], rw all (sym (append-nil front)), one, refl)
IsRecency-push order (s ∷ sources) source entries front (first, rest, joined, here, later) one =
    (first, rest ++ front, rw joined (append_assoc first rest front), here, IsRecency-push order sources source rest front later one)

pub IsRecency-more : {A : Type 0} (order : IterationOrder) (f : A → List RowEntry) (sources : List A) (i : ℕ) (source : A) (entries front new : List RowEntry) → i < length sources → source ≡ get_or sources i source →
    new ≡ entries ++ front → AreNewestFirst order (f source) front → IsRecency order (map f (take i sources)) entries → IsRecency order (map f (take (i + 1) sources)) new
IsRecency-more order f sources i source entries front new lt at new-is one all =
    rw (new-is, take_more sources i source lt, ← at, map-append) (IsRecency-push order (map f (take i sources)) (f source) entries front all one)
