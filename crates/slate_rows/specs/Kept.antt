-- The rows that an iterator keeps, with copies of their keys.
use Rattle.std.specs.Prelude.{◌≡◌, ℕ, List, map}
use Rattle.std.specs.List.{AllByRecursion}
use Rattle.slate_types.specs.declared.batches.KeyValue.{KeyValue}
use Rattle.slate_rows.specs.declared.iterators.Kept.{Kept}
use Rattle.slate_types.specs.declared.scan_options.IterationOrder.{IterationOrder}
use Rattle.slate_types.specs.Order.{AreInOrder}

-- the rows of an iterator
abbrev pub kept_rows : List Kept → List KeyValue
kept_rows kept = map (λ k. k.row) kept

-- the copies of their keys
abbrev pub kept_keys : List Kept → List (List ℕ)
kept_keys kept = map (λ k. k.key) kept

-- each key is that of its row
abbrev pub AreCopies : List Kept → Type 0
AreCopies kept = AllByRecursion (λ k. k.key ≡ k.row.key) kept

-- rows with copies of their keys, strictly in an order
pub record AreKept (order : IterationOrder) (kept : List Kept) : Type 0 where
  pub copies : AreCopies kept
  pub in_order : AreInOrder order (kept_keys kept)
