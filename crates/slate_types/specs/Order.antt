-- The order of keys in a scan.
use Rattle.std.specs.Prelude.{ℕ, Bool, List, map}
use Rattle.std.specs.declared.cmp.Ordering.{Ordering}
use Rattle.std.specs.Ordering.{is_lt}
use Rattle.std.specs.List.Sorted.{IsStrictlySortedBy}
use Rattle.slate_types.specs.declared.batches.KeyValue.{KeyValue}
use Rattle.slate_types.specs.declared.scan_options.IterationOrder.{IterationOrder}
use Rattle.slate_types.specs.declared.scan_options.IterationOrder.TheVariants.{Ascending, Descending}
use Rattle.slate_types.specs.Range.{key_cmp}

-- how two keys stand in an order
abbrev pub order_cmp : IterationOrder → List ℕ → List ℕ → Ordering
order_cmp Ascending key other = key_cmp key other
order_cmp Descending key other = key_cmp other key

-- whether a key comes before another in an order
abbrev pub is_before : IterationOrder → List ℕ → List ℕ → Bool
is_before order key other = is_lt (order_cmp order key other)

-- keys strictly in an order
abbrev pub AreInOrder : IterationOrder → List (List ℕ) → Type 0
AreInOrder order keys = IsStrictlySortedBy (order_cmp order) keys

-- the keys of rows
abbrev pub row_keys : List KeyValue → List (List ℕ)
row_keys rows = map (λ r. r.key) rows
