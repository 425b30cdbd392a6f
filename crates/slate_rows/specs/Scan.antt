-- The plain scan of a range: its rows, and the fault that ends them.
use Rattle.std.specs.Prelude.{◌≡◌, ◌≢◌, ◌↔◌, ℕ, IsTrue, List, [], ◌∷◌, Contains, Option, Some, None, Result, Ok, Err}
use Rattle.slate_types.specs.declared.batches.Batch.{Batch}
use Rattle.slate_types.specs.declared.batches.KeyValue.{KeyValue}
use Rattle.slate_types.specs.declared.scan_options.IterationOrder.{IterationOrder}
use Rattle.slate_types.specs.declared.ranges.ByteRange.{ByteRange}
use Rattle.slate_types.specs.declared.read_faults.ReadFault.{ReadFault}
use Rattle.slate_types.specs.Operator.{Merge}
use Rattle.slate_types.specs.Order.{AreInOrder}
use Rattle.slate_types.specs.Range.{contains}
use Rattle.slate_reads.specs.Read.{history, read_at}
use Rattle.slate_rows.specs.Iteration.{Iteration, begun}

-- rows, and the fault that ends them, where there is one
pub record Rows : Type 0 where
  pub rows : List KeyValue
  pub fault : Option ReadFault

-- what a read found, before other rows; a fault ends them
abbrev pub with_found : Result (Option KeyValue) ReadFault → Rows → Rows
with_found (Ok None) others = others
with_found (Ok (Some row)) others = record { rows = row ∷ others.rows; fault = others.fault }
with_found (Err fault) others = record { rows = []; fault = Some fault }

-- the rows of keys, up to the first key whose read is refused
abbrev pub rows_of : (List ℕ → Result (Option KeyValue) ReadFault) → List (List ℕ) → Rows
rows_of read [] = record { rows = []; fault = None }
rows_of read (key ∷ keys) = with_found (read key) (rows_of read keys)

-- The plain scan: the rows of the keys in the range that have an operation up to the bound, each once, in the order.
pub record IsScan (merge : Option Merge) (batches : List Batch) (bound : Option ℕ) (range : ByteRange) (order : IterationOrder)
    (rows : List KeyValue) (fault : Option ReadFault) : Type 0 where
  pub keys : List (List ℕ)
  pub in_order : AreInOrder order keys
  pub whole : (key : List ℕ) → Contains keys key ↔ (IsTrue (contains range key) × (history batches bound key ≢ []))
  pub taken : rows_of (read_at merge batches bound) keys ≡ record { rows = rows; fault = fault }

-- An iteration over the plain scan, of which no row has come yet.
pub record BeginsScan (merge : Option Merge) (batches : List Batch) (bound : Option ℕ) (range : ByteRange) (order : IterationOrder) (it : Iteration) : Type 0 where
  pub unbegun : it ≡ begun range order it.rows it.fault
  pub plain : IsScan merge batches bound range order it.rows it.fault
