-- The front of the plain scan: its first rows, up to a limit.
use Rattle.std.specs.Prelude.{◌≡◌, ℕ, List, nat_lt, if◌then◌else◌, length, take, Option, None}
use Rattle.slate_types.specs.declared.batches.Batch.{Batch}
use Rattle.slate_types.specs.declared.batches.KeyValue.{KeyValue}
use Rattle.slate_types.specs.declared.scan_options.IterationOrder.{IterationOrder}
use Rattle.slate_types.specs.declared.ranges.ByteRange.{ByteRange}
use Rattle.slate_types.specs.declared.read_faults.ReadFault.{ReadFault}
use Rattle.slate_types.specs.Operator.{Merge}
use Rattle.slate_rows.specs.Scan.{Rows, IsScan}

-- so many of these rows at most, with the fault only where it ends fewer
abbrev pub first_rows : ℕ → Rows → Rows
first_rows limit scan = record { rows = take limit scan.rows; fault = if nat_lt (length scan.rows) limit then scan.fault else None }

-- The front of the plain scan: its first rows, up to so many, and the fault that ends it where fewer come before.
pub record IsScanFront (limit : ℕ) (merge : Option Merge) (batches : List Batch) (bound : Option ℕ) (range : ByteRange) (order : IterationOrder)
    (rows : List KeyValue) (fault : Option ReadFault) : Type 0 where
  pub whole : Rows
  pub plain : IsScan merge batches bound range order whole.rows whole.fault
  pub front : first_rows limit whole ≡ record { rows = rows; fault = fault }
