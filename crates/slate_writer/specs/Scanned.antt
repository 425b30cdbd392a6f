-- The plain scan of the batches that a handle reads, and its front.
use Rattle.std.specs.Prelude.{◌≡◌, ℕ, List, Option}
use Rattle.slate_types.specs.declared.batches.Batch.{Batch}
use Rattle.slate_types.specs.declared.ranges.ByteRange.{ByteRange}
use Rattle.slate_types.specs.declared.scan_options.IterationOrder.{IterationOrder}
use Rattle.slate_types.specs.declared.scan_options.ScanOptions.{ScanOptions}
use Rattle.slate_types.specs.Operator.{Merge}
use Rattle.slate_reads.specs.Bound.{read_bound}
use Rattle.slate_rows.specs.Front.{IsScanFront}
use Rattle.slate_rows.specs.Iteration.{Iteration, begun}
use Rattle.slate_rows.specs.Scan.{BeginsScan}
use Rattle.slate_model.specs.Handle.{Handle, accepted}

-- an iteration begins over the plain scan of these batches, with these options of a handle's scan
abbrev pub BeginsScanOf : Handle → Option Merge → Option ℕ → ScanOptions → ByteRange → List Batch → Iteration → Type 0
BeginsScanOf handle merge snapshot options range rows it =
    BeginsScan merge rows (read_bound snapshot handle.durable (accepted handle) options.durability_filter options.dirty) range options.order it

-- An iteration over the front of the plain scan, of which no row has come yet.
pub record BeginsFront (limit : ℕ) (merge : Option Merge) (batches : List Batch) (bound : Option ℕ) (range : ByteRange) (order : IterationOrder) (it : Iteration) : Type 0 where
  pub unbegun : it ≡ begun range order it.rows it.fault
  pub front : IsScanFront limit merge batches bound range order it.rows it.fault

-- an iteration begins over the first rows of that scan, up to so many
abbrev pub BeginsFrontOf : ℕ → Handle → Option Merge → Option ℕ → ScanOptions → ByteRange → List Batch → Iteration → Type 0
BeginsFrontOf limit handle merge snapshot options range rows it =
    BeginsFront limit merge rows (read_bound snapshot handle.durable (accepted handle) options.durability_filter options.dirty) range options.order it
