-- The plain scan of what a reader sees, and its front.
use Rattle.std.specs.Prelude.{◌≡◌, ℕ, List, Option, Some}
use Rattle.slate_types.specs.declared.batches.Batch.{Batch}
use Rattle.slate_types.specs.declared.ranges.ByteRange.{ByteRange}
use Rattle.slate_types.specs.declared.scan_options.IterationOrder.{IterationOrder}
use Rattle.slate_types.specs.Operator.{Merge}
use Rattle.slate_rows.specs.Front.{IsScanFront}
use Rattle.slate_rows.specs.Iteration.{Iteration, begun}
use Rattle.slate_rows.specs.Scan.{BeginsScan}
use Rattle.slate_model.specs.Follower.{Follower, number}

-- an iteration begins over the plain scan of these batches at a reader's number, in an order
abbrev pub BeginsScanOf : Follower → Option Merge → ByteRange → IterationOrder → List Batch → Iteration → Type 0
BeginsScanOf follower merge range order rows it = BeginsScan merge rows (Some (number follower)) range order it

-- or over the front of that, up to so many rows
pub record BeginsFrontOf (follower : Follower) (merge : Option Merge) (range : ByteRange) (order : IterationOrder) (limit : ℕ) (rows : List Batch) (it : Iteration) : Type 0 where
  pub unbegun : it ≡ begun range order it.rows it.fault
  pub front : IsScanFront limit merge rows (Some (number follower)) range order it.rows it.fault
