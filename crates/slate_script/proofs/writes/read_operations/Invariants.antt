-- the operations so far and those of the rest are those of the batch
use Rattle.std.proofs.Common.{◌≡◌, length}
use Rattle.std.specs.List.{slice_split}
use Rattle.slate_script.specs.Writes.{is_separator, operations_of, pieces_of}
use Rattle.slate_script.proofs.BatchLemmas.{after_ops}
use Rattle.slate_script.proofs.writes.read_operations.Given as goal

abbrev pub invariant-loop-separator : goal.invariant-loop-separator
invariant-loop-separator l = after_ops l.ops.items (operations_of (slice_split is_separator l.rest)) ≡ operations_of (pieces_of l.fn.fields)

abbrev pub decreases-loop-separator : goal.decreases-loop-separator
decreases-loop-separator l = length l.rest
