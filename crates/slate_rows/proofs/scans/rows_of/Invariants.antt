use Rattle.std.proofs.Common.{◌≡◌, ◌≤◌, ◌-◌, ◌++◌, IsTrue, true, length, drop, All, Option}
use Rattle.std.specs.List.{AllByRecursion, dedup}
use Rattle.std.specs.Option.{option_copied}
use Rattle.std.specs.Str.{bytes_eq}
use Rattle.slate_types.specs.declared.scan_options.IterationOrder.{IterationOrder}
use Rattle.slate_types.specs.declared.ranges.ByteRange.{ByteRange}
use Rattle.slate_rows.specs.Gathered.{AreSorted, held_keys, held_rows}
use Rattle.slate_types.specs.Operator.{Merge}
use Rattle.slate_types.specs.Order.{AreInOrder, row_keys}
use Rattle.slate_types.specs.Range.{contains}
use Rattle.slate_reads.specs.Read.{IsOperator}
use Rattle.slate_rows.proofs.Steps.{after_rows}
use Rattle.slate_rows.proofs.scans.rows_of.Given as goal

abbrev pub invariant-loop-start : goal.invariant-loop-start
invariant-loop-start g l = record {
  bound : l.start ≤ length l.held;
  rows : (order : IterationOrder) → AreSorted order l.held → (merge : Option Merge) → IsOperator g.M.MergeOperator.may_answer (option_copied l.operator) merge →
      held_rows merge l.held ≡ after_rows l.rows.items (held_rows merge (drop l.start l.held));
  in_order : (order : IterationOrder) → AreSorted order l.held → AreInOrder order (row_keys l.rows.items ++ dedup bytes_eq (held_keys (drop l.start l.held)));
  inside : (range : ByteRange) → AllByRecursion (λ h. contains range h.key_op.now.key ≡ true) l.held → All (λ row. IsTrue (contains range row.key)) l.rows.items;
}

abbrev pub decreases-loop-start : goal.decreases-loop-start
decreases-loop-start g l = length l.held - l.start
