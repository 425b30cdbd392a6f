use Rattle.std.proofs.Common.{◌≡◌, ◌++◌, IsTrue, true, None, drop, All, Option}
use Rattle.std.specs.List.{AllByRecursion, flat_map}
use Rattle.std.specs.Option.{option_copied}
use Rattle.slate_types.specs.declared.scan_options.IterationOrder.{IterationOrder}
use Rattle.slate_types.specs.declared.ranges.ByteRange.{ByteRange}
use Rattle.slate_types.specs.Operator.{Merge}
use Rattle.slate_types.specs.Range.{contains}
use Rattle.slate_reads.specs.Read.{IsOperator, read_at}
use Rattle.slate_types.specs.Order.{AreInOrder, row_keys}
use Rattle.slate_rows.specs.Scan.{rows_of}
use Rattle.slate_rows.specs.Walked.{key_list}
use Rattle.slate_rows.proofs.Steps.{after_rows}
use Rattle.slate_transactions.specs.Own.{seen_with}
use Rattle.slate_transactions.proofs.own_writes.OwnWrites.read_keys.Given as goal

abbrev pub invariant-loop-key : goal.invariant-loop-key
invariant-loop-key g l = record {
  rows : (merge : Option Merge) → IsOperator g.M.MergeOperator.may_answer (option_copied l.operator) merge →
      let batches = seen_with l.bound (flat_map (λ table. table) l.stored ++ flat_map (λ table. table) l.memory) l.self in
      rows_of (read_at merge batches None) (key_list l.keys) ≡ after_rows l.rows.items (rows_of (read_at merge batches None) (key_list (drop l.key-index l.keys)));
  in_order : (order : IterationOrder) → AreInOrder order (key_list l.keys) → AreInOrder order (row_keys l.rows.items ++ key_list (drop l.key-index l.keys));
  inside : (range : ByteRange) → AllByRecursion (λ key. contains range key ≡ true) (key_list l.keys) → All (λ row. IsTrue (contains range row.key)) l.rows.items;
}
