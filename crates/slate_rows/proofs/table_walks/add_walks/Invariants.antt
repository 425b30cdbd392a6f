use Rattle.std.proofs.Common.{◌++◌, List, take}
use Rattle.std.specs.List.{flat_map}
use Rattle.slate_types.specs.declared.batches.Batch.{Batch}
use Rattle.slate_rows.specs.Ahead.{all_ahead, AreEach}
use Rattle.slate_rows.specs.Walked.{AreWalked}
use Rattle.slate_rows.proofs.table_walks.add_walks.Given as goal

abbrev pub invariant-loop-table : goal.invariant-loop-table
invariant-loop-table g l = record {
  each : AreEach l.order l.initial.walks.items → AreEach l.order l.walks.items;
  walked : (batches : List Batch) → AreWalked batches l.range (all_ahead l.order l.initial.walks.items) →
      AreWalked (batches ++ flat_map g.T.Indexed.batches (take l.table-index l.tables)) l.range (all_ahead l.order l.walks.items);
}
