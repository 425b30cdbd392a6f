use Rattle.std.proofs.Common.{◌++◌, List, take}
use Rattle.std.specs.List.{flat_map}
use Rattle.slate_types.specs.declared.batches.Batch.{Batch}
use Rattle.slate_rows.specs.Walked.{AreWalked, key_list}
use Rattle.slate_rows.proofs.indexed_scans.add_range_keys.Given as goal

abbrev pub invariant-loop-table : goal.invariant-loop-table
invariant-loop-table g l = (batches : List Batch) → AreWalked batches l.range (key_list l.initial.keys.items) → AreWalked (batches ++ flat_map g.T.Indexed.batches (take l.table-index l.tables)) l.range (key_list l.keys.items)
