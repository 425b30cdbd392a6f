use Rattle.std.proofs.Common.{◌≡◌, take}
use Rattle.slate_types.specs.Line.{batches_above}
use Rattle.slate_follow.specs.Joined.{AreFilled, joined}
use Rattle.slate_follow.proofs.tables.tables_above.Given as goal

abbrev pub invariant-loop-table : goal.invariant-loop-table
invariant-loop-table l =
    record {
      so_far : joined l.left.items ≡ batches_above l.number (joined (take l.table-index l.tables));
      filled : AreFilled l.left.items;
    }
