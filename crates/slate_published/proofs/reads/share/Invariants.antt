use Rattle.std.proofs.Common.{◌≡◌, ◌++◌, take}
use Rattle.slate_published.specs.Published.{rows_of}
use Rattle.slate_published.proofs.reads.share.Given as goal

abbrev pub invariant-loop-table : goal.invariant-loop-table
invariant-loop-table l = rows_of l.tables.items ≡ rows_of l.initial.tables.items ++ rows_of (take l.table-index l.more)
