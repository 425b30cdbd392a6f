use Rattle.std.proofs.Common.{◌≡◌, ◌++◌, take}
use Rattle.slate_follow.specs.Joined.{joined}
use Rattle.slate_follow.proofs.tables.share.Given as goal

abbrev pub invariant-loop-table : goal.invariant-loop-table
invariant-loop-table l = joined l.tables.items ≡ joined l.fn.tables.items ++ joined (take l.table-index l.more)
