use Rattle.std.proofs.Common.{take}
use Rattle.std.specs.Option.{option_copied}
use Rattle.slate_rows.proofs.Ahead.{IsFirstSoFar}
use Rattle.slate_rows.proofs.table_walks.first_key.Given as goal

abbrev pub invariant-loop-walk : goal.invariant-loop-walk
invariant-loop-walk l = IsFirstSoFar l.order (option_copied l.first) (take l.walk-index l.walks)
