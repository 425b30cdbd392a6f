use Rattle.std.proofs.Common.{◌≡◌, take, drop}
use Rattle.slate_rows.specs.Ahead.{Pass}
use Rattle.slate_rows.proofs.table_walks.pass_key.Given as goal

abbrev pub invariant-loop-walk : goal.invariant-loop-walk
invariant-loop-walk l = record {
  passed : Pass l.order l.key (take l.walk-index l.initial.walks) (take l.walk-index l.walks);
  left : drop l.walk-index l.walks ≡ drop l.walk-index l.initial.walks;
}
