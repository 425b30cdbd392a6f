use Rattle.slate_follow.specs.Joined.{joined}
use Rattle.slate_follow.proofs.Joining.{above-next}
use Rattle.slate_follow.proofs.tables.tables_above.Goals as goal

pub loop-table-preserved : goal.loop-table-preserved
loop-table-preserved c =
    let l = c.loop-table in
    let e = c.in_ok-push_table.ensures in
    record {
      so_far = above-next c.args.tables.now l.table-index c.table-item.result c.loop-table-test.true c.table-item.is c.args.number (joined l.left.items) _ c.in_ok-rest.rest l.invariant.so_far c.in_ok-rest.ensures e.same;
      filled = e.filled l.invariant.filled;
    }
