use Rattle.std.proofs.Common.{arith}
use Rattle.slate_rows.proofs.Grouping.{tail_start-more}
use Rattle.slate_rows.proofs.scans.tail_start.Goals as goal
use Rattle.slate_rows.proofs.scans.tail_start.Goals.{then-is_base, else-is_base}

pub loop-i-preserved : goal.loop-i-preserved
loop-i-preserved c =
    let tail = tail_start-more c.args.versions.now c.loop-i.start c.loop-i.i c.index-versions-i.result c.is_base.result c.loop-i-test.true c.index-versions-i.is c.is_base.ensures c.loop-i.invariant.before c.loop-i.invariant.tail in
    elim c.if-is_base.branch [
      | then-is_base w ↦ rw w.start-is (record { before = omega arith; tail = rw w.if-is_base.true at tail })
      | else-is_base w ↦ rw w.start-is (record { before = omega arith; tail = rw w.if-is_base.false at tail })
    ]
