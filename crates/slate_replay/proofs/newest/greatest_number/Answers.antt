use Rattle.std.proofs.Common.{arith}
use Rattle.slate_replay.proofs.Looking.{newest_more}
use Rattle.slate_replay.proofs.newest.greatest_number.Goals as goal
use Rattle.slate_replay.proofs.newest.greatest_number.Goals.{then-batch-greatest, else-batch-greatest}

pub loop-batch-preserved : goal.loop-batch-preserved
loop-batch-preserved c =
    let more = newest_more c.args.batches.now c.loop-batch.batch-index c.batch-item.result c.loop-batch-test.true c.batch-item.is in
    elim c.if-batch-greatest.branch [ then-batch-greatest w ↦ omega (arith, more) | else-batch-greatest w ↦ omega (arith, more) ]
