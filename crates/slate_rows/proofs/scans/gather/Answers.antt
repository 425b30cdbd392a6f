use Rattle.std.proofs.Common.{◌∙◌, sym}
use Rattle.slate_rows.proofs.Gathering.{gather-batch, gather-past}
use Rattle.slate_rows.proofs.scans.gather.Goals as goal
use Rattle.slate_rows.proofs.scans.gather.Goals.{then-is_within+in_ok-gather_batch, else-is_within}

pub loop-batch-preserved : goal.loop-batch-preserved
loop-batch-preserved c =
    elim c.if-is_within.branch [
      | then-is_within+in_ok-gather_batch w ↦
          rw w.held-is (gather-batch c.args.batches.now c.args.bound c.args.range.now c.loop-batch.batch-index c.batch-item.result _ c.loop-batch-test.true c.batch-item.is (sym w.if-is_within.true ∙ c.is_within.ensures)
          (w.in_ok-gather_batch.ensures _ c.loop-batch.invariant))
      | else-is_within w ↦
          rw w.held-is (gather-past c.args.batches.now c.args.bound c.args.range.now c.loop-batch.batch-index c.batch-item.result _ c.loop-batch-test.true c.batch-item.is (sym w.if-is_within.false ∙ c.is_within.ensures) c.loop-batch.invariant)
    ]
