use Rattle.std.proofs.Common.{◌≡◌, true, false}
use Rattle.slate_types.specs.Range.{contains}
use Rattle.slate_rows.proofs.Gathering.{gather-in, gather-out, gather-end}
use Rattle.slate_rows.proofs.scans.gather_batch.Goals as goal
use Rattle.slate_rows.proofs.scans.gather_batch.Goals.{then-contains+in_ok-push, else-contains}

pub loop-key_op-preserved : goal.loop-key_op-preserved
loop-key_op-preserved c versions before =
    let so_far = c.loop-key_op.invariant versions before in
    elim c.if-contains.branch [
      | then-contains+in_ok-push w ↦
          let one : contains c.args.range.now c.key_op-item.result.key ≡ true = cc in
          rw w.held-is (gather-in versions c.args.range.now _ _ _ _ c.loop-key_op.key_op-index c.as_slice-key_op-items.ensures c.loop-key_op-test.true c.key_op-item.is one w.in_ok-push.ensures.items so_far)
      | else-contains w ↦
          let out : contains c.args.range.now c.key_op-item.result.key ≡ false = cc in
          rw w.held-is (gather-out versions c.args.range.now _ c.args.batch.now c.key_op-item.result _ c.loop-key_op.key_op-index c.as_slice-key_op-items.ensures c.loop-key_op-test.true c.key_op-item.is out so_far)
    ]

pub returns : goal.returns
returns c versions before =
    gather-end versions c.args.range.now _ c.args.batch.now _ c.loop-key_op.key_op-index c.as_slice-key_op-items.ensures c.loop-key_op-test.false (c.loop-key_op.invariant versions before)
