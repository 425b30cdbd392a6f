use Rattle.std.proofs.Common.{◌≡◌, true, false}
use Rattle.std.specs.Str.{bytes_eq}
use Rattle.std.proofs.lemmas.Slice.Eq.{bytes_eq-Decides}
use Rattle.slate_reads.proofs.Tails.{versions_in-more_same, versions_in-more_other}
use Rattle.slate_reads.proofs.reads.add_versions.Goals as goal
use Rattle.slate_reads.proofs.reads.add_versions.Goals.{then-eq+in_ok-add_version, else-eq}

pub loop-key_op-preserved : goal.loop-key_op-preserved
loop-key_op-preserved c history before =
    let so_far = c.loop-key_op.invariant history before in
    elim c.if-eq.branch [
      | then-eq+in_ok-add_version w ↦
          let is_key : bytes_eq c.key_op-item.result.key c.args.key.now ≡ true = cc in
          let same : c.key_op-item.result.key ≡ c.args.key.now = (bytes_eq-Decides _ _).0 is_key in
          rw (versions_in-more_same c.args.key.now c.args.batch.now c.as_slice-key_op-items.result.now c.loop-key_op.key_op-index c.key_op-item.result c.as_slice-key_op-items.ensures c.loop-key_op-test.true c.key_op-item.is is_key history, w.versions-is)
          (rw (← same) (w.in_ok-add_version.ensures _ (rw (← same) at so_far)))
      | else-eq w ↦
          let other : bytes_eq c.key_op-item.result.key c.args.key.now ≡ false = cc in
          rw (versions_in-more_other c.args.key.now c.args.batch.now c.as_slice-key_op-items.result.now c.loop-key_op.key_op-index c.key_op-item.result c.as_slice-key_op-items.ensures c.loop-key_op-test.true c.key_op-item.is other, w.versions-is) so_far
    ]
