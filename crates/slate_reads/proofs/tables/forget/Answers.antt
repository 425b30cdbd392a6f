use Rattle.std.proofs.Common.{◌+◌, arith}
use Rattle.slate_reads.proofs.Dropping.{Forgets-more}
use Rattle.slate_reads.proofs.tables.forget.Goals as goal

pub loop-op-preserved : goal.loop-op-preserved
loop-op-preserved c = record {
  forgets = λ key. Forgets-more (c.args.start + c.loop-op.op) (c.args.start + (c.loop-op.op + 1)) (c.args.start + c.loop-op.op) _ _ _ (omega arith) (omega arith) (c.forget_key.ensures.loses key) (c.loop-op.invariant.forgets key);
  ordered = λ all. c.forget_key.ensures.ordered (c.loop-op.invariant.ordered all);
}
