use Rattle.std.proofs.Common.{arith}
use Rattle.slate_seqtrack.proofs.Lists.{answer-found, answer-only}
use Rattle.slate_seqtrack.proofs.tracker.SequenceTracker.from_bytes.Goals as goal

pub returns-clause-found : goal.returns-clause-found
returns-clause-found c = answer-found c.read_tracker.result c.args.buf.now (λ i. omega (arith, c.type_inv.buf i)) c.read_tracker.ensures

pub returns-clause-only : goal.returns-clause-only
returns-clause-only c = answer-only c.read_tracker.result c.args.buf.now c.read_tracker.ensures
