use Rattle.slate_seqtrack.proofs.Blocks.{answer-found, answer-only}
use Rattle.slate_seqtrack.proofs.decoding.decode_gorilla_i64_with_length.Goals as goal

pub returns-clause-found : goal.returns-clause-found
returns-clause-found c = answer-found c.read_block.result (λ r. r.0) (λ r. r.1.items) c.args.buf.now c.read_block.ensures

pub returns-clause-only : goal.returns-clause-only
returns-clause-only c = answer-only c.read_block.result (λ r. r.0) (λ r. r.1.items) c.args.buf.now c.read_block.ensures
