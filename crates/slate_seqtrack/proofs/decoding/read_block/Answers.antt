use Rattle.std.proofs.Common.{sym, ◌∙◌, ap}
use Rattle.slate_seqtrack.specs.Reading.{counted_at}
use Rattle.slate_seqtrack.proofs.Blocks.{whole-bytes}
use Rattle.slate_seqtrack.proofs.decoding.read_block.Goals as goal

pub overflow_sub-result : goal.overflow_sub-result
overflow_sub-result c = rw c.whole_bytes.ensures (whole-bytes c.args.buf.now _ _ (ap counted_at (sym c.new-reader.ensures) ∙ c.in_ok-values.ensures))
