use Rattle.slate_seqtrack.proofs.Binary.{low_bits-none}
use Rattle.slate_seqtrack.proofs.bits.BitWriter.new.Goals as goal

pub returns : goal.returns
returns c = rw c.new.ensures.items (low_bits-none 0)
