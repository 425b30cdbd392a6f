use Rattle.std.proofs.Common.{ap, ◌++◌}
use Rattle.slate_seqtrack.specs.Bits.{bits_of}
use Rattle.slate_seqtrack.proofs.Binary.{low_bits-none}
use Rattle.slate_seqtrack.proofs.bits.BitReader.new.Goals as goal

pub returns : goal.returns
returns c = ap (λ bits. bits ++ bits_of c.args.buf.now) (low_bits-none 0)
