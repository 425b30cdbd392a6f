use Rattle.std.proofs.Common.{ap, length, arith}
use Rattle.slate_seqtrack.proofs.Binary.{length-left}
use Rattle.slate_seqtrack.proofs.bits.BitReader.whole_bytes.Goals as goal

pub returns : goal.returns
returns c = omega (arith, length-left c.self.inside.count c.self.inside.pending c.self.inside.bytes.now, ap length c.self.view_is)
