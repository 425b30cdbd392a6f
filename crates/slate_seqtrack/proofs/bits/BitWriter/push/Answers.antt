use Rattle.std.proofs.Common.{◌≡◌, ap, ◌∙◌, ◌∷◌, []}
use Rattle.slate_seqtrack.specs.Bits.{low_bits}
use Rattle.slate_seqtrack.proofs.Binary.{low_bits-bit}
use Rattle.slate_seqtrack.proofs.bits.BitWriter.push.Goals as goal

pub returns-clause-ok : goal.returns-clause-ok
returns-clause-ok c =
    let one : low_bits 1 c.from.result ≡ c.args.bit ∷ [] = ap (low_bits 1) c.from.ensures ∙ low_bits-bit c.args.bit in
    rw one at c.push64.ensures.ok
