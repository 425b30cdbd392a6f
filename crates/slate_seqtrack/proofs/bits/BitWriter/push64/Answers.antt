use Rattle.std.proofs.Common.{◌∙◌, ap, ◌<◌, ◌^◌, ◌++◌, rules}
use Rattle.slate_seqtrack.specs.Bits.{low_bits, bits_of}
use Rattle.slate_seqtrack.proofs.Binary.{pushed}
use Rattle.slate_seqtrack.proofs.bits.BitWriter.push64.Goals as goal

pub returns-clause-ok : goal.returns-clause-ok
returns-clause-ok c =
    let small : c.self.inside.pending < 2 ^ 8 = search rules in
    pushed c.reserve.new.self.items _ c.self.inside.count c.self.inside.pending _ c.args.value _ c.args.bits _ c.from-2.ensures c.from.ensures small c.requires c.push_word-self-inside.ensures ∙
    ap (λ bytes. (bits_of bytes ++ low_bits c.self.inside.count c.self.inside.pending) ++ low_bits c.args.bits c.args.value) c.in_ok-reserve.ensures.items ∙
    ap (λ bits. bits ++ low_bits c.args.bits c.args.value) c.self.view_is
