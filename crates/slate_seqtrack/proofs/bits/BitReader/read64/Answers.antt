use Rattle.std.proofs.Common.{sym, ◌∙◌, ap, refl, [], length, arith}
use Rattle.slate_seqtrack.proofs.Binary.{none-left, length-left, unpacked, unpacked-fits}
use Rattle.slate_seqtrack.proofs.bits.BitReader.read64.Goals as goal

pub returns-in_default : goal.returns-in_default
returns-in_default c = (omega (arith, c.in_default.ensures, length-left c.self.inside.count c.self.inside.pending c.self.inside.bytes.now, ap length c.self.view_is), none-left 0 c.self.inside.pending [] refl refl)

pub returns : goal.returns
returns c = (
  sym c.self.view_is ∙ sym c.in-Some.ensures.1 ∙ unpacked c.args.bits c.in-Some.count c.in-Some.word c.in-Some.rest.now c.requires c.in-Some.ensures.0,
  unpacked-fits c.args.bits _ c.requires,
)
