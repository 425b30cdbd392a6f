use Rattle.std.proofs.Common.{◌≡◌, sym, ◌∙◌, ap, ◌<◌, ◌++◌, ◌∷◌, [], arith, rules}
use Rattle.slate_seqtrack.specs.Bits.{low_bits, bits_of}
use Rattle.slate_seqtrack.proofs.Binary.{none-left, low_bits-next, first-bit}
use Rattle.slate_seqtrack.proofs.bits.BitReader.read_bit.Goals as goal

pub returns-in_default : goal.returns-in_default
returns-in_default c =
    let none : c.args.self.now ≡ [] = sym c.self.view_is ∙ none-left c.self.inside.count c.self.inside.pending c.self.inside.bytes.now (omega arith) c.in_default.ensures.cases in
    (none, none)

pub returns-then-self-eq0 : goal.returns-then-self-eq0
returns-then-self-eq0 c =
    let none : c.self.inside.count ≡ 0 = omega arith in
    let byte : c.in-Some.first.now < 256 = search rules in
    sym c.self.view_is ∙ ap (λ bytes. low_bits c.self.inside.count c.self.inside.pending ++ bits_of bytes) c.in-Some.ensures.cases.0 ∙
    ap (λ n. low_bits n c.self.inside.pending ++ bits_of (c.in-Some.first.now ∷ c.in-Some.rest.now)) none ∙
    first-bit c.self.inside.pending c.in-Some.first.now c.in-Some.rest.now byte

pub returns : goal.returns
returns c =
    let some : 0 < c.self.inside.count = omega arith in
    sym c.self.view_is ∙ ap (λ bits. bits ++ bits_of c.self.inside.bytes.now) (low_bits-next c.self.inside.count c.self.inside.pending some)
