use Rattle.std.proofs.Common.{sym, ◌∙◌, ap, ◌<◌, ◌^◌, ◌++◌, length, arith, rules}
use Rattle.slate_seqtrack.specs.Bits.{low_bits, bits_of}
use Rattle.slate_seqtrack.proofs.Binary.{fits-more, word-more, word-more-fits, word-more-bits}
use Rattle.slate_seqtrack.proofs.bits.take_word.Goals as goal

pub loop-have-init : goal.loop-have-init
loop-have-init c =
    let small : c.args.pending < 2 ^ 8 = search rules in
    rw c.from-word.ensures (search rules, fits-more c.args.pending c.args.count small, omega arith, search rules)

pub loop-have-preserved : goal.loop-have-preserved
loop-have-preserved c =
    let byte : c.in_ok-byte.byte.now < 2 ^ 8 = search rules in
    let few : c.loop-have.have < 64 = omega arith in
    rw (c.from.ensures, word-more c.loop-have.have c.loop-have.word c.in_ok-byte.byte.now c.loop-have.invariant.1 few byte) (
      word-more-bits c.loop-have.have c.loop-have.word c.in_ok-byte.byte.now c.in_ok-byte.after.now byte ∙ ap (λ rest. low_bits c.loop-have.have c.loop-have.word ++ bits_of rest) (sym c.in_ok-byte.ensures.cases.0) ∙ c.loop-have.invariant.0,
      word-more-fits c.loop-have.have c.loop-have.word c.in_ok-byte.byte.now c.loop-have.invariant.1 byte,
      omega arith,
      omega (arith, ap length c.in_ok-byte.ensures.cases.0, c.loop-have.invariant.3),
    )
