use Rattle.std.proofs.Common.{◌≡◌, ◌∙◌, ap, ◌+◌, ◌-◌, ◌%◌, ◌++◌, arith}
use Rattle.slate_seqtrack.specs.Bits.{low_bits, bits_of}
use Rattle.slate_seqtrack.proofs.Binary.{bits_of-shift, low_bits-mod}
use Rattle.slate_seqtrack.proofs.bits.push_word.Goals as goal

pub loop-left-preserved : goal.loop-left-preserved
loop-left-preserved c =
    let whole : 8 + (c.loop-left.left - 8) ≡ c.loop-left.left = omega arith in (
      ap (λ bytes. bits_of bytes ++ low_bits (c.loop-left.left - 8) c.args.word) c.push_reserved.ensures.items ∙
          bits_of-shift c.loop-left.bytes.items (c.loop-left.left - 8) c.args.word ∙
          ap (λ n. bits_of c.loop-left.bytes.items ++ low_bits n c.args.word) whole ∙ c.loop-left.invariant.0,
      omega arith,
      omega arith,
      omega arith,
    )

pub returns : goal.returns
returns c =
    let left : c.args.count % 8 ≡ c.loop-left.left = omega arith in
    rw (left, low_bits-mod c.loop-left.left 8 c.args.word (omega arith)) c.loop-left.invariant.0
