use Rattle.std.proofs.Common.{◌-◌, arith}
use Rattle.slate_rows.proofs.Leb128.{pow-five, below-one, below-more}
use Rattle.slate_rows.proofs.varints.+number_at_front.Goals as goal

pub returns-then-byte-lt128-clause-below : goal.returns-then-byte-lt128-clause-below
returns-then-byte-lt128-clause-below t c = below-one c.args.left _ (omega arith) (omega arith)

pub overflow_mul-result : goal.overflow_mul-result
overflow_mul-result t c = omega (arith, pow-five (c.args.left - 1) (omega arith), c.in_ok-number.ensures.below)

pub overflow_add-result : goal.overflow_add-result
overflow_add-result t c = omega (arith, pow-five (c.args.left - 1) (omega arith), c.in_ok-number.ensures.below)

pub returns-clause-below : goal.returns-clause-below
returns-clause-below t c =
    rw c.from-2.ensures (below-more c.args.left (c.args.left - 1) c.in-Some.byte.now c.in_ok-number.number (omega arith) (omega arith) (omega arith) c.in_ok-number.ensures.below)
