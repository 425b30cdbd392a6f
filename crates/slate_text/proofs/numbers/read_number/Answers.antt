use Rattle.std.proofs.Common.{◌^◌, ◌+◌, sym, ◌∙◌, arith}
use Rattle.std.proofs.lemmas.Grind.{common_steps}
use Rattle.slate_text.proofs.NumberLemmas.{refused_at, past_limit, read_whole, value_more}
use Rattle.slate_text.proofs.numbers.read_number.Goals as goal

pub returns-then-not-is_ascii_digit : goal.returns-then-not-is_ascii_digit
returns-then-not-is_ascii_digit c =
    sym (refused_at (2 ^ 64) c.args.field.now c.loop-digit.digit-index c.loop-digit-test.true (sym c.is_ascii_digit.ensures.value ∙ c.if-not-is_ascii_digit.true))

pub returns-in_err-checked_mul : goal.returns-in_err-checked_mul
returns-in_err-checked_mul c =
    let more = value_more c.args.field.now c.loop-digit.digit-index c.loop-digit-test.true (sym c.is_ascii_digit.ensures.value ∙ c.if-not-is_ascii_digit.false) in
    c.from_residual.ensures ∙ sym (past_limit (2 ^ 64) c.args.field.now (c.loop-digit.digit-index + 1) (omega (arith, more, c.in_err-checked_mul.ensures)))

pub returns-in_err-number : goal.returns-in_err-number
returns-in_err-number c =
    let more = value_more c.args.field.now c.loop-digit.digit-index c.loop-digit-test.true (sym c.is_ascii_digit.ensures.value ∙ c.if-not-is_ascii_digit.false) in
    c.from_residual-in_err-number.ensures ∙ sym (past_limit (2 ^ 64) c.args.field.now (c.loop-digit.digit-index + 1) (omega (arith, more, c.in_err-number.ensures)))

pub loop-digit-preserved : goal.loop-digit-preserved
loop-digit-preserved c =
    let more = value_more c.args.field.now c.loop-digit.digit-index c.loop-digit-test.true (sym c.is_ascii_digit.ensures.value ∙ c.if-not-is_ascii_digit.false) in
    record {
      digits = grind (arith, common_steps);
      value = omega (arith, more, c.in_ok-number.ensures);
      fits = omega (arith, c.in_ok-number.ensures);
    }

pub returns : goal.returns
returns c =
    sym (read_whole (2 ^ 64) c.loop-digit.number c.args.field.now c.loop-digit.digit-index c.loop-digit-test.false (grind (arith, common_steps)) c.loop-digit.invariant.digits c.loop-digit.invariant.value c.loop-digit.invariant.fits)
