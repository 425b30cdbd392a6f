use Rattle.std.proofs.Common.{ℕ, List, ◌++◌, ◌∙◌, ap, sym}
use Rattle.slate_objects.proofs.Digits.{last_digit, more_written}
use Rattle.slate_objects.proofs.formats.+write_digits.Goals as goal

pub returns-then-number-lt128-clause-digits : goal.returns-then-number-lt128-clause-digits
returns-then-number-lt128-clause-digits t c = λ left lt.
    c.in_ok-push.ensures.items ∙ ap (λ (d : List ℕ). c.args.out.now.items ++ d) (sym (last_digit left c.args.number c.if-number-lt128.true))

pub returns-clause-digits : goal.returns-clause-digits
returns-clause-digits t c = λ left lt.
    more_written c.args.out.now.items c.write_digits.new.out.items c.args.number left c.write_digits.result c.if-number-lt128.false lt
    (rw (c.in_ok-push-2.ensures.items) at c.write_digits.ensures.digits)
