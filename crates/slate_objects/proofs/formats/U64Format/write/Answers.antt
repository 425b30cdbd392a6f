use Rattle.std.proofs.Common.{arith}
use Rattle.slate_objects.specs.Spelling.{number}
use Rattle.slate_objects.proofs.Writing.{on_ok}
use Rattle.slate_objects.proofs.formats.U64Format.write.Goals as goal

pub returns : goal.returns
unfolding number
returns c = on_ok c.write_digits.result (c.write_digits.ensures.digits 9 (omega (arith, c.write_digits.ensures.fits))) (λ e. (e, c.write_digits.ensures.fits))
