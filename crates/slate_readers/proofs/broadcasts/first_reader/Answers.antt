use Rattle.std.proofs.Common.{◌≡◌, ◌∙◌, sym, ap, arith}
use Rattle.slate_readers.proofs.Firsts.{none-push}
use Rattle.slate_readers.proofs.Showing.{at-first, none-first}
use Rattle.slate_readers.proofs.broadcasts.first_reader.Goals as goal

pub returns-in-Some-clause-sees : goal.returns-in-Some-clause-sees
returns-in-Some-clause-sees c store w stands none =
    c.in-Some.ensures.sees store w stands ∙ at-first c.args.live.now store w c.loop-place.place c.in-Some.reader.now stands (c.loop-place.invariant none) c.in-Some.ensures.reader

pub loop-place-preserved : goal.loop-place-preserved
loop-place-preserved c none =
    none-push c.loop-place.place c.args.live.now.objects (omega (arith, c.object_count.ensures, c.loop-place-test.true)) (sym c.in_default.ensures.reader) (c.loop-place.invariant none)

pub returns-clause-sees : goal.returns-clause-sees
returns-clause-sees c store w stands none = none-first c.args.live.now store w c.loop-place.place stands (c.loop-place.invariant none) (omega (arith, c.object_count.ensures, c.loop-place-test.false))
