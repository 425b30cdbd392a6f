use Rattle.std.proofs.Common.{◌≡◌, ◌++◌, ◌∷◌, []}
use Rattle.std.proofs.lemmas.Result.{err_from_is_err_and}
use Rattle.slate_objects.specs.Reading.{many_at}
use Rattle.slate_objects.proofs.Many.{goes_on, ends}
use Rattle.slate_objects.proofs.formats.read_many.Goals as goal

pub returns-in_err-value : goal.returns-in_err-value
returns-in_err-value g c =
    let p = err_from_is_err_and c.from_residual.result c.from_residual.ensures.1 in
    rw (p.1, p.2) (ends g.T.Format.read_at c.in_err-value.field-0.0 c.loop.values.items c.args.count c.loop.counter c.loop.bytes (many_at g.T.Format.read_at c.args.count c.args.bytes.now) c.loop-test.true c.in_err-value.ensures c.loop.invariant)

pub loop-preserved : goal.loop-preserved
loop-preserved g c =
    let e : c.push.new.self.items ≡ c.loop.values.items ++ c.in_ok-value.value ∷ [] = c.in_ok-push.ensures.items in
    rw e (goes_on g.T.Format.read_at c.loop.values.items c.args.count c.loop.counter c.loop.bytes c.in_ok-value.value c.read.new.bytes (many_at g.T.Format.read_at c.args.count c.args.bytes.now) c.loop-test.true c.in_ok-value.ensures c.loop.invariant)
