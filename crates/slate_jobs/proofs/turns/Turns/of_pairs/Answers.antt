use Rattle.std.proofs.Common.{◌∷◌, ◌++◌, [], ap, ◌∙◌, arith}
use Rattle.slate_jobs.proofs.Turning.{pairs-all, pairs-upto}
use Rattle.slate_jobs.proofs.turns.Turns.of_pairs.Goals as goal

pub pair_at-requires : goal.pair_at-requires
pair_at-requires c = omega arith

pub loop-place-preserved : goal.loop-place-preserved
loop-place-preserved c =
    c.in_ok-push.ensures.items ∙ (ap (λ ts. ts ++ c.pair_at.result ∷ []) c.loop-place.invariant ∙ pairs-upto c.args.turns.now c.loop-place.place c.pair_at.result c.pair_at.ensures)

pub returns : goal.returns
returns c = c.loop-place.invariant ∙ pairs-all c.args.turns.now c.loop-place.place (omega arith)
