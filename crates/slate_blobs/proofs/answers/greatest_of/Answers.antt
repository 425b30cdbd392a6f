use Rattle.std.proofs.Common.{ap, add-one, drop, ◌∙◌, sym, ◌+◌, ◌∷◌, get_or}
use Rattle.std.proofs.Math.Seq.{drop-cons}
use Rattle.slate_store.specs.Objects.{greatest}
use Rattle.slate_blobs.proofs.Greatest.{greatest-first}
use Rattle.slate_blobs.proofs.answers.greatest_of.Goals as goal

pub loop-id-preserved : goal.loop-id-preserved
loop-id-preserved c =
    let ids = c.args.ids.now in
    let index = c.loop-id.id-index in
    let rest = drop (index + 1) ids in
    ap (λ n. greatest n rest) c.max-last.ensures
    ∙ (greatest-first c.loop-id.last (get_or ids index 0) rest
    ∙ (sym (ap (greatest c.loop-id.last) (drop-cons ids index 0 c.loop-id-test.true ∙ ap (λ n. get_or ids index 0 ∷ drop n ids) (sym (add-one index)))) ∙ c.loop-id.invariant))
