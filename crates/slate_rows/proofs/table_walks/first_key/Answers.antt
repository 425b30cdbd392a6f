use Rattle.std.proofs.Common.{◌≡◌, sym, ◌∙◌, ap, subst, ◌+◌, ◌++◌, ◌∷◌, [], take}
use Rattle.std.specs.Option.{option_copied}
use Rattle.std.proofs.lemmas.List.{take_more}
use Rattle.slate_rows.proofs.Ahead.{IsFirstSoFar, first-more}
use Rattle.slate_rows.proofs.table_walks.first_key.Goals as goal

pub loop-walk-preserved : goal.loop-walk-preserved
loop-walk-preserved c =
    let i = c.loop-walk.walk-index in
    let walks = c.args.walks.now in
    let walk = c.walk-item.result in
    let more : take (i + 1) walks ≡ take i walks ++ walk ∷ [] = take_more walks i walk c.loop-walk-test.true ∙ ap (λ w. take i walks ++ w ∷ []) (sym c.walk-item.is) in
    rw more (subst (λ first. IsFirstSoFar c.args.order first (take i walks ++ walk ∷ [])) (sym c.earlier-first.ensures)
    (first-more c.args.order (take i walks) walk (option_copied c.loop-walk.first) c.loop-walk.invariant))
