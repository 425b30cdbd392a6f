use Rattle.std.proofs.Common.{◌≡◌, sym, ◌∙◌, ap, subst, ◌+◌, ◌<◌, ◌++◌, ◌∷◌, [], length, get_or, take, drop, arith}
use Rattle.std.proofs.lemmas.List.{take_more, take_more_set, get_or-drop, drop-drop, drop-set-lt}
use Rattle.slate_rows.specs.declared.table_walks.Walk.{Walk}
use Rattle.slate_rows.specs.Ahead.{Passes}
use Rattle.slate_rows.proofs.Ahead.{Pass-push}
use Rattle.slate_rows.proofs.table_walks.pass_key.Goals as goal

pub loop-walk-preserved : goal.loop-walk-preserved
loop-walk-preserved c =
    let i = c.loop-walk.walk-index in
    let old = c.walk-item.result in
    let new = c.pass.new.self in
    let walks = c.loop-walk.walks in
    let initial = c.args.walks.now in
    let same : length walks ≡ length initial = omega (arith, c.loop-walk.auto.walks) in
    let lt : i < length walks = omega (arith, same, c.loop-walk-test.true) in
    let first : i + 0 ≡ i = omega arith in
    let at : old ≡ get_or initial i old =
    c.walk-item.is ∙ ap (λ n. get_or walks n old) (sym first) ∙ sym (get_or-drop i walks 0 old) ∙ ap (λ ws. get_or ws 0 old) c.loop-walk.invariant.left ∙ get_or-drop i initial 0 old ∙ ap (λ n. get_or initial n old) first in
    let more : take (i + 1) initial ≡ take i initial ++ old ∷ [] = take_more initial i old (omega (arith, same, c.loop-walk-test.true)) ∙ ap (λ w. take i initial ++ w ∷ []) (sym at) in
    record {
      passed = rw (more, take_more_set walks i new lt) (Pass-push c.args.order c.args.key.now (take i initial) (take i walks) old new c.loop-walk.invariant.passed
          (subst (λ (w : Walk). Passes c.args.order c.args.key.now w new) (sym c.walk-item.is) c.pass.ensures));
      left = drop-set-lt (i + 1) walks i new (omega arith) ∙ sym (drop-drop 1 i walks) ∙ ap (drop 1) c.loop-walk.invariant.left ∙ drop-drop 1 i initial;
    }
