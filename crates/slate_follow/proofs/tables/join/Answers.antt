use Rattle.std.proofs.Common.{◌++◌, ap, subst, sym, ◌∙◌}
use Rattle.std.proofs.lemmas.List.{take_all}
use Rattle.slate_reads.specs.Index.{AreRising}
use Rattle.slate_model.proofs.Free.{numbered-rising}
use Rattle.slate_follow.specs.Joined.{joined}
use Rattle.slate_follow.proofs.Joining.{next-rises}
use Rattle.slate_follow.proofs.tables.join.Goals as goal

pub push_all-requires : goal.push_all-requires
push_all-requires c =
    let l = c.loop-older in
    let older = c.older-item.result in
    let rises = next-rises c.args.tables.now l.older-index older c.loop-older-test.true c.older-item.is c.requires.0 c.args.table.now c.requires.1 in
    subst (λ bs. AreRising (l.whole ++ bs)) (sym c.batches.ensures.value) (subst (λ bs. AreRising (bs ++ older)) (sym l.invariant) rises)

pub push_all-requires-2 : goal.push_all-requires-2
push_all-requires-2 c =
    let l = c.loop-older in
    let all = l.invariant ∙ ap joined (take_all l.older-index c.args.tables.now c.loop-older-test.false) in
    let rises = numbered-rising c.requires.0 (joined c.args.tables.now ++ c.args.table.now) c.requires.1 in
    subst (λ bs. AreRising (l.whole ++ bs)) (sym c.batches-2.ensures.value) (subst (λ bs. AreRising (bs ++ c.args.table.now)) (sym all) rises)
