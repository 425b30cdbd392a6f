use Rattle.std.proofs.Common.{◌≡◌, ◌++◌, ◌∷◌, [], ap, subst, sym, ◌∙◌}
use Rattle.slate_reads.specs.Index.{AreRising}
use Rattle.slate_types.specs.Line.{AreNumberedFrom}
use Rattle.slate_follow.specs.Joined.{joined}
use Rattle.slate_follow.proofs.Joining.{two-rise}
use Rattle.slate_follow.proofs.tables.join_newest.Goals as goal

pub append_alone-requires : goal.append_alone-requires
append_alone-requires c =
    let newest = c.in-Some.newest in
    let older = c.in-Some-pop.older in
    let init = c.pop-2.new.self.items in
    let split : c.args.tables.now.items ≡ (init ++ older ∷ []) ++ newest ∷ [] = c.in-Some.ensures.items ∙ ap (λ xs. xs ++ newest ∷ []) c.in-Some-pop.ensures.items in
    subst (λ bs. AreRising (older ++ bs)) (sym c.batches.ensures.value) (two-rise init older newest c.requires.0 (subst (λ xs. AreNumberedFrom c.requires.0 (joined xs)) split c.requires.1))
