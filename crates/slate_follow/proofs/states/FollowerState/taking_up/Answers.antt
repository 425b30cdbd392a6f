use Rattle.std.proofs.Common.{Bool, [], ◌++◌, if◌then◌else◌, subst, sym}
use Rattle.slate_types.specs.Line.{batches_above}
use Rattle.slate_follow.specs.Rebuilding.{Lacks}
use Rattle.slate_follow.proofs.states.FollowerState.taking_up.Goals as goal

pub returns-then-keeps-clause-lacks : goal.returns-then-keeps-clause-lacks
returns-then-keeps-clause-lacks g c x key lawful is =
    let lacks = c.taking_after.ensures.lacks x key lawful is in
    let old = c.args.self.now in
    (lacks.0, subst (λ (keeps : Bool). Lacks x (batches_above c.args.tabled ((if keeps then old.line.batches else []) ++ c.args.fresh)) lacks.0) (sym c.if-keeps.true) lacks.1)

pub returns-else-keeps-clause-lacks : goal.returns-else-keeps-clause-lacks
returns-else-keeps-clause-lacks g c x key lawful is =
    let lacks = c.taking_anew.ensures.lacks x key lawful is in
    let old = c.args.self.now in
    (key, subst (λ (keeps : Bool). Lacks x (batches_above c.args.tabled ((if keeps then old.line.batches else []) ++ c.args.fresh)) key) (sym c.if-keeps.false) lacks)
