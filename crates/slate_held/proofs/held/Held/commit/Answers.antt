use Rattle.slate_held.proofs.Kept.{commit-kept}
use Rattle.slate_held.proofs.held.Held.commit.Goals as goal

pub invariant_of-self : goal.invariant_of-self
invariant_of-self g c = commit-kept c.args.transaction _ _ _ _ _ _ c.commit.ensures.by_any c.self.invariant
