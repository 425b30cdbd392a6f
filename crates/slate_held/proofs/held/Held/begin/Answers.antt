use Rattle.slate_held.proofs.Kept.{tracking-kept}
use Rattle.slate_held.proofs.held.Held.begin.Goals as goal

pub invariant_of-self : goal.invariant_of-self
invariant_of-self g c = rw c.begin.ensures.tracking (tracking-kept _ _ _ c.self.invariant)
