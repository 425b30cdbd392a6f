use Rattle.slate_held.proofs.Kept.{swept-kept}
use Rattle.slate_held.proofs.held.Held.sweep.Goals as goal

pub invariant_of-self : goal.invariant_of-self
invariant_of-self g c = swept-kept _ _ _ _ _ c.sweep.ensures.sweeps c.self.invariant
