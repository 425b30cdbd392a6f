use Rattle.slate_held.proofs.Kept.{checkpointed-kept}
use Rattle.slate_held.proofs.held.Held.checkpoint.Goals as goal

pub invariant_of-self : goal.invariant_of-self
invariant_of-self g c = checkpointed-kept _ _ _ _ _ _ c.write_checkpoint.ensures.follows c.self.invariant
