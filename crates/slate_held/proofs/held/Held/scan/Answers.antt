use Rattle.slate_held.proofs.Kept.{reads-same, same-kept}
use Rattle.slate_held.proofs.held.Held.scan.Goals as goal

pub invariant_of-self : goal.invariant_of-self
invariant_of-self g c = same-kept _ _ _ (reads-same _ _ _ _ _ c.scan.ensures.by_any) c.self.invariant
