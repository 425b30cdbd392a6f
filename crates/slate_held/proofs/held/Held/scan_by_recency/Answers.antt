use Rattle.slate_held.proofs.Kept.{recency-same, same-kept}
use Rattle.slate_held.proofs.held.Held.scan_by_recency.Goals as goal

pub invariant_of-self : goal.invariant_of-self
invariant_of-self g c = same-kept _ _ _ (recency-same _ _ _ _ _ _ c.scan_by_recency.ensures.scan) c.self.invariant
