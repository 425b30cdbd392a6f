use Rattle.slate_held.proofs.Kept.{opened-kept}
use Rattle.slate_held.proofs.held.Held.open.Goals as goal

pub invariant_of-result : goal.invariant_of-result
invariant_of-result g c = let e = c.in_ok-writer.ensures in opened-kept _ c.in_ok-writer.writer _ _ _ e.fresh e.line e.floor e.left
