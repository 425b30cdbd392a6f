use Rattle.slate_held.proofs.Kept.{refresh-kept}
use Rattle.slate_held.proofs.held.Held.refresh_manifest.Goals as goal

pub invariant_of-self : goal.invariant_of-self
invariant_of-self g c = refresh-kept (g.S.Store.objects c.self.inside.store) _ _ _ _ _ c.refresh_manifest.ensures.does c.self.invariant
