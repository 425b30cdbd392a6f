use Rattle.slate_held.proofs.Kept.{close-kept}
use Rattle.slate_held.proofs.held.Held.close.Goals as goal

pub invariant_of-self : goal.invariant_of-self
invariant_of-self g c = let does = c.close.ensures.does in close-kept (g.S.Store.objects c.self.inside.store) does.0 _ _ _ _ _ _ does.1 c.self.invariant

pub returns-clause-does : goal.returns-clause-does
returns-clause-does g c = rw (← c.self.view_is) c.close.ensures.does
