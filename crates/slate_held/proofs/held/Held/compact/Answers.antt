use Rattle.slate_held.proofs.Kept.{compact-kept}
use Rattle.slate_held.proofs.held.Held.compact.Goals as goal

pub invariant_of-self : goal.invariant_of-self
invariant_of-self g c = let does = c.compact.ensures.does in compact-kept (g.S.Store.objects c.self.inside.store) does.0 _ _ _ _ _ does.1 c.self.invariant

pub returns-clause-does : goal.returns-clause-does
returns-clause-does g c = rw (← c.self.view_is) c.compact.ensures.does
