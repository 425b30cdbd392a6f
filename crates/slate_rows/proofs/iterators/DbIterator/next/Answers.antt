use Rattle.slate_rows.proofs.Passing.{AreKept-rest}
use Rattle.slate_rows.proofs.iterators.DbIterator.next.Goals as goal

pub invariant_of-self : goal.invariant_of-self
invariant_of-self c = AreKept-rest _ _ _ c.pop_front.result c.pop_front.ensures.items c.self.invariant
