use Rattle.slate_held.proofs.readers.HeldReader.close.Goals as goal

pub returns-clause-managed : goal.returns-clause-managed
returns-clause-managed g c = rw (← c.self.view_is) c.close.ensures.managed
