use Rattle.std.proofs.Common.{rules}
use Rattle.slate_receivers.proofs.write_handles.WriteHandle.poll_durable.Goals as goal

pub returns-in-Record-clause-answered : goal.returns-in-Record-clause-answered
returns-in-Record-clause-answered g c = let recorded = c.answer.ensures in search rules
