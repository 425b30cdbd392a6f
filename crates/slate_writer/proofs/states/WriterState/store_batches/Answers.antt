use Rattle.std.proofs.Common.{rules}
use Rattle.slate_writer.proofs.Storing.{forgets}
use Rattle.slate_writer.proofs.states.WriterState.store_batches.Goals as goal

pub returns-clause-stored : goal.returns-clause-stored
returns-clause-stored g c = let s = c.store_as-result.ensures.stored in (s.0, forgets (search rules) s.1)
