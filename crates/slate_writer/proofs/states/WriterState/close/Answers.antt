use Rattle.std.proofs.Common.{rules}
use Rattle.slate_writer.proofs.Ends.{close_answers}
use Rattle.slate_writer.proofs.states.WriterState.close.Goals as goal

pub returns-in-Some-2-clause-does : goal.returns-in-Some-2-clause-does
returns-in-Some-2-clause-does g c =
    let s = c.store_batches-flushed.ensures.stored in
    (s.0, close_answers _ c.in-Some-2.flush_type c.args.self.now _ _ _ c.store_batches-flushed.new.self _ s.0 _ _ _ (search rules) c.end-in-Some-2.ensures.answer c.err.ensures.value (search rules) (search rules) (search rules) s.1)
