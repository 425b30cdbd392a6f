use Rattle.std.proofs.Common.{rules, ap, ◌∙◌}
use Rattle.slate_model.specs.Handle.{Handle}
use Rattle.slate_writer.proofs.Ends.{flush_done}
use Rattle.slate_writer.proofs.states.WriterState.flush.Goals as goal

pub record_fault-requires : goal.record_fault-requires
record_fault-requires g c =
    let s = c.store_batches.ensures.stored in
    ap (λ (x : Handle). x.result) s.1.flushed.same ∙ search rules

pub returns-in-Ok-clause-does : goal.returns-in-Ok-clause-does
returns-in-Ok-clause-does g c =
    let s = rw c.in-Ok.is at c.store_batches.ensures.stored in
    (s.0, flush_done _ _ c.args.self.now _ _ _ c.store_batches.new.self _ s.0 (search rules) (search rules) (search rules) s.1)

pub returns-in-Err-clause-does : goal.returns-in-Err-clause-does
returns-in-Err-clause-does g c =
    let s = rw c.in-Err.is at c.store_batches.ensures.stored in
    (s.0, flush_done _ _ c.args.self.now _ _ _ c.store_batches.new.self _ s.0 (search rules) (search rules) (search rules) s.1)
