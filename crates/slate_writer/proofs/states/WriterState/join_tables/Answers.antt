use Rattle.std.proofs.Common.{rules, Ok, Err, ap}
use Rattle.slate_writer.proofs.Joined.{all-joins}
use Rattle.slate_writer.proofs.states.WriterState.join_tables.Goals as goal

pub returns-in-Ok-clause-joins : goal.returns-in-Ok-clause-joins
returns-in-Ok-clause-joins g c =
    all-joins c.args.self.now _ _ _ _ _ _ (Ok c.in-Ok.manifest) _ (search rules) (search rules) (search rules) (search rules) (search rules) c.in-Ok.ensures.compacts

pub returns-in-Err-clause-joins : goal.returns-in-Err-clause-joins
returns-in-Err-clause-joins g c =
    all-joins c.args.self.now _ _ _ _ _ _ (Err c.in-Err.refusal) _ (search rules) (search rules) (search rules) (ap Err c.error_of_refusal.ensures) (search rules) c.in-Err.ensures.compacts
