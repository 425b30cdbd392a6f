use Rattle.std.proofs.Common.{rules}
use Rattle.slate_writer.proofs.Ends.{compact_done}
use Rattle.slate_writer.proofs.states.WriterState.compact.Goals as goal

pub returns-clause-does : goal.returns-clause-does
returns-clause-does g c =
    let j = c.join_tables-result.ensures in
    compact_done _ c.args.self.now _ _ _ c.join_tables-result.new.self _ (search rules) j.moved (search rules) (search rules) j.counter j.joins
