use Rattle.slate_rows.proofs.Ahead.{AreAhead-none, AreAhead-step, passed-each, passed-fewer}
use Rattle.slate_rows.proofs.table_walks.next_key.Goals as goal

pub returns-in_default-clause-ahead : goal.returns-in_default-clause-ahead
returns-in_default-clause-ahead c each = AreAhead-none c.args.order c.args.walks.now c.in_default.ensures

pub returns-clause-each : goal.returns-clause-each
returns-clause-each c each = passed-each c.args.order c.in-Some.key.now c.args.walks.now c.pass_key.new.walks c.pass_key.ensures each

pub returns-clause-fewer : goal.returns-clause-fewer
returns-clause-fewer c = passed-fewer c.args.order c.in-Some.key.now c.args.walks.now c.pass_key.new.walks c.in-Some.ensures.among c.pass_key.ensures

pub returns-clause-ahead : goal.returns-clause-ahead
returns-clause-ahead c each rest later = AreAhead-step c.args.order c.in-Some.key.now c.args.walks.now c.pass_key.new.walks rest each c.in-Some.ensures c.pass_key.ensures later
