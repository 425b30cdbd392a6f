use Rattle.std.proofs.Common.{rules, sym}
use Rattle.slate_follow.proofs.states.FollowerState.all_tables.Goals as goal

pub returns-in_err-tables-clause-missing : goal.returns-in_err-tables-clause-missing
returns-in_err-tables-clause-missing g c = rw (sym c.tables.ensures) (search rules)
