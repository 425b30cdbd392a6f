use Rattle.std.proofs.Common.{subst, sym}
use Rattle.slate_check.specs.Reads.{AreOf}
use Rattle.slate_check.proofs.reads.Cache.log.Goals as goal

pub returns-in_err-insert-clause-of : goal.returns-in_err-insert-clause-of
returns-in_err-insert-clause-of g c o h of = subst (λ e. AreOf o c.args.self.now.tables.entries e) (sym c.in_err-insert.ensures.err) of
