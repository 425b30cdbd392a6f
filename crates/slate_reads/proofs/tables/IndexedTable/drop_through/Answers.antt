use Rattle.std.proofs.Common.{sym, ◌∙◌}
use Rattle.slate_reads.proofs.Dropping.{above-kept}
use Rattle.slate_reads.proofs.tables.IndexedTable.drop_through.Goals as goal

pub returns : goal.returns
returns c = sym (above-kept c.args.number c.loop-self.self c.begins_through.ensures.rising (sym c.begins_through.ensures.value ∙ c.loop-self-test.false)) ∙ c.loop-self.invariant
