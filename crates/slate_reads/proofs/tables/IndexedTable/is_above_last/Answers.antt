use Rattle.std.proofs.Common.{refl, sym, ◌∙◌, subst}
use Rattle.slate_reads.specs.Index.{IsAboveLast}
use Rattle.slate_reads.proofs.Dropping.{above-last, above-none}
use Rattle.slate_reads.proofs.tables.IndexedTable.is_above_last.Goals as goal

pub returns-in-None : goal.returns-in-None
returns-in-None c = (λ above. subst (IsAboveLast c.args.number) c.self.view_is (subst (IsAboveLast c.args.number) c.as_slice.ensures (above-none c.args.number c.as_slice.result.now c.in-None.ensures.cases)), λ above. refl)

pub returns-in-Some : goal.returns-in-Some
returns-in-Some c = above-last c.args.number c.args.self.now c.in-Some._earlier.now c.in-Some.last.now (sym c.self.view_is ∙ sym c.as_slice.ensures ∙ c.in-Some.ensures.cases.0)
