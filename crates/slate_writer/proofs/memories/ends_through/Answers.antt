use Rattle.std.proofs.Common.{subst}
use Rattle.std.proofs.lemmas.Bool.{leb-true}
use Rattle.slate_reads.specs.Index.{AreRising}
use Rattle.slate_writer.proofs.Holding.{none-above, through-last}
use Rattle.slate_writer.proofs.memories.ends_through.Goals as goal

pub returns-in-None : goal.returns-in-None
returns-in-None c = λ all. none-above c.args.number c.args.batches.now c.in-None.ensures.cases

pub returns-in-Some : goal.returns-in-Some
returns-in-Some c = λ through.
    rw c.in-Some.ensures.cases.0 (through-last c.args.number c.in-Some._earlier.now c.in-Some.last.now (subst AreRising c.in-Some.ensures.cases.0 c.requires) (leb-true c.in-Some.last.now.number c.args.number through))
