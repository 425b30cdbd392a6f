use Rattle.std.proofs.Common.{ap, subst, sym, ◌∙◌, drop}
use Rattle.std.proofs.lemmas.List.{take_rest}
use Rattle.slate_reads.specs.Index.{AreRising}
use Rattle.slate_reads.proofs.Dropping.{rising-drop}
use Rattle.slate_writer.proofs.memories.rest_of.Goals as goal

pub returns-clause-value : goal.returns-clause-value
returns-clause-value c = take_rest c.batches.result.now c.args.gone ∙ ap (drop c.args.gone) c.batches.ensures.value

pub returns-clause-rising : goal.returns-clause-rising
returns-clause-rising c =
    rw (take_rest c.batches.result.now c.args.gone) (rising-drop c.args.gone c.batches.result.now (subst AreRising (sym c.batches.ensures.value) c.batches.ensures.rising))
