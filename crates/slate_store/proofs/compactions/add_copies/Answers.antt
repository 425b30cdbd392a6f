use Rattle.std.proofs.Common.{rules, arith}
use Rattle.slate_reads.proofs.Dropping.{rising-next}
use Rattle.slate_store.proofs.compactions.add_copies.Goals as goal

pub returns-then-not-is_above_last : goal.returns-then-not-is_above_last
returns-then-not-is_above_last c rising =
    let above = rising-next c.args.table.now c.args.batches.now c.loop-batch.batch-index c.batch-item.result _ (omega arith) c.batch-item.is rising in
    search (rules, above)
