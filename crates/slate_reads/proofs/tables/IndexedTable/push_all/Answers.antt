use Rattle.std.proofs.Common.{rules, arith}
use Rattle.slate_reads.proofs.Dropping.{rising-next}
use Rattle.slate_reads.proofs.tables.IndexedTable.push_all.Goals as goal

pub push-requires : goal.push-requires
push-requires c =
    let above = rising-next c.args.self.now c.args.batches.now c.loop-batch.batch-index c.batch-item.result _ (omega arith) c.batch-item.is c.requires in
    search (rules, above)
