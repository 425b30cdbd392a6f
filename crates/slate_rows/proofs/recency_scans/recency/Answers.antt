use Rattle.slate_rows.specs.Recency.{source_entries}
use Rattle.slate_rows.proofs.Recent.{IsRecency-more}
use Rattle.slate_rows.proofs.recency_scans.recency.Goals as goal

pub loop-source-preserved : goal.loop-source-preserved
loop-source-preserved c =
    IsRecency-more c.args.order (source_entries c.args.bound c.args.prefix.now) c.as_slice-source-items.result.now c.loop-source.source-index c.source-item.result c.loop-source.entries.items c.in_ok-found.found.items c.append.new.self.items
    c.loop-source-test.true c.source-item.is c.in_ok-append.ensures.items (rw (← c.as_slice.ensures) c.in_ok-found.ensures) c.loop-source.invariant
