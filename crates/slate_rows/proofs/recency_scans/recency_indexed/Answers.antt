use Rattle.std.proofs.Common.{subst}
use Rattle.slate_rows.specs.Recency.{source_entries, AreNewestFirst}
use Rattle.slate_rows.proofs.Recent.{IsRecency-more}
use Rattle.slate_rows.proofs.recency_scans.recency_indexed.Goals as goal

pub loop-source-preserved : goal.loop-source-preserved
loop-source-preserved g c =
    let entries_of = source_entries c.args.bound c.args.prefix.now in
    IsRecency-more c.args.order (λ source. entries_of (g.T.Indexed.batches source)) c.args.sources.now c.loop-source.source-index c.source-item.result c.loop-source.entries.items c.in_ok-found.found.items c.append.new.self.items
    c.loop-source-test.true c.source-item.is c.in_ok-append.ensures.items (subst (λ batches. AreNewestFirst c.args.order (entries_of batches) c.in_ok-found.found.items) c.as_indexed.ensures c.in_ok-found.ensures) c.loop-source.invariant
