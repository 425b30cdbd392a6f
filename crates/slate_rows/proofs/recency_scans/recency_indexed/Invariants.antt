use Rattle.std.proofs.Common.{map, take}
use Rattle.slate_rows.specs.Recency.{source_entries, IsRecency}
use Rattle.slate_rows.proofs.recency_scans.recency_indexed.Given as goal

abbrev pub invariant-loop-source : goal.invariant-loop-source
invariant-loop-source g l = IsRecency l.order (map (λ source. source_entries l.bound l.prefix (g.T.Indexed.batches source)) (take l.source-index l.sources)) l.entries.items
