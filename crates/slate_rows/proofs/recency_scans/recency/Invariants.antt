use Rattle.std.proofs.Common.{map, take}
use Rattle.slate_rows.specs.Recency.{source_entries, IsRecency}
use Rattle.slate_rows.proofs.recency_scans.recency.Given as goal

abbrev pub invariant-loop-source : goal.invariant-loop-source
invariant-loop-source l = IsRecency l.order (map (source_entries l.bound l.prefix) (take l.source-index l.source-items)) l.entries.items
