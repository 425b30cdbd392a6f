use Rattle.std.proofs.Common.{◌≡◌, take}
use Rattle.slate_rows.specs.Recency.{source_entries}
use Rattle.slate_rows.proofs.recency_scans.newest_first.Given as goal

abbrev pub invariant-loop-batch : goal.invariant-loop-batch
invariant-loop-batch l = l.entries.items ≡ source_entries l.bound l.prefix (take l.batch-index l.batches)
