use Rattle.std.proofs.Common.{◌≡◌, ◌∷◌, map, take}
use Rattle.slate_writer.specs.Reading.{batches_of}
use Rattle.slate_writer.proofs.recency_scans.sources.Given as goal

abbrev pub invariant-loop-table : goal.invariant-loop-table
invariant-loop-table l = map batches_of l.sources.items ≡ l.memory ∷ take l.table-index l.tables
