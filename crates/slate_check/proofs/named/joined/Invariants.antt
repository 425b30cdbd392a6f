use Rattle.std.proofs.Common.{◌≡◌, take}
use Rattle.std.specs.List.{flat_map}
use Rattle.slate_check.specs.Named.{batch_list}
use Rattle.slate_check.proofs.named.joined.Given as goal

abbrev pub invariant-loop-table : goal.invariant-loop-table
invariant-loop-table l = batch_list l.batches.items ≡ flat_map (λ table. table) (take l.table-index l.tables)
