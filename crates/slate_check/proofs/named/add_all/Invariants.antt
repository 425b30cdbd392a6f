use Rattle.std.proofs.Common.{◌≡◌, ◌++◌, take}
use Rattle.slate_check.specs.Named.{batch_list}
use Rattle.slate_check.proofs.named.add_all.Given as goal

abbrev pub invariant-loop-batch : goal.invariant-loop-batch
invariant-loop-batch l = batch_list l.batches.items ≡ batch_list l.initial.batches.items ++ take l.batch-index l.others
