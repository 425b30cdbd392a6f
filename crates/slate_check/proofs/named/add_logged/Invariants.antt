use Rattle.std.proofs.Common.{◌≡◌, ◌++◌, take}
use Rattle.std.specs.List.{flat_map}
use Rattle.slate_types.specs.Line.{batches_above}
use Rattle.slate_check.specs.Named.{batch_list}
use Rattle.slate_check.proofs.named.add_logged.Given as goal

abbrev pub invariant-loop-log : goal.invariant-loop-log
invariant-loop-log l = batch_list l.batches.items ≡ batch_list l.initial.batches.items ++ batches_above l.number (flat_map (λ log. log) (take l.log-index l.logs))
