use Rattle.std.proofs.Common.{◌≡◌, take}
use Rattle.slate_check.specs.Named.{batch_list}
use Rattle.slate_check.proofs.batches.begin.Given as goal

abbrev pub invariant-loop-i : goal.invariant-loop-i
invariant-loop-i l = batch_list (take l.i l.batches) ≡ batch_list (take l.i l.others)
