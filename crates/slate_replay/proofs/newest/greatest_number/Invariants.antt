use Rattle.std.proofs.Common.{◌≡◌, take}
use Rattle.slate_model.specs.Begun.{greatest_number}
use Rattle.slate_replay.proofs.newest.greatest_number.Given as goal

abbrev pub invariant-loop-batch : goal.invariant-loop-batch
invariant-loop-batch l = l.greatest ≡ greatest_number (take l.batch-index l.batches)
