use Rattle.std.proofs.Common.{◌≡◌, ◌+◌, take}
use Rattle.slate_types.specs.Line.{AreNumberedFrom}
use Rattle.slate_check.specs.Named.{batch_list}
use Rattle.slate_check.proofs.named.Named.find_unnumbered.Given as goal

abbrev pub invariant-loop-batch : goal.invariant-loop-batch
invariant-loop-batch l = record {
  numbered : AreNumberedFrom l.self.floor (batch_list (take l.batch-index l.self.batches.items));
  reached : l.before ≡ l.self.floor + l.batch-index;
}
