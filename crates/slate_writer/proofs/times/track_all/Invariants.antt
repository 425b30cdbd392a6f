use Rattle.std.proofs.Common.{◌≡◌, drop}
use Rattle.slate_model.specs.Tracked.{tracked_all}
use Rattle.slate_writer.proofs.times.track_all.Given as goal

-- with the batches that are left, it tracks all
abbrev pub invariant-loop-batch : goal.invariant-loop-batch
invariant-loop-batch l = tracked_all l.tracker (drop l.batch-index l.batches) ≡ tracked_all l.fn.tracker l.batches
