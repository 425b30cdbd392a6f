use Rattle.std.proofs.Common.{◌≡◌, drop}
use Rattle.slate_model.specs.Handle.{latest_tick}
use Rattle.slate_writer.proofs.opens.latest_tick.Given as goal

-- with the batches that are left, it is the latest of all
abbrev pub invariant-loop-batch : goal.invariant-loop-batch
invariant-loop-batch l = latest_tick l.latest (drop l.batch-index l.batches) ≡ latest_tick l.fn.tick l.batches
