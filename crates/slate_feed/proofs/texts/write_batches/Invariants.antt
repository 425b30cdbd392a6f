-- the batches so far are written behind the old text
use Rattle.std.proofs.Common.{◌≡◌, ◌++◌, take}
use Rattle.std.specs.List.{flat_map}
use Rattle.slate_feed.specs.Texts.{batch_text}
use Rattle.slate_feed.proofs.texts.write_batches.Given as goal

abbrev pub invariant-loop-batch : goal.invariant-loop-batch
invariant-loop-batch l = l.out.items ≡ l.fn.out.items ++ flat_map batch_text (take l.batch-index l.batches)
