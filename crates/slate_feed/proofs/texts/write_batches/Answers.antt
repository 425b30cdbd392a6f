use Rattle.slate_text.proofs.AppendLemmas.{kept_front, always_on_err}
use Rattle.std.specs.List.{flat_map}
use Rattle.slate_feed.specs.Texts.{batch_text}
use Rattle.std.proofs.Common.{take}
use Rattle.slate_feed.proofs.texts.write_batches.Goals as goal

pub returns-in_err-write_batch-clause-err : goal.returns-in_err-write_batch-clause-err
returns-in_err-write_batch-clause-err c =
    always_on_err _ (kept_front c.args.out.now.items (flat_map batch_text (take c.loop-batch.batch-index c.args.batches.now)) c.loop-batch.out.items c.write_batch.new.out.items c.loop-batch.invariant c.in_err-write_batch.ensures.err)
