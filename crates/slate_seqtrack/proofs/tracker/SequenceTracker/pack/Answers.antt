use Rattle.slate_seqtrack.proofs.Packing.{packed-has_bytes}
use Rattle.slate_seqtrack.proofs.tracker.SequenceTracker.pack.Goals as goal

pub returns-then-not-encodable-clause-encodable : goal.returns-then-not-encodable-clause-encodable
returns-then-not-encodable-clause-encodable c = packed-has_bytes c.args.self.now c.keep_last_pair.new.self c.keep_last_pair.ensures
