use Rattle.std.proofs.Common.{sym, ◌∙◌, ap}
use Rattle.slate_seqtrack.specs.Tracker.{numbers_of}
use Rattle.slate_seqtrack.proofs.Pairing.{numbers-paired}
use Rattle.slate_seqtrack.proofs.tracker.SequenceTracker.numbers.Goals as goal

pub returns : goal.returns
returns c = c.as_slice.ensures.value ∙ sym (numbers-paired _ _ c.self.invariant.paired) ∙ ap numbers_of c.self.view_is
