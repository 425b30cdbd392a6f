use Rattle.std.proofs.Common.{sym, ◌∙◌, ap}
use Rattle.slate_seqtrack.specs.Tracker.{times_of}
use Rattle.slate_seqtrack.proofs.Pairing.{times-paired}
use Rattle.slate_seqtrack.proofs.tracker.SequenceTracker.times.Goals as goal

pub returns : goal.returns
returns c = c.as_slice.ensures.value ∙ sym (times-paired _ _ c.self.invariant.paired) ∙ ap times_of c.self.view_is
