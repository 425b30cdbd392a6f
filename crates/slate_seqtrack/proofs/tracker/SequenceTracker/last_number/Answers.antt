use Rattle.std.proofs.Common.{sym, ◌∙◌, ap, ◌-◌, length, slice_get}
use Rattle.slate_seqtrack.specs.Tracker.{last_number}
use Rattle.slate_seqtrack.proofs.Pairing.{last_number-paired}
use Rattle.slate_seqtrack.proofs.tracker.SequenceTracker.last_number.Goals as goal

pub returns : goal.returns
returns c =
    c.copied.ensures ∙ c.last.ensures.value ∙ ap (λ ns. slice_get ns (length ns - 1)) c.deref.ensures.value ∙
    sym (last_number-paired _ _ c.self.invariant.paired) ∙ ap (λ t. last_number t.pairs) c.self.view_is
