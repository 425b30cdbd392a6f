use Rattle.std.proofs.Common.{ap}
use Rattle.slate_seqtrack.specs.Tracker.{Tracker}
use Rattle.slate_seqtrack.proofs.Packing.{IsKeptTracker-alone, paired-alone}
use Rattle.slate_seqtrack.proofs.tracker.SequenceTracker.keep_last_pair.Goals as goal

pub invariant_of-self : goal.invariant_of-self
invariant_of-self c =
    IsKeptTracker-alone _ _ _ _ _ _ _ _ _ _ c.self.invariant c.keep_last.ensures.items c.keep_last-2.ensures.items c.keep_last.ensures.capacity c.keep_last-2.ensures.capacity

pub returns : goal.returns
returns c =
    rw (c.keep_last.ensures.items, c.keep_last-2.ensures.items, ← c.self.view_is)
    (ap (λ ps. let t : Tracker = record { capacity = c.self.inside.capacity; interval = c.self.inside.interval_secs; pairs = ps; recorded = c.self.inside.last_recorded_ts } in t)
    (paired-alone _ _ c.self.invariant.paired))
