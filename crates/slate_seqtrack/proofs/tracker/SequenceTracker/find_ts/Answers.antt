use Rattle.std.proofs.Common.{◌≡◌, sym, ◌∙◌, ap}
use Rattle.slate_seqtrack.specs.Tracker.{numbers_of, times_of}
use Rattle.slate_seqtrack.proofs.Pairing.{numbers-paired, times-paired}
use Rattle.slate_seqtrack.proofs.tracker.SequenceTracker.find_ts.Goals as goal

pub returns : goal.returns
returns c =
    let keys : numbers_of c.args.self.now ≡ c.deref.result.now = sym (ap numbers_of c.self.view_is) ∙ numbers-paired _ _ c.self.invariant.paired ∙ sym c.deref.ensures.value in
    let partners : times_of c.args.self.now ≡ c.deref-2.result.now = sym (ap times_of c.self.view_is) ∙ times-paired _ _ c.self.invariant.paired ∙ sym c.deref-2.ensures.value in
    rw (keys, partners) c.partner_of.ensures
