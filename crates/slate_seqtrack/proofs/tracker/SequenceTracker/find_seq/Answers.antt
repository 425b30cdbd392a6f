use Rattle.std.proofs.Common.{◌≡◌, sym, ◌∙◌, ap, subst, w64}
use Rattle.std.proofs.lemmas.Int.{to_z-of_z}
use Rattle.std.specs.Ordering.{int_cmp}
use Rattle.slate_seqtrack.specs.Lookup.{IsPartner}
use Rattle.slate_seqtrack.specs.Tracker.{numbers_of, times_of}
use Rattle.slate_seqtrack.proofs.Pairing.{numbers-paired, times-paired}
use Rattle.slate_seqtrack.proofs.tracker.SequenceTracker.find_seq.Goals as goal

pub returns : goal.returns
returns c =
    let keys : times_of c.args.self.now ≡ c.deref.result.now = sym (ap times_of c.self.view_is) ∙ times-paired _ _ c.self.invariant.paired ∙ sym c.deref.ensures.value in
    let partners : numbers_of c.args.self.now ≡ c.deref-2.result.now = sym (ap numbers_of c.self.view_is) ∙ numbers-paired _ _ c.self.invariant.paired ∙ sym c.deref-2.ensures.value in
    rw (keys, partners)
    (subst (λ ts. IsPartner int_cmp c.args.find ts c.deref.result.now c.deref-2.result.now c.partner_of.result) (to_z-of_z w64 c.args.ts c.ranges.ts) c.partner_of.ensures)
