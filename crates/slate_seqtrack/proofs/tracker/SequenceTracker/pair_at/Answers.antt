use Rattle.std.proofs.Common.{◌≡◌, sym, ◌∙◌, ap, ◌<◌, length, get_or, w64, arith, rules}
use mir.Val.{SFits}
use Rattle.std.proofs.lemmas.Int.{to_z-of_z}
use Rattle.slate_seqtrack.specs.declared.pairs.TrackedSeq.{TrackedSeq}
use Rattle.slate_seqtrack.specs.Tracker.{Tracker}
use Rattle.slate_seqtrack.proofs.Pairing.{length-paired, get_or-paired}
use Rattle.slate_seqtrack.proofs.tracker.SequenceTracker.pair_at.Goals as goal

pub index-requires : goal.index-requires
index-requires c = omega (arith, length-paired _ _ c.self.invariant.paired, ap (λ (t : Tracker). length t.pairs) c.self.view_is)

pub index-requires-2 : goal.index-requires-2
index-requires-2 c = omega (arith, c.self.invariant.paired, length-paired _ _ c.self.invariant.paired, ap (λ (t : Tracker). length t.pairs) c.self.view_is)

pub returns : goal.returns
returns c =
    let fits : SFits w64 c.index-2.result.now = search rules in
    let inside : c.args.place < length c.self.inside.sequence_numbers.items = omega (arith, length-paired _ _ c.self.invariant.paired, ap (λ (t : Tracker). length t.pairs) c.self.view_is) in
    let pair : TrackedSeq = record { seq = c.index.result.now; ts = c.index-2.result.now } in
    let read : pair ≡ record { seq = get_or c.self.inside.sequence_numbers.items c.args.place pair.seq; ts = get_or c.self.inside.timestamps.items c.args.place pair.ts } = cc (c.index.ensures, c.index-2.ensures) in
    rw (to_z-of_z w64 c.index-2.result.now fits)
    (read ∙ sym (get_or-paired _ _ c.args.place pair c.self.invariant.paired inside) ∙ ap (λ (t : Tracker). get_or t.pairs c.args.place pair) c.self.view_is)
