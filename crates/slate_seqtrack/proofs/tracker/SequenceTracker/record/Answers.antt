use Rattle.std.proofs.Common.{◌≡◌, sym, ◌∙◌, ap, ◌<◌, ◌-◌, ◌^◌, false, Some, ◌++◌, ◌∷◌, [], length, slice_get, w64, rules}
use mir.Val.{SFits}
use Rattle.std.proofs.lemmas.Int.{to_z-of_z}
use Rattle.slate_seqtrack.specs.Thinning.{thinned}
use Rattle.slate_seqtrack.specs.Tracker.{Tracker, paired, is_early, last_number}
use Rattle.slate_seqtrack.proofs.Pairing.{paired-recorded, last_number-paired}
use Rattle.slate_seqtrack.proofs.Rising.{IsKeptTracker-recorded}
use Rattle.slate_seqtrack.proofs.tracker.SequenceTracker.«record».Goals as goal

pub invariant_of-self : goal.invariant_of-self
invariant_of-self c =
    let fits : SFits w64 c.args.pair.ts = search rules in
    let small : c.self.inside.capacity < 2 ^ 32 = search rules in
    let last : slice_get c.self.inside.sequence_numbers.items (length c.self.inside.sequence_numbers.items - 1) ≡ last_number c.args.self.now.pairs =
    sym (last_number-paired _ _ c.self.invariant.paired) ∙ ap (λ (t : Tracker). last_number t.pairs) c.self.view_is in
    let late : is_early c.self.inside.interval_secs c.self.inside.last_recorded_ts c.args.pair.ts ≡ false =
    ap (λ (t : Tracker). is_early t.interval t.recorded c.args.pair.ts) c.self.view_is ∙ c.requires.late in
    IsKeptTracker-recorded _ c.self.inside.interval_secs c.self.inside.last_recorded_ts _ _ _ _ _ _ _ _ c.args.pair.seq _ c.self.invariant small
    (rw (to_z-of_z w64 c.args.pair.ts fits) late) (rw last c.requires.rises)
    c.push_thinned.ensures.items c.push_thinned-2.ensures.items c.push_thinned.ensures.capacity c.push_thinned-2.ensures.capacity

pub returns : goal.returns
returns c =
    let fits : SFits w64 c.args.pair.ts = search rules in
    let times : c.push_thinned-2.new.list.items ≡ thinned c.self.inside.capacity (c.self.inside.timestamps.items ++ c.args.pair.ts ∷ []) =
    simp (to_z-of_z w64 c.args.pair.ts fits) at c.push_thinned-2.ensures.items in
    let same : paired c.push_thinned.new.list.items c.push_thinned-2.new.list.items ≡ thinned c.self.inside.capacity (paired c.self.inside.sequence_numbers.items c.self.inside.timestamps.items ++ c.args.pair ∷ []) =
    rw (c.push_thinned.ensures.items, times) (paired-recorded c.self.inside.capacity _ _ c.args.pair c.self.invariant.paired) in
    rw (to_z-of_z w64 c.args.pair.ts fits, ← c.self.view_is)
    (ap (λ ps. let t : Tracker = record { capacity = c.self.inside.capacity; interval = c.self.inside.interval_secs; pairs = ps; recorded = Some c.args.pair.ts } in t) same)
