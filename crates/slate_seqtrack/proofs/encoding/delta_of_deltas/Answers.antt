use Rattle.std.proofs.Common.{◌≡◌, ◌∙◌, ◌-ℤ◌, w64}
use mir.Syntax.{w128}
use Rattle.std.proofs.lemmas.Int.{to_z-of_z}
use Rattle.slate_seqtrack.proofs.Twos.{delta-is, delta-fits, fits-difference, narrowed}
use Rattle.slate_seqtrack.proofs.encoding.delta_of_deltas.Goals as goal

pub overflow_sub-delta-2 : goal.overflow_sub-delta-2
overflow_sub-delta-2 c =
    rw (c.from.ensures, c.from-2.ensures, c.from-3.ensures, c.from-4.ensures, to_z-of_z w64 c.args.value c.ranges.value, to_z-of_z w64 c.args.previous c.ranges.previous, to_z-of_z w64 c.args.before c.ranges.before)
    (delta-fits c.args.value c.args.previous c.args.before c.ranges.value c.ranges.previous c.ranges.before)

pub returns : goal.returns
returns c =
    let value : c.from.result ≡ c.args.value = c.from.ensures ∙ to_z-of_z w64 c.args.value c.ranges.value in
    let previous : c.from-2.result ≡ c.args.previous = c.from-2.ensures ∙ to_z-of_z w64 c.args.previous c.ranges.previous in
    let again : c.from-3.result ≡ c.args.previous = c.from-3.ensures ∙ to_z-of_z w64 c.args.previous c.ranges.previous in
    let before : c.from-4.result ≡ c.args.before = c.from-4.ensures ∙ to_z-of_z w64 c.args.before c.ranges.before in
    let exact = delta-is c.args.value c.args.previous c.args.before c.ranges.value c.ranges.previous c.ranges.before in
    let fits = fits-difference c.args.value c.args.previous c.args.before c.ranges.value c.ranges.previous c.ranges.before in
    rw c.ok.ensures.value
    (narrowed ((c.args.value -ℤ c.args.previous) -ℤ (c.args.previous -ℤ c.args.before)) c.try_from.result (simp (value, previous, again, before, exact, to_z-of_z w128 _ fits) at c.try_from.ensures))
