use Rattle.std.proofs.Common.{◌≡◌, ◌∙◌, ◌+ℤ◌, ◌-ℤ◌, w32, w64}
use mir.Syntax.{w128}
use Rattle.std.proofs.lemmas.Int.{to_z-of_z}
use Rattle.slate_seqtrack.proofs.Twos.{next-is, next-fits, fits-next, narrowed-64}
use Rattle.slate_seqtrack.proofs.decoding.next_value.Goals as goal

pub overflow_add-from : goal.overflow_add-from
overflow_add-from c =
    rw (c.from.ensures, c.from-2.ensures, c.from-3.ensures, c.from-4.ensures, to_z-of_z w64 c.args.previous c.ranges.previous, to_z-of_z w64 c.args.before c.ranges.before, to_z-of_z w32 c.args.code c.ranges.code)
    (next-fits c.args.previous c.args.before c.args.code c.ranges.previous c.ranges.before c.ranges.code)

pub returns : goal.returns
returns c =
    let previous : c.from.result ≡ c.args.previous = c.from.ensures ∙ to_z-of_z w64 c.args.previous c.ranges.previous in
    let before : c.from-2.result ≡ c.args.before = c.from-2.ensures ∙ to_z-of_z w64 c.args.before c.ranges.before in
    let code : c.from-3.result ≡ c.args.code = c.from-3.ensures ∙ to_z-of_z w32 c.args.code c.ranges.code in
    let again : c.from-4.result ≡ c.args.previous = c.from-4.ensures ∙ to_z-of_z w64 c.args.previous c.ranges.previous in
    let exact = next-is c.args.previous c.args.before c.args.code c.ranges.previous c.ranges.before c.ranges.code in
    let fits = fits-next c.args.previous c.args.before c.args.code c.ranges.previous c.ranges.before c.ranges.code in
    rw c.ok.ensures.value
    (narrowed-64 (c.args.previous +ℤ ((c.args.previous -ℤ c.args.before) +ℤ c.args.code)) c.try_from.result (simp (previous, before, code, again, exact, to_z-of_z w128 _ fits) at c.try_from.ensures))
