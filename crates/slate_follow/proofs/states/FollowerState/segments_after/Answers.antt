use Rattle.std.proofs.Common.{inl, inr}
use Rattle.std.proofs.lemmas.Result.{err_from_is_err_and}
use Rattle.slate_follow.specs.Joined.{joined}
use Rattle.slate_follow.proofs.Segmented.{fails-later, lacks-first}
use Rattle.slate_follow.proofs.states.FollowerState.segments_after.Goals as goal

pub returns-then-tabled-manifest-clause-err : goal.returns-then-tabled-manifest-clause-err
returns-then-tabled-manifest-clause-err g c x lawful = fails-later x (joined c.args.left.now) c.args.fresh.now c.with_segments.result (c.with_segments.ensures.err x lawful)

pub returns-in_err-own-clause-err : goal.returns-in_err-own-clause-err
returns-in_err-own-clause-err g c x lawful =
    let p = err_from_is_err_and c.from_residual.result c.from_residual.ensures.1 in
    rw (p.1, p.2) (elim (c.in_err-own.ensures.err x lawful) [
      | inl memory ↦ inl memory
      | inr lacks ↦ inr (lacks.0, lacks-first x (joined c.args.left.now) c.args.fresh.now lacks.0 lacks.1)
    ])

pub returns-clause-err : goal.returns-clause-err
returns-clause-err g c x lawful = fails-later x (joined c.args.left.now) c.args.fresh.now c.with_segments-2.result (c.with_segments-2.ensures.err x lawful)
