use Rattle.std.proofs.Common.{◌≡◌, None, Some, true, rules, subst}
use Rattle.std.proofs.Math.Facts.{to_z-of_z}
use Rattle.std.specs.Int.{w64}
use Rattle.slate_store.specs.Checkpoints.{found, to_write}
use Rattle.slate_model.specs.Begun.{put_by}
use Rattle.slate_model.specs.Lease.{leased}
use Rattle.slate_follow.specs.Stepping.{GivesPut}
use Rattle.slate_follow.proofs.step_calls.commit_of.Goals as goal

pub returns-then-is_none-clause-gives : goal.returns-then-is_none-clause-gives
returns-then-is_none-clause-gives c = λ begun.
    let l = c.args.lease.now in
    let none : found l.id c.args.latest.now ≡ None = search rules in
    let gives = subst (λ m. GivesPut (put_by (leased l.lifetime (to_write (Some l.id) (Some l.lifetime) m c.args.latest.now)) true begun) begun c.replacement.result)
    (to_z-of_z {w = w64} {z = c.args.moment} (search rules)) (c.replacement.ensures.gives begun) in
    rw none gives
