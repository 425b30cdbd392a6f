use Rattle.std.proofs.Common.{◌≡◌, ◌∙◌, false, true, Some, Err, rules, ap, sym, subst, of_z, to_z}
use Rattle.std.proofs.Math.Facts.{to_z-of_z}
use Rattle.std.specs.Int.{w64}
use Rattle.slate_store.specs.Checkpoints.{found}
use Rattle.slate_model.specs.Begun.{Begun, Turn, kept_lease}
use Rattle.slate_model.specs.Lease.{is_due}
use Rattle.slate_follow.specs.Stepping.{GivesPut, TurnsTo}
use Rattle.slate_follow.proofs.Stepped.{asked-due, lease-managed, turn-failed}
use Rattle.slate_follow.proofs.machines.PollMachine.keep_lease.Goals as goal

pub returns-in_err-commit-clause-turns : goal.returns-in_err-commit-clause-turns
returns-in_err-commit-clause-turns c = λ reader latest fits is.
    let old = c.args.self.now in
    let e = c.in_err-commit.field-0.0 in
    let l = c.in-Some.lease in
    let held : old.lease ≡ Some l = search rules in
    let unasked : old.asked ≡ false = search rules in
    let due : is_due old.moment l ≡ true = search rules in
    let begun = record old { asked = true } in
    let moment : to_z w64 (of_z w64 c.self.inside.moment) ≡ old.moment = to_z-of_z {w = w64} {z = c.self.inside.moment} (search rules) ∙ ap (λ (b : Begun). b.moment) c.self.view_is in
    let there : c.latest.result.now ≡ latest = search rules in
    let gives = subst (λ m. GivesPut (kept_lease m l c.latest.result.now (found l.id c.latest.result.now) begun) begun (Err e)) moment (c.in_err-commit.ensures.gives begun) in
    let gives' = subst (λ v. GivesPut (kept_lease old.moment l v (found l.id v) begun) begun (Err e)) there gives in
    let all = turn-failed reader (kept_lease old.moment l latest (found l.id latest) begun) begun old e (lease-managed reader old l fits.leased held) c.in_err-commit.ensures.kind gives' c.requires.ended in
    let result : c.from_residual.result ≡ Err e = search rules in
    rw result (subst (λ (t : Turn). TurnsTo reader t (Err e) old) (sym (asked-due latest old old.lease l held unasked due)) all)
