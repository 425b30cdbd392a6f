use Rattle.std.proofs.Common.{◌≡◌, ◌∙◌, ◌<◌, ℕ, Some, None, true, Err, ap, arith, rules, subst, sym}
use Rattle.slate_types.specs.Modelled.{WhereModelled}
use Rattle.slate_store.specs.declared.objects.VersionedManifest.{VersionedManifest}
use Rattle.slate_store.specs.Refusals.{checkpoint_changes}
use Rattle.slate_model.specs.Lease.{to_take}
use Rattle.slate_model.specs.Managed.{PlanCause, PutsPlanned}
use Rattle.slate_model.specs.Stores.{Stands}
use Rattle.slate_model.specs.declared.leases.Lease.{Lease}
use Rattle.slate_follow.specs.Keeping.{MayMismatch}
use Rattle.std.specs.Option.{IfSome}
use Rattle.std.specs.Prelude.{◌⊎◌}
use Rattle.slate_errors.specs.declared.errors.SlateError.TheVariants.{InvalidDBState, TransactionalObjectTimeout}
use Rattle.slate_model.specs.Followed.{RefusesLatest}
use Rattle.slate_follow.proofs.Planned.{first-try}
use Rattle.slate_follow.proofs.Rebuilt.{if_some, some_at}
use Rattle.slate_follow.proofs.Refusing.{err-same}
use Rattle.slate_follow.proofs.leases.take_lease.Goals as goal

pub returns-in_err-taken-clause-puts : goal.returns-in_err-taken-clause-puts
returns-in_err-taken-clause-puts g c =
    let e = c.in_err-taken.field-0.0 in
    let plan = to_take c.args.lifetime c.args.moment in
    let puts : WhereModelled (λ o o'. (made : ℕ) × PutsPlanned {B = VersionedManifest × Lease} Stands MayMismatch plan o (Err e) made o') (g.S.Store.objects c.loop-earlier.store) (g.S.Store.objects c.try_to_take.new.store) = search rules in
    let all = subst (λ s. WhereModelled (λ o o'. (made : ℕ) × PutsPlanned {B = VersionedManifest × Lease} Stands MayMismatch plan o (Err e) made o') s (g.S.Store.objects c.try_to_take.new.store)) c.loop-earlier.invariant.kept puts in
    search (rules, all)

pub returns-in_err-taken-clause-kind : goal.returns-in_err-taken-clause-kind
returns-in_err-taken-clause-kind g c =
    let is : c.from_residual.result ≡ Err c.in_err-taken.field-0.0 = search rules in
    rw is c.in_err-taken.ensures.kind

pub returns-in_err-taken-clause-decided : goal.returns-in_err-taken-clause-decided
returns-in_err-taken-clause-decided g c x lawful is =
    let e = c.in_err-taken.field-0.0 in
    let got : c.from_residual.result ≡ Err e = search rules in
    let same : e ≡ InvalidDBState = err-same (VersionedManifest × Lease) e InvalidDBState (sym got ∙ is) in
    subst (λ s. IfSome s (λ o. RefusesLatest x true o (Some InvalidDBState) ⊎ RefusesLatest x true o None)) c.loop-earlier.invariant.kept (c.in_err-taken.ensures.decided x lawful (ap Err same))

-- ---- how often it called the store where the latest manifest decides
pub returns-in_err-taken-clause-first : goal.returns-in_err-taken-clause-first
returns-in_err-taken-clause-first g c x o lawful at =
    let e = c.in_err-taken.field-0.0 in
    let a = c.in_err-taken.ensures in
    let i = c.loop-earlier.invariant in
    let t = g.S.Store.objects c.args.store.now in
    let plan = to_take c.args.lifetime c.args.moment in
    let puts : WhereModelled (λ o o'. (made : ℕ) × PutsPlanned {B = VersionedManifest × Lease} Stands MayMismatch plan o (Err e) made o') (g.S.Store.objects c.loop-earlier.store) (g.S.Store.objects c.try_to_take.new.store) = search rules in
    let met : 0 < c.loop-earlier.earlier → IfSome t (λ o. PlanCause (Stands (checkpoint_changes plan o) o) plan o (TransactionalObjectTimeout 8)) = search rules in
    let is : c.from_residual.result ≡ Err e = search rules in
    rw is
    (first-try c.args.lifetime c.args.moment x t (g.S.Store.objects c.loop-earlier.store) (g.S.Store.objects c.try_to_take.new.store) i.kept e puts (a.mismatch x lawful) c.loop-earlier.earlier
    (g.S.Store.calls c.args.store.now) (g.S.Store.calls c.loop-earlier.store) (g.S.Store.calls c.try_to_take.new.store) i.most a.first met (λ some. i.fits some x lawful) o at)

pub returns-in_err-taken-clause-tries : goal.returns-in_err-taken-clause-tries
returns-in_err-taken-clause-tries g c =
    let i = c.loop-earlier.invariant in
    let t = g.S.Store.objects c.args.store.now in
    let plan = to_take c.args.lifetime c.args.moment in
    let few : c.loop-earlier.earlier < 8 = search rules in
    let met : 0 < c.loop-earlier.earlier → IfSome t (λ o. PlanCause (Stands (checkpoint_changes plan o) o) plan o (TransactionalObjectTimeout 8)) = search rules in
    let is : c.from_residual.result ≡ Err c.in_err-taken.field-0.0 = search rules in
    rw is
    (λ first. record {
      overtaken = c.loop-earlier.earlier;
      few = few;
      most = (let one = c.in_err-taken.ensures.first first in let most = i.most in omega (arith, one, most));
      stands = λ some. if_some t (λ o at. (some_at (λ o. PlanCause (Stands (checkpoint_changes plan o) o) plan o (TransactionalObjectTimeout 8)) t o at (met some)).1);
    })
