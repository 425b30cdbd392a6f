use Rattle.std.proofs.Common.{◌≡◌, ◌∙◌, ◌||◌, ℕ, ℤ, Bool, false, not, true, Option, None, Some, Ok, Err, inl, inr, ap, refl, rules, subst, sym}
use Rattle.std.proofs.lemmas.Result.{err_from_is_err_and}
use Rattle.slate_types.specs.Modelled.{WhereModelled}
use Rattle.slate_store.specs.Checkpoints.{Plan, to_write}
use Rattle.slate_store.specs.Refusals.{PlanIs}
use Rattle.slate_store.specs.declared.objects.VersionedManifest.{VersionedManifest}
use Rattle.slate_errors.specs.declared.errors.SlateError.TheVariants.{InvalidDBState, NoMemory}
use Rattle.std.specs.Option.{IfSome}
use Rattle.slate_store.specs.Objects.{Objects}
use Rattle.slate_model.specs.Followed.{RefusesLatest, can_follow, follow_refusal}
use Rattle.slate_model.specs.Segments.{Extractor}
use Rattle.slate_model.specs.Lease.{leased, to_take}
use Rattle.slate_model.specs.declared.leases.Lease.{Lease}
use Rattle.slate_follow.specs.Keeping.{FindsLatest, GivesLease, MayMismatch, PutsManifest}
use Rattle.slate_follow.proofs.Planned.{all-put, failed-put, mismatched, planless, put-matches, taken, unfollowed, unput, unput-same}
use Rattle.slate_follow.proofs.Taken.{counts-then}
use Rattle.slate_store.specs.declared.reader_modes.DbReaderMode.TheVariants.{ManagedCheckpoint}
use Rattle.slate_follow.proofs.Answering.{finding-opening, following-finding, latest-opening, latest-valid}
use Rattle.slate_follow.proofs.Rebuilt.{if_some, some_at}
use Rattle.slate_follow.proofs.Refusing.{err-same}
use Rattle.slate_follow.proofs.leases.try_to_take.Goals as goal

initialised : (latest : VersionedManifest) → can_follow true latest ≡ true → latest.manifest.initialized ≡ true
initialised latest can = by latest.manifest.initialized can where
  by : (b : Bool) → (b || not true) ≡ true → b ≡ true
  by true is = refl
  by false is = absurd (cc)

abbrev Taken : Type 0
Taken = VersionedManifest × Lease

pub returns-in-Some-clause-puts : goal.returns-in-Some-clause-puts
returns-in-Some-clause-puts g c =
    let v = c.in_ok-latest in
    let r = c.in-Some.refusal in
    let f = c.in_ok-refusal.ensures in
    unfollowed c.args.lifetime c.args.moment v.latest r (search rules) {A = Taken} v.ensures.found v.ensures.kept (λ is. f.invalid (c.in-Some.is ∙ ap Some is))

pub returns-in-Some-clause-mismatch : goal.returns-in-Some-clause-mismatch
returns-in-Some-clause-mismatch g c x lawful =
    let v = c.in_ok-latest in
    let r = c.in-Some.refusal in
    let f = c.in_ok-refusal.ensures in
    mismatched c.args.lifetime c.args.moment v.latest r (search rules) x (sym (f.refusal x lawful) ∙ c.in-Some.is) (g.S.Store.objects c.args.store.now) v.ensures.found

pub returns-in_err-refusal-clause-puts : goal.returns-in_err-refusal-clause-puts
returns-in_err-refusal-clause-puts g c =
    let v = c.in_ok-latest in
    let all = planless {A = Taken} MayMismatch (to_take c.args.lifetime c.args.moment) v.latest v.ensures.found v.ensures.kept NoMemory tt in
    search (rules, all)

pub returns-in_err-is_put-clause-mismatch : goal.returns-in_err-is_put-clause-mismatch
returns-in_err-is_put-clause-mismatch g c x lawful =
    let p = err_from_is_err_and c.from_residual-in_err-is_put.result c.from_residual-in_err-is_put.ensures.1 in
    rw (p.1, p.2) (put-matches x c.in_ok-next.next c.in_err-is_put.field-0.0 c.in_ok-latest.ensures.kept c.in_err-is_put.ensures.puts)

pub returns-in_err-next-clause-puts : goal.returns-in_err-next-clause-puts
returns-in_err-next-clause-puts g c =
    let v = c.in_ok-latest in
    let e = c.in_err-next.field-0.0 in
    let there : v.latest.manifest.initialized ≡ true = initialised v.latest (search rules) in
    let gives : GivesLease (leased c.args.lifetime (to_write None (Some c.args.lifetime) c.args.moment v.latest)) (Err e) = search rules in
    let all = planless {A = Taken} MayMismatch (to_take c.args.lifetime c.args.moment) v.latest v.ensures.found v.ensures.kept e (subst (λ p. GivesLease p (Err e)) (sym (taken c.args.lifetime c.args.moment v.latest there)) gives) in
    search (rules, all)

pub returns-in_err-is_put-clause-puts : goal.returns-in_err-is_put-clause-puts
returns-in_err-is_put-clause-puts g c =
    let v = c.in_ok-latest in
    let n = c.in_ok-next in
    let there : v.latest.manifest.initialized ≡ true = initialised v.latest (search rules) in
    let gives : leased c.args.lifetime (to_write None (Some c.args.lifetime) c.args.moment v.latest) ≡ Ok (Some n.next, n.lease) = search rules in
    let all = failed-put {A = Taken} MayMismatch (to_take c.args.lifetime c.args.moment) v.latest v.ensures.found v.ensures.kept n.next n.lease (subst (λ p. p ≡ Ok (Some n.next, n.lease)) (sym (taken c.args.lifetime c.args.moment v.latest there)) gives) c.in_err-is_put.field-0.0 c.in_err-is_put.ensures.puts in
    let is : c.from_residual-in_err-is_put.result ≡ Err c.in_err-is_put.field-0.0 = search rules in
    rw is all

pub returns-then-not-is_put-clause-puts : goal.returns-then-not-is_put-clause-puts
returns-then-not-is_put-clause-puts g c =
    let v = c.in_ok-latest in
    let n = c.in_ok-next in
    let there : v.latest.manifest.initialized ≡ true = initialised v.latest (search rules) in
    let gives : leased c.args.lifetime (to_write None (Some c.args.lifetime) c.args.moment v.latest) ≡ Ok (Some n.next, n.lease) = search rules in
    let is_put : c.in_ok-is_put.is_put ≡ false = search rules in
    let all = unput {A = Taken} MayMismatch (to_take c.args.lifetime c.args.moment) v.latest v.ensures.found v.ensures.kept n.next n.lease (subst (λ p. p ≡ Ok (Some n.next, n.lease)) (sym (taken c.args.lifetime c.args.moment v.latest there)) gives) (subst (λ b. WhereModelled (PutsManifest n.next (Ok b)) (g.S.Store.objects c.latest_of.new.store) (g.S.Store.objects c.put_next.new.store)) is_put c.in_ok-is_put.ensures.puts) in
    search (rules, all)

pub returns-then-not-is_put-clause-again : goal.returns-then-not-is_put-clause-again
returns-then-not-is_put-clause-again g c answered =
    let v = c.in_ok-latest in
    let n = c.in_ok-next in
    let is_put : c.in_ok-is_put.is_put ≡ false = search rules in
    unput-same n.next (g.S.Store.objects c.latest_of.new.store) (g.S.Store.objects c.put_next.new.store) (subst (λ b. WhereModelled (PutsManifest n.next (Ok b)) (g.S.Store.objects c.latest_of.new.store) (g.S.Store.objects c.put_next.new.store)) is_put c.in_ok-is_put.ensures.puts) ∙ v.ensures.kept

pub returns-clause-puts : goal.returns-clause-puts
returns-clause-puts g c =
    let v = c.in_ok-latest in
    let n = c.in_ok-next in
    let there : v.latest.manifest.initialized ≡ true = initialised v.latest (search rules) in
    let gives : leased c.args.lifetime (to_write None (Some c.args.lifetime) c.args.moment v.latest) ≡ Ok (Some n.next, n.lease) = search rules in
    let is_put : c.in_ok-is_put.is_put ≡ true = search rules in
    let all = all-put {A = Taken} MayMismatch (to_take c.args.lifetime c.args.moment) v.latest v.ensures.found v.ensures.kept n.next n.lease (subst (λ p. p ≡ Ok (Some n.next, n.lease)) (sym (taken c.args.lifetime c.args.moment v.latest there)) gives) (n.next, n.lease) (subst (λ b. WhereModelled (PutsManifest n.next (Ok b)) (g.S.Store.objects c.latest_of.new.store) (g.S.Store.objects c.put_next.new.store)) is_put c.in_ok-is_put.ensures.puts) in
    search (rules, all)

-- the latest manifest is one that can be followed
followed : (x : Option Extractor) (latest : VersionedManifest) → follow_refusal x true latest ≡ None → (a : Option Objects) → IfSome a (λ o. FindsLatest o (Ok latest)) → IfSome a (λ o. RefusesLatest x true o None)
followed x latest none None found = tt
followed x latest none (Some o) is = (latest, is, none)

pub returns-clause-fits : goal.returns-clause-fits
returns-clause-fits g c x lawful =
    let v = c.in_ok-latest in
    followed x v.latest (sym (c.in_ok-refusal.ensures.refusal x lawful) ∙ c.in_default.is) (g.S.Store.objects c.args.store.now) v.ensures.found

pub returns-in_err-is_put-clause-faults : goal.returns-in_err-is_put-clause-faults
returns-in_err-is_put-clause-faults g c =
    let e = c.in_err-is_put.field-0.0 in
    let is : c.from_residual-in_err-is_put.result ≡ Err e = search rules in
    rw is (counts-then _ _ _ e c.in_ok-latest.ensures.faults.stays c.in_err-is_put.ensures.faults)

pub returns-then-not-is_put-clause-fits : goal.returns-then-not-is_put-clause-fits
returns-then-not-is_put-clause-fits g c x lawful =
    let v = c.in_ok-latest in
    followed x v.latest (sym (c.in_ok-refusal.ensures.refusal x lawful) ∙ c.in_default.is) (g.S.Store.objects c.args.store.now) v.ensures.found

-- the plan is that after the latest manifest
planned-is : (lifetime : ℕ) (moment : ℤ) (latest : VersionedManifest) (given : Plan Lease) → to_take lifetime moment latest ≡ given → (a : Option Objects) → IfSome a (λ o. FindsLatest o (Ok latest)) → IfSome a (λ o. PlanIs (to_take lifetime moment) o given)
planned-is lifetime moment latest given plan None found = tt
planned-is lifetime moment latest given plan (Some o) is = (latest, is, plan)

pub returns-clause-given : goal.returns-clause-given
returns-clause-given g c =
    let v = c.in_ok-latest in
    let n = c.in_ok-next in
    let there : v.latest.manifest.initialized ≡ true = initialised v.latest (search rules) in
    let gives : leased c.args.lifetime (to_write None (Some c.args.lifetime) c.args.moment v.latest) ≡ Ok (Some n.next, n.lease) = search rules in
    let plan = subst (λ p. p ≡ Ok (Some n.next, n.lease)) (sym (taken c.args.lifetime c.args.moment v.latest there)) gives in
    planned-is c.args.lifetime c.args.moment v.latest (Ok (Some n.next, n.lease)) plan (g.S.Store.objects c.args.store.now) v.ensures.found

-- ---- which errors it answers, and when that is InvalidDBState
pub returns-in_err-latest-clause-kind : goal.returns-in_err-latest-clause-kind
returns-in_err-latest-clause-kind g c =
    let is : c.from_residual.result ≡ Err c.in_err-latest.field-0.0 = search rules in
    rw is (latest-opening c.in_err-latest.field-0.0 c.in_err-latest.ensures.kind)

pub returns-in-Some-clause-kind : goal.returns-in-Some-clause-kind
returns-in-Some-clause-kind g c = finding-opening ManagedCheckpoint c.in-Some.refusal (following-finding ManagedCheckpoint c.in-Some.refusal (search rules))

pub returns-in_err-is_put-clause-kind : goal.returns-in_err-is_put-clause-kind
returns-in_err-is_put-clause-kind g c =
    let is : c.from_residual-in_err-is_put.result ≡ Err c.in_err-is_put.field-0.0 = search rules in
    rw is (latest-opening c.in_err-is_put.field-0.0 c.in_err-is_put.ensures.kind)

pub returns-in_err-latest-clause-decided : goal.returns-in_err-latest-clause-decided
returns-in_err-latest-clause-decided g c x lawful is =
    let got : c.from_residual.result ≡ Err c.in_err-latest.field-0.0 = search rules in
    absurd (latest-valid c.in_err-latest.field-0.0 c.in_err-latest.ensures.kind (err-same (Option Taken) c.in_err-latest.field-0.0 InvalidDBState (sym got ∙ is)))

pub returns-in_err-is_put-clause-decided : goal.returns-in_err-is_put-clause-decided
returns-in_err-is_put-clause-decided g c x lawful is =
    let got : c.from_residual-in_err-is_put.result ≡ Err c.in_err-is_put.field-0.0 = search rules in
    absurd (latest-valid c.in_err-is_put.field-0.0 c.in_err-is_put.ensures.kind (err-same (Option Taken) c.in_err-is_put.field-0.0 InvalidDBState (sym got ∙ is)))

pub returns-in-Some-clause-decided : goal.returns-in-Some-clause-decided
returns-in-Some-clause-decided g c x lawful is =
    let v = c.in_ok-latest in
    let t = g.S.Store.objects c.args.store.now in
    let same : c.in-Some.refusal ≡ InvalidDBState = err-same (Option Taken) c.in-Some.refusal InvalidDBState is in
    if_some t (λ o at. inl (v.latest, some_at (λ o. FindsLatest o (Ok v.latest)) t o at v.ensures.found, sym (c.in_ok-refusal.ensures.refusal x lawful) ∙ (c.in-Some.is ∙ ap Some same)))

pub returns-in_err-next-clause-decided : goal.returns-in_err-next-clause-decided
returns-in_err-next-clause-decided g c x lawful is =
    let v = c.in_ok-latest in
    let t = g.S.Store.objects c.args.store.now in
    let fits = followed x v.latest (sym (c.in_ok-refusal.ensures.refusal x lawful) ∙ c.in_default.is) t v.ensures.found in
    if_some t (λ o at. inr (some_at (λ o. RefusesLatest x true o None) t o at fits))

-- ---- what the latest manifest decides takes one call
pub returns-in_err-latest-clause-first : goal.returns-in_err-latest-clause-first
returns-in_err-latest-clause-first g c =
    let is : c.from_residual.result ≡ Err c.in_err-latest.field-0.0 = search rules in
    rw is (λ first. c.in_err-latest.ensures.calls)

pub returns-in_err-is_put-clause-first : goal.returns-in_err-is_put-clause-first
returns-in_err-is_put-clause-first g c =
    let is : c.from_residual-in_err-is_put.result ≡ Err c.in_err-is_put.field-0.0 = search rules in
    rw is (λ first. absurd (c.in_err-is_put.ensures.undecided first))
