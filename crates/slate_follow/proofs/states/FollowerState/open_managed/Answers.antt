use Rattle.std.proofs.Common.{◌≡◌, ℕ, None, Some, Result, Err, IfErr, refl, rules, subst, sym}
use Rattle.std.specs.Option.{IfSome}
use Rattle.slate_errors.specs.declared.errors.SlateError.{SlateError}
use Rattle.std.proofs.Math.Facts.{to_z-of_z}
use Rattle.std.specs.Int.{w64}
use Rattle.slate_model.specs.Known.{Untouched, known}
use Rattle.slate_model.specs.Lease.{lease_refusal}
use Rattle.slate_model.specs.Managed.{TakesLease}
use Rattle.slate_model.specs.Stores.{by_objects}
use Rattle.slate_errors.specs.declared.errors.SlateError.TheVariants.{InvalidDBState}
use Rattle.slate_model.specs.Follower.{Follower}
use Rattle.slate_model.specs.declared.answers.PollAnswer.{PollAnswer}
use Rattle.slate_follow.specs.Answering.{IsOfLatest}
use Rattle.slate_follow.specs.Keeping.{CallsRefused}
use Rattle.slate_follow.proofs.Answering.{options-later, options-opening, options-valid}
use Rattle.slate_follow.proofs.Refusing.{err-same}
use Rattle.slate_follow.proofs.states.FollowerState.open_managed.Goals as goal

pub returns-clause-opens : goal.returns-clause-opens
returns-clause-opens g c x lawful =
    let o = c.args.options.now in
    let t = subst (λ m. (made : ℕ) × TakesLease (by_objects (g.S.Store.objects c.args.store.now)) x made o.checkpoint_lifetime_ms o.skip_wal_replay o.max_lag m (known g.S.Store.objects g.S.Store.faults c.args.store.now) c.open_leased.result (known g.S.Store.objects g.S.Store.faults c.open_leased.new.store))
    (to_z-of_z {w = w64} (search rules)) (c.open_leased.ensures.takes x lawful) in
    let none : lease_refusal o.checkpoint_lifetime_ms o.manifest_poll_interval_ms ≡ None = search rules in
    (t.0, record { refused = rw none tt; takes = λ passes. t.1 })

pub returns-in-Some-clause-kind : goal.returns-in-Some-clause-kind
returns-in-Some-clause-kind g c = options-opening c.in-Some.refusal (search rules)

pub returns-in-Some-clause-decided : goal.returns-in-Some-clause-decided
returns-in-Some-clause-decided g c x lawful is = absurd (options-valid c.in-Some.refusal (search rules) (err-same (Follower × PollAnswer) c.in-Some.refusal InvalidDBState is))

pub returns-in-Some-clause-opens : goal.returns-in-Some-clause-opens
returns-in-Some-clause-opens g c x lawful =
    let o = c.args.options.now in
    let r = c.in-Some.refusal in
    let before = known g.S.Store.objects g.S.Store.faults c.args.store.now in
    let is : lease_refusal o.checkpoint_lifetime_ms o.manifest_poll_interval_ms ≡ Some r = search rules in (
      0,
      record {
        refused = subst (λ y. IfSome y (λ error. (◌≡◌ {A = Result (Follower × PollAnswer) SlateError} (Err r) (Err error)) × Untouched 0 before before)) (sym is) (refl, (refl, refl));
        takes = λ passes. absurd (cc (is, passes));
      },
    )

-- ---- options that are refused touch no store
pub returns-in-Some-clause-refused : goal.returns-in-Some-clause-refused
returns-in-Some-clause-refused g c =
    let o = c.args.options.now in
    let r = c.in-Some.refusal in
    let s = c.args.store.now in
    let is : lease_refusal o.checkpoint_lifetime_ms o.manifest_poll_interval_ms ≡ Some r = search rules in
    subst (λ y. IfSome y (λ error. (◌≡◌ {A = Result (Follower × PollAnswer) SlateError} (Err r) (Err error)) × (s ≡ s))) (sym is) (refl, refl)

pub returns-clause-refused : goal.returns-clause-refused
returns-clause-refused g c =
    let none : lease_refusal c.args.options.now.checkpoint_lifetime_ms c.args.options.now.manifest_poll_interval_ms ≡ None = search rules in
    rw none tt

-- ---- how often it called the store where the latest manifest decides
pub returns-in-Some-clause-first : goal.returns-in-Some-clause-first
returns-in-Some-clause-first g c x o lawful at = λ first. absurd (options-later c.in-Some.refusal (search rules) first)

pub returns-clause-first : goal.returns-clause-first
returns-clause-first g c x o lawful at = c.open_leased.ensures.first x o lawful at

pub returns-in-Some-clause-tries : goal.returns-in-Some-clause-tries
returns-in-Some-clause-tries g c = λ first. absurd (options-later c.in-Some.refusal (search rules) first)

pub returns-clause-tries : goal.returns-clause-tries
returns-clause-tries g c =
    let n = g.S.Store.calls c.args.store.now in
    let n' = g.S.Store.calls c.open_leased.new.store in
    subst (λ m. IfErr c.open_leased.result (λ error. IsOfLatest error → CallsRefused c.args.options.now.checkpoint_lifetime_ms m (g.S.Store.objects c.args.store.now) n n')) (to_z-of_z {w = w64} {z = c.args.moment} (search rules)) c.open_leased.ensures.tries
