use Rattle.std.proofs.Common.{◌≡◌, ℕ, Ok, Err, Some, None, true, ap, refl, rules, subst, sym, arith, ◌∙◌}
use Rattle.std.proofs.Math.Facts.{to_z-of_z}
use Rattle.std.specs.Int.{w64}
use Rattle.std.specs.Option.{IfSome}
use Rattle.slate_store.specs.Refusals.{PlanIs}
use Rattle.slate_store.specs.declared.reader_modes.DbReaderMode.TheVariants.{ManagedCheckpoint}
use Rattle.slate_errors.specs.declared.errors.SlateError.TheVariants.{InvalidDBState, NoMemory}
use Rattle.slate_model.specs.Followed.{RefusesLatest, last_read}
use Rattle.slate_model.specs.Follower.{Follower}
use Rattle.slate_model.specs.declared.answers.PollAnswer.{PollAnswer}
use Rattle.slate_follow.specs.Rebuilding.{Builds}
use Rattle.slate_types.specs.Modelled.{WhereModelled}
use Rattle.slate_store.specs.declared.objects.VersionedManifest.{VersionedManifest}
use Rattle.slate_model.specs.Lease.{to_take}
use Rattle.slate_model.specs.Managed.{IsOpenAt, PutsPlanned}
use Rattle.slate_model.specs.Stores.{Stands}
use Rattle.slate_model.specs.declared.leases.Lease.{Lease}
use Rattle.slate_follow.specs.Answering.{IsOfLatest}
use Rattle.slate_follow.specs.Keeping.{CallsRefused, MayMismatch}
use Rattle.slate_follow.proofs.Counted.{taken-calls}
use Rattle.slate_follow.proofs.Refusing.{err-same, lacks-read, replay-rebuilding, replay-unnamed}
use Rattle.slate_follow.proofs.Taken.{all-well, counts-then, no-fault, take-broken, take-done, take-failed}
use Rattle.slate_follow.proofs.Answering.{rebuilding-later, rebuilding-opening, rebuilding-valid, replay-later}
use Rattle.slate_follow.proofs.Continued.{builds-truncates, leased-truncates}
use Rattle.slate_follow.proofs.Rebuilt.{if_some, some_at}
use Rattle.slate_follow.proofs.states.FollowerState.open_leased.Goals as goal

pub returns-in_err-view-clause-takes : goal.returns-in_err-view-clause-takes
returns-in_err-view-clause-takes g c x lawful =
    let e = c.in_err-view.field-0.0 in
    let lifetime = c.args.options.now.checkpoint_lifetime_ms in
    let puts = subst (λ m. WhereModelled (λ o o'. (made : ℕ) × PutsPlanned {B = VersionedManifest × Lease} Stands MayMismatch (to_take lifetime m) o (Err e) made o') (g.S.Store.objects c.args.store.now) (g.S.Store.objects c.take_lease.new.store)) (to_z-of_z {w = w64} {z = c.args.moment} (search rules)) c.in_err-view.ensures.puts in
    let all = take-failed x lifetime c.args.options.now.skip_wal_replay c.args.options.now.max_lag c.args.moment (g.S.Store.objects c.args.store.now) (g.S.Store.objects c.take_lease.new.store) (g.S.Store.faults c.args.store.now) (g.S.Store.faults c.take_lease.new.store) e puts (c.in_err-view.ensures.mismatch x lawful) (λ key is. c.in_err-view.ensures.whole key (ap Err is)) c.in_err-view.ensures.faults in
    let is : c.from_residual.result ≡ Err e = search rules in
    rw is all

pub returns-in_err-last-clause-takes : goal.returns-in_err-last-clause-takes
returns-in_err-last-clause-takes g c x lawful =
    let e = c.in_err-last.field-0.0 in
    let v = c.in_ok-view in
    let lifetime = c.args.options.now.checkpoint_lifetime_ms in
    let t = g.S.Store.objects c.args.store.now in
    let t1 = g.S.Store.objects c.take_lease.new.store in
    let puts : WhereModelled (λ o o'. (made : ℕ) × PutsPlanned {B = VersionedManifest × Lease} Stands MayMismatch (to_take lifetime c.args.moment) o (Ok (v.view, v.lease)) made o') t t1 = search rules in
    let faults = counts-then {B = Follower × PollAnswer} (g.S.Store.faults c.args.store.now) (g.S.Store.faults c.take_lease.new.store) (g.S.Store.faults c.last_read.new.store) e v.ensures.faults.stays c.in_err-last.ensures.faults in
    let plans : IfSome t (λ o. PlanIs (to_take lifetime c.args.moment) o (Ok (Some v.view, v.lease))) = search rules in
    let fits : IfSome t (λ o. RefusesLatest x true o None) = search (rules, v.ensures.fits x lawful) in
    let all = take-broken x lifetime c.args.options.now.skip_wal_replay c.args.options.now.max_lag c.args.moment t (g.S.Store.objects c.last_read.new.store) (g.S.Store.faults c.args.store.now) (g.S.Store.faults c.last_read.new.store) v.view v.lease t1 c.in_err-last.ensures.kept puts plans fits e (replay-rebuilding e c.in_err-last.ensures.refusals) (λ key is. absurd (replay-unnamed e key c.in_err-last.ensures.refusals is)) faults in
    let is : c.from_residual-in_err-last.result ≡ Err e = search rules in
    rw is all

pub returns-in_err-rebuilt-clause-takes : goal.returns-in_err-rebuilt-clause-takes
returns-in_err-rebuilt-clause-takes g c x lawful =
    let e = c.in_err-rebuilt.field-0.0 in
    let v = c.in_ok-view in
    let lifetime = c.args.options.now.checkpoint_lifetime_ms in
    let t = g.S.Store.objects c.args.store.now in
    let t1 = g.S.Store.objects c.take_lease.new.store in
    let puts : WhereModelled (λ o o'. (made : ℕ) × PutsPlanned {B = VersionedManifest × Lease} Stands MayMismatch (to_take lifetime c.args.moment) o (Ok (v.view, v.lease)) made o') t t1 = search rules in
    let same : g.S.Store.faults c.last_read.new.store ≡ g.S.Store.faults c.args.store.now = (let a = v.ensures.faults.stays in let b = c.in_ok-last.ensures.faults.stays in omega (arith, a, b)) in
    let faults = counts-then {B = Follower × PollAnswer} (g.S.Store.faults c.args.store.now) (g.S.Store.faults c.last_read.new.store) (g.S.Store.faults c.rebuild.new.store) e same c.in_err-rebuilt.ensures.faults in
    let plans : IfSome t (λ o. PlanIs (to_take lifetime c.args.moment) o (Ok (Some v.view, v.lease))) = search rules in
    let fits : IfSome t (λ o. RefusesLatest x true o None) = search (rules, v.ensures.fits x lawful) in
    let all = take-broken x lifetime c.args.options.now.skip_wal_replay c.args.options.now.max_lag c.args.moment t (g.S.Store.objects c.rebuild.new.store) (g.S.Store.faults c.args.store.now) (g.S.Store.faults c.rebuild.new.store) v.view v.lease t1 (c.in_err-rebuilt.ensures.kept ∙ c.in_ok-last.ensures.kept) puts plans fits e c.in_err-rebuilt.ensures.refusals
    (λ key is. lacks-read x ManagedCheckpoint c.args.options.now.skip_wal_replay v.view c.in_ok-last.last key c.in_ok-last.ensures.kept c.in_err-rebuilt.ensures.kept c.in_ok-last.ensures.where_modelled (c.in_err-rebuilt.ensures.lacks x key lawful (ap Err is))) faults in
    let is : c.from_residual-in_err-rebuilt.result ≡ Err e = search rules in
    rw is all

pub returns-in_err-new-clause-takes : goal.returns-in_err-new-clause-takes
returns-in_err-new-clause-takes g c x lawful =
    let v = c.in_ok-view in
    let lifetime = c.args.options.now.checkpoint_lifetime_ms in
    let t = g.S.Store.objects c.args.store.now in
    let t1 = g.S.Store.objects c.take_lease.new.store in
    let puts : WhereModelled (λ o o'. (made : ℕ) × PutsPlanned {B = VersionedManifest × Lease} Stands MayMismatch (to_take lifetime c.args.moment) o (Ok (v.view, v.lease)) made o') t t1 = search rules in
    let same : g.S.Store.faults c.rebuild.new.store ≡ g.S.Store.faults c.args.store.now = (let a = v.ensures.faults.stays in let b = c.in_ok-last.ensures.faults.stays in let d = c.in_ok-rebuilt.ensures.faults.stays in omega (arith, a, b, d)) in
    let faults = no-fault {A = Follower × PollAnswer} (g.S.Store.faults c.args.store.now) (g.S.Store.faults c.rebuild.new.store) same in
    let plans : IfSome t (λ o. PlanIs (to_take lifetime c.args.moment) o (Ok (Some v.view, v.lease))) = search rules in
    let fits : IfSome t (λ o. RefusesLatest x true o None) = search (rules, v.ensures.fits x lawful) in
    let all = take-broken x lifetime c.args.options.now.skip_wal_replay c.args.options.now.max_lag c.args.moment t (g.S.Store.objects c.rebuild.new.store) (g.S.Store.faults c.args.store.now) (g.S.Store.faults c.rebuild.new.store) v.view v.lease t1 (c.in_ok-rebuilt.ensures.kept ∙ c.in_ok-last.ensures.kept) puts plans fits NoMemory tt (λ key is. absurd (cc)) faults in
    let is : c.from_residual-in_err-new.result ≡ Err NoMemory = search rules in
    rw is all

pub returns-clause-takes : goal.returns-clause-takes
returns-clause-takes g c x lawful =
    let v = c.in_ok-view in
    let b = c.in_ok-rebuilt in
    let n = c.in_ok-new in
    let lifetime = c.args.options.now.checkpoint_lifetime_ms in
    let skips = c.args.options.now.skip_wal_replay in
    let t = g.S.Store.objects c.args.store.now in
    let t1 = g.S.Store.objects c.take_lease.new.store in
    let t' = g.S.Store.objects c.rebuild.new.store in
    let puts : WhereModelled (λ o o'. (made : ℕ) × PutsPlanned {B = VersionedManifest × Lease} Stands MayMismatch (to_take lifetime c.args.moment) o (Ok (v.view, v.lease)) made o') t t1 = search rules in
    let plans : IfSome t (λ o. PlanIs (to_take lifetime c.args.moment) o (Ok (Some v.view, v.lease))) = search rules in
    let fits : IfSome t (λ o. RefusesLatest x true o None) = search (rules, v.ensures.fits x lawful) in
    let s = b.ensures.segments x lawful in
    let reads = subst (λ x. IfSome x (λ o. c.in_ok-last.last ≡ last_read ManagedCheckpoint skips v.view o)) (sym (b.ensures.kept ∙ c.in_ok-last.ensures.kept)) c.in_ok-last.ensures.where_modelled in
    let builds = subst (λ x. IfSome x (λ o. Builds o ManagedCheckpoint skips c.args.options.now.max_lag v.view c.in_ok-last.last b.rebuilt b.answer)) (sym b.ensures.kept) b.ensures.built in
    let same : g.S.Store.faults c.rebuild.new.store ≡ g.S.Store.faults c.args.store.now = (let a = v.ensures.faults.stays in let d = c.in_ok-last.ensures.faults.stays in let h = b.ensures.faults.stays in omega (arith, a, d, h)) in
    let new : Follower = record b.rebuilt { lease = Some v.lease } in
    let faults = all-well (g.S.Store.faults c.args.store.now) (g.S.Store.faults c.rebuild.new.store) (new, b.answer) same in
    let answers : IsOpenAt skips c.args.options.now.max_lag new b.answer = (b.ensures.asked.0, b.ensures.asked.1, b.ensures.asked.2, b.ensures.answer.1, b.ensures.answer.2) in
    let all = take-done x lifetime skips c.args.options.now.max_lag c.args.moment t t' (g.S.Store.faults c.args.store.now) (g.S.Store.faults c.rebuild.new.store) v.view v.lease t1 (b.ensures.kept ∙ c.in_ok-last.ensures.kept) puts plans fits
    b.rebuilt new b.answer c.in_ok-last.last reads builds b.ensures.answer.0 refl s.0 s.1 answers faults in
    rw c.in_ok-new.ensures all

pub returns-in_err-rebuilt-clause-calls : goal.returns-in_err-rebuilt-clause-calls
returns-in_err-rebuilt-clause-calls g c =
    let v = c.in_ok-view in
    let lifetime = c.args.options.now.checkpoint_lifetime_ms in
    let skips = c.args.options.now.skip_wal_replay in
    let t = g.S.Store.objects c.args.store.now in
    let t1 = g.S.Store.objects c.take_lease.new.store in
    let puts : WhereModelled (λ o o'. (made : ℕ) × PutsPlanned {B = VersionedManifest × Lease} Stands MayMismatch (to_take lifetime c.args.moment) o (Ok (v.view, v.lease)) made o') t t1 = search rules in
    let plans : IfSome t (λ o. PlanIs (to_take lifetime c.args.moment) o (Ok (Some v.view, v.lease))) = search rules in
    taken-calls MayMismatch lifetime skips c.args.moment t t1 v.view v.lease puts plans c.in_ok-last.last c.in_ok-last.ensures.where_modelled (g.S.Store.calls c.args.store.now) (g.S.Store.calls c.rebuild.new.store)
    (let a = v.ensures.calls in let b = c.in_ok-last.ensures.calls in let d = c.in_err-rebuilt.ensures.calls in omega (arith, a, b, d))

pub returns-in_err-new-clause-calls : goal.returns-in_err-new-clause-calls
returns-in_err-new-clause-calls g c =
    let v = c.in_ok-view in
    let lifetime = c.args.options.now.checkpoint_lifetime_ms in
    let skips = c.args.options.now.skip_wal_replay in
    let t = g.S.Store.objects c.args.store.now in
    let t1 = g.S.Store.objects c.take_lease.new.store in
    let puts : WhereModelled (λ o o'. (made : ℕ) × PutsPlanned {B = VersionedManifest × Lease} Stands MayMismatch (to_take lifetime c.args.moment) o (Ok (v.view, v.lease)) made o') t t1 = search rules in
    let plans : IfSome t (λ o. PlanIs (to_take lifetime c.args.moment) o (Ok (Some v.view, v.lease))) = search rules in
    taken-calls MayMismatch lifetime skips c.args.moment t t1 v.view v.lease puts plans c.in_ok-last.last c.in_ok-last.ensures.where_modelled (g.S.Store.calls c.args.store.now) (g.S.Store.calls c.rebuild.new.store)
    (let a = v.ensures.calls in let b = c.in_ok-last.ensures.calls in let d = c.in_ok-rebuilt.ensures.calls in omega (arith, a, b, d))

pub returns-clause-calls : goal.returns-clause-calls
returns-clause-calls g c =
    let v = c.in_ok-view in
    let lifetime = c.args.options.now.checkpoint_lifetime_ms in
    let skips = c.args.options.now.skip_wal_replay in
    let t = g.S.Store.objects c.args.store.now in
    let t1 = g.S.Store.objects c.take_lease.new.store in
    let puts : WhereModelled (λ o o'. (made : ℕ) × PutsPlanned {B = VersionedManifest × Lease} Stands MayMismatch (to_take lifetime c.args.moment) o (Ok (v.view, v.lease)) made o') t t1 = search rules in
    let plans : IfSome t (λ o. PlanIs (to_take lifetime c.args.moment) o (Ok (Some v.view, v.lease))) = search rules in
    taken-calls MayMismatch lifetime skips c.args.moment t t1 v.view v.lease puts plans c.in_ok-last.last c.in_ok-last.ensures.where_modelled (g.S.Store.calls c.args.store.now) (g.S.Store.calls c.rebuild.new.store)
    (let a = v.ensures.calls in let b = c.in_ok-last.ensures.calls in let d = c.in_ok-rebuilt.ensures.calls in omega (arith, a, b, d))

-- ---- which errors it answers, and when that is InvalidDBState
pub returns-in_err-view-clause-kind : goal.returns-in_err-view-clause-kind
returns-in_err-view-clause-kind g c =
    let is : c.from_residual.result ≡ Err c.in_err-view.field-0.0 = search rules in
    rw is c.in_err-view.ensures.kind

pub returns-in_err-last-clause-kind : goal.returns-in_err-last-clause-kind
returns-in_err-last-clause-kind g c =
    let e = c.in_err-last.field-0.0 in
    let is : c.from_residual-in_err-last.result ≡ Err e = search rules in
    rw is (rebuilding-opening ManagedCheckpoint e (replay-rebuilding e c.in_err-last.ensures.refusals))

pub returns-in_err-rebuilt-clause-kind : goal.returns-in_err-rebuilt-clause-kind
returns-in_err-rebuilt-clause-kind g c =
    let is : c.from_residual-in_err-rebuilt.result ≡ Err c.in_err-rebuilt.field-0.0 = search rules in
    rw is (rebuilding-opening ManagedCheckpoint c.in_err-rebuilt.field-0.0 c.in_err-rebuilt.ensures.refusals)

pub returns-in_err-view-clause-decided : goal.returns-in_err-view-clause-decided
returns-in_err-view-clause-decided g c x lawful is =
    let e = c.in_err-view.field-0.0 in
    let got : c.from_residual.result ≡ Err e = search rules in
    c.in_err-view.ensures.decided x lawful (ap Err (err-same (Follower × PollAnswer) e InvalidDBState (sym got ∙ is)))

pub returns-in_err-last-clause-decided : goal.returns-in_err-last-clause-decided
returns-in_err-last-clause-decided g c x lawful is =
    let e = c.in_err-last.field-0.0 in
    let got : c.from_residual-in_err-last.result ≡ Err e = search rules in
    absurd (rebuilding-valid e (replay-rebuilding e c.in_err-last.ensures.refusals) (err-same (Follower × PollAnswer) e InvalidDBState (sym got ∙ is)))

pub returns-in_err-rebuilt-clause-decided : goal.returns-in_err-rebuilt-clause-decided
returns-in_err-rebuilt-clause-decided g c x lawful is =
    let e = c.in_err-rebuilt.field-0.0 in
    let got : c.from_residual-in_err-rebuilt.result ≡ Err e = search rules in
    absurd (rebuilding-valid e c.in_err-rebuilt.ensures.refusals (err-same (Follower × PollAnswer) e InvalidDBState (sym got ∙ is)))

pub returns-clause-truncates : goal.returns-clause-truncates
returns-clause-truncates g c =
    let v = c.in_ok-view in
    let b = c.in_ok-rebuilt in
    let skips = c.args.options.now.skip_wal_replay in
    let t1 = g.S.Store.objects c.last_read.new.store in
    let t' = g.S.Store.objects c.rebuild.new.store in
    rw c.in_ok-new.ensures
    (if_some t' (λ o at. leased-truncates o b.rebuilt (Some v.lease) b.answer
    (builds-truncates o ManagedCheckpoint skips c.args.options.now.max_lag v.view c.in_ok-last.last b.rebuilt b.answer (some_at (λ o. Builds o ManagedCheckpoint skips c.args.options.now.max_lag v.view c.in_ok-last.last b.rebuilt b.answer) t1 o (sym b.ensures.kept ∙ at) b.ensures.built))))

-- ---- how often it called the store where the latest manifest decides
pub returns-in_err-view-clause-first : goal.returns-in_err-view-clause-first
returns-in_err-view-clause-first g c x o lawful at =
    let is : c.from_residual.result ≡ Err c.in_err-view.field-0.0 = search rules in
    rw is (c.in_err-view.ensures.first x o lawful at)

pub returns-in_err-last-clause-first : goal.returns-in_err-last-clause-first
returns-in_err-last-clause-first g c x o lawful at =
    let e = c.in_err-last.field-0.0 in
    let is : c.from_residual-in_err-last.result ≡ Err e = search rules in
    rw is (λ first. absurd (replay-later e c.in_err-last.ensures.refusals first))

pub returns-in_err-rebuilt-clause-first : goal.returns-in_err-rebuilt-clause-first
returns-in_err-rebuilt-clause-first g c x o lawful at =
    let e = c.in_err-rebuilt.field-0.0 in
    let is : c.from_residual-in_err-rebuilt.result ≡ Err e = search rules in
    rw is (λ first. absurd (rebuilding-later e c.in_err-rebuilt.ensures.refusals first))

pub returns-in_err-view-clause-tries : goal.returns-in_err-view-clause-tries
returns-in_err-view-clause-tries g c =
    let e = c.in_err-view.field-0.0 in
    let n = g.S.Store.calls c.args.store.now in
    let n' = g.S.Store.calls c.take_lease.new.store in
    let is : c.from_residual.result ≡ Err e = search rules in
    rw is
    (subst (λ m. IsOfLatest e → CallsRefused c.args.options.now.checkpoint_lifetime_ms m (g.S.Store.objects c.args.store.now) n n') (to_z-of_z {w = w64} {z = c.args.moment} (search rules)) c.in_err-view.ensures.tries)

pub returns-in_err-last-clause-tries : goal.returns-in_err-last-clause-tries
returns-in_err-last-clause-tries g c =
    let e = c.in_err-last.field-0.0 in
    let is : c.from_residual-in_err-last.result ≡ Err e = search rules in
    rw is (λ first. absurd (replay-later e c.in_err-last.ensures.refusals first))

pub returns-in_err-rebuilt-clause-tries : goal.returns-in_err-rebuilt-clause-tries
returns-in_err-rebuilt-clause-tries g c =
    let e = c.in_err-rebuilt.field-0.0 in
    let is : c.from_residual-in_err-rebuilt.result ≡ Err e = search rules in
    rw is (λ first. absurd (rebuilding-later e c.in_err-rebuilt.ensures.refusals first))
