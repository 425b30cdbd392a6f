use Rattle.std.proofs.Common.{◌≡◌, ◌+◌, ◌<◌, ◌≤◌, ◌∙◌, None, Some, Ok, Err, IfOk, rules, ap, subst, of_z, to_z}
use Rattle.std.proofs.Math.Facts.{to_z-of_z}
use Rattle.std.specs.Int.{w64}
use Rattle.std.specs.Option.{IfSome}
use Rattle.slate_types.specs.Modelled.{WhereModelled}
use Rattle.slate_store.specs.Refusals.{checkpoint_changes}
use Rattle.slate_errors.specs.declared.errors.SlateError.TheVariants.{TransactionalObjectTimeout}
use Rattle.slate_model.specs.Follower.{Follower}
use Rattle.slate_model.specs.Lease.{to_keep}
use Rattle.slate_model.specs.Managed.{Keeps, PlanCause}
use Rattle.slate_model.specs.Open.{replayed_logs}
use Rattle.slate_model.specs.Stores.{Stands, by_objects}
use Rattle.slate_follow.specs.Keeping.{CallsRound, answered}
use Rattle.slate_follow.specs.Lagging.{readings}
use Rattle.slate_follow.proofs.Counted.{all-tries, first-costs, last-try, tries-on}
use Rattle.slate_follow.proofs.Keeping.{PutsAndKeeps}
use Rattle.slate_follow.proofs.Rebuilt.{if_some}
use Rattle.slate_follow.proofs.Trying.{never-put, timed-out}
use Rattle.slate_follow.specs.Rebuilding.{Truncates}
use Rattle.slate_follow.proofs.states.FollowerState.keep_lease.Goals as goal

pub returns-in_err-kept-clause-puts : goal.returns-in_err-kept-clause-puts
returns-in_err-kept-clause-puts g c =
    let e = c.in_err-kept.field-0.0 in
    let l = c.args.lease.now in
    let i = c.loop-earlier.invariant in
    let before = c.loop-earlier.self in
    let new = c.try_to_keep.new.self in
    let after = g.S.Store.objects c.try_to_keep.new.store in
    let puts = subst (λ m. WhereModelled (PutsAndKeeps l m before (Err e) new) (g.S.Store.objects c.loop-earlier.store) after) (to_z-of_z {w = w64} {z = c.args.moment} (search rules)) c.in_err-kept.ensures.puts in
    let of_self = subst (λ (f : Follower). WhereModelled (PutsAndKeeps l c.args.moment f (Err e) new) (g.S.Store.objects c.loop-earlier.store) after) i.same puts in
    let all = subst (λ s. WhereModelled (PutsAndKeeps l c.args.moment c.args.self.now (Err e) new) s after) i.kept of_self in
    let is : c.from_residual.result ≡ Err e = search rules in
    rw is all

pub returns-in-Some-clause-keeps : goal.returns-in-Some-clause-keeps
returns-in-Some-clause-keeps g c =
    let l = c.args.lease.now in
    let i = c.loop-earlier.invariant in
    let a = c.in-Some.kept in
    let before = c.loop-earlier.self in
    let new = c.try_to_keep.new.self in
    let was = g.S.Store.objects c.loop-earlier.store in
    let after = g.S.Store.objects c.try_to_keep.new.store in
    let found : c.in_ok-kept.field-0 ≡ Some a = search rules in
    let keeps = subst (λ x. IfOk (answered (Ok x)) (λ answer. WhereModelled (λ o o'. Keeps (by_objects was) l (to_z w64 (of_z w64 c.args.moment)) before o new answer o') was after)) found c.in_ok-kept.ensures.keeps in
    let at_moment = subst (λ m. WhereModelled (λ o o'. Keeps (by_objects was) l m before o new a.answer o') was after) (to_z-of_z {w = w64} {z = c.args.moment} (search rules)) keeps in
    let of_self = subst (λ (f : Follower). WhereModelled (λ o o'. Keeps (by_objects was) l c.args.moment f o new a.answer o') was after) i.same at_moment in
    subst (λ s. WhereModelled (λ o o'. Keeps (by_objects s) l c.args.moment c.args.self.now o new a.answer o') s after) i.kept of_self

pub loop-earlier-preserved : goal.loop-earlier-preserved
loop-earlier-preserved g c =
    let l = c.args.lease.now in
    let m = to_z w64 (of_z w64 c.args.moment) in
    let i = c.loop-earlier.invariant in
    let a = c.in_ok-kept in
    let t = g.S.Store.objects c.args.store.now in
    let before = c.loop-earlier.self in
    let new = c.try_to_keep.new.self in
    let after = g.S.Store.objects c.try_to_keep.new.store in
    let plan = to_keep c.args.self.now.view l m in
    let none : a.field-0 ≡ None = search rules in
    let again = a.ensures.again (ap Ok none) in
    let puts = subst (λ x. WhereModelled (PutsAndKeeps l m before (answered (Ok x)) new) (g.S.Store.objects c.loop-earlier.store) after) none a.ensures.puts in
    let of_self = subst (λ (f : Follower). WhereModelled (PutsAndKeeps l m f (Err (TransactionalObjectTimeout 8)) new) (g.S.Store.objects c.loop-earlier.store) after) i.same puts in
    let all = subst (λ s. WhereModelled (PutsAndKeeps l m c.args.self.now (Err (TransactionalObjectTimeout 8)) new) s after) i.kept of_self in
    record {
      same = again.0 ∙ i.same;
      kept = again.1 ∙ i.kept;
      faults = a.ensures.faults.stays ∙ i.faults;
      calls = tries-on t (g.S.Store.objects c.loop-earlier.store) i.kept c.args.self.now.lag c.loop-earlier.earlier (g.S.Store.calls c.args.store.now) (g.S.Store.calls c.loop-earlier.store) (g.S.Store.calls c.try_to_keep.new.store) i.calls
          (subst (λ (f : Follower). IfSome (g.S.Store.objects c.loop-earlier.store) (λ o. g.S.Store.calls c.try_to_keep.new.store ≤ g.S.Store.calls c.loop-earlier.store + (readings f.lag (replayed_logs o) + 3))) i.same a.ensures.calls);
      within = search rules;
      met = λ more. if_some (g.S.Store.objects c.args.store.now) (λ o at. timed-out (Stands (checkpoint_changes plan o) o) plan o (all.some o at).2.1.cause);
    }

pub returns-clause-puts : goal.returns-clause-puts
returns-clause-puts g c =
    let l = c.args.lease.now in
    let t = g.S.Store.objects c.args.store.now in
    let view = c.args.self.now.view in
    let i = c.loop-earlier.invariant in
    let ran : 0 < c.loop-earlier.earlier = search rules in
    let met = subst (λ m. IfSome t (λ o. PlanCause (Stands (checkpoint_changes (to_keep view l m) o) o) (to_keep view l m) o (TransactionalObjectTimeout 8))) (to_z-of_z {w = w64} {z = c.args.moment} (search rules)) (i.met ran) in
    never-put t (g.S.Store.objects c.loop-earlier.store) l c.args.moment c.args.self.now c.loop-earlier.self i.kept i.same met

pub returns-in_err-kept-clause-calls : goal.returns-in_err-kept-clause-calls
returns-in_err-kept-clause-calls g c =
    let i = c.loop-earlier.invariant in
    let fewer : c.loop-earlier.earlier < 8 = search rules in
    last-try (g.S.Store.objects c.args.store.now) (g.S.Store.objects c.loop-earlier.store) i.kept c.args.self.now.lag c.loop-earlier.earlier (g.S.Store.calls c.args.store.now) (g.S.Store.calls c.loop-earlier.store) (g.S.Store.calls c.try_to_keep.new.store) i.calls fewer
    (subst (λ (f : Follower). IfSome (g.S.Store.objects c.loop-earlier.store) (λ o. g.S.Store.calls c.try_to_keep.new.store ≤ g.S.Store.calls c.loop-earlier.store + (readings f.lag (replayed_logs o) + 3))) i.same c.in_err-kept.ensures.calls)

pub returns-in-Some-clause-calls : goal.returns-in-Some-clause-calls
returns-in-Some-clause-calls g c =
    let i = c.loop-earlier.invariant in
    let fewer : c.loop-earlier.earlier < 8 = search rules in
    last-try (g.S.Store.objects c.args.store.now) (g.S.Store.objects c.loop-earlier.store) i.kept c.args.self.now.lag c.loop-earlier.earlier (g.S.Store.calls c.args.store.now) (g.S.Store.calls c.loop-earlier.store) (g.S.Store.calls c.try_to_keep.new.store) i.calls fewer
    (subst (λ (f : Follower). IfSome (g.S.Store.objects c.loop-earlier.store) (λ o. g.S.Store.calls c.try_to_keep.new.store ≤ g.S.Store.calls c.loop-earlier.store + (readings f.lag (replayed_logs o) + 3))) i.same c.in_ok-kept.ensures.calls)

pub returns-clause-calls : goal.returns-clause-calls
returns-clause-calls g c =
    let i = c.loop-earlier.invariant in
    all-tries (g.S.Store.objects c.args.store.now) c.args.self.now.lag c.loop-earlier.earlier (g.S.Store.calls c.args.store.now) (g.S.Store.calls c.loop-earlier.store) i.calls i.within

pub returns-in_err-kept-clause-kind : goal.returns-in_err-kept-clause-kind
returns-in_err-kept-clause-kind g c =
    let is : c.from_residual.result ≡ Err c.in_err-kept.field-0.0 = search rules in
    rw is c.in_err-kept.ensures.kind

pub returns-in-Some-clause-costs : goal.returns-in-Some-clause-costs
returns-in-Some-clause-costs g c =
    let l = c.args.lease.now in
    let m = c.args.moment in
    let i = c.loop-earlier.invariant in
    let a = c.in-Some.kept in
    let before = c.loop-earlier.self in
    let old = c.args.self.now in
    let t = g.S.Store.objects c.args.store.now in
    let was = g.S.Store.objects c.loop-earlier.store in
    let k = g.S.Store.calls c.args.store.now in
    let k1 = g.S.Store.calls c.loop-earlier.store in
    let k2 = g.S.Store.calls c.try_to_keep.new.store in
    let undone = to_z-of_z {w = w64} {z = m} (search rules) in
    let found : c.in_ok-kept.field-0 ≡ Some a = search rules in
    let free0 = subst (λ x. IfOk (answered (Ok x)) (λ _. IfSome was (λ o. Stands (checkpoint_changes (to_keep before.view l (to_z w64 (of_z w64 m))) o) o → ⊥))) found c.in_ok-kept.ensures.free in
    let free = subst (λ (f : Follower). IfSome was (λ o. Stands (checkpoint_changes (to_keep f.view l m) o) o → ⊥)) i.same (subst (λ m. IfSome was (λ o. Stands (checkpoint_changes (to_keep before.view l m) o) o → ⊥)) undone free0) in
    let costs0 = subst (λ x. IfOk (answered (Ok x)) (λ _. IfSome was (λ o. CallsRound o before l (to_z w64 (of_z w64 m)) k1 k2))) found c.in_ok-kept.ensures.costs in
    let costs = subst (λ (f : Follower). IfSome was (λ o. CallsRound o f l m k1 k2)) i.same (subst (λ m. IfSome was (λ o. CallsRound o before l m k1 k2)) undone costs0) in
    first-costs (to_keep old.view l m) t was i.kept c.loop-earlier.earlier k k1 k2 old l m i.calls
    (λ ran. subst (λ m. IfSome t (λ o. PlanCause (Stands (checkpoint_changes (to_keep old.view l m) o) o) (to_keep old.view l m) o (TransactionalObjectTimeout 8))) undone (i.met ran)) free costs

pub returns-in-Some-clause-truncates : goal.returns-in-Some-clause-truncates
returns-in-Some-clause-truncates g c =
    let a = c.in-Some.kept in
    let new = c.try_to_keep.new.self in
    let was = g.S.Store.objects c.loop-earlier.store in
    let found : c.in_ok-kept.field-0 ≡ Some a = search rules in
    let truncates = subst (λ x. IfOk (answered (Ok x)) (λ answer. IfSome was (λ o. Truncates o new answer))) found c.in_ok-kept.ensures.truncates in
    subst (λ s. IfSome s (λ o. Truncates o new a.answer)) c.loop-earlier.invariant.kept truncates
