use Rattle.std.proofs.Common.{◌≡◌, ◌∙◌, ℕ, None, Some, Ok, Err, is_some, rules, sym, ap, subst}
use Rattle.slate_errors.specs.declared.endings.Ended.{Ended}
use Rattle.slate_model.specs.Close.{closed_follower, ended, recorded_fault}
use Rattle.slate_model.specs.Follower.{Follower, is_managed}
use Rattle.slate_model.specs.Known.{known}
use Rattle.slate_model.specs.Managed.{ClosesManaged, EndsLease}
use Rattle.slate_model.specs.Stores.{by_objects}
use Rattle.slate_tasks.specs.Running.{Running}
use Rattle.std.specs.Option.{IfSome}
use Rattle.slate_follow.specs.Answering.{IsOfPoll}
use Rattle.slate_follow.specs.Kept.{follower_of}
use Rattle.slate_follow.proofs.Closing.{closes-again, closes-first, has-lease}
use Rattle.slate_follow.proofs.Rebuilt.{some_at}
use Rattle.slate_follow.proofs.states.FollowerState.close.Goals.{in-None, in-Some-Err, in-Some-Ok}
use Rattle.slate_follow.proofs.states.FollowerState.close.Goals as goal

pub returns-clause-managed : goal.returns-clause-managed
returns-clause-managed g c = λ managed.
    let old = c.args.self.now in
    let t = g.S.Store.objects c.args.store.now in
    let before = known g.S.Store.objects g.S.Store.faults c.args.store.now in
    let answer : Ended = record { fault = c.match-closed.fault; tasks = c.end.result } in
    let new = follower_of (record c.self.inside { status = c.report_closed.new.self; tasks = c.end.new.self }) in
    let closed : new ≡ closed_follower old =
    ap (λ s. follower_of (record c.self.inside { status = s; tasks = c.end.new.self })) c.report_closed.ensures.closed
    ∙ (ap (λ (x : Running). record (closed_follower (follower_of c.self.inside)) { tasks = x.names }) c.end.ensures.none ∙ ap closed_follower c.self.view_is) in
    let tasks : answer ≡ ended old.tasks answer.fault = ap (λ x. ended x c.match-closed.fault) (c.end.ensures.ended ∙ ap (λ (f : Follower). f.tasks) c.self.view_is) in
    elim c.match-closed.branch [
      | in-Some-Err w ↦
          let was : old.result ≡ Some (Err w.in-Some-Err.fault) = search rules in
          let fault : answer.fault ≡ recorded_fault old.result = search rules in
          subst (λ s. (made : ℕ) × ClosesManaged (by_objects t) made old before answer new (known g.S.Store.objects g.S.Store.faults s)) (sym w.store-is) (0, closes-again t old new before answer closed tasks (Err w.in-Some-Err.fault) was fault)
      | in-Some-Ok w ↦
          let was : old.result ≡ Some (Ok tt) = search rules in
          let fault : answer.fault ≡ recorded_fault old.result = w.fault-is ∙ sym (ap recorded_fault was) in
          subst (λ s. (made : ℕ) × ClosesManaged (by_objects t) made old before answer new (known g.S.Store.objects g.S.Store.faults s)) (sym w.store-is) (0, closes-again t old new before answer closed tasks (Ok tt) was fault)
      | in-None w ↦
          let e = w.end_lease-fault in
          let after = known g.S.Store.objects g.S.Store.faults e.new.store in
          let open_ : old.result ≡ None = search rules in
          let leased : is_some old.lease ≡ is_managed old.mode = subst (λ (f : Follower). is_some f.lease ≡ is_managed f.mode) c.self.view_is c.self.invariant.leased in
          let held = has-lease old.lease (leased ∙ managed) in
          let ends = some_at (λ lease. (made : ℕ) × EndsLease (by_objects t) made lease before (ended old.tasks e.result) after) old.lease held.0 held.1 e.ensures.ends in
          let is : answer ≡ ended old.tasks e.result = tasks ∙ ap (ended old.tasks) w.fault-is in
          subst (λ s. (made : ℕ) × ClosesManaged (by_objects t) made old before answer new (known g.S.Store.objects g.S.Store.faults s)) (sym w.store-is)
          (ends.0, closes-first t old new before answer closed tasks ends.0 after held.0 open_ held.1 (subst (λ a. EndsLease (by_objects t) ends.0 held.0 before a after) (sym is) ends.1))
    ]

pub returns-clause-kind : goal.returns-clause-kind
returns-clause-kind g c = λ open_.
    let old = c.args.self.now in
    elim c.match-closed.branch [
      | in-Some-Err w ↦ let was : old.result ≡ Some (Err w.in-Some-Err.fault) = search rules in absurd (cc (was, open_))
      | in-Some-Ok w ↦ let was : old.result ≡ Some (Ok tt) = search rules in absurd (cc (was, open_))
      | in-None w ↦
          subst (λ x. IfSome x (IsOfPoll old.mode)) (sym w.fault-is) w.end_lease-fault.ensures.kind
    ]
