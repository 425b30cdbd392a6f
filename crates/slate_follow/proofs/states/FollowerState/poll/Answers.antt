use Rattle.std.proofs.Common.{◌≡◌, ◌∙◌, ℕ, None, Some, false, Result, Ok, Err, IfErr, IfOk, is_some, refl, rules, sym, ap, subst}
use Rattle.std.proofs.Math.Facts.{to_z-of_z}
use Rattle.std.specs.Int.{w64}
use Rattle.std.specs.Option.{IfSome}
use Rattle.slate_errors.specs.Errors.{closed_error}
use Rattle.slate_errors.specs.declared.errors.SlateError.{SlateError}
use Rattle.slate_model.proofs.Reduced.{some-same}
use Rattle.slate_model.specs.Follower.{Follower, is_managed, is_pinned}
use Rattle.slate_model.specs.Known.{Untouched, known}
use Rattle.slate_model.specs.Managed.{PollsLeased}
use Rattle.slate_model.specs.Stores.{by_objects, kept_seen}
use Rattle.slate_model.specs.declared.answers.PollAnswer.{PollAnswer}
use Rattle.slate_follow.specs.Answering.{IsOfPoll}
use Rattle.slate_follow.specs.Keeping.{CallsKeeping, LeftBy}
use Rattle.slate_follow.specs.Rebuilding.{poll_error}
use Rattle.slate_errors.specs.declared.errors.SlateError.TheVariants.{InvalidDBState}
use Rattle.slate_follow.proofs.Answering.{taking-key, taking-poll}
use Rattle.slate_follow.proofs.Handed.{polled-handed}
use Rattle.slate_follow.proofs.Handing.{polls-handed}
use Rattle.slate_follow.proofs.Leased.{managed-is, mode-leased}
use Rattle.slate_follow.proofs.Refusing.{err-same}
use Rattle.slate_follow.proofs.states.FollowerState.poll.Goals as goal

pub returns-in-Some-clause-managed : goal.returns-in-Some-clause-managed
returns-in-Some-clause-managed g c x lawful = λ managed.
    let r = c.in-Some.result in
    let old = c.args.self.now in
    let before = known g.S.Store.objects g.S.Store.faults c.args.store.now in
    let was : old.result ≡ Some r = search rules in (
      0,
      record {
        closed = subst (λ y. IfSome y (λ r. (◌≡◌ {A = Result PollAnswer SlateError} (Err c.of_closed.result) (Err (closed_error r))) × (old ≡ old) × Untouched 0 before before)) (sym was) (ap Err c.of_closed.ensures, refl, (refl, refl));
        keeps = λ lease open_ held. absurd (cc (was, open_));
      },
    )

pub returns-in-Some-lease-clause-managed : goal.returns-in-Some-lease-clause-managed
returns-in-Some-lease-clause-managed g c x lawful = λ managed.
    let l = c.in-Some-lease.lease in
    let old = c.args.self.now in
    let p = c.poll_leased in
    let t = g.S.Store.objects c.args.store.now in
    let before = known g.S.Store.objects g.S.Store.faults c.args.store.now in
    let after = known g.S.Store.objects g.S.Store.faults p.new.store in
    let kept = subst (λ m. (made : ℕ) × PollsLeased (by_objects t) x made l m old before p.result p.new.self after) (to_z-of_z {w = w64} {z = c.args.moment} (search rules)) (p.ensures.keeps x lawful) in
    let held : old.lease ≡ Some l = search rules in
    let none : old.result ≡ None = search rules in (
      kept.0,
      record {
        closed = subst (λ y. IfSome y (λ r. (p.result ≡ Err (closed_error r)) × (p.new.self ≡ old) × Untouched kept.0 before after)) (sym none) tt;
        keeps = λ lease open_ is. subst (λ y. PollsLeased (by_objects t) x kept.0 y c.args.moment old before p.result p.new.self after) (some-same l lease (sym held ∙ is)) kept.1;
      },
    )

pub returns-in-Ok-clause-polls : goal.returns-in-Ok-clause-polls
returns-in-Ok-clause-polls g c x lawful = λ unmanaged.
    let t = c.in-Ok.ensures in
    let old = c.args.self.now in
    let none : old.result ≡ None = search rules in
    let free : is_pinned old.mode ≡ false = search rules in
    let before = known g.S.Store.objects g.S.Store.faults c.args.store.now in
    let after = known g.S.Store.objects g.S.Store.faults c.take_new.new.store in
    record {
      closed = subst (λ y. IfSome y (λ r. (◌≡◌ {A = Result PollAnswer SlateError} (Ok c.in-Ok.answer) (Err (closed_error r))) × (after ≡ before))) (sym none) tt;
      failed = tt;
      pinned = λ open_ pinned. absurd (cc (free, pinned));
      rebuilds = λ open_ unpinned. t.rebuilds x lawful;
      segments = t.segments x lawful;
    }

pub returns-in-Err-clause-polls : goal.returns-in-Err-clause-polls
returns-in-Err-clause-polls g c x lawful = λ unmanaged.
    let t = c.in-Err.ensures in
    let old = c.args.self.now in
    let none : old.result ≡ None = search rules in
    let free : is_pinned old.mode ≡ false = search rules in
    let before = known g.S.Store.objects g.S.Store.faults c.args.store.now in
    let after = known g.S.Store.objects g.S.Store.faults c.take_new.new.store in
    rw c.poll_error.ensures
    (record {
      closed = subst (λ y. IfSome y (λ r. (◌≡◌ {A = Result PollAnswer SlateError} (Err (poll_error c.in-Err.error)) (Err (closed_error r))) × (after ≡ before))) (sym none) tt;
      failed = t.failed;
      pinned = λ open_ pinned. absurd (cc (free, pinned));
      rebuilds = λ open_ unpinned. t.rebuilds x lawful;
      segments = t.segments x lawful;
    })

-- ---- what it hands over to the next poll
pub returns-in-Ok-clause-handed : goal.returns-in-Ok-clause-handed
returns-in-Ok-clause-handed g c x lawful = λ unmanaged free o line at stored seen.
    let r = c.in-Ok.ensures.rebuilds x lawful in
    let old = c.args.self.now in
    polled-handed (g.S.Store.objects c.args.store.now) o line old c.take_new.new.self c.in-Ok.answer at stored (r.can o at) free seen (r.sees o line at stored seen)

pub returns-in-Err-clause-handed : goal.returns-in-Err-clause-handed
returns-in-Err-clause-handed g c x lawful = λ unmanaged free o line at stored seen. subst (λ f. kept_seen f o line) (sym c.in-Err.ensures.failed) seen

-- ---- which errors it answers
pub returns-in-Err-clause-errors : goal.returns-in-Err-clause-errors
returns-in-Err-clause-errors g c = λ open_. rw c.poll_error.ensures (taking-poll c.args.self.now.mode c.in-Err.error c.in-Err.ensures.kind)

pub returns-in-Err-clause-segmented : goal.returns-in-Err-clause-segmented
returns-in-Err-clause-segmented g c x lawful = λ open_ unmanaged is.
    let key = taking-key c.in-Err.error c.in-Err.ensures.kind (sym c.poll_error.ensures ∙ err-same PollAnswer c.poll_error.result InvalidDBState is) in
    c.in-Err.ensures.named x key.0 lawful (ap Err key.1)

pub returns-in-Some-lease-clause-errors : goal.returns-in-Some-lease-clause-errors
returns-in-Some-lease-clause-errors g c = λ open_.
    let l = c.in-Some-lease.lease in
    let old = c.args.self.now in
    let held : old.lease ≡ Some l = search rules in
    let leased = subst (λ (f : Follower). is_some f.lease ≡ is_managed f.mode) c.self.view_is c.self.invariant.leased in
    let managed = mode-leased old.mode old.lease l leased held in
    subst (λ m. IfErr c.poll_leased.result (IsOfPoll m)) (sym managed) c.poll_leased.ensures.kind

pub returns-in-Some-lease-clause-costs_managed : goal.returns-in-Some-lease-clause-costs_managed
returns-in-Some-lease-clause-costs_managed g c = λ managed.
    let l = c.in-Some-lease.lease in
    let old = c.args.self.now in
    let p = c.poll_leased in
    let t = g.S.Store.objects c.args.store.now in
    let k = g.S.Store.calls c.args.store.now in
    let k1 = g.S.Store.calls p.new.store in
    let held : old.lease ≡ Some l = search rules in
    let undone = to_z-of_z {w = w64} {z = c.args.moment} (search rules) in
    let costs = subst (λ m. IfOk p.result (λ _. IfSome t (λ o. CallsKeeping o old l m k k1))) undone p.ensures.costs in
    subst (λ y. IfOk p.result (λ _. IfSome y (λ lease. IfSome t (λ o. CallsKeeping o old lease c.args.moment k k1)))) (sym held) costs

pub returns-in-Some-clause-handed_managed : goal.returns-in-Some-clause-handed_managed
returns-in-Some-clause-handed_managed g c x lawful = λ managed o o' line at at' stored seen. subst (λ s. kept_seen c.args.self.now s line) (some-same o o' (sym at ∙ at')) seen

pub returns-in-Some-lease-clause-handed_managed : goal.returns-in-Some-lease-clause-handed_managed
returns-in-Some-lease-clause-handed_managed g c x lawful = λ managed o o' line at at' stored seen.
    let l = c.in-Some-lease.lease in
    let old = c.args.self.now in
    let p = c.poll_leased in
    let t = g.S.Store.objects c.args.store.now in
    let before = known g.S.Store.objects g.S.Store.faults c.args.store.now in
    let after = known g.S.Store.objects g.S.Store.faults p.new.store in
    let kept = subst (λ m. (made : ℕ) × PollsLeased (by_objects t) x made l m old before p.result p.new.self after) (to_z-of_z {w = w64} {z = c.args.moment} (search rules)) (p.ensures.keeps x lawful) in
    polls-handed x kept.0 t (g.S.Store.objects p.new.store) (g.S.Store.faults c.args.store.now) (g.S.Store.faults p.new.store) l c.args.moment old p.result p.new.self kept.1 (managed-is old.mode managed) o o' line at at' stored seen

pub returns-in-Some-lease-clause-left_managed : goal.returns-in-Some-lease-clause-left_managed
returns-in-Some-lease-clause-left_managed g c = λ managed open_.
    let p = c.poll_leased in
    let t = g.S.Store.objects c.args.store.now in
    let t' = g.S.Store.objects p.new.store in
    subst (λ m. IfErr p.result (λ error. LeftBy m c.args.self.now t error p.new.self t')) (to_z-of_z {w = w64} {z = c.args.moment} (search rules)) p.ensures.left
