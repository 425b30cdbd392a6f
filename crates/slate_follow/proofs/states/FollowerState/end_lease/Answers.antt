use Rattle.std.proofs.Common.{◌≡◌, ℕ, Ok, Err, Some, is_some, rules, subst, sym}
use Rattle.slate_types.specs.Modelled.{WhereModelled}
use Rattle.slate_store.specs.Checkpoints.{to_delete}
use Rattle.slate_store.specs.Refusals.{FollowsPlan}
use Rattle.slate_model.specs.Follower.{Follower, is_managed}
use Rattle.slate_model.specs.Refusal.{error_of_refusal}
use Rattle.slate_follow.specs.Answering.{IsOfPoll}
use Rattle.slate_follow.proofs.Answering.{deleting-closing}
use Rattle.slate_follow.proofs.Closing.{ends-so}
use Rattle.slate_follow.proofs.Leased.{mode-leased}
use Rattle.slate_follow.proofs.states.FollowerState.end_lease.Goals as goal

pub returns-in-Ok-clause-ends : goal.returns-in-Ok-clause-ends
returns-in-Ok-clause-ends g c =
    let l = c.in_ok-lease.lease in
    let held : c.args.self.now.lease ≡ Some l = search rules in
    let follows : WhereModelled (λ o o'. (made : ℕ) × FollowsPlan (to_delete l.id) o (Ok tt) made o') (g.S.Store.objects c.args.store.now) (g.S.Store.objects c.delete_checkpoint.new.store) = search rules in
    let ends = ends-so (g.S.Store.objects c.args.store.now) (g.S.Store.objects c.delete_checkpoint.new.store) (g.S.Store.faults c.args.store.now) (g.S.Store.faults c.delete_checkpoint.new.store) (g.S.Store.calls c.args.store.now) (g.S.Store.calls c.delete_checkpoint.new.store) l c.args.self.now.tasks (Ok tt) follows (search rules) (search rules) in
    rw held ends

pub returns-in-Err-clause-ends : goal.returns-in-Err-clause-ends
returns-in-Err-clause-ends g c =
    let l = c.in_ok-lease.lease in
    let e = c.in-Err.refusal in
    let held : c.args.self.now.lease ≡ Some l = search rules in
    let follows : WhereModelled (λ o o'. (made : ℕ) × FollowsPlan (to_delete l.id) o (Err e) made o') (g.S.Store.objects c.args.store.now) (g.S.Store.objects c.delete_checkpoint.new.store) = search rules in
    let ends = ends-so (g.S.Store.objects c.args.store.now) (g.S.Store.objects c.delete_checkpoint.new.store) (g.S.Store.faults c.args.store.now) (g.S.Store.faults c.delete_checkpoint.new.store) (g.S.Store.calls c.args.store.now) (g.S.Store.calls c.delete_checkpoint.new.store) l c.args.self.now.tasks (Err e) follows (search rules) (search rules) in
    rw held (rw c.error_of_refusal.ensures ends)

pub returns-in-Err-clause-kind : goal.returns-in-Err-clause-kind
returns-in-Err-clause-kind g c =
    let l = c.in_ok-lease.lease in
    let old = c.args.self.now in
    let held : old.lease ≡ Some l = search rules in
    let leased = subst (λ (f : Follower). is_some f.lease ≡ is_managed f.mode) c.self.view_is c.self.invariant.leased in
    let managed = mode-leased old.mode old.lease l leased held in
    rw c.error_of_refusal.ensures (subst (λ m. IsOfPoll m (error_of_refusal c.in-Err.refusal)) (sym managed) (deleting-closing c.in-Err.refusal c.in-Err.ensures.kind))
