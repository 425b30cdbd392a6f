use Rattle.std.proofs.Common.{rules, Ok, Err, ap, refl}
use Rattle.slate_model.specs.Follower.{is_managed}
use Rattle.slate_model.specs.Known.{known}
use Rattle.slate_model.specs.Stores.{by_objects}
use Rattle.slate_live.proofs.Closed.{either-polls}
use Rattle.slate_live.proofs.Counting.{polling-calls}
use Rattle.slate_live.proofs.Doing.{polls-follower}
use Rattle.slate_live.proofs.followers.poll.Goals as goal

pub returns-in-Ok-clause-does : goal.returns-in-Ok-clause-does
returns-in-Ok-clause-does g c x extracts =
    let k = by_objects (g.S.Store.objects c.args.store.now) in
    let before = known g.S.Store.objects g.S.Store.faults c.args.store.now in
    let after = known g.S.Store.objects g.S.Store.faults c.poll.new.store in
    let f = c.args.follower.now in
    either-polls k x c.args.moment f c.poll.new.self before after (Ok c.in-Ok.answer) _ c.polled_reply.ensures f.result refl
    (λ open_. polls-follower x k c.args.moment f c.poll.new.self before after (Ok c.in-Ok.answer) _ c.polled_reply.ensures _ (search rules) (c.in-Ok.ensures.polls x (extracts open_)) (c.in-Ok.ensures.managed x (extracts open_)))
    c.in-Ok.ensures.closed
    (λ shut. let same = c.in-Ok.ensures.untouched shut in (same.0, ap (known g.S.Store.objects g.S.Store.faults) same.1))

pub returns-in-Err-clause-calls : goal.returns-in-Err-clause-calls
returns-in-Err-clause-calls g c = polling-calls _ (is_managed c.args.follower.now.mode) c.args.follower.now.lag _ _ c.poll.ensures.calls c.poll.ensures.managed_calls

pub returns-in-Err-clause-does : goal.returns-in-Err-clause-does
returns-in-Err-clause-does g c x extracts =
    let k = by_objects (g.S.Store.objects c.args.store.now) in
    let before = known g.S.Store.objects g.S.Store.faults c.args.store.now in
    let after = known g.S.Store.objects g.S.Store.faults c.poll.new.store in
    let f = c.args.follower.now in
    either-polls k x c.args.moment f c.poll.new.self before after (Err c.in-Err.error) _ c.refusal.ensures f.result refl
    (λ open_. polls-follower x k c.args.moment f c.poll.new.self before after (Err c.in-Err.error) _ c.refusal.ensures _ (search rules) (c.in-Err.ensures.polls x (extracts open_)) (c.in-Err.ensures.managed x (extracts open_)))
    c.in-Err.ensures.closed
    (λ shut. let same = c.in-Err.ensures.untouched shut in (same.0, ap (known g.S.Store.objects g.S.Store.faults) same.1))
