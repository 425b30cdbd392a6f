use Rattle.std.proofs.Common.{◌≡◌, ◌+◌, ◌≤◌, false, true, Option, Some, IsSome, Ok, Err, rules, subst, sym, ap, ◌∙◌}
use Rattle.std.specs.Option.{IfSome}
use Rattle.slate_types.specs.Modelled.{WhereModelled}
use Rattle.slate_store.specs.Checkpoints.{found, to_write}
use Rattle.slate_store.specs.declared.objects.VersionedManifest.{VersionedManifest}
use Rattle.slate_errors.specs.declared.errors.SlateError.TheVariants.{InvalidDBState}
use Rattle.slate_model.proofs.Leased.{written-found}
use Rattle.slate_model.specs.declared.leases.Lease.{Lease}
use Rattle.slate_model.specs.Follower.{Follower}
use Rattle.slate_model.specs.Lease.{leased}
use Rattle.slate_model.specs.declared.answers.PollAnswer.{PollAnswer}
use Rattle.slate_follow.specs.Keeping.{MayLack, PutsManifest}
use Rattle.slate_follow.specs.declared.leased_polls.Kept.{Kept}
use Rattle.slate_follow.proofs.Leased.{mode-leased}
use Rattle.slate_follow.proofs.Answering.{rebuilding-polling, turn-polling}
use Rattle.slate_follow.proofs.Counted.{replaced-calls}
use Rattle.slate_follow.proofs.Lacking.{put-lacks}
use Rattle.slate_follow.proofs.Planned.{broken-by, failed-by, polling-cause, put-by, unput-by, unstanding}
use Rattle.slate_follow.proofs.Refusing.{err-same, poll-counts, poll-key, poll-polling}
use Rattle.slate_follow.proofs.Renewing.{at-lease}
use Rattle.slate_follow.proofs.Trying.{put-takes, put-truncates}
use Rattle.slate_follow.specs.Rebuilding.{TakesUnder, TakingLacks, new_logs, poll_error, unleased}
use Rattle.slate_follow.proofs.states.FollowerState.replace_lease.Goals as goal

pub returns-then-not-is_put-clause-puts : goal.returns-then-not-is_put-clause-puts
returns-then-not-is_put-clause-puts g c =
    let n = c.in_ok-next in
    let l = c.args.lease.now in
    let plan = leased l.lifetime (to_write (Some l.id) (Some l.lifetime) c.args.moment c.args.latest.now) in
    let gives : plan ≡ Ok (Some n.next, n.taken) = search rules in
    let is_put : c.in_ok-is_put.is_put ≡ false = search rules in
    let all = unput-by MayLack plan c.args.self.now.lease n.next n.taken gives {A = PollAnswer} (subst (λ b. WhereModelled (PutsManifest n.next (Ok b)) (g.S.Store.objects c.args.store.now) (g.S.Store.objects c.put_next.new.store)) is_put c.in_ok-is_put.ensures.puts) in
    search (rules, all)

pub returns-in_err-is_put-clause-puts : goal.returns-in_err-is_put-clause-puts
returns-in_err-is_put-clause-puts g c =
    let n = c.in_ok-next in
    let l = c.args.lease.now in
    let plan = leased l.lifetime (to_write (Some l.id) (Some l.lifetime) c.args.moment c.args.latest.now) in
    let gives : plan ≡ Ok (Some n.next, n.taken) = search rules in
    let all = failed-by MayLack plan c.args.self.now.lease n.next n.taken gives {A = PollAnswer} c.in_err-is_put.field-0.0 c.in_err-is_put.ensures.puts in
    let is : c.from_residual-in_err-is_put.result ≡ Err c.in_err-is_put.field-0.0 = search rules in
    rw is all

pub returns-in_err-is_put-clause-kind : goal.returns-in_err-is_put-clause-kind
returns-in_err-is_put-clause-kind g c =
    let is : c.from_residual-in_err-is_put.result ≡ Err c.in_err-is_put.field-0.0 = search rules in
    rw is (turn-polling c.in_err-is_put.field-0.0 c.in_err-is_put.ensures.kind)

pub returns-in-Ok-clause-puts : goal.returns-in-Ok-clause-puts
returns-in-Ok-clause-puts g c =
    let n = c.in_ok-next in
    let l = c.args.lease.now in
    let plan = leased l.lifetime (to_write (Some l.id) (Some l.lifetime) c.args.moment c.args.latest.now) in
    let gives : plan ≡ Ok (Some n.next, n.taken) = search rules in
    let is_put : c.in_ok-is_put.is_put ≡ true = search rules in
    let puts = subst (λ b. WhereModelled (PutsManifest n.next (Ok b)) (g.S.Store.objects c.args.store.now) (g.S.Store.objects c.put_next.new.store)) is_put c.in_ok-is_put.ensures.puts in
    let all = put-by MayLack plan c.args.self.now.lease n.next n.taken gives c.in-Ok.ensures.kept puts c.in-Ok.answer in
    let same : c.follow.new.self.lease ≡ Some n.taken = c.in-Ok.ensures.asked.3 in
    rw same all

pub returns-in-Ok-clause-taken : goal.returns-in-Ok-clause-taken
returns-in-Ok-clause-taken g c =
    let n = c.in_ok-next in
    let l = c.args.lease.now in
    let plan = leased l.lifetime (to_write (Some l.id) (Some l.lifetime) c.args.moment c.args.latest.now) in
    let gives : plan ≡ Ok (Some n.next, n.taken) = search rules in
    let t1 = g.S.Store.objects c.put_next.new.store in
    let new = c.follow.new.self in
    let answer = c.in-Ok.answer in
    let took = subst (λ (f : Follower). IfSome t1 (λ o. TakesUnder o n.next (record f { lease = Some n.taken }) (unleased new) answer)) c.self.view_is c.in-Ok.ensures.taken in
    put-takes plan n.next n.taken gives c.args.self.now new answer (Some n.taken) c.in-Ok.ensures.asked.5 c.in-Ok.ensures.kept took

pub returns-in-Ok-clause-free : goal.returns-in-Ok-clause-free
returns-in-Ok-clause-free g c =
    let n = c.in_ok-next in
    let l = c.args.lease.now in
    let plan = leased l.lifetime (to_write (Some l.id) (Some l.lifetime) c.args.moment c.args.latest.now) in
    let gives : plan ≡ Ok (Some n.next, n.taken) = search rules in
    let is_put : c.in_ok-is_put.is_put ≡ true = search rules in
    unstanding plan n.next n.taken gives (g.S.Store.objects c.args.store.now) (c.in_ok-is_put.ensures.free (ap Ok is_put))

pub returns-in-Err-clause-puts : goal.returns-in-Err-clause-puts
returns-in-Err-clause-puts g c =
    let n = c.in_ok-next in
    let l = c.args.lease.now in
    let b = c.in-Err.ensures in
    let e = poll_error c.in-Err.error in
    let plan = leased l.lifetime (to_write (Some l.id) (Some l.lifetime) c.args.moment c.args.latest.now) in
    let gives : plan ≡ Ok (Some n.next, n.taken) = search rules in
    let is_put : c.in_ok-is_put.is_put ≡ true = search rules in
    let puts = subst (λ b. WhereModelled (PutsManifest n.next (Ok b)) (g.S.Store.objects c.args.store.now) (g.S.Store.objects c.put_next.new.store)) is_put c.in_ok-is_put.ensures.puts in
    let of = poll-polling c.in-Err.error b.refusals in
    let all = broken-by MayLack plan c.args.self.now.lease n.next n.taken gives b.kept puts {A = PollAnswer} e of (λ o. polling-cause plan o e of) in
    let same : c.follow.new.self.lease ≡ Some n.taken = ap (λ (f : Follower). f.lease) b.failed in
    rw (c.poll_error.ensures, same) all

pub returns-in-Err-clause-faults : goal.returns-in-Err-clause-faults
returns-in-Err-clause-faults g c =
    rw c.poll_error.ensures
    (poll-counts PollAnswer (Option Kept) c.in-Err.error (g.S.Store.faults c.args.store.now) (g.S.Store.faults c.put_next.new.store) (g.S.Store.faults c.follow.new.store) c.in_ok-is_put.ensures.faults.stays c.in-Err.ensures.faults)

pub returns-in-Err-clause-kind : goal.returns-in-Err-clause-kind
returns-in-Err-clause-kind g c = rw c.poll_error.ensures (rebuilding-polling c.in-Err.error c.in-Err.ensures.refusals)

pub returns-in-Err-clause-lacks : goal.returns-in-Err-clause-lacks
returns-in-Err-clause-lacks g c x lawful is =
    let n = c.in_ok-next in
    let l = c.args.lease.now in
    let t = g.S.Store.objects c.args.store.now in
    let t1 = g.S.Store.objects c.put_next.new.store in
    let plan = leased l.lifetime (to_write (Some l.id) (Some l.lifetime) c.args.moment c.args.latest.now) in
    let gives : plan ≡ Ok (Some n.next, n.taken) = search rules in
    let is_put : c.in_ok-is_put.is_put ≡ true = search rules in
    let puts = subst (λ b. WhereModelled (PutsManifest n.next (Ok b)) t t1) is_put c.in_ok-is_put.ensures.puts in
    let key = poll-key c.in-Err.error c.in-Err.ensures.refusals (sym c.poll_error.ensures ∙ err-same (Option Kept) c.poll_error.result InvalidDBState is) in
    let lacks = subst (λ (f : Follower). IfSome t1 (λ o. TakingLacks x o n.next f)) c.self.view_is (c.in-Err.ensures.lacks x key.0 lawful (ap Err key.1)) in
    put-lacks x plan c.args.self.now n.next n.taken gives t t1 puts lacks

pub returns-in-Ok-clause-calls : goal.returns-in-Ok-clause-calls
returns-in-Ok-clause-calls g c =
    let n = c.in_ok-next in
    let l = c.args.lease.now in
    let t = g.S.Store.objects c.args.store.now in
    let t1 = g.S.Store.objects c.put_next.new.store in
    let plan = leased l.lifetime (to_write (Some l.id) (Some l.lifetime) c.args.moment c.args.latest.now) in
    let gives : plan ≡ Ok (Some n.next, n.taken) = search rules in
    let is_put : c.in_ok-is_put.is_put ≡ true = search rules in
    let puts = subst (λ b. WhereModelled (PutsManifest n.next (Ok b)) t t1) is_put c.in_ok-is_put.ensures.puts in
    let held : c.self.inside.lease ≡ Some l = ap (λ (f : Follower). f.lease) c.self.view_is ∙ c.requires.leased in
    let managed = ap (λ (f : Follower). f.mode) (sym c.self.view_is) ∙ mode-leased c.self.inside.following.mode c.self.inside.lease l c.self.invariant.leased held in
    let n1 = g.S.Store.calls c.args.store.now in
    let n2 = g.S.Store.calls c.put_next.new.store in
    let n3 = g.S.Store.calls c.follow.new.store in
    let more = subst (λ (f : Follower). IfSome t1 (λ o. n3 ≤ n2 + (new_logs f n.next o + 1))) c.self.view_is c.in-Ok.ensures.calls in
    replaced-calls (Some l.id) l.lifetime c.args.moment c.args.latest.now n.next n.taken gives t t1 puts c.args.self.now managed n1 n2 n3 c.in_ok-is_put.ensures.calls more

pub returns-in-Err-clause-calls : goal.returns-in-Err-clause-calls
returns-in-Err-clause-calls g c =
    let n = c.in_ok-next in
    let l = c.args.lease.now in
    let t = g.S.Store.objects c.args.store.now in
    let t1 = g.S.Store.objects c.put_next.new.store in
    let plan = leased l.lifetime (to_write (Some l.id) (Some l.lifetime) c.args.moment c.args.latest.now) in
    let gives : plan ≡ Ok (Some n.next, n.taken) = search rules in
    let is_put : c.in_ok-is_put.is_put ≡ true = search rules in
    let puts = subst (λ b. WhereModelled (PutsManifest n.next (Ok b)) t t1) is_put c.in_ok-is_put.ensures.puts in
    let held : c.self.inside.lease ≡ Some l = ap (λ (f : Follower). f.lease) c.self.view_is ∙ c.requires.leased in
    let managed = ap (λ (f : Follower). f.mode) (sym c.self.view_is) ∙ mode-leased c.self.inside.following.mode c.self.inside.lease l c.self.invariant.leased held in
    let n1 = g.S.Store.calls c.args.store.now in
    let n2 = g.S.Store.calls c.put_next.new.store in
    let n3 = g.S.Store.calls c.follow.new.store in
    let more = subst (λ (f : Follower). IfSome t1 (λ o. n3 ≤ n2 + (new_logs f n.next o + 1))) c.self.view_is c.in-Err.ensures.calls in
    replaced-calls (Some l.id) l.lifetime c.args.moment c.args.latest.now n.next n.taken gives t t1 puts c.args.self.now managed n1 n2 n3 c.in_ok-is_put.ensures.calls more

pub returns-in-Ok-clause-truncates : goal.returns-in-Ok-clause-truncates
returns-in-Ok-clause-truncates g c =
    let n = c.in_ok-next in
    let t = g.S.Store.objects c.args.store.now in
    let t1 = g.S.Store.objects c.put_next.new.store in
    let new = c.follow.new.self in
    let answer = c.in-Ok.answer in
    let is_put : c.in_ok-is_put.is_put ≡ true = search rules in
    let puts = subst (λ b. WhereModelled (PutsManifest n.next (Ok b)) t t1) is_put c.in_ok-is_put.ensures.puts in
    let took = subst (λ (f : Follower). IfSome t1 (λ o. TakesUnder o n.next (record f { lease = Some n.taken }) (unleased new) answer)) c.self.view_is c.in-Ok.ensures.taken in
    put-truncates n.next (record c.args.self.now { lease = Some n.taken }) new answer t t1 puts took

-- the manifest that it goes by has the checkpoint of its lease
pub returns-in-Ok-clause-there : goal.returns-in-Ok-clause-there
returns-in-Ok-clause-there g c =
    let n = c.in_ok-next in
    let l = c.args.lease.now in
    let new = c.follow.new.self in
    let gives : leased l.lifetime (to_write (Some l.id) (Some l.lifetime) c.args.moment c.args.latest.now) ≡ Ok (Some n.next, n.taken) = search rules in
    let there = written-found (Some l.id) l.lifetime c.args.moment c.args.latest.now n.next n.taken gives in
    at-lease new.lease n.taken (λ (x : Lease). IsSome (found x.id new.view)) c.in-Ok.ensures.asked.3 (subst (λ (v : VersionedManifest). IsSome (found n.taken.id v)) (sym c.in-Ok.ensures.asked.5) there)
