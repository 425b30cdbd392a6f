use Rattle.std.proofs.Common.{◌≡◌, false, true, Some, Ok, Err, refl, rules, ap, subst}
use Rattle.slate_types.specs.Modelled.{WhereModelled}
use Rattle.slate_store.specs.Checkpoints.{to_refresh}
use Rattle.slate_model.specs.Lease.{leased}
use Rattle.slate_model.specs.Managed.{unrefused}
use Rattle.slate_follow.specs.Keeping.{PutsManifest}
use Rattle.slate_follow.proofs.Answering.{turn-polling}
use Rattle.slate_follow.proofs.Planned.{failed-by, put-by, unput-by, unstanding}
use Rattle.slate_follow.proofs.states.FollowerState.renew_lease.Goals as goal

pub returns-in_err-is_put-clause-puts : goal.returns-in_err-is_put-clause-puts
returns-in_err-is_put-clause-puts g c =
    let n = c.in_ok-next in
    let l = c.args.lease.now in
    let plan = leased l.lifetime (to_refresh l.id l.lifetime c.args.moment c.args.latest.now) in
    let gives : plan ≡ Ok (Some n.next, n.taken) = search rules in
    let all = failed-by unrefused plan c.args.self.now.lease n.next n.taken gives {A = Unit {0}} c.in_err-is_put.field-0.0 c.in_err-is_put.ensures.puts in
    let is : c.from_residual-in_err-is_put.result ≡ Err c.in_err-is_put.field-0.0 = search rules in
    rw is all

pub returns-then-not-is_put-clause-puts : goal.returns-then-not-is_put-clause-puts
returns-then-not-is_put-clause-puts g c =
    let n = c.in_ok-next in
    let l = c.args.lease.now in
    let plan = leased l.lifetime (to_refresh l.id l.lifetime c.args.moment c.args.latest.now) in
    let gives : plan ≡ Ok (Some n.next, n.taken) = search rules in
    let is_put : c.in_ok-is_put.is_put ≡ false = search rules in
    let all = unput-by unrefused plan c.args.self.now.lease n.next n.taken gives {A = Unit {0}} (subst (λ b. WhereModelled (PutsManifest n.next (Ok b)) (g.S.Store.objects c.args.store.now) (g.S.Store.objects c.put_next.new.store)) is_put c.in_ok-is_put.ensures.puts) in
    search (rules, all)

pub returns-clause-puts : goal.returns-clause-puts
returns-clause-puts g c =
    let n = c.in_ok-next in
    let l = c.args.lease.now in
    let plan = leased l.lifetime (to_refresh l.id l.lifetime c.args.moment c.args.latest.now) in
    let gives : plan ≡ Ok (Some n.next, n.taken) = search rules in
    let is_put : c.in_ok-is_put.is_put ≡ true = search rules in
    let all = put-by unrefused plan c.args.self.now.lease n.next n.taken gives refl (subst (λ b. WhereModelled (PutsManifest n.next (Ok b)) (g.S.Store.objects c.args.store.now) (g.S.Store.objects c.put_next.new.store)) is_put c.in_ok-is_put.ensures.puts) {A = Unit {0}} tt in
    search (rules, all)

pub returns-in_err-is_put-clause-kind : goal.returns-in_err-is_put-clause-kind
returns-in_err-is_put-clause-kind g c =
    let is : c.from_residual-in_err-is_put.result ≡ Err c.in_err-is_put.field-0.0 = search rules in
    rw is (turn-polling c.in_err-is_put.field-0.0 c.in_err-is_put.ensures.kind)

pub returns-clause-free : goal.returns-clause-free
returns-clause-free g c = λ put.
    let n = c.in_ok-next in
    let l = c.args.lease.now in
    let plan = leased l.lifetime (to_refresh l.id l.lifetime c.args.moment c.args.latest.now) in
    let gives : plan ≡ Ok (Some n.next, n.taken) = search rules in
    let is_put : c.in_ok-is_put.is_put ≡ true = search rules in
    unstanding plan n.next n.taken gives (g.S.Store.objects c.args.store.now) (c.in_ok-is_put.ensures.free (ap Ok is_put))
