use Rattle.std.proofs.Common.{◌≡◌, Some, Ok, Err, refl, rules, subst}
use Rattle.std.proofs.Math.Facts.{to_z-of_z}
use Rattle.std.specs.Int.{w64}
use Rattle.slate_store.specs.Checkpoints.{to_refresh}
use Rattle.slate_store.specs.declared.objects.VersionedManifest.{VersionedManifest}
use Rattle.slate_model.specs.Lease.{leased}
use Rattle.slate_follow.specs.Keeping.{GivesLease}
use Rattle.slate_follow.proofs.Answering.{turn-polling}
use Rattle.slate_follow.proofs.Renewing.{RenewsAt, at-lease, renews-failed, renews-none, renews-put}
use Rattle.slate_follow.proofs.Taken.{counts-then}
use Rattle.slate_follow.proofs.states.FollowerState.renew_taken.Goals as goal

pub returns-in_err-next-clause-puts : goal.returns-in_err-next-clause-puts
returns-in_err-next-clause-puts g c =
    let l = c.in-Some.taken in
    let m = c.args.moment in
    let view = c.args.self.now.view in
    let e = c.in_err-next.field-0.0 in
    let held : c.args.self.now.lease ≡ Some l = search rules in
    let viewed : c.manifest-view.result.now ≡ view = search rules in
    let gives = subst (λ (v : VersionedManifest). GivesLease (leased l.lifetime (to_refresh l.id l.lifetime m v)) (Err e)) viewed (subst (λ m. GivesLease (leased l.lifetime (to_refresh l.id l.lifetime m c.manifest-view.result.now)) (Err e)) (to_z-of_z {w = w64} {z = m} (search rules)) c.in_err-next.ensures) in
    let t = g.S.Store.objects c.args.store.now in
    let is : c.from_residual.result ≡ Err e = search rules in
    let all = at-lease c.args.self.now.lease l (RenewsAt m view (Err e) t t) held (renews-none m view l e t t refl gives) in
    rw is all

pub returns-in_err-put_next-clause-faults : goal.returns-in_err-put_next-clause-faults
returns-in_err-put_next-clause-faults g c =
    let e = c.in_err-put_next.field-0.0 in
    let is : c.from_residual-in_err-put_next.result ≡ Err e = search rules in
    let f = g.S.Store.faults c.args.store.now in
    rw is (counts-then f f (g.S.Store.faults c.put_next.new.store) e refl c.in_err-put_next.ensures.faults)

pub returns-in_err-put_next-clause-puts : goal.returns-in_err-put_next-clause-puts
returns-in_err-put_next-clause-puts g c =
    let l = c.in-Some.taken in
    let m = c.args.moment in
    let view = c.args.self.now.view in
    let e = c.in_err-put_next.field-0.0 in
    let n = c.in_ok-next in
    let held : c.args.self.now.lease ≡ Some l = search rules in
    let viewed : c.manifest-view.result.now ≡ view = search rules in
    let gives = subst (λ (v : VersionedManifest). GivesLease (leased l.lifetime (to_refresh l.id l.lifetime m v)) (Ok (n.next, n._same))) viewed (subst (λ m. GivesLease (leased l.lifetime (to_refresh l.id l.lifetime m c.manifest-view.result.now)) (Ok (n.next, n._same))) (to_z-of_z {w = w64} {z = m} (search rules)) n.ensures) in
    let t = g.S.Store.objects c.args.store.now in
    let t' = g.S.Store.objects c.put_next.new.store in
    let is : c.from_residual-in_err-put_next.result ≡ Err e = search rules in
    let all = at-lease c.args.self.now.lease l (RenewsAt m view (Err e) t t') held (renews-failed m view l n.next n._same gives e t t' c.in_err-put_next.ensures.puts) in
    rw is all

pub returns-in_err-put_next-clause-kind : goal.returns-in_err-put_next-clause-kind
returns-in_err-put_next-clause-kind g c =
    let is : c.from_residual-in_err-put_next.result ≡ Err c.in_err-put_next.field-0.0 = search rules in
    rw is (turn-polling c.in_err-put_next.field-0.0 c.in_err-put_next.ensures.kind)

pub returns-clause-puts : goal.returns-clause-puts
returns-clause-puts g c =
    let l = c.in-Some.taken in
    let m = c.args.moment in
    let view = c.args.self.now.view in
    let n = c.in_ok-next in
    let held : c.args.self.now.lease ≡ Some l = search rules in
    let viewed : c.manifest-view.result.now ≡ view = search rules in
    let gives = subst (λ (v : VersionedManifest). GivesLease (leased l.lifetime (to_refresh l.id l.lifetime m v)) (Ok (n.next, n._same))) viewed (subst (λ m. GivesLease (leased l.lifetime (to_refresh l.id l.lifetime m c.manifest-view.result.now)) (Ok (n.next, n._same))) (to_z-of_z {w = w64} {z = m} (search rules)) n.ensures) in
    let t = g.S.Store.objects c.args.store.now in
    let t' = g.S.Store.objects c.put_next.new.store in
    at-lease c.args.self.now.lease l (RenewsAt m view (Ok tt) t t') held (renews-put m view l n.next n._same gives tt c.in_ok-put_next.field-0 t t' c.in_ok-put_next.ensures.puts)
