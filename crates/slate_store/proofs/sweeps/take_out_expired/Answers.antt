use Rattle.std.proofs.Common.{rules, ◌≡◌, true}
use Rattle.std.proofs.lemmas.Result.{err_from_is_err_and}
use Rattle.slate_store.specs.Sweeps.{has_expired, without_expired}
use Rattle.slate_store.proofs.Expiring.{expiry-refused}
use Rattle.slate_store.proofs.sweeps.take_out_expired.Goals as goal

pub returns-in_err-put_manifest-clause-takes_out : goal.returns-in_err-put_manifest-clause-takes_out
returns-in_err-put_manifest-clause-takes_out g c =
    let gives : (has_expired c.args.moment c.args.latest.now ≡ true) × (c.in-Some.next ≡ without_expired c.args.moment c.args.latest.now) = search rules in
    let p = err_from_is_err_and c.from_residual-in_err-put_manifest.result c.from_residual-in_err-put_manifest.ensures.1 in
    rw (p.1, p.2) (expiry-refused c.args.moment c.args.latest.now c.in-Some.next gives.0 gives.1 c.in_err-put_manifest.field-0.0 c.in_err-put_manifest.ensures.put)
