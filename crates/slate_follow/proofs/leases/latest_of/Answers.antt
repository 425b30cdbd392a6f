use Rattle.std.proofs.Common.{◌∙◌, Err, sym}
use Rattle.slate_store.specs.Refusals as calls
use Rattle.slate_store.specs.declared.objects.VersionedManifest.{VersionedManifest}
use Rattle.slate_errors.specs.declared.errors.SlateError.TheVariants.{EmptySegmentPrefix}
use Rattle.slate_follow.proofs.Rebuilt.{if_some, some_at}
use Rattle.slate_follow.proofs.Refused.{counts-refused, latest-found, latest-refused, latest-turn, never-key}
use Rattle.slate_follow.proofs.Refusing.{err-same}
use Rattle.slate_follow.proofs.leases.latest_of.Goals as goal

pub returns-in-Err-clause-faults : goal.returns-in-Err-clause-faults
returns-in-Err-clause-faults g c =
    let e = c.in-Err.refusal in
    rw c.error_of_refusal.ensures (counts-refused _ _ e (latest-found e c.in-Err.ensures.kind) c.in-Err.ensures.faults)

pub returns-in-Err-clause-found : goal.returns-in-Err-clause-found
returns-in-Err-clause-found g c =
    let e = c.in-Err.refusal in
    let t = g.S.Store.objects c.args.store.now in
    rw c.error_of_refusal.ensures (if_some t (λ o at. latest-refused o e (some_at (λ o. calls.FindsLatest o (Err e)) t o at c.in-Err.ensures.found)))

pub returns-in-Err-clause-whole : goal.returns-in-Err-clause-whole
returns-in-Err-clause-whole g c key is =
    never-key c.in-Err.refusal key (sym c.error_of_refusal.ensures ∙ err-same VersionedManifest c.error_of_refusal.result (EmptySegmentPrefix key) is)

pub returns-in-Err-clause-kind : goal.returns-in-Err-clause-kind
returns-in-Err-clause-kind g c = rw c.error_of_refusal.ensures (latest-turn c.in-Err.refusal c.in-Err.ensures.kind)
