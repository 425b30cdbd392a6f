use Rattle.std.proofs.Common.{◌∙◌, Bool, Ok, Err, sym}
use Rattle.slate_types.proofs.Modelled.{modelled_as}
use Rattle.slate_errors.specs.declared.errors.SlateError.TheVariants.{EmptySegmentPrefix}
use Rattle.slate_model.specs.Refusal.{error_of_refusal}
use Rattle.slate_follow.specs.Keeping.{PutsManifest}
use Rattle.slate_follow.proofs.Refused.{counts-refused, latest-found, latest-turn, never-key, put-answered, put-refused, store-latest, store-undecided}
use Rattle.slate_follow.proofs.Refusing.{err-same}
use Rattle.slate_follow.proofs.leases.put_next.Goals as goal

pub returns-in-Ok-clause-puts : goal.returns-in-Ok-clause-puts
returns-in-Ok-clause-puts g c =
    let next = c.args.next.now in
    modelled_as (PutsManifest next (Ok c.in-Ok.is_put)) c.in-Ok.ensures.puts (λ o o' h. put-answered next c.in-Ok.is_put o o' h)

pub returns-in-Err-clause-faults : goal.returns-in-Err-clause-faults
returns-in-Err-clause-faults g c =
    let e = c.in-Err.refusal in
    rw c.error_of_refusal.ensures (counts-refused _ _ e (latest-found e (store-latest e c.in-Err.ensures.kind)) c.in-Err.ensures.faults)

pub returns-in-Err-clause-puts : goal.returns-in-Err-clause-puts
returns-in-Err-clause-puts g c =
    let e = c.in-Err.refusal in
    let next = c.args.next.now in
    rw c.error_of_refusal.ensures (modelled_as (PutsManifest next (Err (error_of_refusal e))) c.in-Err.ensures.puts (λ o o' h. put-refused next e o o' h))

pub returns-in-Err-clause-whole : goal.returns-in-Err-clause-whole
returns-in-Err-clause-whole g c key is =
    never-key c.in-Err.refusal key (sym c.error_of_refusal.ensures ∙ err-same Bool c.error_of_refusal.result (EmptySegmentPrefix key) is)

pub returns-in-Err-clause-kind : goal.returns-in-Err-clause-kind
returns-in-Err-clause-kind g c = rw c.error_of_refusal.ensures (latest-turn c.in-Err.refusal (store-latest c.in-Err.refusal c.in-Err.ensures.kind))

pub returns-in-Err-clause-undecided : goal.returns-in-Err-clause-undecided
returns-in-Err-clause-undecided g c = rw c.error_of_refusal.ensures (store-undecided c.in-Err.refusal c.in-Err.ensures.kind)
