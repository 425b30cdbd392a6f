use Rattle.std.proofs.Common.{rules, refl}
use Rattle.slate_store.specs.Objects.{PutManifest, PutTable}
use Rattle.slate_store.proofs.Joining.{both-put, first-refused, second-refused}
use Rattle.slate_store.proofs.compactions.put_both.Goals as goal

pub returns-in_err-put_table-clause-puts : goal.returns-in_err-put_table-clause-puts
returns-in_err-put_table-clause-puts g c =
    let all = first-refused (PutTable c.args.id c.args.table.now) (PutManifest c.args.next.now.id c.args.next.now.manifest) c.in_err-put_table.field-0.0 c.in_err-put_table.ensures.put in
    search (rules, all)

pub returns-in_err-put_manifest-clause-puts : goal.returns-in_err-put_manifest-clause-puts
returns-in_err-put_manifest-clause-puts g c =
    let all = second-refused (PutTable c.args.id c.args.table.now) (PutManifest c.args.next.now.id c.args.next.now.manifest) c.in_ok-put_table.ensures.put (λ o. refl) c.in_err-put_manifest.field-0.0 c.in_err-put_manifest.ensures.put in
    search (rules, all)

pub returns-clause-puts : goal.returns-clause-puts
returns-clause-puts g c =
    let all = both-put (PutTable c.args.id c.args.table.now) (PutManifest c.args.next.now.id c.args.next.now.manifest) c.in_ok-put_table.ensures.put (λ o. refl) c.in_ok-put_manifest.ensures.put in
    search (rules, all)
