use Rattle.std.proofs.Common.{rules, ◌≡◌, ◌∙◌, Some, subst, sym}
use Rattle.slate_store.specs.Calls.{Finds}
use Rattle.slate_store.specs.Checkpoints.{checkpoint_id}
use Rattle.slate_store.specs.Objects.{Objects, entry_at}
use Rattle.slate_check.proofs.Judging.{latest-entry, pin-of}
use Rattle.slate_check.proofs.Lists.{known}
use Rattle.slate_check.proofs.checks.checkpoint_fault.Goals as goal

pub returns-then-id-latest-2-clause-found : goal.returns-then-id-latest-2-clause-found
returns-then-id-latest-2-clause-found g c o h of content =
    let cp = c.args.checkpoint.now in
    let id : cp.id ≡ checkpoint_id cp.manifest_id = search rules in
    let entry = subst (λ k. entry_at k o.manifests ≡ Some c.args.latest.now.manifest) (sym c.if-id-latest-2.true) (latest-entry o c.args.latest.now content.manifests content.is) in
    pin-of o c.args.latest.now cp c.args.latest.now.manifest content.is id c.if-id-latest.false entry content.line c.kept_fault.result (c.kept_fault.ensures.found o h of content.same)

pub returns-in-Ok-clause-found : goal.returns-in-Ok-clause-found
returns-in-Ok-clause-found g c o h of content =
    let cp = c.args.checkpoint.now in
    let id : cp.id ≡ checkpoint_id cp.manifest_id = search rules in
    let found = known (λ (o : Objects). Finds (entry_at cp.manifest_id o.manifests) c.read_manifest.result) (g.S.Store.objects c.args.store.now) o h c.read_manifest.ensures.found in
    let entry : entry_at cp.manifest_id o.manifests ≡ Some c.in-Ok.manifest = rw c.in-Ok.is at found in
    pin-of o c.args.latest.now cp c.in-Ok.manifest content.is id c.if-id-latest.false entry content.line c.kept_fault-in-Ok.result
    (c.kept_fault-in-Ok.ensures.found o (c.read_manifest.ensures.kept ∙ h) of content.same)
