use Rattle.std.proofs.Common.{rules, refl, arith, get_or}
use Rattle.slate_store.specs.Objects.{RemoveManifest}
use Rattle.slate_store.proofs.Making.{one-more, one-refused}
use Rattle.slate_store.proofs.sweeps.remove_manifests.Goals as goal

pub returns-in_err-remove_manifest-clause-made : goal.returns-in_err-remove_manifest-clause-made
returns-in_err-remove_manifest-clause-made g c =
    let i = c.loop-id.invariant in
    let all = one-refused (λ id. RemoveManifest id) c.args.ids.now c.loop-id.id-index 0 (get_or c.args.ids.now c.loop-id.id-index 0) c.in_err-remove_manifest.field-0.0 c.loop-id-test.true refl i.removed c.in_err-remove_manifest.ensures.removed in
    search (rules, all)

pub loop-id-preserved : goal.loop-id-preserved
loop-id-preserved g c =
    let i = c.loop-id.invariant in
    let faults = c.in_ok-remove_manifest.ensures.counts.stays in
    let calls = c.in_ok-remove_manifest.ensures.counts.call_count in
    record {
      removed = one-more (λ id. RemoveManifest id) c.args.ids.now c.loop-id.id-index 0 (get_or c.args.ids.now c.loop-id.id-index 0) c.loop-id-test.true refl i.removed c.in_ok-remove_manifest.ensures.removed;
      faults = omega (arith, i.faults, faults);
      calls = omega (arith, i.calls, calls);
    }
