use Rattle.std.proofs.Common.{rules, refl, arith}
use Rattle.slate_store.specs.Objects.{RemoveTable}
use Rattle.slate_store.proofs.Making.{one-more, one-refused}
use Rattle.slate_store.proofs.sweeps.remove_tables.Goals as goal

pub returns-in_err-remove_table-clause-made : goal.returns-in_err-remove_table-clause-made
returns-in_err-remove_table-clause-made g c =
    let i = c.loop-id.invariant in
    let all = one-refused (λ id. RemoveTable id) c.args.ids.now c.loop-id.id-index _ _ c.in_err-remove_table.field-0.0 c.loop-id-test.true refl i.removed c.in_err-remove_table.ensures.removed in
    search (rules, all)

pub loop-id-preserved : goal.loop-id-preserved
loop-id-preserved g c =
    let i = c.loop-id.invariant in
    let faults = c.in_ok-remove_table.ensures.counts.stays in
    let calls = c.in_ok-remove_table.ensures.counts.call_count in
    record {
      removed = one-more (λ id. RemoveTable id) c.args.ids.now c.loop-id.id-index _ _ c.loop-id-test.true refl i.removed c.in_ok-remove_table.ensures.removed;
      faults = omega (arith, i.faults, faults);
      calls = omega (arith, i.calls, calls);
    }
