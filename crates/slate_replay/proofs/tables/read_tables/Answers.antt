use Rattle.std.proofs.Common.{rules, arith, refl, ◌∙◌}
use Rattle.std.proofs.lemmas.Grind.{common_steps}
use Rattle.std.proofs.lemmas.Result.{err_from_is_err_and}
use Rattle.slate_replay.proofs.Reading.{each-by, each-more, joined-by, more-by, of-tables, unread-by}
use Rattle.slate_replay.proofs.tables.read_tables.Goals as goal

pub returns-clause-joined : goal.returns-clause-joined
returns-clause-joined g c = joined-by _ c.args.ids.now c.loop-id.id-index _ (omega arith) (let n = c.loop-id.invariant.count in omega (arith, n)) c.loop-id.invariant.tables

pub returns-clause-each : goal.returns-clause-each
returns-clause-each g c = each-by _ c.args.ids.now c.loop-id.id-index _ (omega arith) (let n = c.loop-id.invariant.count in omega (arith, n)) c.loop-id.invariant.each

pub returns-in_err-table-clause-missing : goal.returns-in_err-table-clause-missing
returns-in_err-table-clause-missing g c is =
    let p = err_from_is_err_and c.from_residual-in_err-table.result c.from_residual-in_err-table.ensures.1 in
    unread-by _ _ c.args.ids.now c.loop-id.id-index _ _ c.in_err-table.field-0.0 c.loop-id.invariant.kept (omega arith) refl c.in_err-table.ensures.found (let same = p.1 in let from = p.2 in cc)

pub returns-in_err-table-clause-refused : goal.returns-in_err-table-clause-refused
returns-in_err-table-clause-refused g c =
    let p = err_from_is_err_and c.from_residual-in_err-table.result c.from_residual-in_err-table.ensures.1 in
    rw (p.1, p.2) (of-tables c.in_err-table.field-0.0 c.in_err-table.ensures.refusals)

pub loop-id-preserved : goal.loop-id-preserved
loop-id-preserved g c =
    let i = c.loop-id.invariant in
    record {
      kept = c.read_table.ensures.kept ∙ i.kept;
      faults = let n = c.in_ok-table.ensures.counts.stays in omega (arith, n, i.faults);
      calls = let n = c.read_table.ensures.counts.call_count in omega (arith, n, i.calls);
      untouched = λ none. absurd (omega (arith, none));
      count = grind (arith, common_steps);
      tables = search (rules, more-by _ _ c.args.ids.now c.loop-id.id-index _ _ c.loop-id.tables.items c.in_ok-table.table i.kept (omega arith) refl c.in_ok-table.ensures.found i.tables);
      each = search (rules, each-more _ _ c.args.ids.now c.loop-id.id-index _ _ c.loop-id.tables.items c.in_ok-table.table i.kept (omega arith) refl c.in_ok-table.ensures.found i.each);
    }
