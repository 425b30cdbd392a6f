use Rattle.std.proofs.Common.{rules, arith, refl, Err, ap, subst, sym, ◌∙◌, ◌++◌}
use Rattle.slate_store.specs.Steps.{AddsBatches}
use Rattle.slate_store.proofs.Joining.{batches-more, both-known, stored-more, unadded, unread}
use Rattle.slate_store.proofs.compactions.join_tables.Goals as goal

pub returns-in_err-table-clause-joins : goal.returns-in_err-table-clause-joins
returns-in_err-table-clause-joins g c =
    let i = c.loop-id.invariant in
    let all = both-known _ _ i.kept i.joined c.in_err-table.ensures.found
    (λ o so_far found. unread c.args.ids.now c.loop-id.id-index _ _ c.in_err-table.field-0.0 o (omega arith) refl found) in
    search (rules, all)

pub returns-in_err-add_copies-clause-joins : goal.returns-in_err-add_copies-clause-joins
returns-in_err-add_copies-clause-joins g c =
    let i = c.loop-id.invariant in
    let all = both-known _ _ i.kept i.joined c.in_ok-table.ensures.found
    (λ o so_far found. unadded c.args.ids.now c.loop-id.id-index _ _ c.loop-id.joined c.in_ok-table.table c.add_copies.new.table c.in_err-add_copies.field-0.0 o (omega arith) refl so_far found (subst (λ xs. AddsBatches c.loop-id.joined xs (Err c.in_err-add_copies.field-0.0) c.add_copies.new.table) c.batches.ensures.value c.in_err-add_copies.ensures)) in
    search (rules, all)

pub loop-id-preserved : goal.loop-id-preserved
loop-id-preserved g c =
    let i = c.loop-id.invariant in
    record {
      kept = c.read_table.ensures.kept ∙ i.kept;
      faults = let n = c.in_ok-table.ensures.counts.stays in omega (arith, n, i.faults);
      calls = let n = c.read_table.ensures.counts.call_count in omega (arith, n, i.calls);
      stored = both-known _ _ i.kept i.stored c.in_ok-table.ensures.found
          (λ o so_far found. stored-more o c.args.ids.now c.loop-id.id-index _ _ c.in_ok-table.table (omega arith) refl found so_far);
      joined = both-known _ _ i.kept i.joined c.in_ok-table.ensures.found
          (λ o so_far found. let added = rw c.batches.ensures.value at c.in_ok-add_copies.ensures in added ∙ (ap (λ xs. xs ++ c.in_ok-table.table) so_far ∙ sym (batches-more o c.args.ids.now c.loop-id.id-index _ _ c.in_ok-table.table (omega arith) refl found)));
    }
