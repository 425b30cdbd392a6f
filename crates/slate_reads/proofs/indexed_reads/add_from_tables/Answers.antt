use Rattle.std.proofs.Common.{sym, ◌∙◌, ap, subst, ◌++◌, false}
use Rattle.std.specs.List.{flat_map}
use Rattle.std.proofs.lemmas.List.{append-nil, nil_from_length}
use Rattle.slate_reads.specs.Tails.{IsEnd}
use Rattle.slate_reads.specs.Read.{history}
use Rattle.slate_reads.proofs.Ends.{tables-last, IsEnd-ended}
use Rattle.slate_reads.proofs.indexed_reads.add_from_tables.Goals as goal

pub returns-then-branch : goal.returns-then-branch
returns-then-branch g c whole rest end =
    let key = c.args.key.now in
    let batches = g.T.Indexed.batches in
    let last = tables-last batches c.loop-table.left.now c.in-Some.earlier.now c.in-Some.table.now c.args.bound key rest c.in-Some.ensures.cases.0 in
    let before = rest ++ history (flat_map batches c.in-Some.earlier.now) c.args.bound key in
    let here = subst (λ table. IsEnd key whole (before ++ history table c.args.bound key) false c.loop-table.newest.items) (sym c.as_indexed.ensures) (subst (λ vs. IsEnd key whole vs false c.loop-table.newest.items) last (c.loop-table.invariant whole rest end)) in
    let taken = c.in_ok-add_from_table.ensures whole before here in
    IsEnd-ended key whole before rest c.add_from_table.new.newest.items (subst (λ ended. IsEnd key whole before ended c.add_from_table.new.newest.items) c.if-branch.true taken)

pub loop-table-preserved : goal.loop-table-preserved
loop-table-preserved g c whole rest end =
    let key = c.args.key.now in
    let batches = g.T.Indexed.batches in
    let last = tables-last batches c.loop-table.left.now c.in-Some.earlier.now c.in-Some.table.now c.args.bound key rest c.in-Some.ensures.cases.0 in
    let before = rest ++ history (flat_map batches c.in-Some.earlier.now) c.args.bound key in
    let here = subst (λ table. IsEnd key whole (before ++ history table c.args.bound key) false c.loop-table.newest.items) (sym c.as_indexed.ensures) (subst (λ vs. IsEnd key whole vs false c.loop-table.newest.items) last (c.loop-table.invariant whole rest end)) in
    let taken = c.in_ok-add_from_table.ensures whole before here in
    subst (λ ended. IsEnd key whole before ended c.add_from_table.new.newest.items) c.if-branch.false taken

pub returns : goal.returns
returns g c whole rest end =
    let none = nil_from_length c.loop-table.left.now c.in_default.ensures.cases in
    subst (λ vs. IsEnd c.args.key.now whole vs false c.loop-table.newest.items)
    (ap (λ left. rest ++ history (flat_map g.T.Indexed.batches left) c.args.bound c.args.key.now) none ∙ append-nil rest)
    (c.loop-table.invariant whole rest end)
