use Rattle.std.proofs.Common.{◌≡◌, sym, ap, subst, true, ◌++◌, []}
use Rattle.std.specs.List.{AllByRecursion, flat_map}
use Rattle.std.proofs.lemmas.Result.{IfOk-weaker}
use Rattle.slate_types.specs.Range.{contains}
use Rattle.slate_rows.specs.Ahead.{all_ahead, AreEach}
use Rattle.slate_rows.specs.Walked.{AreWalked}
use Rattle.slate_rows.proofs.Limited.{IsScanFront-from_ahead, IsScanFront-begun}
use Rattle.slate_rows.proofs.Walks.{AreWalked-begun}
use Rattle.slate_rows.proofs.first_scans.scan_first.Goals as goal

pub of_rows-requires-clause-in_range : goal.of_rows-requires-clause-in_range
of_rows-requires-clause-in_range g c =
    let walks = c.new-walks.result.items in
    let begun = c.in_ok-add_walks.ensures.walked [] (AreWalked-begun c.args.range.now (all_ahead c.args.order walks) (ap (all_ahead c.args.order) c.new-walks.ensures.items)) in
    let walked = c.in_ok-add_walks-2.ensures.walked (flat_map (λ table. table) c.args.stored.now) begun in
    let each = c.in_ok-add_walks-2.ensures.each (c.in_ok-add_walks.ensures.each (subst (AreEach c.args.order) (sym c.new-walks.ensures.items) tt)) in
    let held = sym c.as_mut_slice-walks.ensures.value in
    rw (c.of.ensures, c.in_ok-clone.ensures.cases)
    (c.in_ok-rows.ensures.within (subst (AreEach c.args.order) held each) c.args.range.now
    (subst (λ ws. AllByRecursion (λ key. contains c.args.range.now key ≡ true) (all_ahead c.args.order ws)) held walked.within))

pub returns-clause-plain : goal.returns-clause-plain
returns-clause-plain g c merge lawful =
    let walks = c.new-walks.result.items in
    let begun = c.in_ok-add_walks.ensures.walked [] (AreWalked-begun c.args.range.now (all_ahead c.args.order walks) (ap (all_ahead c.args.order) c.new-walks.ensures.items)) in
    let walked = c.in_ok-add_walks-2.ensures.walked (flat_map (λ table. table) c.args.stored.now) begun in
    let each = c.in_ok-add_walks-2.ensures.each (c.in_ok-add_walks.ensures.each (subst (AreEach c.args.order) (sym c.new-walks.ensures.items) tt)) in
    let held = sym c.as_mut_slice-walks.ensures.value in
    let batches = flat_map (λ table. table) c.args.stored.now ++ flat_map (λ table. table) c.args.memory.now in
    let found = c.in_ok-rows.ensures.plain (subst (AreEach c.args.order) held each) merge lawful in
    let front = IsScanFront-from_ahead c.args.limit merge batches c.args.bound c.args.range.now c.args.order c.as_mut_slice-walks.result.now found.0 c.in_ok-rows.rows.items c.in_ok-rows.fault
    (subst (λ ws. AreWalked batches c.args.range.now (all_ahead c.args.order ws)) held walked) found.1 found.2 in
    IfOk-weaker c.of_rows.result _ _ (IsScanFront-begun c.args.limit merge _ _ _ _ _ _ _ _ c.of.ensures front) c.of_rows.ensures
