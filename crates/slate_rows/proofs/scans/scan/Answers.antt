use Rattle.std.proofs.lemmas.Result.{IfOk-weaker}
use Rattle.slate_rows.proofs.Scanned.{within-moved, IsScan-from_held, IsScan-begun}
use Rattle.slate_rows.proofs.scans.scan.Goals as goal

pub of_rows-requires-clause-in_range : goal.of_rows-requires-clause-in_range
of_rows-requires-clause-in_range g c =
    rw (c.of.ensures, c.in_ok-clone.ensures.cases)
    (c.in_ok-rows.ensures.within c.args.range.now (rw c.as_slice.ensures.value (within-moved c.args.range.now _ _ c.in_ok-sort.ensures.moved c.in_ok-held.ensures.within)))

pub returns-clause-plain : goal.returns-clause-plain
returns-clause-plain g c merge lawful =
    let taken = c.in_ok-rows.ensures.plain c.args.order (rw c.as_slice.ensures.value c.in_ok-sort.ensures.sorted) merge lawful in
    let plain = IsScan-from_held merge c.args.batches.now c.args.bound c.args.range.now c.args.order _ _ c.in_ok-rows.rows.items c.in_ok-rows.fault
    c.in_ok-held.ensures c.in_ok-sort.ensures.moved c.in_ok-sort.ensures.sorted c.in_ok-sort.ensures.same (rw c.as_slice.ensures.value at taken) in
    IfOk-weaker c.of_rows.result _ _ (IsScan-begun merge _ _ _ _ _ _ _ _ c.of.ensures plain) c.of_rows.ensures
