use Rattle.std.proofs.Common.{◌∙◌, length, ap, arith, subst, sym}
use Rattle.slate_types.specs.Line.{AreNumberedFrom, batches_above}
use Rattle.slate_model.specs.Segments.{segments_of}
use Rattle.slate_follow.proofs.Above.{above-twice, numbered-above}
use Rattle.slate_follow.proofs.takings.taking_anew.Goals as goal

pub overflow_add-number : goal.overflow_add-number
overflow_add-number g c =
    let n = c.requires.numbered in
    let l = c.args.tabled in
    let are = numbered-above n.0 l c.args.fresh c.drop_through.new.self n.1 n.3 n.4 c.drop_through.ensures in
    let ends = are.1 in
    let fits = n.2 in
    let few = ap length c.batches.ensures.value in
    omega (arith, ends, fits, few)

pub invariant_of-result : goal.invariant_of-result
invariant_of-result g c =
    let n = c.requires.numbered in
    let l = c.args.tabled in
    let are = numbered-above n.0 l c.args.fresh c.drop_through.new.self n.1 n.3 n.4 c.drop_through.ensures in
    let ends = are.1 in
    let fits = n.2 in
    let few = ap length c.batches.ensures.value in
    let same = c.in_ok-tables.ensures.same in
    let count = ap length same in
    record {
      filled = c.in_ok-tables.ensures.filled;
      numbered = subst (AreNumberedFrom l) (sym same) are.0;
      fits = omega (arith, count, ends, fits);
      number = omega (arith, count, few);
    }

pub returns-clause-segments : goal.returns-clause-segments
returns-clause-segments g c x lawful =
    let l = c.args.tabled in
    let cut = c.drop_through.ensures in
    let twice = ap (batches_above l) (c.in_ok-tables.ensures.same ∙ cut) ∙ above-twice l l c.args.fresh (omega arith) in
    c.of.ensures ∙ ((c.in_ok-segments.ensures.ok x lawful).1 ∙ ap (segments_of x) (c.batches-2.ensures.value ∙ (cut ∙ sym twice)))
