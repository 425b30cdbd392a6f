use Rattle.std.proofs.Common.{◌∙◌, sym, ap, length}
use Rattle.std.proofs.lemmas.List.{map-id}
use Rattle.std.proofs.lemmas.Iterator.Adapters.{YieldsList-from_vec}
use Rattle.std.proofs.lemmas.Iterator.Consumers.{YieldsList-end}
use Rattle.slate_rows.proofs.Passing.{AreKept-made}
use Rattle.slate_rows.proofs.iterators.DbIterator.of_rows.Goals as goal

pub invariant_of-result : goal.invariant_of-result
invariant_of-result c =
    let rows = c.into_vec-row-items in
    let given = c.into_iter-row-iterator.ensures.into_iter_gives in
    let all = YieldsList-end (YieldsList-from_vec c.args.rows (given.0 ∙ rows.ensures) (given.1 ∙ rows.result.ok.0 ∙ ap length rows.ensures)) c.loop-row.yielded c.loop-row.row-iterator c.loop-row.yielded_by c.next.result c.next.new.self c.in-None.is c.next.ensures.steps in
    AreKept-made c.args.order c.loop-row.kept.items c.args.rows c.loop-row.invariant.copies (c.loop-row.invariant.rows ∙ sym (map-id c.loop-row.yielded) ∙ all.0) c.requires.in_order
