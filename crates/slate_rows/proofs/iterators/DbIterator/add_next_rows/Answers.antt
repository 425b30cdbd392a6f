use Rattle.std.proofs.Common.{◌∙◌, sym, ap, Ok}
use Rattle.slate_rows.proofs.Taking.{taken_next}
use Rattle.slate_rows.proofs.iterators.DbIterator.add_next_rows.Goals as goal

pub rows-preserved : goal.rows-preserved
rows-preserved c =
    let next = sym c.next.ensures.answer ∙ c.in-Ok-Some.is ∙ ap Ok c.in-Ok-Some.field-0-is in
    let taken = taken_next c.rows.self c.next.new.self c.in-Ok-Some.row c.args.count c.rows.counter c.rows.list.items c.push.new.self.items c.rows-test.true
    next c.next.ensures.after (rw c.in_ok-push.was at c.push.ensures.items) in
    record { rows = taken.0 ∙ c.rows.invariant.rows; after = taken.1 ∙ c.rows.invariant.after }
