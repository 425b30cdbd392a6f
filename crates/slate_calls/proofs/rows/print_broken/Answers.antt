use Rattle.std.specs.List.Sorted.{IsStrictlySortedBy}
use Rattle.slate_calls.proofs.rows.print_broken.Goals as goal

pub of_rows-made-requires-clause-in_order : goal.of_rows-made-requires-clause-in_order
unfolding IsStrictlySortedBy
of_rows-made-requires-clause-in_order c = rw (c.of-none.ensures, c.new.ensures.items) tt
