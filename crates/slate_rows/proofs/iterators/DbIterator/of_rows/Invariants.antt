use Rattle.std.proofs.Common.{◌≡◌}
use Rattle.slate_rows.specs.Kept.{kept_rows, AreCopies}
use Rattle.slate_rows.proofs.iterators.DbIterator.of_rows.Given as goal

abbrev pub invariant-loop-row : goal.invariant-loop-row
invariant-loop-row l = record { rows : kept_rows l.kept.items ≡ l.yielded; copies : AreCopies l.kept.items }
