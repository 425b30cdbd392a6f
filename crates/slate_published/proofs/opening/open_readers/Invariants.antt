use Rattle.std.proofs.Common.{◌≡◌, All, Some, drop, length}
use Rattle.left_right.specs.Sides.{view}
use Rattle.slate_published.specs.Copies.{AreOfOrigin}
use Rattle.slate_published.proofs.opening.open_readers.Given as goal

abbrev pub invariant-loop : goal.invariant-loop
invariant-loop l =
    (view l.copies.desk.place ≡ Some l.empty.origin)
    × AreOfOrigin l.empty.origin l.copies.desk.shown.value (drop l.copies.behind l.copies.log.items)
    × (length l.readers.items ≡ l.counter)
    × All (λ reader. reader ≡ l.empty) l.readers.items
