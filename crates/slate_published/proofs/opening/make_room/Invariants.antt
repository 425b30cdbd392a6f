use Rattle.std.proofs.Common.{◌≡◌, drop}
use Rattle.slate_published.specs.Copies.{AreOfOrigin}
use Rattle.slate_published.proofs.opening.make_room.Given as goal

abbrev pub invariant-loop : goal.invariant-loop
invariant-loop l =
    (l.copies.desk ≡ l.initial.copies.desk) × AreOfOrigin l.empty.origin l.copies.desk.shown.value (drop l.copies.behind l.copies.log.items)
