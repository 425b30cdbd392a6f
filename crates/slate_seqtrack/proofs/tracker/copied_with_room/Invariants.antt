use Rattle.std.specs.Vec.{vec_capacity}
use Rattle.std.proofs.Common.{◌≡◌, take}
use Rattle.slate_seqtrack.proofs.tracker.copied_with_room.Given as goal

abbrev pub invariant-loop-item : goal.invariant-loop-item
invariant-loop-item g l = (l.copy.items ≡ take l.item-index l.list.items) × (vec_capacity l.copy ≡ l.room)
