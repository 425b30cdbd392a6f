use Rattle.std.proofs.Common.{◌≡◌, ◌<◌, ℕ, true, get_or}
use Rattle.slate_types.specs.declared.batches.KeyOp.{KeyOp}
use Rattle.slate_transactions.specs.Writes.{is_among}
use Rattle.slate_transactions.proofs.tracked_writes.TrackedWrites.make_room.Given as goal

abbrev pub invariant-loop-key_op : goal.invariant-loop-key_op
invariant-loop-key_op l = record {
  same : l.self.writes ≡ l.initial.self.writes;
  room : (k : ℕ) (d : KeyOp) → k < l.key_op-index → is_among l.self.room (get_or l.ops k d).key ≡ true;
}
