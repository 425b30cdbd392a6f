use Rattle.std.proofs.Common.{◌≡◌, take}
use Rattle.slate_transactions.specs.Writes.{after_writes}
use Rattle.slate_transactions.proofs.tracked_writes.TrackedWrites.note.Given as goal

abbrev pub invariant-loop-key_op : goal.invariant-loop-key_op
invariant-loop-key_op l = record {
  writes : l.self.writes ≡ after_writes l.number l.unmarked (take l.key_op-index l.ops) l.initial.self.writes;
  room : l.self.room ≡ l.initial.self.room;
}
