use Rattle.std.proofs.Common.{◌≡◌, length}
use Rattle.slate_blobs.specs.Kept.{newest}
use Rattle.slate_blobs.proofs.kept_tables.KeptTables.make_room.Given as goal

-- the tables that are to be left are the same as at first
abbrev pub invariant-loop-self : goal.invariant-loop-self
invariant-loop-self l = record {
  left : newest l.room l.self.tables.items ≡ newest l.room l.fn.self.tables.items;
  bound : l.self.bound ≡ l.fn.self.bound;
}

abbrev pub decreases-loop-self : goal.decreases-loop-self
decreases-loop-self l = length l.self.tables.items
