use Rattle.std.proofs.Common.{arith, ◌∙◌, sym}
use Rattle.slate_blobs.proofs.Kept.{newest-all}
use Rattle.slate_blobs.proofs.kept_tables.KeptTables.make_room.Goals as goal

pub returns-clause-tables : goal.returns-clause-tables
returns-clause-tables c = sym (newest-all _ c.loop-self.self.tables.items (omega arith)) ∙ c.loop-self.invariant.left
