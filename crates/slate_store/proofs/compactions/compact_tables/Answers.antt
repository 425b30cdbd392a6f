use Rattle.slate_store.proofs.Compacting.{compacted-keeps}
use Rattle.slate_store.proofs.compactions.compact_tables.Goals as goal

pub returns-clause-sound : goal.returns-clause-sound
returns-clause-sound g c = compacted-keeps _ _ _ _ c.compact.ensures.compacts
