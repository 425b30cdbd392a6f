use Rattle.slate_writer.proofs.states.WriterState.store_as.Goals as goal

pub returns-in-MemTable-clause-stored : goal.returns-in-MemTable-clause-stored
returns-in-MemTable-clause-stored g c = rw c.in-MemTable.is c.store_in_table.ensures.stored

pub returns-in-Wal-clause-stored : goal.returns-in-Wal-clause-stored
returns-in-Wal-clause-stored g c = rw c.in-Wal.is c.store_in_log.ensures.stored
