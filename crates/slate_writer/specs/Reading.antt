-- The table of batches that a read goes through.
use Rattle.std.specs.Prelude.{List}
use Rattle.slate_types.specs.declared.batches.Batch.{Batch}
use Rattle.slate_writer.specs.declared.memories.Readable.{Readable}
use Rattle.slate_writer.specs.declared.memories.Readable.TheVariants.{Lent, Shared}

-- its batches
abbrev pub batches_of : Readable → List Batch
batches_of (Lent table) = table.now
batches_of (Shared table) = table
