-- The batches that a handle keeps in memory, as they are held, and what a read goes through.
use Rattle.std.specs.Prelude.{◌≤◌, List, length, drop}
use Rattle.slate_types.specs.declared.batches.Batch.{Batch}
use Rattle.slate_writer.specs.declared.memories.Held.{Held}
use Rattle.slate_writer.specs.declared.memories.Held.TheVariants.{Growing, Frozen}

-- the batches that are held: all of a table that grows, and of one that is frozen those after the first that were dropped
abbrev pub held_batches : Held → List Batch
held_batches (Growing table) = table
held_batches (Frozen table gone) = drop gone table

-- no more were dropped than there were
abbrev pub IsHeld : Held → Type 0
IsHeld (Growing table) = Unit {0}
IsHeld (Frozen table gone) = gone ≤ length table
