-- What is read of a state that was published.
use Rattle.std.specs.Prelude.{◌≡◌, ◌++◌, List, Option}
use Rattle.slate_types.specs.declared.batches.Batch.{Batch}
use Rattle.slate_store.specs.Objects.{Objects}
use Rattle.slate_model.specs.Tables.{AreJoined}
use Rattle.slate_published.specs.Published.{Published}

-- the batches of its tables, and then those in its memory
abbrev pub published_rows : Option Objects → Published → List Batch → Type 0
published_rows objects state rows = (stored : List Batch) × AreJoined objects state.tables stored × (rows ≡ stored ++ state.memory)
