-- The tables of a manifest: when they are stored, and what they hold.
use Rattle.std.specs.Prelude.{◌≡◌, List, [], ◌∷◌, Option, Some, None}
use Rattle.slate_types.specs.declared.batches.Batch.{Batch}
use Rattle.slate_store.specs.declared.objects.TableId.{TableId}
use Rattle.slate_store.specs.Content.{table_batches}
pub use Rattle.slate_store.specs.Content.{AreStored}
use Rattle.slate_store.specs.Objects.{Objects}

-- These are the batches of these tables, joined in order, all of which are stored. No table has none; over a store that
-- isn't modelled others may have any.
abbrev pub AreJoined : Option Objects → List TableId → List Batch → Type 0
AreJoined objects [] batches = batches ≡ []
AreJoined None (id ∷ ids) batches = Unit {0}
AreJoined (Some o) (id ∷ ids) batches = AreStored o (id ∷ ids) × (batches ≡ table_batches o (id ∷ ids))
