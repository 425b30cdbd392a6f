-- Joining the tables of the latest manifest into one.
use Rattle.std.specs.Prelude.{◌≡◌, ℕ, ◌+◌, ◌<◌, ◌≤◌, ◌⊎◌, true, nat_lt, if◌then◌else◌, Contains, List, [], ◌∷◌, length, Option, Some, None, IfSome, Result, Ok, Err}
use Rattle.std.specs.List.{flat_map}
use Rattle.std.specs.Option.{option_map_or, option_to_list}
use Rattle.slate_types.specs.declared.store_errors.StoreFault.TheVariants.{NotFound, Unavailable}
use Rattle.slate_reads.specs.Index.{AreRising}
use Rattle.slate_store.specs.declared.objects.TableId.{TableId}
use Rattle.slate_store.specs.declared.objects.VersionedManifest.{VersionedManifest}
use Rattle.slate_store.specs.declared.refusals.StoreRefusal.{StoreRefusal}
use Rattle.slate_store.specs.declared.refusals.StoreRefusal.TheVariants.{LatestTransactionalObjectVersionMissing, Fenced, InvalidDBState, ObjectStoreError, TransactionalObjectVersionExists, NoMemory}
use Rattle.slate_store.specs.Changes.{after_part}
use Rattle.slate_store.specs.Content.{AreStored, table_batches}
use Rattle.slate_store.specs.Objects.{ChangeOf, Objects, ObjectsOf, PutManifest, PutTable, is_present, latest_manifest, table_at}
use Rattle.slate_store.specs.Refusals.{PartMade}

-- the tables with these ids, in order
abbrev pub tables_at : {L : Type 0} → ObjectsOf L → List TableId → List L
tables_at objects ids = flat_map (λ id. option_to_list (table_at id objects)) ids

-- the manifest after the latest one that names this table alone
abbrev pub with_table : TableId → VersionedManifest → VersionedManifest
with_table id latest = record { id = latest.id + 1; manifest = record latest.manifest { tables = id ∷ [] } }

-- one table or none is left as it is
abbrev pub compacted : TableId → VersionedManifest → VersionedManifest
compacted id latest = if nat_lt (length latest.manifest.tables) 2 then latest else with_table id latest

-- A compaction into the table with this id. `joined` gives what is known of tables that are joined.
module _ {L : Type 0} (joined : List L → L) (id : TableId) where
  abbrev pub compact_changes_by : ObjectsOf L → Option VersionedManifest → List (ChangeOf L)
  compact_changes_by objects None = []
  compact_changes_by objects (Some latest) =
      if nat_lt (length latest.manifest.tables) 2 then []
      else (PutTable id (joined (tables_at objects latest.manifest.tables)) ∷ PutManifest (with_table id latest).id (with_table id latest).manifest ∷ [])

  abbrev pub compact_changes : ObjectsOf L → List (ChangeOf L)
  compact_changes objects = compact_changes_by objects (latest_manifest objects)

-- this is the latest manifest, and a writer of this epoch may go on from it
abbrev pub MayCompact : {L : Type 0} → TableId → ObjectsOf L → VersionedManifest → Type 0
MayCompact id objects latest = (latest_manifest objects ≡ Some latest) × (latest.manifest.writer_epoch ≤ id.epoch)

-- The tables that a compaction joins are stored: those of the latest manifest, where it has two or more.
abbrev pub HasTablesToJoin : {L : Type 0} → ObjectsOf L → Type 0
HasTablesToJoin objects =
    IfSome (latest_manifest objects) (λ latest. 2 ≤ length latest.manifest.tables → AreStored objects latest.manifest.tables)

-- The most calls of the store that a compaction makes: it reads the latest manifest, and where that has two tables or more
-- each of them, and puts a table and a manifest.
abbrev pub compact_calls : {L : Type 0} → ObjectsOf L → ℕ
compact_calls objects = option_map_or (λ latest. if nat_lt (length latest.manifest.tables) 2 then 1 else (3 + length latest.manifest.tables)) (latest_manifest objects) 1

-- Why a compaction into the table with this id refuses, over a store that is modelled. InvalidDBState: there are tables
-- to join, and the manifest's id or the table's index is the greatest, or their batches don't come one after another.
abbrev pub CompactCause : TableId → Objects → StoreRefusal → Type 0
CompactCause id objects LatestTransactionalObjectVersionMissing = latest_manifest objects ≡ None
CompactCause id objects Fenced =
    (latest : VersionedManifest) × (latest_manifest objects ≡ Some latest) × (id.epoch < latest.manifest.writer_epoch)
CompactCause id objects InvalidDBState =
    (latest : VersionedManifest) × MayCompact id objects latest × (2 ≤ length latest.manifest.tables)
    × ((18446744073709551615 ≤ latest.id) ⊎ ((18446744073709551615 ≤ id.index) ⊎ (AreRising (table_batches objects latest.manifest.tables) → ⊥)))
CompactCause id objects (ObjectStoreError NotFound) =
    (latest : VersionedManifest) × (missing : TableId) × (latest_manifest objects ≡ Some latest)
    × Contains latest.manifest.tables missing × (table_at missing objects ≡ None)
CompactCause id objects TransactionalObjectVersionExists =
    (latest : VersionedManifest) × (latest_manifest objects ≡ Some latest)
    × ((is_present (PutTable id []) objects ≡ true) ⊎ (is_present (PutManifest (latest.id + 1) latest.manifest) objects ≡ true))
CompactCause id objects (ObjectStoreError Unavailable) = Unit {0}
CompactCause id objects NoMemory = Unit {0}
CompactCause id objects refusal = ⊥

abbrev pub CompactAnswer : TableId → Objects → Result VersionedManifest StoreRefusal → Type 0
CompactAnswer id objects (Ok manifest) = (latest : VersionedManifest) × MayCompact id objects latest × (manifest ≡ compacted id latest)
CompactAnswer id objects (Err refusal) = CompactCause id objects refusal

-- A compaction by a writer of this epoch, whose count of tables it raises where it puts one.
pub record Compacts (epoch index index' : ℕ) (objects : Objects) (result : Result VersionedManifest StoreRefusal) (made : ℕ) (objects' : Objects) : Type 0 where
  pub answer : CompactAnswer (record { epoch = epoch; index = index }) objects result
  pub part : PartMade result (length (compact_changes (flat_map (λ batches. batches)) (record { epoch = epoch; index = index }) objects)) made
  pub counted : (index' ≡ index) ⊎ (index' ≡ index + 1)
  pub raised : index' ≡ index + 1 → (latest : VersionedManifest) × MayCompact (record { epoch = epoch; index = index }) objects latest × (2 ≤ length latest.manifest.tables)
  pub used : 0 < made → index' ≡ index + 1
  pub free : 0 < made → table_at (record { epoch = epoch; index = index }) objects ≡ None
  pub after : objects' ≡ after_part made (compact_changes (flat_map (λ batches. batches)) (record { epoch = epoch; index = index }) objects) objects
