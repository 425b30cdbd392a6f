-- What the steps of a compaction and of a sweep answer and leave.
use Rattle.std.specs.Prelude.{◌≡◌, ℕ, ℤ, ◌≤◌, ◌<◌, ◌⊎◌, ◌+◌, ◌++◌, [], ◌∷◌, true, Contains, List, length, map, Option, Some, None, IfSome, IfOk, IfErr, unwrap_or, false, Result, Ok, Err}
use Rattle.std.specs.List.{flat_map}
use Rattle.std.specs.Option.{option_to_list}
use Rattle.slate_types.specs.declared.batches.Batch.{Batch}
use Rattle.slate_types.specs.declared.store_errors.StoreFault.TheVariants.{NotFound}
use Rattle.slate_reads.specs.Index.{AreRising}
use Rattle.slate_store.specs.declared.objects.Checkpoint.{Checkpoint}
use Rattle.slate_store.specs.declared.objects.Listing.{Listing}
use Rattle.slate_store.specs.declared.objects.Manifest.{Manifest}
use Rattle.slate_store.specs.declared.objects.TableId.{TableId}
use Rattle.slate_store.specs.declared.objects.VersionedManifest.{VersionedManifest}
use Rattle.slate_store.specs.declared.refusals.StoreRefusal.{StoreRefusal}
use Rattle.slate_store.specs.declared.refusals.StoreRefusal.TheVariants.{InvalidDBState, ObjectStoreError, TransactionalObjectVersionExists, NoMemory}
use Rattle.slate_store.specs.Changes.{PartMadeBy, after_part}
use Rattle.slate_store.specs.Compaction.{CompactCause, MayCompact, with_table}
use Rattle.slate_store.specs.Content.{table_batches}
use Rattle.slate_store.specs.Objects.{Change, Objects, ObjectsOf, PutManifest, RemoveLog, RemoveManifest, RemoveTable, entry_at, is_present, latest_manifest, table_at}
use Rattle.slate_store.specs.Refusals.{IsOfStore, PartMade}
use Rattle.slate_store.specs.Sweeps.{SweepCause, expiries, has_expired, removals, without_expired}

-- Changes are made in their order: at Ok all of them, at any refusal some first ones.
abbrev pub Makes : {A E : Type 0} → List Change → Result A E → Objects → Objects → Type 0
Makes changes result objects objects' =
    (made : ℕ) × PartMadeBy (λ _. true) result (length changes) made × (objects' ≡ after_part made changes objects)

-- Batches are added to others that rise. They are refused where the numbers don't rise from one to the next.
abbrev pub AddsBatches : (batches added : List Batch) → Result (Unit {0}) StoreRefusal → List Batch → Type 0
AddsBatches batches added (Ok _) batches' = batches' ≡ batches ++ added
AddsBatches batches added (Err InvalidDBState) batches' = AreRising (batches ++ added) → ⊥
AddsBatches batches added (Err NoMemory) batches' = Unit {0}
AddsBatches batches added (Err refusal) batches' = ⊥

-- The tables with these ids are joined in this order, or one isn't stored, or their batches don't rise.
abbrev pub Joins : List TableId → Objects → Result (List Batch) StoreRefusal → Type 0
Joins ids objects (Ok joined) = joined ≡ table_batches objects ids
Joins ids objects (Err (ObjectStoreError NotFound)) = (missing : TableId) × Contains ids missing × (table_at missing objects ≡ None)
Joins ids objects (Err InvalidDBState) = AreRising (table_batches objects ids) → ⊥
Joins ids objects (Err refusal) = IsOfStore refusal

-- What a compaction into the table with this id is to put, or why it refuses: nothing where there are fewer than two
-- tables, and else the joined table, and the manifest that names it.
abbrev pub PlansJoin : TableId → Objects → Result (VersionedManifest × Option (List Batch)) StoreRefusal → Type 0
PlansJoin id objects (Ok (manifest, None)) = MayCompact id objects manifest × (length manifest.manifest.tables < 2)
PlansJoin id objects (Ok (manifest, Some table)) =
    (latest : VersionedManifest) × MayCompact id objects latest × (2 ≤ length latest.manifest.tables)
    × (manifest ≡ with_table id latest) × (table ≡ table_batches objects latest.manifest.tables)
PlansJoin id objects (Err refusal) = CompactCause id objects refusal

-- A table, under an id that is free, and then a manifest that names it are put. Where an object is there already, it is
-- one of the two.
pub record PutsBoth (table manifest : Change) (result : Result (Unit {0}) StoreRefusal) (made : ℕ) (objects objects' : Objects) : Type 0 where
  pub part : PartMade result 2 made
  pub after : objects' ≡ after_part made (table ∷ manifest ∷ []) objects
  pub free : 0 < made → is_present table objects ≡ false
  pub exists : result ≡ Err TransactionalObjectVersionExists → (is_present table objects ≡ true) ⊎ (is_present manifest objects ≡ true)

-- The manifest without the expired checkpoints, where the latest one has any, or why there is none.
abbrev pub GivesUnexpired : ℤ → VersionedManifest → Result (Option VersionedManifest) StoreRefusal → Type 0
GivesUnexpired moment latest (Ok None) = has_expired moment latest ≡ false
GivesUnexpired moment latest (Ok (Some next)) = (has_expired moment latest ≡ true) × (next ≡ without_expired moment latest)
GivesUnexpired moment latest (Err InvalidDBState) = (has_expired moment latest ≡ true) × (18446744073709551615 ≤ latest.id)
GivesUnexpired moment latest (Err NoMemory) = Unit {0}
GivesUnexpired moment latest (Err refusal) = ⊥

-- why the expired checkpoints of the latest manifest aren't taken out
abbrev pub ExpiryCause : ℤ → VersionedManifest → Objects → StoreRefusal → Type 0
ExpiryCause moment latest objects InvalidDBState = (has_expired moment latest ≡ true) × (18446744073709551615 ≤ latest.id)
ExpiryCause moment latest objects TransactionalObjectVersionExists =
    (has_expired moment latest ≡ true) × (is_present (PutManifest (latest.id + 1) latest.manifest) objects ≡ true)
ExpiryCause moment latest objects refusal = IsOfStore refusal

abbrev pub ExpiryAnswer : ℤ → VersionedManifest → Objects → Result (Option VersionedManifest) StoreRefusal → Type 0
ExpiryAnswer moment latest objects (Ok next) = unwrap_or next latest ≡ without_expired moment latest
ExpiryAnswer moment latest objects (Err refusal) = ExpiryCause moment latest objects refusal

-- The expired checkpoints of the latest manifest are taken out, where there are any; the answer is what was put.
pub record TakesOut (moment : ℤ) (latest : VersionedManifest) (objects : Objects) (result : Result (Option VersionedManifest) StoreRefusal) (made : ℕ) (objects' : Objects) : Type 0 where
  pub answer : ExpiryAnswer moment latest objects result
  pub part : PartMade result (length (expiries {L = List Batch} moment latest)) made
  pub after : objects' ≡ after_part made (expiries moment latest) objects

-- the manifests that checkpoints keep, of those that are stored
abbrev pub kept_by : {L : Type 0} → ObjectsOf L → List Checkpoint → List Manifest
kept_by objects checkpoints = flat_map (λ checkpoint. option_to_list (entry_at checkpoint.manifest_id objects.manifests)) checkpoints

-- the manifest of one of these checkpoints isn't stored
abbrev pub IsMissing : List Checkpoint → Objects → Type 0
IsMissing checkpoints objects =
    (checkpoint : Checkpoint) × Contains checkpoints checkpoint × (entry_at checkpoint.manifest_id objects.manifests ≡ None)

-- The manifests of checkpoints are read, or one isn't stored.
abbrev pub ReadsKept : List Checkpoint → Objects → Result (List Manifest) StoreRefusal → Type 0
ReadsKept checkpoints objects (Ok kept) = kept ≡ kept_by objects checkpoints
ReadsKept checkpoints objects (Err (ObjectStoreError NotFound)) = IsMissing checkpoints objects
ReadsKept checkpoints objects (Err refusal) = IsOfStore refusal

-- the removals of the listed objects: tables, then log files, then manifests
abbrev pub removals_of : Listing → List Change
removals_of listing =
    map (λ id. RemoveTable id) listing.tables ++ (map (λ id. RemoveLog id) listing.logs ++ map (λ id. RemoveManifest id) listing.manifests)

-- why what isn't protected isn't found, where this is the latest manifest
abbrev pub UnprotectedCause : VersionedManifest → Objects → StoreRefusal → Type 0
UnprotectedCause latest objects (ObjectStoreError NotFound) = IsMissing latest.manifest.checkpoints objects
UnprotectedCause latest objects refusal = IsOfStore refusal

-- what isn't protected is found
abbrev pub FindsUnprotected : VersionedManifest → Objects → Result Listing StoreRefusal → Type 0
FindsUnprotected latest objects (Ok listing) = removals_of listing ≡ removals latest objects
FindsUnprotected latest objects (Err refusal) = UnprotectedCause latest objects refusal

-- What a sweep at a moment would remove: what isn't protected, once the expired checkpoints are taken out of the latest manifest.
abbrev pub ToSweep : ℤ → Objects → Result Listing StoreRefusal → Type 0
ToSweep moment objects (Ok listing) =
    (latest : VersionedManifest) × (latest_manifest objects ≡ Some latest) × (removals_of listing ≡ removals (without_expired moment latest) objects)
ToSweep moment objects (Err refusal) = SweepCause moment objects refusal

-- and removed, and the answer is how many objects that was
abbrev pub RemovesUnprotected : VersionedManifest → Result ℕ StoreRefusal → Objects → Objects → Type 0
RemovesUnprotected latest result objects objects' =
    Makes (removals latest objects) result objects objects'
    × IfOk result (λ count. count ≡ length (removals latest objects)) × IfErr result (UnprotectedCause latest objects)

-- a handle with this epoch was opened, since the latest manifest has it or a greater one
abbrev pub WasOpened : ℕ → Objects → Type 0
WasOpened epoch objects = IfSome (latest_manifest objects) (λ latest. epoch ≤ latest.manifest.writer_epoch)
