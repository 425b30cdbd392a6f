-- The objects that the blobs of three folders are.
use Rattle.std.specs.Prelude.{ℕ, pos, false, List, [], map, Option, Some, None, Result, Ok, Err}
use Rattle.slate_types.specs.declared.batches.Batch.{Batch}
use Rattle.slate_types.specs.declared.store_errors.StoreError.{StoreError}
use Rattle.slate_types.specs.declared.store_errors.StoreError.TheVariants.{Failed, NoMemory}
use Rattle.slate_objects.specs.declared.faults.DecodeError.{DecodeError}
use Rattle.slate_objects.specs.declared.faults.DecodeError.TheVariants as errors
use Rattle.slate_objects.specs.declared.faults.DecodeFault.{DecodeFault}
use Rattle.slate_objects.specs.Objects.{log_in, manifest_in, table_in}
use Rattle.slate_store.specs.declared.objects.Manifest.{Manifest}
use Rattle.slate_store.specs.declared.objects.TableId.{TableId}
use Rattle.slate_store.specs.Objects.{Objects}

-- the object that was decoded, or another where none was
abbrev pub value_or : {X : Type 0} → X → Result X DecodeFault → X
value_or other (Ok x) = x
value_or other (Err fault) = other

-- the manifest of a database in which nothing was stored
abbrev pub blank_manifest : Manifest
blank_manifest = record {
  writer_epoch = 0;
  initialized = false;
  tables = [];
  last_l0_seq = 0;
  last_tick = pos 0;
  replay_after_wal_id = 0;
  next_wal_id = 0;
  checkpoints = [];
  segments = [];
  extractor_name = None;
  sequence_tracker = None;
}

-- The object that each blob is. One that isn't decoded stands for an object with nothing in it, which no call reads:
-- each that would fails.
abbrev pub manifest_held : List ℕ → Manifest
manifest_held bytes = value_or blank_manifest (manifest_in bytes)

abbrev pub log_held : List ℕ → List Batch
log_held bytes = value_or [] (log_in bytes)

abbrev pub table_held : List ℕ → List Batch
table_held bytes = value_or [] (table_in bytes)

-- each blob of a folder as what it is, under its id
abbrev pub each : {K X : Type 0} → (List ℕ → X) → List (K × List ℕ) → List (K × X)
each held blobs = map (λ blob. (blob.0, held blob.1)) blobs

-- the objects of the three folders
abbrev pub objects_of : List (ℕ × List ℕ) → List (ℕ × List ℕ) → List (TableId × List ℕ) → Objects
objects_of manifests logs tables =
    record { manifests = each manifest_held manifests; logs = each log_held logs; tables = each table_held tables }

-- the same, where all three are modelled
abbrev pub all_held : Option (List (ℕ × List ℕ)) → Option (List (ℕ × List ℕ)) → Option (List (TableId × List ℕ)) → Option Objects
all_held (Some manifests) (Some logs) (Some tables) = Some (objects_of manifests logs tables)
all_held (Some manifests) (Some logs) None = None
all_held (Some manifests) None tables = None
all_held None logs tables = None

-- what a call answers of a decoding: bytes that aren't the object are a failure
abbrev pub answer_of : {A : Type 0} → Result A DecodeError → Result A StoreError
answer_of (Ok x) = Ok x
answer_of (Err (errors.Fault fault)) = Err Failed
answer_of (Err errors.NoMemory) = Err NoMemory
