-- The bytes of each kind of object, and the object that bytes are.
use Rattle.std.specs.Prelude.{◌≡◌, ℕ, ◌⊎◌, if◌then◌else◌, List, None, Result}
use Rattle.slate_types.specs.declared.batches.Batch.{Batch}
use Rattle.slate_store.specs.declared.objects.Manifest.{Manifest}
use Rattle.slate_objects.specs.declared.faults.DecodeFault.{DecodeFault}
use Rattle.slate_objects.specs.Batches.{batch_at, batch_of}
use Rattle.slate_objects.specs.Manifests.{manifest_at, manifest_of, untracked_at, untracked_of}
use Rattle.slate_objects.specs.Reading.{list_at}
use Rattle.slate_objects.specs.Sealing.{has_version, object_in, sealed}
use Rattle.slate_objects.specs.Spelling.{list_of}

-- the first four bytes of each kind: HTNM, HTNW and HTNT
abbrev pub manifest_kind : ℕ
manifest_kind = 0x4854_4e4d

abbrev pub log_kind : ℕ
log_kind = 0x4854_4e57

abbrev pub table_kind : ℕ
table_kind = 0x4854_4e54

-- the version of the format of log files and tables
abbrev pub version : ℕ
version = 1

-- and that of manifests, and the one before, in which a manifest has no tracker
abbrev pub manifest_version : ℕ
manifest_version = 2

abbrev pub untracked_version : ℕ
untracked_version = 1

-- a manifest
unfoldable pub manifest_bytes : Manifest → List ℕ
manifest_bytes manifest = sealed manifest_kind manifest_version (manifest_of manifest)

-- a manifest as the earlier version spelled it
unfoldable pub untracked_bytes : Manifest → List ℕ
untracked_bytes manifest = sealed manifest_kind untracked_version (untracked_of manifest)

-- a manifest is read by the version that it says
unfoldable pub manifest_in : List ℕ → Result Manifest DecodeFault
manifest_in bytes =
    if has_version untracked_version bytes then object_in untracked_at manifest_kind untracked_version bytes
    else object_in manifest_at manifest_kind manifest_version bytes

-- what the bytes of a manifest are: its spelling, or that of the earlier version, where it has no tracker
abbrev pub IsSpelling : Manifest → List ℕ → Type 0
IsSpelling manifest bytes =
    (bytes ≡ manifest_bytes manifest) ⊎ ((bytes ≡ untracked_bytes manifest) × (manifest.sequence_tracker ≡ None))

-- a log file: a list of batches
unfoldable pub log_bytes : List Batch → List ℕ
log_bytes batches = sealed log_kind version (list_of batch_of batches)

unfoldable pub log_in : List ℕ → Result (List Batch) DecodeFault
log_in = object_in (list_at batch_at) log_kind version

-- a table: a list of batches
unfoldable pub table_bytes : List Batch → List ℕ
table_bytes batches = sealed table_kind version (list_of batch_of batches)

unfoldable pub table_in : List ℕ → Result (List Batch) DecodeFault
table_in = object_in (list_at batch_at) table_kind version
