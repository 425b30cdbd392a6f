-- The objects of a store, and what puts and removals make of them.
use Rattle.std.specs.Prelude.{ℕ, ◌-◌, ◌≤◌, Bool, not, max, List, [], ◌∷◌, length, filter, map, slice_get, is_some, Option, option_map}
use Rattle.std.specs.List.{AllByRecursion}
use Rattle.std.specs.Ordering.{nat_cmp, ordering_then}
use Rattle.std.specs.declared.cmp.Ordering.{Ordering}
use Rattle.std.specs.Map.{keys_of, lookup}
use Rattle.std.specs.BTreeMap.{insert_entry, is_at}
use Rattle.slate_types.specs.declared.batches.Batch.{Batch}
use Rattle.slate_store.specs.declared.objects.Manifest.{Manifest}
use Rattle.slate_store.specs.declared.objects.TableId.{TableId}
use Rattle.slate_store.specs.declared.objects.VersionedManifest.{VersionedManifest}
use Rattle.slate_store.specs.declared.objects.Listing.{Listing}

-- What a store holds: three finite maps, each the list of its entries in the order of their ids. L is what is known
-- of a log file and of a table.
pub record ObjectsOf (L : Type 0) : Type 0 where
  pub manifests : List (ℕ × Manifest)
  pub logs : List (ℕ × L)
  pub tables : List (TableId × L)

-- the objects themselves: a log file and a table are their batches
abbrev pub Objects : Type 0
Objects = ObjectsOf (List Batch)

-- a store that holds nothing
abbrev pub empty : {L : Type 0} → ObjectsOf L
empty = record { manifests = []; logs = []; tables = [] }

-- tables are ordered by the epoch of their writer, and then by its count
abbrev pub table_cmp : TableId → TableId → Ordering
table_cmp a b = ordering_then (nat_cmp a.epoch b.epoch) (nat_cmp a.index b.index)

-- what stands under a number
abbrev pub entry_at : {X : Type 0} → ℕ → List (ℕ × X) → Option X
entry_at id entries = lookup (is_at (nat_cmp id)) entries

abbrev pub last : {X : Type 0} → List X → Option X
last xs = slice_get xs (length xs - 1)

abbrev pub versioned : ℕ × Manifest → VersionedManifest
versioned entry = record { id = entry.0; manifest = entry.1 }

-- the manifest with the greatest id
abbrev pub latest_manifest : {L : Type 0} → ObjectsOf L → Option VersionedManifest
latest_manifest objects = option_map versioned (last objects.manifests)

-- no manifest has a greater id than this one
abbrev pub IsGreatest : {L : Type 0} → ObjectsOf L → VersionedManifest → Type 0
IsGreatest objects latest = AllByRecursion (λ id. id ≤ latest.id) (map (λ entry. entry.0) objects.manifests)

-- the greatest of a number and these
abbrev pub greatest : ℕ → List ℕ → ℕ
greatest number [] = number
greatest number (x ∷ xs) = max x (greatest number xs)

-- the greatest id of a log file above a number, or that number
abbrev pub last_log : {L : Type 0} → ℕ → ObjectsOf L → ℕ
last_log after objects = greatest after (map (λ log. log.0) objects.logs)

abbrev pub log_at : {L : Type 0} → ℕ → ObjectsOf L → Option L
log_at id objects = entry_at id objects.logs

-- the table under an id
abbrev pub table_at : {L : Type 0} → TableId → ObjectsOf L → Option L
table_at id objects = lookup (is_at (table_cmp id)) objects.tables

-- the ids of all objects, each kind in the order of its map
abbrev pub listing_of : {L : Type 0} → ObjectsOf L → Listing
listing_of objects = record { manifests = keys_of objects.manifests; logs = keys_of objects.logs; tables = keys_of objects.tables }

-- one change of the objects
pub data ChangeOf (L : Type 0) : Type 0 where
  PutManifest : (id : ℕ) → (manifest : Manifest) → ChangeOf L
  PutLog : (id : ℕ) → (log : L) → ChangeOf L
  PutTable : (id : TableId) → (table : L) → ChangeOf L
  RemoveManifest : (id : ℕ) → ChangeOf L
  RemoveLog : (id : ℕ) → ChangeOf L
  RemoveTable : (id : TableId) → ChangeOf L

abbrev pub Change : Type 0
Change = ChangeOf (List Batch)

-- whether an object is stored under the id that a change names
abbrev pub is_present : {L : Type 0} → ChangeOf L → ObjectsOf L → Bool
is_present (PutManifest id manifest) objects = is_some (entry_at id objects.manifests)
is_present (PutLog id log) objects = is_some (entry_at id objects.logs)
is_present (PutTable id table) objects = is_some (table_at id objects)
is_present (RemoveManifest id) objects = is_some (entry_at id objects.manifests)
is_present (RemoveLog id) objects = is_some (entry_at id objects.logs)
is_present (RemoveTable id) objects = is_some (table_at id objects)

-- the entries whose key doesn't pass a test
abbrev pub without : {K X : Type 0} → (K → Bool) → List (K × X) → List (K × X)
without test entries = filter (λ entry. not (test entry.0)) entries

-- the objects after a change
abbrev pub changed : {L : Type 0} → ChangeOf L → ObjectsOf L → ObjectsOf L
changed (PutManifest id manifest) objects =
    record { manifests = insert_entry nat_cmp objects.manifests id manifest; logs = objects.logs; tables = objects.tables }
changed (PutLog id log) objects =
    record { manifests = objects.manifests; logs = insert_entry nat_cmp objects.logs id log; tables = objects.tables }
changed (PutTable id table) objects =
    record { manifests = objects.manifests; logs = objects.logs; tables = insert_entry table_cmp objects.tables id table }
changed (RemoveManifest id) objects =
    record { manifests = without (is_at (nat_cmp id)) objects.manifests; logs = objects.logs; tables = objects.tables }
changed (RemoveLog id) objects =
    record { manifests = objects.manifests; logs = without (is_at (nat_cmp id)) objects.logs; tables = objects.tables }
changed (RemoveTable id) objects =
    record { manifests = objects.manifests; logs = objects.logs; tables = without (is_at (table_cmp id)) objects.tables }

-- the objects after several, in order
abbrev pub changed_all : {L : Type 0} → List (ChangeOf L) → ObjectsOf L → ObjectsOf L
changed_all [] objects = objects
changed_all (change ∷ changes) objects = changed_all changes (changed change objects)
