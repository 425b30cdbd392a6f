-- What a scan by recency answers, of an open handle and of a closed one.
use Rattle.std.specs.Prelude.{◌≡◌, ℕ, Bool, true, false, ◌||◌, not, nat_eq, List, [], ◌∷◌, length, filter, map, reverse, Option, Some, None, Result, Ok, Err, IfSome}
use Rattle.std.specs.List.{list_any, starts_with}
use Rattle.std.specs.Str.{bytes_eq}
use Rattle.slate_types.specs.declared.batches.Batch.{Batch}
use Rattle.slate_types.specs.declared.scan_options.ScanOptions.{ScanOptions}
use Rattle.slate_types.specs.declared.store_errors.StoreFault.TheVariants.{NotFound}
use Rattle.slate_reads.specs.Bound.{read_bound}
use Rattle.slate_rows.specs.Recency.{IsRecency, source_entries}
use Rattle.slate_rows.specs.declared.entries.RowEntry.{RowEntry}
use Rattle.slate_store.specs.declared.objects.TableId.{TableId}
use Rattle.slate_store.specs.Objects.{Objects, table_at}
use Rattle.slate_errors.specs.Errors.{closed_error}
use Rattle.slate_errors.specs.declared.errors.SlateError.{SlateError}
use Rattle.slate_errors.specs.declared.errors.SlateError.TheVariants.{NoMemory, ObjectStoreError, RecencyScanPrefixSpansMultipleSegments}
use Rattle.slate_model.specs.Handle.{Handle, accepted}
use Rattle.slate_model.specs.Known.{FaultsRise, Known}
use Rattle.slate_model.specs.Tables.{AreStored}

-- whether keys with a prefix may be in a segment: one of the two begins the other
abbrev pub overlap : (prefix segment : List ℕ) → Bool
overlap prefix segment = starts_with nat_eq prefix segment || starts_with nat_eq segment prefix

-- whether some two of these differ
abbrev pub some_differ : List (List ℕ) → Bool
some_differ segments = list_any (λ one. list_any (λ other. not (bytes_eq one other)) segments) segments

-- whether they may be in two of these segments
abbrev pub span_two : (prefix : List ℕ) → List (List ℕ) → Bool
span_two prefix segments = some_differ (filter (overlap prefix) segments)

-- These are the batches of each of these tables, all of which are stored, in order. Over a store that isn't modelled there
-- are as many.
abbrev pub AreEach : Option Objects → List TableId → List (List Batch) → Type 0
AreEach None ids tables = length tables ≡ length ids
AreEach (Some o) ids tables = map Some tables ≡ map (λ id. table_at id o) ids

-- the sources that a handle has: its batches in memory, and then those of each table of its view, newest first
abbrev pub AreSources : Option Objects → Handle → List (List Batch) → Type 0
AreSources objects handle sources =
    (tables : List (List Batch)) × AreEach objects (reverse handle.view.manifest.tables) tables × (sources ≡ handle.line.batches ∷ tables)

-- the operations of a handle's sources on the keys with a prefix, up to the number up to which it reads
abbrev pub ListsRecent : Option Objects → Handle → ScanOptions → List ℕ → List RowEntry → Type 0
ListsRecent objects handle options prefix entries =
    let bound = read_bound None handle.durable (accepted handle) options.durability_filter options.dirty in
    (sources : List (List Batch)) × AreSources objects handle sources × IsRecency options.order (map (source_entries bound prefix) sources) entries

-- what is listed is plain; else memory ran out, or a table wasn't read
abbrev pub AnswersRecent : {A : Type 0} → (A → Type 0) → Result A SlateError → Type 0
AnswersRecent is_plain (Ok listed) = is_plain listed
AnswersRecent is_plain (Err (ObjectStoreError fault)) = Unit {0}
AnswersRecent is_plain (Err NoMemory) = Unit {0}
AnswersRecent is_plain (Err error) = ⊥

-- A scan by recency that reads the tables of a handle's view. It leaves the store's objects; a fault is answered only where the
-- count of faults has risen, and that a table is missing only where one is. Without a table the store isn't called.
pub record ListsTables (handle : Handle) (options : ScanOptions) (prefix : List ℕ)
    (before : Known (List Batch)) (answer : Result (List RowEntry) SlateError) (after : Known (List Batch)) : Type 0 where
  pub faults : FaultsRise before.faults after.faults answer
  pub kept : after.objects ≡ before.objects
  pub missing : answer ≡ Err (ObjectStoreError NotFound) → IfSome before.objects (λ o. AreStored o handle.view.manifest.tables → ⊥)
  pub alone : handle.view.manifest.tables ≡ [] → (after ≡ before) × (answer ≡ Err (ObjectStoreError NotFound) → ⊥)
  pub listed : AnswersRecent (ListsRecent before.objects handle options prefix) answer

-- A scan by recency of a handle. One that closed answers what closed it, and a prefix whose keys may be in two segments of the
-- handle's view is refused, both without a call of the store.
pub record ScansByRecency (handle : Handle) (options : ScanOptions) (prefix : List ℕ)
    (before : Known (List Batch)) (answer : Result (List RowEntry) SlateError) (after : Known (List Batch)) : Type 0 where
  pub closed : IfSome handle.result (λ r. (answer ≡ Err (closed_error r)) × (after ≡ before))
  pub spanning : handle.result ≡ None → span_two prefix handle.view.manifest.segments ≡ true → (answer ≡ Err RecencyScanPrefixSpansMultipleSegments) × (after ≡ before)
  pub read : handle.result ≡ None → span_two prefix handle.view.manifest.segments ≡ false → ListsTables handle options prefix before answer after
