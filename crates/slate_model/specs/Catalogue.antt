-- The catalogue of a store: its manifests, and the spans of its log files and tables.
use Rattle.std.specs.Prelude.{ℕ, ◌+◌, ◌-◌, max, List, [], ◌∷◌, map, Option, Some, None}
use Rattle.std.specs.List.{range_with_len}
use Rattle.slate_types.specs.declared.batches.Batch.{Batch}
use Rattle.slate_store.specs.declared.objects.VersionedManifest.{VersionedManifest}
use Rattle.slate_store.specs.Objects.{ObjectsOf, Objects, greatest, log_at}

-- what a world knows of a log file or a table: the number of its first batch and the greatest of its batches, or that it has none
abbrev pub Span : Type 0
Span = Option (ℕ × ℕ)

-- the greatest number of these batches, or 0 where there is none
abbrev pub greatest_of : List Batch → ℕ
greatest_of batches = greatest 0 (map (λ batch. batch.number) batches)

abbrev pub span : List Batch → Span
span [] = None
span (batch ∷ batches) = Some (batch.number, greatest_of (batch ∷ batches))

-- what is known of a table that joins two, and any number
abbrev pub joined_two : Span → Span → Span
joined_two None later = later
joined_two earlier None = earlier
joined_two (Some earlier) (Some later) = Some (earlier.0, max earlier.1 later.1)

abbrev pub joined_span : List Span → Span
joined_span [] = None
joined_span (earlier ∷ later) = joined_two earlier (joined_span later)

-- what a world knows of a store: its objects, each log file and table by its span
abbrev pub Catalogue : Type 0
Catalogue = ObjectsOf Span

abbrev pub catalogue_of : Objects → Catalogue
catalogue_of objects =
    record {
      manifests = objects.manifests;
      logs = map (λ log. (log.0, span log.1)) objects.logs;
      tables = map (λ table. (table.0, span table.1)) objects.tables;
    }

-- the greatest number in the log file with an id, or 0 where it has none or isn't stored
abbrev pub greatest_in : Option Span → ℕ
greatest_in (Some (Some span)) = span.1
greatest_in log = 0

-- The number of the last batch that a manifest named when it was put: the greatest of its last number in tables and of those
-- in its log files, above its replay mark and below the id that it says is next.
abbrev pub named_number : Catalogue → VersionedManifest → ℕ
named_number catalogue view =
    let m = view.manifest in
    let ids = range_with_len (m.replay_after_wal_id + 1) (m.next_wal_id - 1 - m.replay_after_wal_id) in
    greatest m.last_l0_seq (map (λ id. greatest_in (log_at id catalogue)) ids)
