-- What is printed of the objects of a store.
use Rattle.std.specs.Prelude.{ℕ, ℤ, ◌-◌, min, List, [], ◌++◌, length, slice_get, Option, Some, None, codes, decimal}
use Rattle.std.specs.Fmt.{signed_decimal}
use Rattle.std.specs.List.{flat_map}
use Rattle.std.specs.Option.{option_map_or}
use Rattle.slate_types.specs.Counts.{count_end}
use Rattle.slate_types.specs.declared.batches.Batch.{Batch}
use Rattle.slate_text.specs.Words.{word_text}
use Rattle.slate_reads.specs.Size.{size_of}
use Rattle.slate_store.specs.declared.objects.Checkpoint.{Checkpoint}
use Rattle.slate_store.specs.declared.objects.Listing.{Listing}
use Rattle.slate_store.specs.declared.objects.Manifest.{Manifest}
use Rattle.slate_store.specs.declared.objects.TableId.{TableId}
use Rattle.slate_store.specs.Objects.{Objects, entry_at, log_at, table_at}
use Rattle.slate_check.specs.Texts.{table_id_text}

-- a number behind its name
abbrev pub labelled : List ℕ → ℕ → List ℕ
labelled label number = label ++ decimal number

-- tables and segments: how many there are, and each after a space
abbrev pub tables_text : List TableId → List ℕ
tables_text ids = labelled (codes " tables ") (length ids) ++ flat_map (λ id. codes " " ++ table_id_text id) ids

abbrev pub segments_text : List (List ℕ) → List ℕ
segments_text prefixes = labelled (codes " segments ") (length prefixes) ++ flat_map (λ prefix. codes " " ++ word_text prefix) prefixes

-- the name of the extractor, where there is one
abbrev pub extractor_text : Option (List ℕ) → List ℕ
extractor_text None = codes " extractor none"
extractor_text (Some name) = codes " extractor named " ++ word_text name

-- how many bytes its tracker has, where it has one
abbrev pub tracker_text : Option (List ℕ) → List ℕ
tracker_text None = codes " tracker none"
tracker_text (Some bytes) = labelled (codes " tracker bytes ") (length bytes)

-- the last number and the latest time in tables, the replay mark and the next log file
abbrev pub reach_text : Manifest → List ℕ
reach_text manifest =
    labelled (codes " last ") manifest.last_l0_seq ++ ((codes " tick " ++ signed_decimal manifest.last_tick)
    ++ (labelled (codes " mark ") manifest.replay_after_wal_id ++ labelled (codes " next ") manifest.next_wal_id))

abbrev pub named_text : Manifest → List ℕ
named_text manifest =
    tables_text manifest.tables ++ (segments_text manifest.segments ++ (extractor_text manifest.extractor_name ++ tracker_text manifest.sequence_tracker))

-- a manifest, on a line
abbrev pub manifest_text : ℕ → Manifest → List ℕ
manifest_text id manifest =
    (labelled (codes "manifest ") id ++ labelled (codes " epoch ") manifest.writer_epoch) ++ (reach_text manifest ++ (named_text manifest ++ codes "\n"))

-- the end of a lease, where it has one
abbrev pub lease_text : Option ℤ → List ℕ
lease_text None = codes " for good\n"
lease_text (Some end) = codes " until " ++ (signed_decimal end ++ codes "\n")

-- when a lease began, and its end
abbrev pub times_text : ℤ → Option ℤ → List ℕ
times_text begin end = codes " from " ++ (signed_decimal begin ++ lease_text end)

-- a checkpoint, on a line, by the manifest that it keeps
abbrev pub checkpoint_text : Checkpoint → List ℕ
checkpoint_text checkpoint =
    labelled (codes "checkpoint ") checkpoint.manifest_id ++ times_text checkpoint.create_ms checkpoint.expire_ms

-- the numbers of a first and a last batch, where there are any
abbrev pub ends_text : Option Batch → Option Batch → List ℕ
ends_text (Some first) (Some last) = labelled (codes " from ") first.number ++ labelled (codes " to ") last.number
ends_text None last = []
ends_text (Some first) None = []

-- batches: how many there are, the numbers of the first and the last
abbrev pub span_text : List Batch → List ℕ
span_text batches = labelled (codes " batches ") (length batches) ++ ends_text (slice_get batches 0) (slice_get batches (length batches - 1))

-- a log file and a table, each on a line; of a table also the bytes of its keys and values
abbrev pub log_text : ℕ → List Batch → List ℕ
log_text id batches = labelled (codes "log ") id ++ (span_text batches ++ codes "\n")

abbrev pub table_text : TableId → List Batch → List ℕ
table_text id batches =
    (codes "table " ++ table_id_text id) ++ (span_text batches ++ (labelled (codes " bytes ") (min (size_of batches) count_end) ++ codes "\n"))

-- the objects under these ids, each on a line, where they are stored
abbrev pub manifests_text : Objects → List ℕ → List ℕ
manifests_text objects ids = flat_map (λ id. option_map_or (manifest_text id) (entry_at id objects.manifests) []) ids

abbrev pub logs_text : Objects → List ℕ → List ℕ
logs_text objects ids = flat_map (λ id. option_map_or (log_text id) (log_at id objects) []) ids

abbrev pub stored_text : Objects → List TableId → List ℕ
stored_text objects ids = flat_map (λ id. option_map_or (table_text id) (table_at id objects) []) ids

-- an object that a sweep would remove, on a line
abbrev pub swept_text : List ℕ → ℕ → List ℕ
swept_text label id = labelled label id ++ codes "\n"

abbrev pub swept_table_text : TableId → List ℕ
swept_table_text id = codes "sweep table " ++ (table_id_text id ++ codes "\n")

-- all of these: tables, log files, manifests
abbrev pub sweep_text : Listing → List ℕ
sweep_text listing =
    flat_map swept_table_text listing.tables
    ++ (flat_map (swept_text (codes "sweep log ")) listing.logs ++ flat_map (swept_text (codes "sweep manifest ")) listing.manifests)
