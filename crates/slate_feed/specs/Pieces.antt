-- What a call of a feed reads, piece by piece.
use Rattle.std.specs.Prelude.{ℕ, ◌+◌, ◌-◌, nat_lt, if◌then◌else◌, List, [], ◌++◌, map, Option, option_map}
use Rattle.std.specs.List.{flat_map, range_with_len}
use Rattle.slate_types.specs.declared.batches.Batch.{Batch}
use Rattle.slate_types.specs.Line.{batches_above}
use Rattle.slate_store.specs.declared.objects.Manifest.{Manifest}
use Rattle.slate_store.specs.declared.objects.TableId.{TableId}
use Rattle.slate_store.specs.Objects.{Objects, last_log, log_at, table_at}

-- A piece of what is stored: the batches of a table, or those of a log file that aren't in tables; none where it isn't stored.
abbrev pub Piece : Type 0
Piece = Option (List Batch)

-- the batches of a table, whose numbers are above 0
abbrev pub table_piece : Objects → TableId → Piece
table_piece objects id = option_map (batches_above 0) (table_at id objects)

-- the batches of a log file that are above the last number in tables
abbrev pub log_piece : (tabled : ℕ) → Objects → (id : ℕ) → Piece
log_piece tabled objects id = option_map (batches_above tabled) (log_at id objects)

-- those of the log files from an id up to the last one
abbrev pub log_pieces : (tabled id last : ℕ) → Objects → List Piece
log_pieces tabled id last objects = map (log_piece tabled objects) (range_with_len id (last + 1 - id))

-- the tables that a call reads: none where all that they have is at or below the cursor
abbrev pub tables_to_read : (cursor : ℕ) → Manifest → List TableId
tables_to_read cursor manifest = if nat_lt cursor manifest.last_l0_seq then manifest.tables else []

-- What a call reads under a manifest, in this order: its tables, and then the log files above its replay mark.
abbrev pub pieces : (cursor : ℕ) → Manifest → Objects → List Piece
pieces cursor manifest objects =
    map (table_piece objects) (tables_to_read cursor manifest)
    ++ log_pieces manifest.last_l0_seq (manifest.replay_after_wal_id + 1) (last_log manifest.replay_after_wal_id objects) objects

-- the batches of pieces, joined
abbrev pub joined : List (List Batch) → List Batch
joined parts = flat_map (λ part. part) parts
