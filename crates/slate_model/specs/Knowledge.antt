-- How much an operation knows of a store, and of the objects that use it.
use Rattle.std.specs.Prelude.{ℤ, List}
use Rattle.slate_types.specs.declared.batches.Batch.{Batch}
use Rattle.slate_types.specs.Line.{Line}
use Rattle.slate_store.specs.declared.objects.TableId.{TableId}
use Rattle.slate_store.specs.declared.objects.VersionedManifest.{VersionedManifest}
use Rattle.slate_store.specs.declared.reader_modes.DbReaderMode.{DbReaderMode}
use Rattle.slate_store.specs.Objects.{ChangeOf, ObjectsOf}
use Rattle.slate_errors.specs.declared.errors.SlateError.{SlateError}
use Rattle.slate_model.specs.Follower.{Follower}
use Rattle.slate_model.specs.Handle.{Handle}
use Rattle.slate_model.specs.Object.{Object}

-- What is known, where L is what is known of a log file or a table. The code knows their batches and keeps the end of an
-- object's line; a world knows their spans and has the whole line. Each operation is said once, of both.
pub record Knowledge (L : Type 0) : Type 1 where
  pub summary : List Batch → L  -- of a log file or a table with these batches
  pub joined : List L → L  -- of a table that joins those of which this is known
  pub keep : Handle → Handle  -- what is kept of a handle
  pub keep_follower : Follower → Follower  -- and of a follower
  pub is_stored : Line → Type 0  -- which line is stored
  pub has_seen : Follower → ObjectsOf L → Line → Type 0  -- what a follower has seen of the line that is stored
  pub named : ObjectsOf L → VersionedManifest → (stored : Line) → Line → Type 0  -- which line a manifest that a checkpoint keeps named when it was put
  pub unpinned : DbReaderMode → ObjectsOf L → Type 0  -- that the manifest isn't stored that a reader's checkpoint keeps
  pub rows : Object → List Batch → Type 0  -- which batches an object reads
  pub unsound : ObjectsOf L → SlateError → Type 0  -- why an opening answers what only objects bring about that aren't sound
  pub stands : List (ChangeOf L) → ObjectsOf L → Type 0  -- that an object is there already that one of these puts
  pub unjoined : TableId → ObjectsOf L → SlateError → Type 0  -- why a compaction does, into the table with this id
  pub unswept : ℤ → ObjectsOf L → SlateError → Type 0  -- why a sweep does, at this moment
