-- What a store's own calls know, and what a world knows.
use Rattle.std.specs.Prelude.{◌≡◌, ◌++◌, ℤ, true, List, [], Contains, Option, Some, None}
use Rattle.std.specs.List.{flat_map}
use Rattle.slate_types.specs.declared.batches.Batch.{Batch}
use Rattle.slate_types.specs.Line.{IsPrefix, Line}
use Rattle.slate_types.specs.declared.store_errors.StoreFault.TheVariants.{NotFound}
use Rattle.slate_store.specs.declared.objects.TableId.{TableId}
use Rattle.slate_store.specs.declared.objects.VersionedManifest.{VersionedManifest}
use Rattle.slate_store.specs.declared.reader_modes.DbReaderMode.{DbReaderMode}
use Rattle.slate_reads.specs.Index.{AreRising}
use Rattle.slate_store.specs.declared.refusals.StoreRefusal.TheVariants as refusals
use Rattle.slate_store.specs.Compaction.{CompactCause}
use Rattle.slate_store.specs.Content.{pinned_content, table_batches}
use Rattle.slate_store.specs.Objects.{ChangeOf, Objects, ObjectsOf, is_present, latest_manifest}
use Rattle.slate_store.specs.Sweeps.{SweepCause}
use Rattle.slate_errors.specs.declared.errors.SlateError.{SlateError}
use Rattle.slate_errors.specs.declared.errors.SlateError.TheVariants as errors
use Rattle.slate_model.specs.Catalogue.{Catalogue, Span, joined_span, named_number, span}
use Rattle.slate_model.specs.Followed.{finds, view_under}
use Rattle.slate_model.specs.Follower.{kept_follower}
use Rattle.slate_model.specs.Handle.{kept_handle, up_to}
use Rattle.slate_model.specs.Knowledge.{Knowledge}
use Rattle.slate_model.specs.Known.{IsContent}
use Rattle.slate_model.specs.Follower.{Follower as AFollower}
use Rattle.slate_model.specs.Object.{Object, Handle, Snapshot, Follower, batches_of, tables_of}
use Rattle.slate_model.specs.Open.{OpenFault}
use Rattle.slate_model.specs.Seen.{HasSeen}
use Rattle.slate_model.specs.Tables.{AreJoined, AreStored}

-- an object is stored under an id under which one of these changes puts one
abbrev pub Stands : {L : Type 0} → List (ChangeOf L) → ObjectsOf L → Type 0
Stands {L} changes objects = (change : ChangeOf L) × Contains changes change × (is_present change objects ≡ true)

-- why the tables of the latest manifest can't be joined into one with this id, over objects that aren't sound
abbrev pub JoinFault : TableId → Objects → SlateError → Type 0
JoinFault id objects errors.InvalidDBState =
    (latest : VersionedManifest) × (latest_manifest objects ≡ Some latest) × (AreRising (table_batches objects latest.manifest.tables) → ⊥)
JoinFault id objects errors.TransactionalObjectVersionExists = CompactCause id objects refusals.TransactionalObjectVersionExists
JoinFault id objects (errors.ObjectStoreError NotFound) = CompactCause id objects (refusals.ObjectStoreError NotFound)
JoinFault id objects error = ⊥

-- why a sweep at this moment answers that an object is missing, or there already, over objects that aren't sound
abbrev pub SweepFault : ℤ → Objects → SlateError → Type 0
SweepFault moment objects errors.TransactionalObjectVersionExists = SweepCause moment objects refusals.TransactionalObjectVersionExists
SweepFault moment objects (errors.ObjectStoreError NotFound) = SweepCause moment objects (refusals.ObjectStoreError NotFound)
SweepFault moment objects error = ⊥

-- the follower of which the code keeps this begins the line that is stored, and has seen the log files up to its mark
abbrev pub kept_seen : AFollower → Objects → Line → Type 0
kept_seen kept objects line = (whole : AFollower) × (kept ≡ kept_follower whole) × IsPrefix whole.line line × HasSeen objects whole

-- the manifest isn't stored that the checkpoint keeps at which a reader stays
abbrev pub Unpinned : DbReaderMode → Objects → Type 0
Unpinned mode objects =
    (latest : VersionedManifest) × (latest_manifest objects ≡ Some latest) × (view_under mode objects latest ≡ None) × (finds mode latest ≡ true)

-- the batches that an object reads: those of the tables of its view, and then those in memory
abbrev pub kept_rows : Option Objects → Object → List Batch → Type 0
kept_rows objects object rows =
    (stored : List Batch) × AreJoined objects (tables_of object) stored × (rows ≡ stored ++ batches_of object)

-- a log file and a table are their batches, of an object's line only the end is kept, and a line is stored where the
-- store is honest
abbrev pub by_objects : Option Objects → Knowledge (List Batch)
by_objects objects =
    record {
      summary = λ batches. batches;
      joined = flat_map (λ batches. batches);
      keep = kept_handle;
      keep_follower = kept_follower;
      is_stored = IsContent objects;
      has_seen = kept_seen;
      named = λ objects view stored line. line ≡ pinned_content objects view.manifest;
      unpinned = Unpinned;
      rows = kept_rows objects;
      unsound = OpenFault;
      stands = Stands;
      unjoined = JoinFault;
      unswept = SweepFault;
    }

-- The batches that an object of a world reads, while the tables of its view are stored: a handle its line, and a follower
-- what is stored. A snapshot reads by its handle.
abbrev pub world_rows : Line → Catalogue → Object → List Batch → Type 0
world_rows stored catalogue (Handle handle) rows = AreStored catalogue handle.view.manifest.tables × (rows ≡ handle.line.batches)
world_rows stored catalogue (Snapshot snapshot) rows = rows ≡ []
world_rows stored catalogue (Follower follower) rows = AreStored catalogue follower.view.manifest.tables × (rows ≡ stored.batches)

-- a log file and a table are the spans of their batches, all of an object's line is there, and this line is stored
abbrev pub by_catalogue : Line → Catalogue → Knowledge Span
by_catalogue stored catalogue =
    record {
      summary = span;
      joined = joined_span;
      keep = λ handle. handle;
      keep_follower = λ follower. follower;
      is_stored = λ line. line ≡ stored;
      has_seen = λ follower objects line. Unit {0};
      named = λ objects view stored line. line ≡ up_to (named_number objects view) stored;
      unpinned = λ mode objects. ⊥;
      rows = world_rows stored catalogue;
      unsound = λ objects error. ⊥;
      stands = λ changes objects. ⊥;
      unjoined = λ id objects error. ⊥;
      unswept = λ moment objects error. ⊥;
    }
