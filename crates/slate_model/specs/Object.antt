-- The objects of a world: handles, snapshots and followers.
use Rattle.std.specs.Prelude.{List, []}
use Rattle.slate_types.specs.declared.batches.Batch.{Batch}
use Rattle.slate_store.specs.declared.objects.TableId.{TableId}
use Rattle.slate_model.specs.declared.snapshots.HandleSnapshot.{HandleSnapshot}
use Rattle.slate_model.specs.Follower.{Follower as AFollower, kept_follower}
use Rattle.slate_model.specs.Handle.{Handle as AHandle, kept_handle}

-- what commands name by a number: a handle that writes, a snapshot of one, or a follower that reads
pub data Object : Type 0 where
  Handle : (handle : AHandle) → Object
  Snapshot : (snapshot : HandleSnapshot) → Object
  Follower : (follower : AFollower) → Object

-- the tables of the manifest that an object goes by; a snapshot goes by its handle
abbrev pub tables_of : Object → List TableId
tables_of (Handle handle) = handle.view.manifest.tables
tables_of (Snapshot snapshot) = []
tables_of (Follower follower) = follower.view.manifest.tables

-- the batches that it sees; a snapshot has none of its own
abbrev pub batches_of : Object → List Batch
batches_of (Handle handle) = handle.line.batches
batches_of (Snapshot snapshot) = []
batches_of (Follower follower) = follower.line.batches

-- What the code keeps of an object: of its line, the batches that aren't in the tables of its view.
abbrev pub kept : Object → Object
kept (Handle handle) = Handle (kept_handle handle)
kept (Snapshot snapshot) = Snapshot snapshot
kept (Follower follower) = Follower (kept_follower follower)
