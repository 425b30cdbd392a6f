-- Live objects, as the model has them.
use Rattle.std.specs.Prelude.{Option, None}
use Rattle.slate_model.specs.Begun.{Begun}
use Rattle.slate_model.specs.Object.{Object as AnObject, Handle, Snapshot, Follower}
use Rattle.slate_live.specs.declared.objects.Object.{Object}
use Rattle.slate_live.specs.declared.objects.Object.TheVariants as objects

-- the object of the model that the code's is
abbrev pub object_of : Object → AnObject
object_of (objects.Handle handle) = Handle handle
object_of (objects.Snapshot snapshot) = Snapshot snapshot
object_of (objects.Follower reader) = Follower reader.state

-- the begun poll of an object: only a reader has one
abbrev pub poll_of : Object → Option Begun
poll_of (objects.Handle handle) = None
poll_of (objects.Snapshot snapshot) = None
poll_of (objects.Follower reader) = reader.poll
