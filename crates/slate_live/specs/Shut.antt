-- Objects that are closed.
use Rattle.std.specs.Prelude.{◌≢◌, Option, Some, None}
use Rattle.slate_model.specs.Object.{Object, Handle, Snapshot, Follower}

-- an object is a handle or a reader that is closed
abbrev pub IsShut : Object → Type 0
IsShut (Handle handle) = handle.result ≢ None
IsShut (Snapshot snapshot) = ⊥
IsShut (Follower follower) = follower.result ≢ None

abbrev pub IsShutAt : Option Object → Type 0
IsShutAt None = ⊥
IsShutAt (Some object) = IsShut object
