-- Snapshots among the live objects.
use Rattle.std.specs.Prelude.{◌≡◌, ◌⊎◌, ◌++◌, ◌∷◌, [], ℕ, List, length, Option, Some, None, Result}
use Rattle.slate_live.specs.Settings.{Settings}
use Rattle.slate_errors.specs.declared.errors.SlateError.{SlateError}
use Rattle.slate_model.specs.declared.snapshots.HandleSnapshot.{HandleSnapshot}
use Rattle.slate_model.specs.Knowledge.{Knowledge}
use Rattle.slate_model.specs.Known.{Known}
use Rattle.slate_model.specs.Object.{Object, Handle, Snapshot, Follower}
use Rattle.slate_model.specs.Snapshot.{snapshot_number}
use Rattle.slate_script.specs.declared.commands.Command.{Command}
use Rattle.slate_script.specs.declared.replies.Reply.{Reply}
use Rattle.slate_script.specs.declared.replies.Reply.TheVariants as replies
use Rattle.slate_live.specs.declared.states.Write.{Write}
use Rattle.slate_live.specs.Calls.{Call}
use Rattle.slate_live.specs.Handles.{HandleActs}

-- the snapshot that an object is
abbrev pub snapshot_of : Object → Option HandleSnapshot
snapshot_of (Handle handle) = None
snapshot_of (Snapshot snapshot) = Some snapshot
snapshot_of (Follower follower) = None

-- the number of a snapshot that is taken of an object, where it is a handle
abbrev pub taken_of : Object → Option (Result ℕ SlateError)
taken_of (Handle handle) = Some (snapshot_number handle)
taken_of (Snapshot snapshot) = None
taken_of (Follower follower) = None

-- what an object does of which a snapshot is asked this: a handle answers, and anything else is unknown; neither changes
abbrev pub ActsAsOf : {L : Type 0} → Knowledge L → Settings → (handle : ℕ) → Command → Call → Object → Known L → List Write → Reply → Known L → Type 0
ActsAsOf k settings n command call (Handle handle) before writes reply after =
    HandleActs k settings n command.moment command.second call 0 handle before writes reply handle after writes
ActsAsOf k settings n command call object before writes reply after = (reply ≡ replies.Unknown) × (after ≡ before)

-- a snapshot is added to objects, and answered with its place, unless memory runs out
abbrev pub Pushes : List Object → HandleSnapshot → Reply → List Object → Type 0
Pushes objects snapshot reply objects' =
    ((reply ≡ replies.Snapshot (length objects) snapshot.number) × (objects' ≡ objects ++ Snapshot snapshot ∷ [])) ⊎ ((reply ≡ replies.NoMemory) × (objects' ≡ objects))
