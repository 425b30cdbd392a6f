-- What no command takes back of an object.
use Rattle.std.specs.Prelude.{◌≡◌, ℕ, ◌≤◌, int_lt, false, List, slice_get, Some, IfSome}
use Rattle.slate_types.specs.Line.{IsPrefix}
use Rattle.slate_model.specs.Follower.{Follower as AFollower, number}
use Rattle.slate_model.specs.Handle.{Handle as AHandle, CloseResult}
use Rattle.slate_model.specs.Object.{Object, Handle, Snapshot, Follower}

-- the first result stays
abbrev pub StaysClosed : CloseResult → CloseResult → Type 0
StaysClosed old new = IfSome old (λ r. new ≡ Some r)

-- a handle's line is only appended to, and neither its durable number nor its tick falls
pub record HandleRises (old new : AHandle) : Type 0 where
  pub line : IsPrefix old.line new.line
  pub durable : old.durable ≤ new.durable
  pub tick : int_lt new.tick old.tick ≡ false
  pub epoch : new.epoch ≡ old.epoch
  pub result : StaysClosed old.result new.result

-- a follower's number doesn't fall, and it stays in its mode and may lag as before
pub record FollowerRises (old new : AFollower) : Type 0 where
  pub mode : new.mode ≡ old.mode
  pub skips : new.skips ≡ old.skips
  pub lag : new.lag ≡ old.lag
  pub number : number old ≤ number new
  pub result : StaysClosed old.result new.result

abbrev pub Rises : Object → Object → Type 0
Rises (Handle old) (Handle new) = HandleRises old new
Rises (Snapshot old) (Snapshot new) = new ≡ old
Rises (Follower old) (Follower new) = FollowerRises old new
Rises old new = ⊥

-- each object stays, and what is said of it above; a snapshot is as it was
abbrev pub Rise : List Object → List Object → Type 0
Rise objects objects' = (n : ℕ) (old : Object) → slice_get objects n ≡ Some old → (new : Object) × (slice_get objects' n ≡ Some new) × Rises old new
