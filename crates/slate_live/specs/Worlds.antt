-- The worlds that commands lead to, and what holds of the objects in them.
use Rattle.std.specs.Prelude.{◌≡◌, ℕ, ◌≤◌, List, slice_get, true, false, Some, None, is_some}
use Rattle.slate_types.specs.Line.{Line, IsLine, IsPrefix}
use Rattle.slate_store.specs.declared.objects.VersionedManifest.{VersionedManifest}
use Rattle.slate_store.specs.Objects.{Objects, latest_manifest}
use Rattle.slate_store.specs.Content.{IsSound, content}
use Rattle.slate_model.specs.Catalogue.{Catalogue, catalogue_of}
use Rattle.slate_model.specs.Follower.{Follower, is_managed, is_pinned, number}
use Rattle.slate_model.specs.Handle.{Handle, accepted}
use Rattle.slate_model.specs.declared.snapshots.HandleSnapshot.{HandleSnapshot}
use Rattle.slate_model.specs.Object.{Object, Handle as AHandle, Snapshot as ASnapshot, Follower as AFollower, tables_of}
pub use Rattle.slate_model.specs.Valid.{AreBefore, AreOfPast, IsHeld, IsValidHandle, ReadsItsLine, up_to}
use Rattle.slate_live.specs.World.{World}

-- objects hold what a world says is stored
pub record Holds (objects : Objects) (w : World) : Type 0 where
  pub stored : content objects ≡ w.stored
  pub catalogue : catalogue_of objects ≡ w.catalogue

abbrev pub IsHandleAt : List Object → ℕ → Handle → Type 0
IsHandleAt live n handle = slice_get live n ≡ Some (AHandle handle)

-- a follower of the latest manifest that reads no log file sees no more than what is in the tables of that
abbrev pub IsTabled : Catalogue → Follower → Type 0
IsTabled catalogue follower =
    follower.skips ≡ true → is_pinned follower.mode ≡ false → (latest : VersionedManifest) → latest_manifest catalogue ≡ Some latest → number follower ≤ latest.manifest.last_l0_seq

-- an open one that keeps a checkpoint of its own has a lease of that
abbrev pub IsLeased : Follower → Type 0
IsLeased follower = is_managed follower.mode ≡ true → follower.result ≡ None → is_some follower.lease ≡ true

-- the tables of the manifest that a follower goes by end no later than those of the latest one, unless it stays at a checkpoint
abbrev pub IsViewed : Catalogue → Follower → Type 0
IsViewed catalogue follower =
    is_pinned follower.mode ≡ false → (latest : VersionedManifest) → latest_manifest catalogue ≡ Some latest → follower.view.manifest.last_l0_seq ≤ latest.manifest.last_l0_seq

-- a follower of a world with this catalogue, in which this line is stored: what it sees begins that
abbrev pub IsValidFollower : Line → Catalogue → Follower → Type 0
IsValidFollower stored catalogue follower = IsPrefix follower.line stored × IsTabled catalogue follower × IsLeased follower × IsViewed catalogue follower

abbrev pub IsFollowerAt : List Object → ℕ → Follower → Type 0
IsFollowerAt live n follower = slice_get live n ≡ Some (AFollower follower)

-- a snapshot is of a handle, whose line has its number
abbrev pub IsOfHandle : List Object → HandleSnapshot → Type 0
IsOfHandle objects snapshot =
    (handle : Handle) × IsHandleAt objects snapshot.handle handle × (handle.line.floor ≤ snapshot.number) × (snapshot.number ≤ accepted handle)

-- What holds of every world that commands lead to: a line is stored, its handles, snapshots and followers are valid, and no
-- two handles have the same epoch. The tables that an object's view names were put: those of a handle come before its next one,
-- and their epochs aren't above the latest manifest's. So no table is put under an id that a view names.
pub record IsValid (w : World) : Type 0 where
  pub line : IsLine w.stored
  pub followers : (n : ℕ) (follower : Follower) → IsFollowerAt w.objects n follower → IsValidFollower w.stored w.catalogue follower
  pub handles : (n : ℕ) (handle : Handle) → IsHandleAt w.objects n handle → IsValidHandle w.stored w.catalogue handle
  pub snapshots : (n : ℕ) (snapshot : HandleSnapshot) → slice_get w.objects n ≡ Some (ASnapshot snapshot) → IsOfHandle w.objects snapshot
  pub named : (m n : ℕ) (handle : Handle) (object : Object) → IsHandleAt w.objects m handle → slice_get w.objects n ≡ Some object →
      AreBefore handle (tables_of object)
  pub past : (n : ℕ) (object : Object) → slice_get w.objects n ≡ Some object → AreOfPast w.catalogue (tables_of object)
  pub distinct : (m n : ℕ) (a b : Handle) → IsHandleAt w.objects m a → IsHandleAt w.objects n b → a.epoch ≡ b.epoch → m ≡ n

-- what holds of every world that a run leads to: it is valid, and sound objects hold what it says
abbrev pub IsReached : World → Type 0
IsReached w = IsValid w × (objects : Objects) × IsSound objects × Holds objects w
