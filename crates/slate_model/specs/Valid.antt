-- What holds of each handle of a world that commands lead to, and what its objects read.
use Rattle.std.specs.Prelude.{◌≡◌, ℕ, ◌<◌, ◌≤◌, ◌++◌, All, List, false, Some, None}
use Rattle.slate_types.specs.Line.{Line, IsLine, IsPrefix, batches_above, extended}
use Rattle.slate_store.specs.declared.objects.VersionedManifest.{VersionedManifest}
use Rattle.slate_store.specs.Content.{table_batches}
use Rattle.slate_store.specs.declared.objects.TableId.{TableId}
use Rattle.slate_store.specs.Objects.{Objects, ObjectsOf, latest_manifest, table_at}
use Rattle.slate_model.specs.Catalogue.{Catalogue}
use Rattle.slate_model.specs.Follower.{is_pinned}
pub use Rattle.slate_model.specs.Handle.{up_to}
use Rattle.slate_model.specs.Handle.{Handle, accepted, unstored}
use Rattle.slate_model.specs.Object.{Object, Handle as AHandle, Snapshot as ASnapshot, Follower as AFollower}
use Rattle.slate_model.specs.Seen.{HasSeen}
use Rattle.slate_model.specs.Tables.{AreStored}

-- A handle of a world with this catalogue, in which this line is stored: its line is one, its batches up to its durable
-- number begin what is stored, and those in the tables of its view are among them. No table is stored under the id of its next
-- one or of a later one. Neither its epoch nor its view's last number in tables is above the latest manifest's. While it is
-- open and its epoch is current, what is stored and then what isn't stored yet is its line, and its view's tables end where
-- the latest manifest's do.
pub record IsValidHandle (stored : Line) (catalogue : Catalogue) (handle : Handle) : Type 0 where
  pub numbered : IsLine handle.line
  pub floor : handle.line.floor ≤ handle.view.manifest.last_l0_seq
  pub tabled : handle.view.manifest.last_l0_seq ≤ handle.durable
  pub durable : handle.durable ≤ accepted handle
  pub confirmed : IsPrefix (up_to handle.durable handle.line) stored
  pub unused : (index : ℕ) → handle.counter ≤ index → table_at (record { epoch = handle.epoch; index = index }) catalogue ≡ None
  pub behind : (latest : VersionedManifest) × (latest_manifest catalogue ≡ Some latest) × (handle.epoch ≤ latest.manifest.writer_epoch)
      × (handle.view.manifest.last_l0_seq ≤ latest.manifest.last_l0_seq)
  pub current : (latest : VersionedManifest) → handle.result ≡ None → latest_manifest catalogue ≡ Some latest → latest.manifest.writer_epoch ≤ handle.epoch →
      (extended stored (unstored handle) ≡ handle.line) × (latest.manifest.last_l0_seq ≡ handle.view.manifest.last_l0_seq)

-- the tables with these ids, where they are of this handle's epoch, come before its next one
abbrev pub AreBefore : Handle → List TableId → Type 0
AreBefore handle ids = All (λ id. id.epoch ≡ handle.epoch → id.index < handle.counter) ids

-- and their epochs aren't above that of the latest manifest
abbrev pub AreOfPast : {L : Type 0} → ObjectsOf L → List TableId → Type 0
AreOfPast objects ids = (latest : VersionedManifest) × (latest_manifest objects ≡ Some latest) × All (λ id. id.epoch ≤ latest.manifest.writer_epoch) ids

-- where the tables of this manifest are stored, they are, joined, the batches of a line up to the manifest's last number in
-- tables
abbrev pub ReadsLine : Objects → VersionedManifest → Line → Type 0
ReadsLine objects view line =
    let m = view.manifest in
    AreStored objects m.tables → table_batches objects m.tables ++ batches_above m.last_l0_seq line.batches ≡ line.batches

-- so an object reads its line; a snapshot has none of its own
abbrev pub ReadsItsLine : Objects → Object → Type 0
ReadsItsLine objects (AHandle handle) = ReadsLine objects handle.view handle.line
ReadsItsLine objects (ASnapshot snapshot) = Unit {0}
ReadsItsLine objects (AFollower follower) = ReadsLine objects follower.view follower.line

-- a follower that takes what is new has seen these objects up to its mark
abbrev pub HasSeenThem : Objects → Object → Type 0
HasSeenThem objects (AHandle handle) = Unit {0}
HasSeenThem objects (ASnapshot snapshot) = Unit {0}
HasSeenThem objects (AFollower follower) = is_pinned follower.mode ≡ false → HasSeen objects follower

-- what the objects of a store are to one of a world
abbrev pub IsHeld : Objects → Object → Type 0
IsHeld objects object = ReadsItsLine objects object × HasSeenThem objects object
