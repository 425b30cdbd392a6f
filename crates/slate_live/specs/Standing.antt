-- A reader that a program holds beside a world, or that is an object of it, and a poll of it by single calls of the store.
use Rattle.std.specs.Prelude.{◌≡◌, ℕ, ℤ, ◌≤◌, [], Bool, Option, Some, Ok, true, false}
use Rattle.slate_types.specs.Line.{AreNumberedFrom, Line, end}
use Rattle.slate_store.specs.Checkpoints.{to_refresh, to_write}
use Rattle.slate_store.specs.declared.objects.VersionedManifest.{VersionedManifest}
use Rattle.slate_store.specs.Objects.{Objects}
use Rattle.slate_model.specs.Begun.{AsksLast, Begun, LooksAt, Puts, ReadsAgain, ReadsLatest, ReadsLog, Stage, base_of, begun_at, reached_number, view_of}
use Rattle.slate_model.specs.declared.leases.Lease.{Lease}
use Rattle.slate_model.specs.Follower.{Follower, kept_follower, number}
use Rattle.slate_model.specs.Lease.{leased}
use Rattle.slate_model.specs.Stood.{WasLatest}
use Rattle.slate_model.specs.Handle.{Handle, up_to}
use Rattle.slate_model.specs.Object.{Follower as AFollower}
use Rattle.slate_follow.specs.Following.{FollowsLine}
use Rattle.slate_follow.specs.Lasting.{Lasts}
use Rattle.slate_follow.specs.Stepping.{FitsReader}
use Rattle.slate_live.specs.Worlds.{AreBefore, AreOfPast, IsHandleAt, IsHeld, IsValidFollower}
use Rattle.slate_live.specs.World.{World}

-- It is none of the world's objects, and stands to the world and to the store's objects as a reader among them does: what it sees
-- begins the line that is stored, the tables of its view are, joined, the front of what it sees, and were put already, and it has
-- seen the log files up to its mark.
pub record StandsBeside (objects : Objects) (w : World) (reader : Follower) : Type 0 where
  pub valid : IsValidFollower w.stored w.catalogue reader
  pub named : (n : ℕ) (handle : Handle) → IsHandleAt w.objects n handle → AreBefore handle reader.view.manifest.tables
  pub past : AreOfPast w.catalogue reader.view.manifest.tables
  pub held : IsHeld objects (AFollower reader)

-- ---- a begun poll of such a reader
-- the reader with another view, what is stored up to a number, another mark and another lease
abbrev pub placed : (stored : Line) → Follower → VersionedManifest → (number mark : ℕ) → Option Lease → Follower
placed stored reader view number mark lease = record reader { view = view; line = up_to number stored; segments = []; mark = mark; lease = lease }

-- what the reader becomes by its begun poll, as far as that has come
abbrev pub comes_to : (stored : Line) → Follower → Begun → Follower
comes_to stored reader begun = placed stored reader (view_of reader begun) (reached_number begun) begun.mark begun.lease

-- what it is with the tables of a manifest alone
abbrev pub tabled_by : (stored : Line) → Follower → VersionedManifest → Option Lease → Follower
tabled_by stored reader view lease = placed stored reader view view.manifest.last_l0_seq view.manifest.replay_after_wal_id lease

-- a poll with this lease plans the next manifest after the last one: with another checkpoint in place of the lease's, or that with
-- another end
abbrev pub PlansFor : Lease → (replaces : Bool) → (last next : VersionedManifest) → (given : Lease) → Type 0
PlansFor lease true last next given = (moment : ℤ) × (leased lease.lifetime (to_write (Some lease.id) (Some lease.lifetime) moment last) ≡ Ok (Some next, given))
PlansFor lease false last next given = (moment : ℤ) × (leased lease.lifetime (to_refresh lease.id lease.lifetime moment last) ≡ Ok (Some next, given))

-- What it puts next is planned for its lease after the manifest that it read or put last; one that reads or looks at log files is of a
-- reader that doesn't skip them.
abbrev pub IsStaged : Follower → Begun → Stage → Type 0
IsStaged reader begun (Puts next given replaces) = (last : VersionedManifest) × (begun.latest ≡ Some last) × (lease : Lease) × (begun.lease ≡ Some lease) × PlansFor lease replaces last next given
IsStaged reader begun AsksLast = reader.skips ≡ false
IsStaged reader begun (LooksAt id last) = reader.skips ≡ false
IsStaged reader begun (ReadsLog last) = reader.skips ≡ false
IsStaged reader begun ReadsAgain = reader.skips ≡ false
IsStaged reader begun stage = Unit {0}

-- One of a reader that skips log files has the tables of its manifest alone, but before that is read, and where it puts one with another
-- checkpoint.
abbrev pub IsBare : Follower → Begun → Type 0
IsBare reader begun = (begun.keeps ≡ false) × (begun.fresh ≡ []) × (begun.floor ≡ (view_of reader begun).manifest.last_l0_seq)

abbrev pub IsBareAt : Follower → Begun → Stage → Type 0
IsBareAt reader begun ReadsLatest = Unit {0}
IsBareAt reader begun (Puts next given true) = Unit {0}
IsBareAt reader begun stage = IsBare reader begun

-- the manifest that it read or put last was the latest one, and the reader with its tables alone stands
abbrev pub ReadLast : Objects → World → Follower → Begun → VersionedManifest → Type 0
ReadLast objects w reader begun last =
    WasLatest objects last × (w.stored.floor ≤ last.manifest.last_l0_seq) × (last.manifest.last_l0_seq ≤ end w.stored) × StandsBeside objects w (tabled_by w.stored reader last begun.lease)

-- A begun poll stands beside a world with its reader: it follows the line, and lasts, what it has come to stands there, and so does
-- the reader with the tables of the manifest that it read or put last.
pub record PollStands (objects : Objects) (w : World) (reader : Follower) (begun : Begun) : Type 0 where
  pub reader_stands : StandsBeside objects w reader
  pub keeps : (kept_follower reader).line.floor ≡ reader.view.manifest.last_l0_seq
  pub follows : FollowsLine objects w.stored (kept_follower reader) begun
  pub fits : FitsReader (kept_follower reader) begun
  pub viewed : w.stored.floor ≤ (view_of reader begun).manifest.last_l0_seq
  pub within : reached_number begun ≤ end w.stored
  pub comes : StandsBeside objects w (comes_to w.stored reader begun)
  pub read : (last : VersionedManifest) → begun.latest ≡ Some last → ReadLast objects w reader begun last
  pub staged : IsStaged reader begun begun.stage
  pub bare : reader.skips ≡ true → IsBareAt reader begun begun.stage
  pub anew : begun.stage ≡ ReadsLatest → begun ≡ begun_at begun.moment begun.overtaken begun.history (kept_follower reader)
  pub numbered : AreNumberedFrom begun.floor begun.fresh
  pub risen : number reader ≤ reached_number begun  -- it doesn't come to a number below its reader's
  pub above : (last : VersionedManifest) → begun.latest ≡ Some last → base_of (kept_follower reader) begun ≤ last.manifest.last_l0_seq
  pub tabled : reader.skips ≡ true → (last : VersionedManifest) → begun.latest ≡ Some last → number reader ≤ last.manifest.last_l0_seq
  pub lasts : Lasts objects (kept_follower reader) begun
