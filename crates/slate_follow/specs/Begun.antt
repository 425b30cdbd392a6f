-- What contracts see of a poll by single calls.
use Rattle.std.specs.Prelude.{ℕ, ◌+◌, ◌<◌, ◌≤◌, ◌^◌, length, Option, Some, None, IsSome}
use Rattle.slate_types.specs.Line.{AreNumberedFrom}
use Rattle.slate_store.specs.declared.objects.VersionedManifest.{VersionedManifest}
use Rattle.slate_model.specs.Begun as model
use Rattle.slate_model.specs.declared.leases.Lease.{Lease}
use Rattle.slate_follow.specs.declared.machines.PollMachine.TheInside.{Inside}
use Rattle.slate_follow.specs.declared.machines.Commit.{Commit}
use Rattle.slate_follow.specs.declared.machines.Stage.{Stage}
use Rattle.slate_follow.specs.declared.machines.Stage.TheVariants as stages

abbrev pub stage_of : Stage → Option Commit → model.Stage
stage_of stages.ReadLatest commit = model.ReadsLatest
stage_of stages.Put (Some commit) = model.Puts commit.next commit.lease commit.replaces
stage_of stages.Put None = model.Ended
stage_of stages.AskLast commit = model.AsksLast
stage_of (stages.LookAt id last) commit = model.LooksAt id last
stage_of (stages.ReadLog last) commit = model.ReadsLog last
stage_of stages.ReadAgain commit = model.ReadsAgain
stage_of stages.Ended commit = model.Ended

-- the manifest that was read or put last: the view, where no other was read since
abbrev pub read_last : (read view : Option VersionedManifest) → Option VersionedManifest
read_last (Some read) view = Some read
read_last None view = view

abbrev pub begun_of : Inside → model.Begun
begun_of a =
    record {
      moment = a.moment;
      overtaken = a.overtaken;
      history = a.history;
      stage = stage_of a.stage a.commit;
      view = a.view;
      latest = read_last a.read a.view;
      lease = a.lease;
      asked = a.asked;
      keeps = a.keeps;
      floor = a.floor;
      fresh = a.fresh;
      mark = a.mark;
    }

-- What holds by the call that comes next: a reader that is to put a manifest has a lease, and before any call but the first and that a
-- manifest was read; the log file to be read or looked at is above the mark, and isn't above the last.
abbrev pub IsStaged : model.Stage → Option Lease → (latest : Option VersionedManifest) → (mark : ℕ) → Type 0
IsStaged model.ReadsLatest lease latest mark = Unit {0}
IsStaged (model.Puts next given replaces) lease latest mark = IsSome lease
IsStaged model.AsksLast lease latest mark = IsSome latest
IsStaged (model.LooksAt id last) lease latest mark = IsSome latest × (mark < id) × (id ≤ last)
IsStaged (model.ReadsLog last) lease latest mark = IsSome latest × (mark < last)
IsStaged model.ReadsAgain lease latest mark = Unit {0}
IsStaged model.Ended lease latest mark = Unit {0}

-- its fresh batches are numbered from its floor on, and a try is left
pub record IsBegun (a : Inside) : Type 0 where
  pub numbered : AreNumberedFrom a.floor a.fresh
  pub fits : a.floor + length a.fresh < 2 ^ 64
  pub few : a.overtaken < 8
  pub staged : IsStaged (stage_of a.stage a.commit) a.lease (read_last a.read a.view) a.mark
