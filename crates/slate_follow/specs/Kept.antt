-- What a reader keeps in memory, and the follower that it represents.
use Rattle.std.specs.Prelude.{◌≡◌, ◌+◌, ◌<◌, ◌^◌, [], None, Some, is_some, length, IfSome}
use Rattle.slate_types.specs.Line.{AreNumberedFrom}
use Rattle.slate_model.specs.Follower.{Follower, follower_tasks, is_managed, rebuilt}
use Rattle.slate_follow.specs.Joined.{AreFilled, joined}
use Rattle.slate_follow.specs.declared.rebuilds.Rebuilt.TheInside.{Inside as Rebuilt}
use Rattle.slate_follow.specs.declared.states.FollowerState.TheInside.{Inside}

-- the follower that the fields represent
abbrev pub follower_of : Inside → Follower
follower_of a =
    record {
      mode = a.following.mode;
      skips = a.following.skips;
      lag = a.following.lag;
      view = a.status.manifest;
      line = record { floor = a.status.manifest.manifest.last_l0_seq; batches = joined a.kept.items };
      segments = a.segments;
      mark = a.mark;
      lease = a.lease;
      result = a.status.result;
      tasks = a.tasks.names;
    }

-- each table in memory has a batch; their batches are numbered from the last number in tables on, and its number is that of the
-- last one. It has a lease exactly where it keeps a checkpoint of its own. What it reports has no segments of its own.
-- While it is open, the task of its mode runs; one that has ended was told the result with which it closed.
pub record IsKeptFollower (a : Inside) : Type 0 where
  pub filled : AreFilled a.kept.items
  pub numbered : AreNumberedFrom a.status.manifest.manifest.last_l0_seq (joined a.kept.items)
  pub fits : a.status.manifest.manifest.last_l0_seq + length (joined a.kept.items) < 2 ^ 64
  pub number : a.number ≡ a.status.manifest.manifest.last_l0_seq + length (joined a.kept.items)
  pub unsegmented : a.status.segments ≡ []
  pub leased : is_some a.lease ≡ is_managed a.following.mode
  pub running : a.status.result ≡ None → a.tasks.names ≡ follower_tasks a.following.mode
  pub told : IfSome a.tasks.told (λ outcome. a.status.result ≡ Some outcome)

-- the follower that what was built makes
abbrev pub rebuilt_follower : Rebuilt → Follower
rebuilt_follower a = record (rebuilt a.following.mode a.following.skips a.following.lag a.view (record { floor = a.view.manifest.last_l0_seq; batches = a.memory }) a.mark) { segments = a.segments }

-- its batches are numbered from the last number in tables on
pub record IsRebuilt (a : Rebuilt) : Type 0 where
  pub numbered : AreNumberedFrom a.view.manifest.last_l0_seq a.memory
  pub fits : a.view.manifest.last_l0_seq + length a.memory < 2 ^ 64
