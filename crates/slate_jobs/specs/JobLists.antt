-- A list of jobs, and how the times at which they may be claimed follow its changes.
use Rattle.std.specs.Prelude.{◌≡◌, ℕ, nat_lt, Bool, if◌then◌else◌, List, map, slice_get, Option, Some, None, IfSome}
use Rattle.slate_jobs.specs.declared.effects.Change.{Change}
use Rattle.slate_jobs.specs.declared.effects.Change.TheVariants.{Adds, Moves, Keeps}
use Rattle.slate_jobs.specs.declared.jobs.Job.{Job}
use Rattle.slate_jobs.specs.declared.turns.Turn.{Turn}
use Rattle.slate_jobs.specs.Turns.{put_at, turn_of}

-- jobs, and whether there is room for one more
pub record Listed : Type 0 where
  pub items : List Job
  pub has_room : Bool

-- when each of these may be claimed
abbrev pub turns_of : List Job → List Turn
turns_of jobs = map (λ job. turn_of job.state) jobs

-- that is noted, where anything is
abbrev pub AreNoted : List Job → Option (List Turn) → Type 0
AreNoted jobs None = Unit {0}
AreNoted jobs (Some turns) = turns ≡ turns_of jobs

-- the place that a change of so many jobs changes
abbrev pub changed_place : (count : ℕ) → Change → Option ℕ
changed_place count (Adds job) = Some count
changed_place count (Moves number job) = if nat_lt number count then Some number else None
changed_place count Keeps = None

-- The times once the one at a place is that of its job again; the same times, where there is no such place.
abbrev pub IsRenoted : List Job → (place : Option ℕ) → (old new : List Turn) → Type 0
IsRenoted jobs None old new = new ≡ old
IsRenoted jobs (Some place) old new = IfSome (slice_get jobs place) (λ job. new ≡ put_at old place (turn_of job.state))
