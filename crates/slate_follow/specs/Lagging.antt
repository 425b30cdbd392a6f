-- Which log files a poll replays of a reader that may lag.
use Rattle.std.specs.Prelude.{◌≡◌, ℕ, ◌+◌, ◌*◌, ◌<◌, ◌≤◌, ◌==◌, ◌⊎◌, if◌then◌else◌, true, false, None}
use Rattle.slate_store.specs.declared.objects.VersionedManifest.{VersionedManifest}
use Rattle.slate_store.specs.Objects.{Objects, last_log, log_at}
use Rattle.slate_replay.specs.Newest.{HasNewest, HaveNothingNew}
use Rattle.slate_model.specs.Follower.{Follower, number}

-- the log files above a mark bring a reader from a number further than it may be behind, or one of them is missing
abbrev pub MustRead : (lag number from : ℕ) → Objects → Type 0
MustRead lag number from objects =
    ((newest : ℕ) × HasNewest number from (last_log from objects) objects newest × (number + lag < newest))
    ⊎ ((id : ℕ) × (from < id) × (id ≤ last_log from objects) × (log_at id objects ≡ None))

-- they bring it no further
abbrev pub MayWait : (lag number from : ℕ) → Objects → Type 0
MayWait lag number from objects =
    HaveNothingNew number from (last_log from objects) objects
    ⊎ ((newest : ℕ) × HasNewest number from (last_log from objects) objects newest × (newest ≤ number + lag))

-- The last log file that a poll replays above a mark, by which its reader has come to a number: the last one of all, or none above the
-- mark, where the reader may lag and waits.
abbrev pub IsLastTaken : (lag number from : ℕ) → Objects → (last : ℕ) → Type 0
IsLastTaken lag number from objects last =
    ((last ≡ last_log from objects) × ((lag ≡ 0) ⊎ MustRead lag number from objects))
    ⊎ ((last ≡ from) × (0 < lag) × MayWait lag number from objects)

-- and where it begins by the tables of a manifest: one that skips log files replays none, and one that these take back all
abbrev pub IsLastRead : Follower → VersionedManifest → Objects → (last : ℕ) → Type 0
IsLastRead follower view objects last = let m = view.manifest in
    ((follower.skips ≡ true) × (last ≡ m.replay_after_wal_id))
    ⊎ ((follower.skips ≡ false) × (((number follower < m.last_l0_seq) × IsLastTaken follower.lag m.last_l0_seq m.replay_after_wal_id objects last)
    ⊎ ((m.last_l0_seq ≤ number follower) × (last ≡ last_log m.replay_after_wal_id objects))))

-- how often log files are read at most, where there are so many: once more each to look at them, where the reader may lag
abbrev pub readings : (lag logs : ℕ) → ℕ
readings lag logs = if lag == 0 then logs else 2 * logs
