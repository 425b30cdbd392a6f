-- How far a begun poll of a reader reaches, whatever commands come between its steps: to what the reader was owed at the first one.
use Rattle.std.specs.Prelude.{◌≡◌, ℕ, ◌+◌, ◌<◌, ◌≤◌, ◌⊎◌, max, Bool, true, false, List, Some, None}
use Rattle.slate_types.specs.Line.{end}
use Rattle.slate_types.specs.declared.batches.Batch.{Batch}
use Rattle.slate_store.specs.declared.objects.VersionedManifest.{VersionedManifest}
use Rattle.slate_store.specs.Objects.{Objects, last_log, latest_manifest, log_at}
use Rattle.slate_model.specs.Begun.{AsksLast, Begun, LooksAt, Puts, ReadsAgain, ReadsLatest, ReadsLog, Stage, greatest_number, reached_number}
use Rattle.slate_model.specs.Follow.{come_by}
use Rattle.slate_model.specs.Follower.{Follower}
use Rattle.slate_live.specs.World.{World}

-- a log file has a batch with this number or a later one
abbrev pub HasFrom : (number id : ℕ) → Objects → Type 0
HasFrom number id objects = (batches : List Batch) × (log_at id objects ≡ Some batches) × (number ≤ greatest_number batches)

-- A batch with this number is to be read after a mark: a log file above it has that or a later one, or that one and those before it are
-- gone, at which the poll ends.
pub record IsToRead (number mark : ℕ) (objects : Objects) : Type 0 where
  pub id : ℕ
  pub above : mark < id
  pub within : (latest : VersionedManifest) → latest_manifest objects ≡ Some latest → id ≤ last_log latest.manifest.replay_after_wal_id objects
  pub has : ((n : ℕ) → mark < n → n ≤ id → log_at n objects ≡ None) ⊎ HasFrom number id objects

-- so does each log file after one of these that has a batch which wasn't reached
abbrev pub GoFrom : (number reached id : ℕ) → Objects → Type 0
GoFrom number reached id objects =
    (n : ℕ) (batches : List Batch) → id < n → log_at n objects ≡ Some batches → (greatest_number batches ≤ reached) ⊎ (number ≤ greatest_number batches)

-- it was read, or is to be
abbrev pub IsCovered : (number reached mark : ℕ) → Objects → Type 0
IsCovered number reached mark objects = (number ≤ reached) ⊎ ((read : IsToRead number mark objects) × GoFrom number reached read.id objects)

-- A poll that looks at log files from this one downwards finds it: the first one that has a batch which wasn't reached has it or a later
-- one, or is gone.
pub record IsToFind (number reached mark id : ℕ) (objects : Objects) : Type 0 where
  pub at : ℕ
  pub above : mark < at
  pub below : at ≤ id
  pub within : (latest : VersionedManifest) → latest_manifest objects ≡ Some latest → id ≤ last_log latest.manifest.replay_after_wal_id objects
  pub has : (log_at at objects ≡ None) ⊎ HasFrom number at objects
  pub none : (n : ℕ) (batches : List Batch) → at < n → n ≤ id → log_at n objects ≡ Some batches → greatest_number batches ≤ reached

-- It was reached, or is further ahead than a reader may lag.
abbrev pub IsApart : (lag number reached : ℕ) → Type 0
IsApart lag number reached = (number ≤ reached) ⊎ (reached + lag < number)

-- A poll that begins again by the tables of a manifest comes to it; one that skips log files has it.
abbrev pub IsCoveredBy : (skips : Bool) → (number : ℕ) → VersionedManifest → Objects → Type 0
IsCoveredBy true number manifest objects = number ≤ manifest.manifest.last_l0_seq
IsCoveredBy false number manifest objects = IsCovered number manifest.manifest.last_l0_seq manifest.manifest.replay_after_wal_id objects

-- By the call that comes next, of a reader that may lag so far: a manifest that is put gives the tables up to its last number, and its
-- replay mark; the last log file that is read comes no earlier; and where the latest manifest is read again, log files were removed.
abbrev pub ReachesAt : (lag : ℕ) → Stage → (number : ℕ) → Objects → Begun → Type 0
ReachesAt lag ReadsLatest number objects begun = Unit {0}
ReachesAt lag (Puts next given true) number objects begun = let reached = max (reached_number begun) next.manifest.last_l0_seq in
    IsCovered number reached (max begun.mark next.manifest.replay_after_wal_id) objects × IsApart lag number reached
ReachesAt lag (Puts next given false) number objects begun = number ≤ reached_number begun
ReachesAt lag AsksLast number objects begun = IsCovered number (reached_number begun) begun.mark objects × IsApart lag number (reached_number begun)
ReachesAt lag (LooksAt id last) number objects begun =
    (number ≤ reached_number begun) ⊎ ((reached_number begun + lag < number) × IsToFind number (reached_number begun) begun.mark id objects × (id ≤ last))
ReachesAt lag (ReadsLog last) number objects begun = (number ≤ reached_number begun) ⊎ ((to_read : IsToRead number begun.mark objects) × (to_read.id ≤ last))
ReachesAt lag ReadsAgain number objects begun =
    (number ≤ reached_number begun) ⊎ ((latest : VersionedManifest) × (latest_manifest objects ≡ Some latest) × (begun.mark < latest.manifest.replay_after_wal_id))
ReachesAt lag stage number objects begun = number ≤ reached_number begun

-- As much is stored, and in tables where the reader skips log files; else it is apart from what the reader has and the latest tables. The
-- poll comes to it.
pub record ReachesTo (number : ℕ) (objects : Objects) (w : World) (reader : Follower) (begun : Begun) : Type 0 where
  pub stored : number ≤ end w.stored
  pub tabled : reader.skips ≡ true → (latest : VersionedManifest) → latest_manifest w.catalogue ≡ Some latest → number ≤ latest.manifest.last_l0_seq
  pub apart : reader.skips ≡ false → (latest : VersionedManifest) → latest_manifest w.catalogue ≡ Some latest → IsApart reader.lag number (come_by reader latest)
  pub anew : (manifest : VersionedManifest) → begun.latest ≡ Some manifest → IsCoveredBy reader.skips number manifest objects
  pub next : ReachesAt reader.lag begun.stage number objects begun
