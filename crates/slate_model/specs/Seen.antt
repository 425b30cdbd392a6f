-- What a follower has seen of the log files of a store.
use Rattle.std.specs.Prelude.{◌≡◌, ℕ, ◌<◌, ◌≤◌, All, List, Some}
use Rattle.slate_types.specs.declared.batches.Batch.{Batch}
use Rattle.slate_store.specs.declared.objects.VersionedManifest.{VersionedManifest}
use Rattle.slate_store.specs.Objects.{Objects, last_log, latest_manifest, log_at}
use Rattle.slate_model.specs.Follower.{Follower, number}

-- A follower has seen these objects up to its mark: that isn't above the last log file, and no log file up to it that a
-- replay reads has a batch above the follower's number.
pub record HasSeen (objects : Objects) (follower : Follower) : Type 0 where
  pub mark : (latest : VersionedManifest) → latest_manifest objects ≡ Some latest → follower.mark ≤ last_log latest.manifest.replay_after_wal_id objects
  pub logs : (latest : VersionedManifest) (id : ℕ) (batches : List Batch) → latest_manifest objects ≡ Some latest → latest.manifest.replay_after_wal_id < id → id ≤ follower.mark →
      log_at id objects ≡ Some batches → All (λ batch. batch.number ≤ number follower) batches
