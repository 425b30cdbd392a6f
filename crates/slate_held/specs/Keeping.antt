-- What a handle and its own store keep of each other, call after call: no other changes the store.
use Rattle.std.specs.Prelude.{◌≡◌, ◌≢◌, ◌≤◌, ◌⊎◌, All, Contains, List, Option, None, Some, IfSome}
use Rattle.slate_types.specs.declared.batches.Batch.{Batch}
use Rattle.slate_types.specs.Line.{IsLine}
use Rattle.slate_store.specs.declared.objects.Manifest.{Manifest}
use Rattle.slate_store.specs.declared.objects.TableId.{TableId}
use Rattle.slate_store.specs.declared.objects.VersionedManifest.{VersionedManifest}
use Rattle.slate_store.specs.Logs.{IsLogged}
use Rattle.slate_store.specs.Objects.{IsGreatest, Objects, latest_manifest, table_at}
use Rattle.slate_model.specs.Handle.{CloseResult, Handle, accepted}

-- a table that a manifest names has this batch
pub record IsTabled (manifest : Manifest) (objects : Objects) (batch : Batch) : Type 0 where
  pub id : TableId
  pub table : List Batch
  pub named : Contains manifest.tables id
  pub stored : table_at id objects ≡ Some table
  pub has : Contains table batch

-- Where a durable batch stands, by the latest manifest: in a log file above its replay mark, or, once the handle is closed, in
-- one of its tables, since a flush that failed may have put the manifest all the same.
abbrev pub IsStored : CloseResult → Manifest → Objects → Batch → Type 0
IsStored result manifest objects batch =
    IsLogged manifest.replay_after_wal_id objects batch ⊎ ((result ≢ None) × IsTabled manifest objects batch)

-- A handle and the latest manifest of its store, which has the handle's epoch. While the handle is open, its view and that
-- manifest have the same last number in tables, and memory begins after it.
pub record IsInStep (handle : Handle) (objects : Objects) (latest : VersionedManifest) : Type 0 where
  pub is : latest_manifest objects ≡ Some latest
  pub greatest : IsGreatest objects latest
  pub epoch : latest.manifest.writer_epoch ≡ handle.epoch
  pub tabled : handle.result ≡ None → latest.manifest.last_l0_seq ≡ handle.view.manifest.last_l0_seq
  pub floor : handle.line.floor ≡ handle.view.manifest.last_l0_seq
  pub stored : All (λ batch. batch.number ≤ handle.durable → IsStored handle.result latest.manifest objects batch) handle.line.batches

-- The batches in memory are numbered one after another, none past the last of them is durable, and where the store is modelled
-- the handle is in step with it.
pub record IsKept (objects : Option Objects) (handle : Handle) : Type 0 where
  pub line : IsLine handle.line
  pub durable : handle.durable ≤ accepted handle
  pub step : IfSome objects (λ o. (latest : VersionedManifest) × IsInStep handle o latest)
