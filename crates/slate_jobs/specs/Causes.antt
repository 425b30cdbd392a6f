-- Why a job store isn't opened, and why a request isn't answered.
use Rattle.std.specs.Prelude.{◌≡◌, ◌⊎◌, ◌<◌, ◌≤◌, ℤ, int_lt, true, List, Option, Some, None, IfSome, Result, IfOk, IfErr}
use Rattle.slate_types.specs.declared.store_errors.StoreFault.TheVariants.{NotFound, Unavailable}
use Rattle.slate_store.specs.Content.{AreStored}
use Rattle.slate_store.specs.declared.objects.TableId.{TableId}
use Rattle.slate_store.specs.Objects.{Objects, last_log, latest_manifest}
use Rattle.slate_store.specs.declared.objects.VersionedManifest.{VersionedManifest}
use Rattle.slate_errors.specs.declared.errors.SlateError.{SlateError}
use Rattle.slate_errors.specs.declared.errors.SlateError.TheVariants as errors
use Rattle.slate_model.specs.Handle.{Handle, accepted}
use Rattle.slate_model.specs.Open.{open_refusal}
use Rattle.slate_model.specs.Unflushed.{most_bytes, unflushed}
use Rattle.slate_model.specs.Write.{last_number}
use Rattle.slate_jobs.specs.declared.jobs.JobOp.{JobOp}
use Rattle.slate_jobs.specs.declared.jobs.JobRefusal.{JobRefusal}
use Rattle.slate_jobs.specs.declared.jobs.JobRefusal.TheVariants as refusals
use Rattle.slate_jobs.specs.Machine.{is_full}
use Rattle.slate_jobs.specs.Queue.{Queue}

-- Why the writer of a job store isn't opened over an honest store. `rose` says that the store failed in this call. Else the
-- latest manifest isn't ready or names an extractor, or a number is at its end: the first that the model of an opening names.
abbrev pub IsOpenCause : (rose : Type 0) → Objects → SlateError → Type 0
IsOpenCause rose objects errors.InvalidDBState = open_refusal None objects ≡ Some errors.InvalidDBState
IsOpenCause rose objects (errors.SegmentExtractorMismatch persisted configured) =
    open_refusal None objects ≡ Some (errors.SegmentExtractorMismatch persisted configured)
IsOpenCause rose objects (errors.ObjectStoreError Unavailable) = rose
IsOpenCause rose objects error = ⊥

-- Why an honest store isn't opened. Of Foreign the rows are the cause.
abbrev pub IsOpenRefusal : (rose : Type 0) → Objects → JobRefusal → Type 0
IsOpenRefusal rose objects refusals.Foreign = open_refusal None objects ≡ None
IsOpenRefusal rose objects refusals.Full = ⊥
IsOpenRefusal rose objects (refusals.Writer error) = IsOpenCause rose objects error
IsOpenRefusal rose objects refusals.NoMemory = Unit {0}

-- An opening over an honest store that holds these objects is refused for a cause; where it isn't, nothing stood against it.
pub record OpensFor {A : Type 0} (rose : Type 0) (objects : Objects) (result : Result A JobRefusal) : Type 0 where
  pub fits : IfOk result (λ opened. open_refusal None objects ≡ None)
  pub refused : IfErr result (IsOpenRefusal rose objects)

-- Why the rows of these tables, and of batches in memory, aren't read. `rose` says that the store failed in this call.
abbrev pub IsScanRefusal : (rose : Type 0) → Option Objects → List TableId → JobRefusal → Type 0
IsScanRefusal rose objects tables refusals.Full = ⊥
IsScanRefusal rose objects tables (refusals.Writer (errors.ObjectStoreError Unavailable)) = rose
IsScanRefusal rose objects tables (refusals.Writer (errors.ObjectStoreError NotFound)) = IfSome objects (λ o. AreStored o tables → ⊥)
IsScanRefusal rose objects tables (refusals.Writer error) = ⊥
IsScanRefusal rose objects tables refusal = Unit {0}

-- a handle that takes batches of any size: it is open, keeps a log, and has the greatest limit
pub record TakesBatches (handle : Handle) : Type 0 where
  pub unclosed : handle.result ≡ None
  pub logs : handle.keeps_log ≡ true
  pub unlimited : handle.limit ≡ most_bytes

-- a job store that answers requests: nothing ended it, and its handle takes batches
pub record IsReady (queue : Queue) : Type 0 where
  pub live : queue.failure ≡ None
  pub handle : TakesBatches queue.handle

-- no log file can follow the last one
abbrev pub HasLastLog : Objects → Type 0
HasLastLog objects = (latest : VersionedManifest) × (latest_manifest objects ≡ Some latest) × (last_number ≤ last_log latest.manifest.replay_after_wal_id objects)

-- Why a writer of a job store that was ready refuses a request over an honest store. InvalidClockTick: the moment is below the
-- tick. Backpressure: as many bytes wait as can be counted. InvalidDBState: the next batch or log file would have no number.
-- Fenced: the store was opened since. `rose` says that the store failed in this call.
abbrev pub IsCallCause : (rose : Type 0) → Objects → Handle → (moment : ℤ) → SlateError → Type 0
IsCallCause rose objects handle moment (errors.InvalidClockTick last next) = (last ≡ handle.tick) × (next ≡ moment) × (int_lt moment handle.tick ≡ true)
IsCallCause rose objects handle moment (errors.Backpressure bytes limit) = most_bytes ≤ unflushed handle
IsCallCause rose objects handle moment errors.InvalidDBState = (last_number ≤ accepted handle) ⊎ HasLastLog objects
IsCallCause rose objects handle moment errors.Fenced =
    (latest : VersionedManifest) × (latest_manifest objects ≡ Some latest) × (handle.epoch < latest.manifest.writer_epoch)
IsCallCause rose objects handle moment errors.LatestTransactionalObjectVersionMissing = latest_manifest objects ≡ None
IsCallCause rose objects handle moment (errors.ObjectStoreError Unavailable) = rose
IsCallCause rose objects handle moment error = ⊥

-- why a request isn't answered
abbrev pub IsCallRefusal : (rose : Type 0) → Objects → Queue → JobOp → (moment : ℤ) → JobRefusal → Type 0
IsCallRefusal rose objects queue op moment refusals.Foreign = ⊥
IsCallRefusal rose objects queue op moment refusals.Full = is_full queue.machine.jobs op ≡ true
IsCallRefusal rose objects queue op moment (refusals.Writer error) = IsCallCause rose objects queue.handle moment error
IsCallRefusal rose objects queue op moment refusals.NoMemory = Unit {0}
