-- A job store: its handle and its machine, and when they agree with what an honest store holds.
use Rattle.std.specs.Prelude.{ℕ, ◌≡◌, ◌≢◌, ◌⊎◌, ◌+◌, ◌≤◌, true, List, [], ◌++◌, length, Option, Some, None, Result, Ok, Err, IfOk}
use Rattle.slate_types.specs.declared.batches.Batch.{Batch}
use Rattle.slate_types.specs.declared.batches.KeyValue.{KeyValue}
use Rattle.slate_types.specs.declared.read_faults.ReadFault.{ReadFault}
use Rattle.slate_types.specs.Line.{AreNumberedFrom, end}
use Rattle.slate_store.specs.Content.{AreStored, IsSound, content}
use Rattle.slate_store.specs.Objects.{Objects, latest_manifest}
use Rattle.slate_store.specs.declared.objects.VersionedManifest.{VersionedManifest}
use Rattle.slate_errors.specs.declared.closing.CloseFault.TheVariants as faults
use Rattle.slate_errors.specs.declared.errors.SlateError.{SlateError}
use Rattle.slate_errors.specs.declared.errors.SlateError.TheVariants as errors
use Rattle.slate_errors.specs.Errors.{error_of_fault}
use Rattle.slate_model.specs.Changes.{after_part}
use Rattle.slate_model.specs.Open.{open_changes}
use Rattle.slate_model.specs.Handle.{Handle, accepted, unstored}
use Rattle.slate_model.specs.Object.{Handle as AHandle}
use Rattle.slate_model.specs.Stores.{kept_rows}
use Rattle.slate_jobs.specs.declared.failures.Failure.{Failure}
use Rattle.slate_jobs.specs.declared.failures.Failure.TheVariants.{Fault, Backpressure}
use Rattle.slate_jobs.specs.declared.jobs.JobRefusal.{JobRefusal}
use Rattle.slate_jobs.specs.declared.jobs.JobRefusal.TheVariants as refusals
use Rattle.slate_jobs.specs.Decoding.{AreRows, machine_at}
use Rattle.slate_jobs.specs.Machine.{Machine}
use Rattle.slate_jobs.specs.Rows.{Holds}

-- a job store: the handle that it writes by, the machine, and, once a refusal of the writer ended it, that one
pub record Queue : Type 0 where
  pub handle : Handle
  pub machine : Machine
  pub failure : Option Failure

-- the error of a failure
abbrev pub error_of : Failure → SlateError
error_of (Fault fault) = error_of_fault fault
error_of (Backpressure unflushed limit) = errors.Backpressure unflushed limit

-- the failure that an error of a write or a flush is kept as
abbrev pub failure_of : SlateError → Failure
failure_of errors.Fenced = Fault faults.Fenced
failure_of (errors.ObjectStoreError fault) = Fault (faults.ObjectStoreError fault)
failure_of errors.TransactionalObjectVersionExists = Fault faults.TransactionalObjectVersionExists
failure_of errors.LatestTransactionalObjectVersionMissing = Fault faults.LatestTransactionalObjectVersionMissing
failure_of (errors.Backpressure unflushed limit) = Backpressure unflushed limit
failure_of error = Fault faults.InvalidDBState

-- what ends a job store: each error of its writer, but want of memory and a moment below the tick
abbrev pub failing : SlateError → Option Failure
failing errors.NoMemory = None
failing (errors.InvalidClockTick last next) = None
failing error = Some (failure_of error)

-- the refusal of an error of the writer: one that ends the job store is answered as it is kept
abbrev pub refusal_by : Option Failure → SlateError → JobRefusal
refusal_by (Some failure) error = refusals.Writer (error_of failure)
refusal_by None errors.NoMemory = refusals.NoMemory
refusal_by None error = refusals.Writer error

abbrev pub refusal_of : SlateError → JobRefusal
refusal_of error = refusal_by (failing error) error

-- Batches whose rows aren't those of a machine: a row isn't one of a job or of a kept reply, the jobs' numbers have a gap, or
-- a key has operands to merge.
pub record AreForeign (batches : List Batch) : Type 0 where
  pub rows : List KeyValue
  pub fault : Option ReadFault
  pub are : AreRows batches rows fault
  pub why : (fault ≢ None) ⊎ (machine_at rows ≡ None)

-- A handle over an honest store that holds these objects, and to which nobody else wrote since: it is open and keeps a log, and what
-- it accepted and didn't store yet goes on from what is stored.
pub record IsInStep (objects : Objects) (handle : Handle) : Type 0 where
  pub sound : IsSound objects
  pub latest : VersionedManifest
  pub is_latest : latest_manifest objects ≡ Some latest
  pub unclosed : handle.result ≡ None
  pub logs : handle.keeps_log ≡ true
  pub durable : handle.durable ≡ end (content objects)
  pub numbered : AreNumberedFrom handle.durable (unstored handle)
  pub ends : handle.durable + length (unstored handle) ≡ accepted handle
  pub tabled : handle.view.manifest.last_l0_seq ≤ handle.durable

-- and nobody opened the store since
abbrev pub IsCurrent : Objects → Handle → Type 0
IsCurrent objects handle =
    (latest : VersionedManifest) × (latest_manifest objects ≡ Some latest) × (latest.manifest.writer_epoch ≤ handle.epoch)

-- An honest store that holds these objects holds a job store: what is stored, and then what its handle accepted and didn't store
-- yet, holds its machine.
pub record IsHeld (objects : Objects) (queue : Queue) : Type 0 where
  pub handle : IsInStep objects queue.handle
  pub holds : Holds ((content objects).batches ++ unstored queue.handle) queue.machine

-- how many of its two puts, a manifest with the next epoch and then an empty log file, an opening made: both, where the rows were read
abbrev pub OpeningPuts : {A : Type 0} → Result A JobRefusal → (made : ℕ) → Type 0
OpeningPuts (Ok opened) made = made ≡ 2
OpeningPuts (Err refusals.Foreign) made = made ≡ 2
OpeningPuts (Err refusal) made = made ≤ 2

-- nothing else changed
abbrev pub PutsOpening : {A : Type 0} → Objects → Objects → Result A JobRefusal → Type 0
PutsOpening objects objects' result = (made : ℕ) × OpeningPuts result made × (objects' ≡ after_part made (open_changes None (λ batches. batches) objects) objects)

-- An opening over an honest store leaves what it holds. The job store that it gives has the machine of that; it answers
-- Foreign only where that is none.
pub record Opens (objects objects' : Objects) (result : Result Queue JobRefusal) : Type 0 where
  pub sound : IsSound objects'
  pub kept : content objects' ≡ content objects
  pub puts : PutsOpening objects objects' result
  pub held : IfOk result (IsHeld objects')
  pub current : IfOk result (λ queue. IsCurrent objects' queue.handle)
  pub found : IfOk result (λ queue. Holds (content objects).batches queue.machine)
  pub foreign : result ≡ Err refusals.Foreign → AreForeign (content objects).batches

-- What an opening of the handle leaves: it is in step, and reads all that is stored.
pub record OpensWriter (objects objects' : Objects) (result : Result Handle JobRefusal) : Type 0 where
  pub sound : IsSound objects'
  pub kept : content objects' ≡ content objects
  pub puts : PutsOpening objects objects' result
  pub step : IfOk result (IsInStep objects')
  pub current : IfOk result (IsCurrent objects')
  pub whole : IfOk result (λ handle. unstored handle ≡ [])
  pub tabled : IfOk result (λ handle. AreStored objects' handle.view.manifest.tables)
  pub reads : IfOk result (λ handle. (rows : List Batch) → kept_rows (Some objects') (AHandle handle) rows → rows ≡ (content objects).batches)
  pub foreign : result ≢ Err refusals.Foreign
