-- The record of a database's status, and what a report makes of it.
use Rattle.std.specs.Prelude.{◌≡◌, ◌≢◌, ℕ, max, Bool, true, false, nat_lt, nat_le, if◌then◌else◌, List, [], Option, Some, None, Result, Ok, Err, unwrap_or}
use Rattle.std.specs.Option.{option_map}
use Rattle.slate_types.specs.Counts.{one_more}
use Rattle.slate_store.specs.declared.objects.VersionedManifest.{VersionedManifest}
use Rattle.slate_errors.specs.declared.closing.CloseFault.{CloseFault}
use Rattle.slate_errors.specs.declared.closing.CloseReason.{CloseReason}
use Rattle.slate_errors.specs.declared.closing.CloseReason.TheVariants.{Clean}
use Rattle.slate_status.specs.declared.statuses.DbStatus.{DbStatus}
use Rattle.slate_status.specs.declared.statuses.DurableAnswer.{DurableAnswer}
use Rattle.slate_status.specs.declared.statuses.DurableAnswer.TheVariants.{Durable, Pending, Failed}
use Rattle.slate_errors.specs.Errors.{closed_error, error_of_fault}
use Rattle.slate_errors.specs.Kinds.{kind_of, reason_of}

pub record Record : Type 0 where
  pub version : ℕ  -- how often the status changed
  pub durable : ℕ
  pub manifest : VersionedManifest
  pub segments : List (List ℕ)
  pub result : Option (Result (Unit {0}) CloseFault)

-- why something closed with this result
abbrev pub reason_for : Result (Unit {0}) CloseFault → CloseReason
reason_for (Ok _) = Clean
reason_for (Err fault) = reason_of (kind_of (error_of_fault fault))

-- the status of something with this durable number and manifest, which closed with this result or is open; none of its
-- batches outside of tables is in a segment
abbrev pub status_by : ℕ → VersionedManifest → Option (Result (Unit {0}) CloseFault) → DbStatus
status_by durable manifest result =
    record {
      durable_seq = durable;
      current_manifest = manifest;
      memtable_segments = [];
      close_reason = option_map reason_for result;
    }

-- the status that a record reports
abbrev pub status_of : Record → DbStatus
status_of r =
    record {
      durable_seq = r.durable;
      current_manifest = r.manifest;
      memtable_segments = r.segments;
      close_reason = option_map reason_for r.result;
    }

-- the record of a greater durable number
abbrev pub with_durable : ℕ → Record → Record
with_durable number r = record r { durable = max r.durable number }

-- a manifest takes the place of one whose id isn't above its own
abbrev pub newer : VersionedManifest → VersionedManifest → VersionedManifest
newer present manifest = if nat_lt manifest.id present.id then present else manifest

abbrev pub with_manifest : VersionedManifest → Record → Record
with_manifest manifest r = record r { manifest = newer r.manifest manifest }

-- the record of what was read
abbrev pub with_view : ℕ → VersionedManifest → Record → Record
with_view number manifest r = record r { durable = number; manifest = manifest }

abbrev pub with_segments : List (List ℕ) → Record → Record
with_segments prefixes r = record r { segments = prefixes }

-- the first result stays
abbrev pub with_result : Result (Unit {0}) CloseFault → Record → Record
with_result result r = record r { result = Some (unwrap_or r.result result) }

-- the version of a changed status; at the end of its type it stays, and counts as risen
abbrev pub risen : Record → Record
risen r = record r { version = one_more r.version }

-- what a part of a report leaves: this record, and whether it differs from the old one
pub record TakesReport (old wanted new : Record) (changed : Bool) : Type 0 where
  pub taken : new ≡ wanted
  pub differs : changed ≡ true → wanted ≢ old
  pub same : changed ≡ false → wanted ≡ old

-- A report of this record: exactly where it differs from the old one, it takes its place, the version rises, and the
-- answer is true.
pub record Reports (old wanted new : Record) (rose : Bool) : Type 0 where
  pub differs : rose ≡ true → wanted ≢ old
  pub same : rose ≡ false → wanted ≡ old
  pub after : new ≡ (if rose then risen wanted else old)

-- what the wait for a number is answered by what is recorded
abbrev pub unless_durable : Option (Result (Unit {0}) CloseFault) → DurableAnswer
unless_durable None = Pending
unless_durable (Some result) = Failed (closed_error result)

abbrev pub durable_answer : ℕ → Record → DurableAnswer
durable_answer number r = if nat_le number r.durable then Durable else unless_durable r.result
