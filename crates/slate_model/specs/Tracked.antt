-- When the batches of a handle were written.
use Rattle.std.specs.Prelude.{ℕ, ℤ, pos, ◌&&◌, nat_le, Bool, true, if◌then◌else◌, List, [], ◌∷◌, length, Option, Some, None, unwrap_or, Result, Ok, Err}
use Rattle.std.specs.Int.{int_div_euclid}
use Rattle.std.specs.Option.{option_map_or}
use Rattle.slate_types.specs.declared.batches.Batch.{Batch}
use Rattle.slate_store.specs.declared.objects.Manifest.{Manifest}
use Rattle.slate_store.specs.declared.objects.VersionedManifest.{VersionedManifest}
use Rattle.slate_seqtrack.specs.declared.faults.TrackerFault.{TrackerFault}
use Rattle.slate_seqtrack.specs.Bytes.{tracker_at}
use Rattle.slate_seqtrack.specs.Tracker.{Tracker, fresh, inserted, last_number}

-- a moment in whole seconds, rounded down
abbrev pub seconds_of : ℤ → ℤ
seconds_of moment = int_div_euclid moment (pos 1000)

-- the tracker of a handle that is opened where nothing is tracked: for 8192 pairs, at most one in 60 seconds
abbrev pub no_times : Tracker
no_times = fresh 8192 60

-- what is left of a tracker where an insertion was refused is the tracker as it was
abbrev pub or_as_before : Tracker → Result Tracker TrackerFault → Tracker
or_as_before tracker (Ok after) = after
or_as_before tracker (Err fault) = tracker

-- the tracker after a batch with this number was written at a moment
abbrev pub tracked : Tracker → (number : ℕ) → (moment : ℤ) → Tracker
tracked tracker number moment = or_as_before tracker (inserted tracker (record { seq = number; ts = seconds_of moment }))

-- and after batches, in order
abbrev pub tracked_all : Tracker → List Batch → Tracker
tracked_all tracker [] = tracker
tracked_all tracker (batch ∷ batches) = tracked_all (tracked tracker batch.number batch.create_ts) batches

-- whether a tracker may be that of a manifest whose tables end at this number: it has at most 8192 pairs, and none of a
-- later batch
abbrev pub fits_tables : ℕ → Tracker → Bool
fits_tables number tracker =
    nat_le (length tracker.pairs) 8192 && option_map_or (λ last. nat_le last number) (last_number tracker.pairs) true

-- a tracker that was read, where it fits
abbrev pub fitting : ℕ → Result Tracker TrackerFault → Option Tracker
fitting number (Ok tracker) = if fits_tables number tracker then Some tracker else None
fitting number (Err fault) = None

-- the tracker that bytes are, where they are one that fits; without bytes it has no pair
abbrev pub tracker_in : ℕ → Option (List ℕ) → Option Tracker
tracker_in number None = Some no_times
tracker_in number (Some bytes) = fitting number (tracker_at bytes)

-- the tracker of a manifest, where it has one that fits
abbrev pub stored_tracker : Manifest → Option Tracker
stored_tracker manifest = tracker_in manifest.last_l0_seq manifest.sequence_tracker

-- the tracker of the latest manifest
abbrev pub latest_tracker : Option VersionedManifest → Option Tracker
latest_tracker None = Some no_times
latest_tracker (Some latest) = stored_tracker latest.manifest

-- and that of a manifest by which a database can be opened
abbrev pub opened_tracker : Manifest → Tracker
opened_tracker manifest = unwrap_or (stored_tracker manifest) no_times
