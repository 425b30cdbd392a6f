-- The lease of a checkpoint that a reader keeps of its own: when it is due, and what takes it and keeps it.
use Rattle.std.specs.Prelude.{ℕ, ℤ, pos, ◌-ℤ◌, ◌*◌, ◌/◌, ◌&&◌, ◌||◌, ◌==◌, not, nat_lt, int_lt, Bool, if◌then◌else◌, Option, Some, None, is_none, unwrap_or, Ok, Err}
use Rattle.std.specs.Cmp.Lexicographic.{pointwise}
use Rattle.std.specs.Ordering.{eq_by_cmp}
use Rattle.std.specs.Str.{bytes_eq}
use Rattle.slate_store.specs.declared.objects.Checkpoint.{Checkpoint}
use Rattle.slate_store.specs.declared.objects.VersionedManifest.{VersionedManifest}
use Rattle.slate_store.specs.declared.refusals.StoreRefusal.TheVariants as refusals
use Rattle.slate_store.specs.Checkpoints.{Plan, found, last_moment, lease_end, to_refresh, to_write}
use Rattle.slate_store.specs.Objects.{table_cmp}
use Rattle.slate_errors.specs.declared.errors.SlateError.{SlateError}
use Rattle.slate_errors.specs.declared.errors.SlateError.TheVariants as errors
use Rattle.slate_model.specs.declared.leases.Lease.{Lease}
use Rattle.slate_model.specs.Write.{last_number}

-- why a reader may not keep a checkpoint with this lifetime that polls at this interval, in milliseconds: the first of these
abbrev pub lease_refusal : (lifetime interval : ℕ) → Option SlateError
lease_refusal lifetime interval =
    if nat_lt lifetime 1000 then Some (errors.InvalidCheckpointLifetime lifetime)
    else (if nat_lt last_number (2 * interval) then Some (errors.InvalidManifestPollInterval interval)
    else (if nat_lt lifetime (2 * interval) then Some (errors.CheckpointLifetimeTooShort lifetime (2 * interval)) else None))

-- the lease of a checkpoint that is taken with this lifetime
abbrev pub lease_of : (lifetime : ℕ) → Checkpoint → Lease
lease_of lifetime checkpoint = record { id = checkpoint.id; lifetime = lifetime; end = unwrap_or checkpoint.expire_ms last_moment }

-- a lease is due at the moments after its end less half its lifetime, rounded down
abbrev pub is_due : (moment : ℤ) → Lease → Bool
is_due moment lease = int_lt (lease.end -ℤ pos (lease.lifetime / 2)) moment

-- So is one at the moment at which it is taken with this lifetime, where its end is cut off at the greatest moment and half the
-- lifetime before that has passed.
abbrev pub is_due_at_once : (lifetime : ℕ) → (moment : ℤ) → Bool
is_due_at_once lifetime moment = int_lt (lease_end moment lifetime -ℤ pos (lifetime / 2)) moment

-- whether a manifest has other tables than a view, another last number in them, or other segments
abbrev pub differs : (view latest : VersionedManifest) → Bool
differs view latest =
    let old = view.manifest in
    let new = latest.manifest in
    not (pointwise (eq_by_cmp table_cmp) old.tables new.tables && (old.last_l0_seq == new.last_l0_seq) && pointwise bytes_eq old.segments new.segments)

-- the plan of a call on checkpoints, which gives the lease of its checkpoint
abbrev pub leased : (lifetime : ℕ) → Plan Checkpoint → Plan Lease
leased lifetime (Ok (next, checkpoint)) = Ok (next, lease_of lifetime checkpoint)
leased lifetime (Err refusal) = Err refusal

-- an opening takes a lease of a new checkpoint, where the database is initialised
abbrev pub to_take : (lifetime : ℕ) → (moment : ℤ) → VersionedManifest → Plan Lease
to_take lifetime moment latest =
    if latest.manifest.initialized then leased lifetime (to_write None (Some lifetime) moment latest) else Err refusals.InvalidDBState

-- A poll of a reader that goes by this view replaces its checkpoint where the latest manifest differs from the view, and where
-- the lease is due and the checkpoint isn't there.
abbrev pub replaces : (view : VersionedManifest) → Lease → (moment : ℤ) → (latest : VersionedManifest) → Bool
replaces view lease moment latest = differs view latest || (is_due moment lease && is_none (found lease.id latest))

-- else it renews a lease that is due, and puts nothing for another
abbrev pub to_renew : Lease → (moment : ℤ) → VersionedManifest → Plan Lease
to_renew lease moment latest =
    if is_due moment lease then leased lease.lifetime (to_refresh lease.id lease.lifetime moment latest) else Ok (None, lease)

abbrev pub to_keep : (view : VersionedManifest) → Lease → (moment : ℤ) → (latest : VersionedManifest) → Plan Lease
to_keep view lease moment latest =
    if replaces view lease moment latest
    then leased lease.lifetime (to_write (Some lease.id) (Some lease.lifetime) moment latest)
    else to_renew lease moment latest

-- One that replaced its checkpoint, since its view differed, renews the new lease in the same poll where that is due at once.
abbrev pub renews_taken : (view : VersionedManifest) → Lease → (moment : ℤ) → (latest : VersionedManifest) → Bool
renews_taken view lease moment latest = differs view latest && is_due_at_once lease.lifetime moment
