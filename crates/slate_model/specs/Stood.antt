-- A manifest that was the latest one, and one that is put after it.
use Rattle.std.specs.Prelude.{◌≡◌, ◌⊎◌, ℕ, ℤ, ◌≤◌, List, Some, Ok}
use Rattle.slate_store.specs.Checkpoints.{to_refresh, to_write}
use Rattle.slate_store.specs.Objects.{Objects, latest_manifest}
use Rattle.slate_store.specs.declared.objects.Checkpoint.{Checkpoint}
use Rattle.slate_store.specs.declared.objects.VersionedManifest.{VersionedManifest}

-- It was the latest one: the latest one has no lower id, and under its id it is that.
abbrev pub WasLatest : Objects → VersionedManifest → Type 0
WasLatest objects manifest =
    (latest : VersionedManifest) × (latest_manifest objects ≡ Some latest) × (manifest.id ≤ latest.id) × (manifest.id ≡ latest.id → manifest ≡ latest)

-- One follows another by the plan of a call that replaces a checkpoint, or gives it another end.
abbrev pub IsPlanned : (last next : VersionedManifest) → Type 0
IsPlanned last next =
    (id : List ℕ) × (lifetime : ℕ) × (moment : ℤ) × (checkpoint : Checkpoint)
    × ((to_write (Some id) (Some lifetime) moment last ≡ Ok (Some next, checkpoint)) ⊎ (to_refresh id lifetime moment last ≡ Ok (Some next, checkpoint)))
