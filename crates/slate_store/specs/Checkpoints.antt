-- Checkpoints: their ids and leases, and the manifests that the calls on them put next.
use Rattle.std.specs.Prelude.{ℕ, ℤ, pos, ◌+◌, ◌+ℤ◌, Bool, false, not, nat_lt, int_lt, if◌then◌else◌, List, [], ◌∷◌, ◌++◌, filter, find, map, Option, Some, None, Result, Ok, Err}
use Rattle.std.specs.Int.{int_min, to_be_bytes, w128}
use Rattle.std.specs.Option.{option_map, option_map_or}
use Rattle.std.specs.Str.{bytes_eq}
use Rattle.slate_store.specs.declared.objects.Checkpoint.{Checkpoint}
use Rattle.slate_store.specs.declared.objects.VersionedManifest.{VersionedManifest}
use Rattle.slate_store.specs.declared.refusals.StoreRefusal.{StoreRefusal}
use Rattle.slate_store.specs.declared.refusals.StoreRefusal.TheVariants.{CheckpointMissing, InvalidDBState}

-- the id of the checkpoint that the manifest with this id commits: the number, in sixteen bytes
abbrev pub checkpoint_id : ℕ → List ℕ
checkpoint_id number = to_be_bytes w128 number

-- the greatest moment
abbrev pub last_moment : ℤ
last_moment = pos 9223372036854775807

-- the end of a lease that begins at a moment and has this lifetime in milliseconds
abbrev pub lease_end : ℤ → ℕ → ℤ
lease_end moment lifetime = int_min (moment +ℤ pos lifetime) last_moment

-- a lease is over at the moments after its end; a checkpoint without an end is never
abbrev pub is_expired : ℤ → Checkpoint → Bool
is_expired moment checkpoint = option_map_or (λ end. int_lt end moment) checkpoint.expire_ms false

abbrev pub has_id : List ℕ → Checkpoint → Bool
has_id id checkpoint = bytes_eq checkpoint.id id

-- the checkpoints without the one that has this id
abbrev pub without_id : List ℕ → List Checkpoint → List Checkpoint
without_id id checkpoints = filter (λ checkpoint. not (has_id id checkpoint)) checkpoints

abbrev pub without_replaced : Option (List ℕ) → List Checkpoint → List Checkpoint
without_replaced None checkpoints = checkpoints
without_replaced (Some id) checkpoints = without_id id checkpoints

-- the manifest after the latest one with these checkpoints, and all else of it
abbrev pub with_checkpoints : List Checkpoint → VersionedManifest → VersionedManifest
with_checkpoints checkpoints latest =
    record { id = latest.id + 1; manifest = record latest.manifest { checkpoints = checkpoints } }

-- the checkpoint of the manifest after the latest one, which is the one that commits it
abbrev pub new_checkpoint : VersionedManifest → Option ℕ → ℤ → Checkpoint
new_checkpoint latest lifetime moment =
    record {
      id = checkpoint_id (latest.id + 1);
      manifest_id = latest.id + 1;
      create_ms = moment;
      expire_ms = option_map (lease_end moment) lifetime;
    }

-- a checkpoint whose lease ends anew, where it has this id
abbrev pub refreshed : List ℕ → ℤ → Checkpoint → Checkpoint
refreshed id end checkpoint = if has_id id checkpoint then record checkpoint { expire_ms = Some end } else checkpoint

-- What a call on checkpoints does after the latest manifest: it puts another and answers, or has nothing to put, or it
-- refuses.
abbrev pub Plan : Type 0 → Type 0
Plan A = Result (Option VersionedManifest × A) StoreRefusal

-- a manifest can follow where the latest one's id isn't the greatest
abbrev pub puts_next : {A : Type 0} → VersionedManifest → VersionedManifest → A → Plan A
puts_next latest next answer = if nat_lt latest.id 18446744073709551615 then Ok (Some next, answer) else Err InvalidDBState

-- a new checkpoint at the end, and the replaced one is taken out
abbrev pub to_write : Option (List ℕ) → Option ℕ → ℤ → VersionedManifest → Plan Checkpoint
to_write replaced lifetime moment latest =
    let checkpoint = new_checkpoint latest lifetime moment in
    puts_next latest (with_checkpoints (without_replaced replaced latest.manifest.checkpoints ++ checkpoint ∷ []) latest) checkpoint

abbrev pub found : List ℕ → VersionedManifest → Option Checkpoint
found id latest = find (has_id id) latest.manifest.checkpoints

-- the checkpoint with this id, where it is there, has its lease end at this moment, and nothing else of it changes
abbrev pub to_end : List ℕ → ℤ → VersionedManifest → Option Checkpoint → Plan Checkpoint
to_end id end latest None = Err (CheckpointMissing id)
to_end id end latest (Some checkpoint) =
    puts_next latest (with_checkpoints (map (refreshed id end) latest.manifest.checkpoints) latest) (record checkpoint { expire_ms = Some end })

abbrev pub to_refresh : List ℕ → ℕ → ℤ → VersionedManifest → Plan Checkpoint
to_refresh id lifetime moment latest = to_end id (lease_end moment lifetime) latest (found id latest)

-- the checkpoint with this id is taken out, where it is there
abbrev pub to_take_out : List ℕ → VersionedManifest → Option Checkpoint → Plan (Unit {0})
to_take_out id latest None = Ok (None, tt)
to_take_out id latest (Some checkpoint) = puts_next latest (with_checkpoints (without_id id latest.manifest.checkpoints) latest) tt

abbrev pub to_delete : List ℕ → VersionedManifest → Plan (Unit {0})
to_delete id latest = to_take_out id latest (found id latest)
