-- The leases of the readers of a world are of checkpoints that manifests up to the latest one commit, each of another.
use Rattle.std.proofs.Common.{◌≡◌, ◌⊎◌, ◌+◌, ◌∙◌, ◌<◌, ◌≤◌, inl, inr, ℕ, ℤ, Bool, true, false, cond, List, drop, Option, Some, None, Ok, refl, sym, ap, arith}
use Rattle.std.proofs.lemmas.Nat.{from_be_bytes-to_be_bytes_8}
use Rattle.std.specs.Int.{from_be_bytes}
use mir.Syntax.{w64}
use Rattle.slate_store.specs.Checkpoints.{checkpoint_id, found, lease_end, to_end, to_refresh, to_write}
use Rattle.slate_store.specs.declared.objects.Checkpoint.{Checkpoint}
use Rattle.slate_store.specs.declared.objects.VersionedManifest.{VersionedManifest}
use Rattle.slate_model.specs.declared.leases.Lease.{Lease}
use Rattle.slate_model.specs.Lease.{is_due, leased, replaces, to_keep, to_take}
use Rattle.slate_model.specs.Write.{last_number}
use Rattle.slate_model.proofs.Leased.{leased-is, put-low, written-is}
use Rattle.slate_live.proofs.Carrying.{taken-is}
use Rattle.slate_live.proofs.Finding.{found-id}

-- a checkpoint's id tells the id of the manifest that commits it
id-number : (k : ℕ) → k ≤ last_number → from_be_bytes w64 (drop 8 (checkpoint_id k)) ≡ k
id-number k low = from_be_bytes-to_be_bytes_8 k (omega (arith, low))

pub ids-differ : (a b : ℕ) → a ≤ last_number → b ≤ last_number → checkpoint_id a ≡ checkpoint_id b → a ≡ b
ids-differ a b low_a low_b same = sym (id-number a low_a) ∙ (ap (λ id. from_be_bytes w64 (drop 8 id)) same ∙ id-number b low_b)

-- a lease of the checkpoint that the manifest after the latest one commits
pub record IsNew (latest : VersionedManifest) (next : Option VersionedManifest) (lease : Lease) : Type 0 where
  pub id : lease.id ≡ checkpoint_id (latest.id + 1)
  pub low : latest.id < last_number
  pub put : VersionedManifest
  pub puts : next ≡ Some put

pub written-new : (replaced : Option (List ℕ)) (lifetime : ℕ) (moment : ℤ) (latest : VersionedManifest) (next : Option VersionedManifest) (given : Lease) → leased lifetime (to_write replaced (Some lifetime) moment latest) ≡ Ok (next, given) → IsNew latest next given
written-new replaced lifetime moment latest next given gives =
    let q = written-is replaced lifetime moment latest next given gives in
    record { id = ap (λ (l : Lease). l.id) q.2; low = q.0; put = _; puts = q.1 }

-- a lease that is renewed is of the same checkpoint
pub renewed-same : (lease : Lease) (moment : ℤ) (latest : VersionedManifest) (next : Option VersionedManifest) (given : Lease) → leased lease.lifetime (to_refresh lease.id lease.lifetime moment latest) ≡ Ok (next, given) → given.id ≡ lease.id
renewed-same lease moment latest next given gives =
    let p = leased-is lease.lifetime (to_refresh lease.id lease.lifetime moment latest) next given gives in
    sym (ap (λ (l : Lease). l.id) p.2) ∙ by (found lease.id latest) refl p.1 where
      checkpoint : Checkpoint
      checkpoint = (leased-is lease.lifetime (to_refresh lease.id lease.lifetime moment latest) next given gives).0

      by : (was : Option Checkpoint) → found lease.id latest ≡ was → to_end lease.id (lease_end moment lease.lifetime) latest was ≡ Ok (next, checkpoint) → checkpoint.id ≡ lease.id
      by None is gives = absurd (cc)
      by (Some c) is gives =
          let q = put-low latest _ (record c { expire_ms = Some (lease_end moment lease.lifetime) }) next checkpoint gives in
          ap (λ (x : Checkpoint). x.id) q.2 ∙ found-id lease.id c latest.manifest.checkpoints is

-- the lease that a poll's plan gives is of the same checkpoint, or new
pub plan-lease : (view latest : VersionedManifest) (lease : Lease) (moment : ℤ) (next : Option VersionedManifest) (given : Lease) → to_keep view lease moment latest ≡ Ok (next, given) → (given.id ≡ lease.id) ⊎ IsNew latest next given
plan-lease view latest lease moment next given gives = by (replaces view lease moment latest) (is_due moment lease) gives where
  by : (replaced due : Bool) → cond replaced (leased lease.lifetime (to_write (Some lease.id) (Some lease.lifetime) moment latest)) (cond due (leased lease.lifetime (to_refresh lease.id lease.lifetime moment latest)) (Ok (None, lease))) ≡ Ok (next, given) → (given.id ≡ lease.id) ⊎ IsNew latest next given
  by true due gives = inr (written-new (Some lease.id) lease.lifetime moment latest next given gives)
  by false true gives = inl (renewed-same lease moment latest next given gives)
  by false false gives =
      let both : ◌≡◌ {A = Option VersionedManifest × Lease} (None, lease) (next, given) = cc in
      inl (sym (ap (λ (p : Option VersionedManifest × Lease). p.1.id) both))

-- and that of an opening is new
pub taken-new : (lifetime : ℕ) (moment : ℤ) (latest : VersionedManifest) (next : Option VersionedManifest) (given : Lease) → to_take lifetime moment latest ≡ Ok (next, given) → IsNew latest next given
taken-new lifetime moment latest next given gives = written-new None lifetime moment latest next given (taken-is lifetime moment latest (next, given) gives)
