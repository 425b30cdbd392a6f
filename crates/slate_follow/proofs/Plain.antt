-- Turns of a begun poll that neither end at a gap nor for the tries.
use Rattle.std.proofs.Common.{◌≡◌, ℕ, ℤ, ◌+◌, ◌-◌, ◌&&◌, ◌||◌, ◌==◌, max, not, Bool, true, false, if◌then◌else◌, List, [], ◌∷◌, ◌++◌, Option, Some, None, Ok, Err, sym, subst}
use Rattle.std.specs.Prelude.{nat_lt}
use Rattle.slate_types.specs.declared.batches.Batch.{Batch}
use Rattle.slate_store.specs.Checkpoints.{found, lease_end, new_checkpoint, puts_next, to_end, to_refresh, to_write, with_checkpoints, without_replaced}
use Rattle.slate_store.specs.declared.objects.Checkpoint.{Checkpoint}
use Rattle.slate_store.specs.declared.objects.VersionedManifest.{VersionedManifest}
use Rattle.slate_store.specs.declared.refusals.StoreRefusal.TheVariants as refusals
use Rattle.slate_errors.specs.declared.errors.SlateError.TheVariants as errors
use Rattle.slate_replay.specs.declared.replays.Replayed.{Replayed}
use Rattle.slate_replay.specs.declared.replays.Replayed.TheVariants as replays
use Rattle.slate_model.specs.Begun.{AsksLast, Begun, Breaks, Ended, Ends, Fails, Goes, LooksAt, ReadsLog, Turn, asked_lease, committed, decided, emptied, greatest_number, kept_lease, leads_on, looked_at, put_by, reached_number, read_again, read_log, replayed, replaying}
use Rattle.slate_model.specs.Follower.{Follower}
use Rattle.slate_model.specs.Lease.{differs, is_due, leased}
use Rattle.slate_model.specs.Write.{last_number}
use Rattle.slate_model.specs.declared.leases.Lease.{Lease}
use Rattle.slate_follow.specs.Stepping.{log_turn}

abbrev pub Plain : Turn → Type 0
Plain (Breaks b) = ⊥
Plain (Fails (errors.TransactionalObjectTimeout tries)) = ⊥
Plain turn = Unit {0}

next-plain : (lifetime : ℕ) (l next : VersionedManifest) (checkpoint : Checkpoint) (replaces : Bool) (b : Begun) → Plain (put_by (leased lifetime (puts_next l next checkpoint)) replaces b)
next-plain lifetime l next checkpoint replaces b = by (nat_lt l.id last_number)
  where
    by : (x : Bool) → Plain (put_by (leased lifetime (if x then Ok (Some next, checkpoint) else Err refusals.InvalidDBState)) replaces b)
    by true = tt
    by false = tt

write-plain : (l : VersionedManifest) (lease : Lease) (moment : ℤ) (b : Begun) → Plain (put_by (leased lease.lifetime (to_write (Some lease.id) (Some lease.lifetime) moment l)) true b)
write-plain l lease moment b =
    let checkpoint = new_checkpoint l (Some lease.lifetime) moment in
    next-plain lease.lifetime l (with_checkpoints (without_replaced (Some lease.id) l.manifest.checkpoints ++ checkpoint ∷ []) l) checkpoint true b

refresh-plain : (l : VersionedManifest) (lease : Lease) (moment : ℤ) (b : Begun) → Plain (put_by (leased lease.lifetime (to_refresh lease.id lease.lifetime moment l)) false b)
refresh-plain l lease moment b = by (found lease.id l)
  where
    by : (there : Option Checkpoint) → Plain (put_by (leased lease.lifetime (to_end lease.id (lease_end moment lease.lifetime) l there)) false b)
    by None = tt
    by (Some checkpoint) = next-plain lease.lifetime l _ _ false b

pub replayed-plain : (l : VersionedManifest) (b : Begun) → Plain (replayed l b)
replayed-plain l b = by b.lease
  where
    kept-by : (lease : Lease) (there : Option Checkpoint) → Plain (kept_lease b.moment lease l there (record b { asked = true }))
    kept-by lease (Some checkpoint) = refresh-plain l lease b.moment (record b { asked = true })
    kept-by lease None = write-plain l lease b.moment (record b { asked = true })

    due : (lease : Lease) (x : Bool) → Plain (if x then kept_lease b.moment lease l (found lease.id l) (record b { asked = true }) else Ends (record b { stage = Ended }))
    due lease true = kept-by lease (found lease.id l)
    due lease false = tt

    by : (held : Option Lease) → Plain (asked_lease held l b)
    by None = tt
    by (Some lease) = due lease (not b.asked && is_due b.moment lease)

replaying-plain : (reader : Follower) (l : VersionedManifest) (b : Begun) → Plain (replaying reader l b)
replaying-plain reader l b = by reader.skips (leads_on reader b)
  where
    by : (skips leads : Bool) → Plain (if skips then replayed l (emptied reader l.manifest.replay_after_wal_id b) else (if leads then Goes (record b { stage = AsksLast; mark = max b.mark l.manifest.replay_after_wal_id }) else Goes (record (emptied reader l.manifest.replay_after_wal_id b) { stage = AsksLast })))
    by true leads = replayed-plain l (emptied reader l.manifest.replay_after_wal_id b)
    by false true = tt
    by false false = tt

pub decided-plain : (reader : Follower) (l : VersionedManifest) (lease : Option Lease) (b : Begun) → Plain (decided reader l lease b)
decided-plain reader l None b = replaying-plain reader l (record b { view = Some l; latest = Some l })
decided-plain reader l (Some held) b = by (differs reader.view l)
  where
    by : (x : Bool) → Plain (if x then put_by (leased held.lifetime (to_write (Some held.id) (Some held.lifetime) b.moment l)) true (record b { latest = Some l }) else replaying reader l (record b { latest = Some l }))
    by true = write-plain l held b.moment (record b { latest = Some l })
    by false = replaying-plain reader l (record b { latest = Some l })

pub committed-plain : (reader : Follower) (next : VersionedManifest) (given : Lease) (replaces : Bool) (b : Begun) → Plain (committed reader next given replaces b)
committed-plain reader next given true b = replaying-plain reader next (record b { view = Some next; latest = Some next; lease = Some given })
committed-plain reader next given false b = tt

pub read-plain : (l : VersionedManifest) (last : ℕ) (fresh : List Batch) (b : Begun) → Plain (read_log l last fresh b)
read-plain l last fresh b = by (b.mark + 1 == last)
  where
    by : (x : Bool) → Plain (if x then replayed l (record b { fresh = fresh; mark = b.mark + 1 }) else Goes (record b { fresh = fresh; mark = b.mark + 1; stage = ReadsLog last }))
    by true = replayed-plain l (record b { fresh = fresh; mark = b.mark + 1 })
    by false = tt

pub looked-plain : (reader : Follower) (l : VersionedManifest) (id last : ℕ) (batches : List Batch) (b : Begun) → Plain (looked_at reader l id last batches b)
looked-plain reader l id last batches b = by (nat_lt (reached_number b + reader.lag) newest) (nat_lt (reached_number b) newest || id == b.mark + 1)
  where
    newest : ℕ
    newest = greatest_number batches

    by : (x y : Bool) → Plain (if x then Goes (record b { stage = ReadsLog last }) else (if y then replayed l b else Goes (record b { stage = LooksAt (id - 1) last })))
    by true y = tt
    by false true = replayed-plain l b
    by false false = tt

pub log-untimed : (f : Replayed) (l : VersionedManifest) (last : ℕ) (fresh : List Batch) (b : Begun) (tries : ℕ) → log_turn f l last fresh b ≡ Fails (errors.TransactionalObjectTimeout tries) → ⊥
log-untimed replays.Whole l last fresh b tries is = subst Plain is (read-plain l last fresh b)
log-untimed (replays.Truncated id) l last fresh b tries is = cc

pub again-untimed : (l : VersionedManifest) (b : Begun) (tries : ℕ) → read_again l b ≡ Fails (errors.TransactionalObjectTimeout tries) → ⊥
again-untimed l b tries = by (nat_lt b.mark l.manifest.replay_after_wal_id)
  where
    by : (x : Bool) → (if x then Breaks (record b { stage = Ended }) else replayed l (record b { latest = Some l })) ≡ Fails (errors.TransactionalObjectTimeout tries) → ⊥
    by true is = cc
    by false is = subst Plain is (replayed-plain l (record b { latest = Some l }))
