-- A begun poll of a reader that skips log files has the tables of its manifest alone once that was read.
use Rattle.std.proofs.Common.{◌≡◌, ◌+◌, ◌++◌, ◌∷◌, ◌==◌, ◌&&◌, max, not, ℕ, ℤ, Bool, true, false, if◌then◌else◌, [], Option, Some, None, Ok, Err, refl, sym, subst, inl, inr}
use Rattle.std.specs.Prelude.{nat_lt}
use Rattle.slate_store.specs.Checkpoints.{Plan, found, new_checkpoint, puts_next, to_refresh, to_write, with_checkpoints, without_id}
use Rattle.slate_store.specs.Objects.{Objects}
use Rattle.slate_store.specs.declared.objects.Checkpoint.{Checkpoint}
use Rattle.slate_store.specs.declared.objects.VersionedManifest.{VersionedManifest}
use Rattle.slate_store.specs.declared.refusals.StoreRefusal.TheVariants as refusals
use Rattle.slate_errors.specs.declared.errors.SlateError.TheVariants as errors
use Rattle.slate_model.specs.Begun.{Begun, Breaks, Ends, Ended, Fails, Goes, Puts, AsksLast, LooksAt, ReadsAgain, ReadsLatest, ReadsLog, Stage, Turn, asked_lease, begun_at, committed, decided, emptied, kept_lease, leads_on, noted, put_by, replayed, replaying}
use Rattle.slate_model.specs.Follower.{Follower, kept_follower}
use Rattle.slate_model.specs.Lease.{differs, is_due, leased}
use Rattle.slate_model.specs.Write.{last_number}
use Rattle.slate_model.specs.declared.leases.Lease.{Lease}
use Rattle.slate_follow.specs.Stepping.{MeetsAt}
use Rattle.slate_live.specs.Standing.{IsBare, IsBareAt, IsStaged}

module _ (reader : Follower) (skips : reader.skips ≡ true) where
  abbrev kept_one : Follower
  kept_one = kept_follower reader

  abbrev pub LeftBare : Turn → Type 0
  LeftBare (Goes begun) = IsBareAt reader begun begun.stage
  LeftBare (Ends begun) = IsBare reader begun
  LeftBare (Breaks begun) = IsBare reader begun
  LeftBare (Fails error) = Unit {0}

  if-bare : (b : Bool) (x y : Turn) → LeftBare x → LeftBare y → LeftBare (if b then x else y)
  if-bare true x y first second = first
  if-bare false x y first second = second

  put-bare : (replaces : Bool) (plan : Plan Lease) (begun : Begun) → IsBare reader begun → LeftBare (put_by plan replaces begun)
  put-bare true (Ok (Some next, given)) begun bare = tt
  put-bare false (Ok (Some next, given)) begun bare = bare
  put-bare replaces (Ok (None, given)) begun bare = bare
  put-bare replaces (Err refusal) begun bare = tt

  -- a checkpoint that is replaced is put, or can't be
  puts-bare : (lifetime : ℕ) (latest next : VersionedManifest) (checkpoint : Checkpoint) (begun : Begun) → LeftBare (put_by (leased lifetime (puts_next latest next checkpoint)) true begun)
  puts-bare lifetime latest next checkpoint begun = by (nat_lt latest.id last_number)
    where
      by : (room : Bool) → LeftBare (put_by (leased lifetime (if room then Ok (Some next, checkpoint) else Err refusals.InvalidDBState)) true begun)
      by true = tt
      by false = tt

  write-bare : (latest : VersionedManifest) (lease : Lease) (moment : ℤ) (begun : Begun) → LeftBare (put_by (leased lease.lifetime (to_write (Some lease.id) (Some lease.lifetime) moment latest)) true begun)
  write-bare latest lease moment begun =
      let checkpoint = new_checkpoint latest (Some lease.lifetime) moment in
      puts-bare lease.lifetime latest (with_checkpoints (without_id lease.id latest.manifest.checkpoints ++ checkpoint ∷ []) latest) checkpoint begun

  kept-bare : (moment : ℤ) (lease : Lease) (latest : VersionedManifest) (was : Option Checkpoint) (begun : Begun) → IsBare reader begun → LeftBare (kept_lease moment lease latest was begun)
  kept-bare moment lease latest (Some checkpoint) begun bare = put-bare false (leased lease.lifetime (to_refresh lease.id lease.lifetime moment latest)) begun bare
  kept-bare moment lease latest None begun bare = put-bare true (leased lease.lifetime (to_write (Some lease.id) (Some lease.lifetime) moment latest)) begun bare

  asked-bare : (latest : VersionedManifest) (lease : Option Lease) (begun : Begun) → IsBare reader begun → LeftBare (asked_lease lease latest begun)
  asked-bare latest None begun bare = bare
  asked-bare latest (Some lease) begun bare =
      if-bare (not begun.asked && is_due begun.moment lease) (kept_lease begun.moment lease latest (found lease.id latest) (record begun { asked = true })) (Ends (record begun { stage = Ended }))
      (kept-bare begun.moment lease latest (found lease.id latest) (record begun { asked = true }) bare) bare

  replaying-bare : (latest : VersionedManifest) (begun : Begun) → LeftBare (replaying kept_one latest begun)
  replaying-bare latest begun =
      let mark = latest.manifest.replay_after_wal_id in
      let empty = emptied kept_one mark begun in
      subst (λ s. LeftBare (if s then replayed latest empty else (if leads_on kept_one begun then Goes (record begun { stage = AsksLast; mark = max begun.mark mark }) else Goes (record (emptied kept_one mark begun) { stage = AsksLast })))) (sym skips)
      (asked-bare latest empty.lease empty (refl, refl, refl))

  decided-bare : (latest : VersionedManifest) (lease : Option Lease) (begun : Begun) → LeftBare (decided kept_one latest lease begun)
  decided-bare latest None begun = replaying-bare latest (record begun { view = Some latest; latest = Some latest })
  decided-bare latest (Some lease) begun =
      let read = record begun { latest = Some latest } in
      if-bare (differs reader.view latest) (put_by (leased lease.lifetime (to_write (Some lease.id) (Some lease.lifetime) begun.moment latest)) true read) (replaying kept_one latest read)
      (write-bare latest lease begun.moment read) (replaying-bare latest read)

  committed-bare : (next : VersionedManifest) (given : Lease) (replaces : Bool) (begun : Begun) → IsBareAt reader begun (Puts next given replaces) → LeftBare (committed kept_one next given replaces begun)
  committed-bare next given true begun bare = replaying-bare next (record begun { view = Some next; latest = Some next; lease = Some given })
  committed-bare next given false begun bare = bare

  -- so it is after each of its calls
  pub meets-bare : (begun : Begun) (o o' : Objects) (stage : Stage) (turn : Turn) → IsStaged reader begun stage → IsBareAt reader begun stage → MeetsAt stage kept_one begun o turn o' → LeftBare turn
  meets-bare begun o o' ReadsLatest turn staged bare (latest, is, turn_is, same) = subst LeftBare (sym turn_is) (decided-bare latest begun.lease (noted latest begun))
  meets-bare begun o o' (Puts next given true) turn staged bare (inl (free, turn_is, put)) = subst LeftBare (sym turn_is) (committed-bare next given true begun tt)
  meets-bare begun o o' (Puts next given false) turn staged bare (inl (free, turn_is, put)) = subst LeftBare (sym turn_is) (committed-bare next given false begun bare)
  meets-bare begun o o' (Puts next given replaces) turn staged bare (inr (there, turn_is, same)) =
      subst LeftBare (sym turn_is) (if-bare (begun.overtaken == 7) (Fails (errors.TransactionalObjectTimeout 8)) (Goes (begun_at begun.moment (begun.overtaken + 1) begun.history kept_one)) tt tt)
  meets-bare begun o o' AsksLast turn reads bare met = absurd (cc (skips, reads))
  meets-bare begun o o' (LooksAt id last) turn reads bare met = absurd (cc (skips, reads))
  meets-bare begun o o' (ReadsLog last) turn reads bare met = absurd (cc (skips, reads))
  meets-bare begun o o' ReadsAgain turn reads bare met = absurd (cc (skips, reads))
  meets-bare begun o o' Ended turn staged bare met = absurd met
