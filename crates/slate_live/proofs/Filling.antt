-- A plan for a checkpoint is refused where no manifest can follow the latest one, and a begun poll fails so.
use Rattle.std.proofs.Common.{◌≡◌, ◌⊎◌, ◌+◌, ◌-◌, ◌++◌, ◌∷◌, ◌==◌, ◌&&◌, ◌≤◌, [], max, not, ℕ, ℤ, Bool, true, false, cond, if◌then◌else◌, List, map, Option, Some, None, Ok, Err, refl, sym, subst, ap, inl, inr}
use Rattle.std.specs.Prelude.{◌||◌, nat_lt}
use Rattle.std.proofs.lemmas.Bool.{ltb-false}
use Rattle.slate_types.specs.declared.batches.Batch.{Batch}
use Rattle.slate_store.specs.Checkpoints.{Plan, found, lease_end, new_checkpoint, puts_next, refreshed, to_end, to_refresh, to_write, with_checkpoints, without_id}
use Rattle.slate_store.specs.Objects.{Objects, PutManifest, is_present, latest_manifest, log_at}
use Rattle.slate_store.specs.declared.objects.Checkpoint.{Checkpoint}
use Rattle.slate_store.specs.declared.objects.VersionedManifest.{VersionedManifest}
use Rattle.slate_store.specs.declared.refusals.StoreRefusal.{StoreRefusal}
use Rattle.slate_store.specs.declared.refusals.StoreRefusal.TheVariants as refusals
use Rattle.slate_errors.specs.declared.closing.CloseFault.TheVariants as faults
use Rattle.slate_errors.specs.declared.errors.SlateError.{SlateError}
use Rattle.slate_errors.specs.declared.errors.SlateError.TheVariants as errors
use Rattle.slate_model.specs.Begun.{Begun, Breaks, Ends, Ended, Fails, Goes, Puts, AsksLast, LooksAt, ReadsAgain, ReadsLatest, ReadsLog, Stage, Turn, asked_lease, begun_at, committed, decided, emptied, greatest_number, kept_lease, leads_on, looked_at, noted, put_by, reached_number, read_log, read_again, replayed, replaying}
use Rattle.slate_model.specs.Follower.{Follower}
use Rattle.slate_model.specs.Handle.{CloseResult}
use Rattle.slate_model.specs.Lease.{differs, is_due, leased, replaces, to_keep}
use Rattle.slate_model.proofs.Leased.{leased-refused}
use Rattle.slate_model.specs.Managed.{poll_result}
use Rattle.slate_model.specs.Refusal.{error_of_refusal}
use Rattle.slate_model.specs.Write.{last_number}
use Rattle.slate_model.specs.declared.leases.Lease.{Lease}
use Rattle.slate_replay.specs.declared.replays.Replayed.TheVariants as replays
use Rattle.slate_follow.specs.Stepping.{LooksTo, MeetsAt}
use Rattle.slate_script.specs.declared.replies.Reply.TheVariants as replies
use Rattle.slate_live.specs.Replies.{refusal}

-- ---- a plan that has no id left
pub put-full : {A : Type 0} (latest next : VersionedManifest) (answer : A) → puts_next latest next answer ≡ Err refusals.InvalidDBState → last_number ≤ latest.id
put-full {A} latest next answer is = by (nat_lt latest.id last_number) refl is where
  by : (b : Bool) → nat_lt latest.id last_number ≡ b → cond {A = Plan A} b (Ok (Some next, answer)) (Err refusals.InvalidDBState) ≡ Err refusals.InvalidDBState → last_number ≤ latest.id
  by true which is = absurd (cc)
  by false which is = ltb-false latest.id last_number which

pub end-full : (id : List ℕ) (end : ℤ) (latest : VersionedManifest) (was : Option Checkpoint) → to_end id end latest was ≡ Err refusals.InvalidDBState → last_number ≤ latest.id
end-full id end latest None is = absurd (cc)
end-full id end latest (Some checkpoint) is = put-full latest (with_checkpoints (map (refreshed id end) latest.manifest.checkpoints) latest) (record checkpoint { expire_ms = Some end }) is

pub keep-full : (view latest : VersionedManifest) (lease : Lease) (moment : ℤ) → to_keep view lease moment latest ≡ Err refusals.InvalidDBState → last_number ≤ latest.id
keep-full view latest lease moment is = by (replaces view lease moment latest) (is_due moment lease) is where
  by : (replaced due : Bool) → cond replaced (leased lease.lifetime (to_write (Some lease.id) (Some lease.lifetime) moment latest)) (cond due (leased lease.lifetime (to_refresh lease.id lease.lifetime moment latest)) (Ok (None, lease))) ≡ Err refusals.InvalidDBState → last_number ≤ latest.id
  by true due is =
      let checkpoint = new_checkpoint latest (Some lease.lifetime) moment in
      put-full latest (with_checkpoints (without_id lease.id latest.manifest.checkpoints ++ checkpoint ∷ []) latest) checkpoint (leased-refused lease.lifetime (to_write (Some lease.id) (Some lease.lifetime) moment latest) is)
  by false true is = end-full lease.id (lease_end moment lease.lifetime) latest (found lease.id latest) (leased-refused lease.lifetime (to_refresh lease.id lease.lifetime moment latest) is)
  by false false is = absurd (cc)

pub refused-is : (e : SlateError) → refusal e ≡ replies.Refused errors.InvalidDBState → e ≡ errors.InvalidDBState
refused-is errors.NoMemory is = absurd (cc)
refused-is (errors.Backpressure unflushed limit) is = absurd (cc)
refused-is e is = cc

-- ---- what is recorded
abbrev pub broken : CloseResult
broken = Some (Err faults.InvalidDBState)

pub recorded-is : (e : SlateError) → poll_result e ≡ broken → e ≡ errors.InvalidDBState
recorded-is errors.InvalidDBState is = refl
recorded-is (errors.TransactionalObjectTimeout tries) is = absurd (cc)
recorded-is errors.Fenced is = absurd (cc)
recorded-is (errors.ObjectStoreError fault) is = absurd (cc)
recorded-is errors.TransactionalObjectVersionExists is = absurd (cc)
recorded-is errors.LatestTransactionalObjectVersionMissing is = absurd (cc)
recorded-is e is = absurd (cc)

-- ---- a begun poll
refusal-is : (refusal : StoreRefusal) → error_of_refusal refusal ≡ errors.InvalidDBState → refusal ≡ refusals.InvalidDBState
refusal-is refusals.InvalidDBState is = refl
refusal-is (refusals.CheckpointMissing id) is = absurd (cc)
refusal-is refusals.LatestTransactionalObjectVersionMissing is = absurd (cc)
refusal-is refusals.Fenced is = absurd (cc)
refusal-is (refusals.ObjectStoreError fault) is = absurd (cc)
refusal-is refusals.TransactionalObjectVersionExists is = absurd (cc)
refusal-is (refusals.TransactionalObjectTimeout tries) is = absurd (cc)
refusal-is refusals.NoMemory is = absurd (cc)

-- one whose call fails with InvalidDBState read or put a manifest last that none can follow
module _ (Full : VersionedManifest → Type 0) (full : (last : VersionedManifest) → last_number ≤ last.id → Full last) where
  abbrev pub FailsFull : VersionedManifest → Turn → Type 0
  FailsFull last (Fails error) = error ≡ errors.InvalidDBState → Full last
  FailsFull last turn = Unit {0}

  if-full : (last : VersionedManifest) (b : Bool) (x y : Turn) → FailsFull last x → FailsFull last y → FailsFull last (if b then x else y)
  if-full last true x y first second = first
  if-full last false x y first second = second

  put-fails : (last : VersionedManifest) (replaces : Bool) (plan : Plan Lease) (begun : Begun) → (plan ≡ Err refusals.InvalidDBState → last_number ≤ last.id) → FailsFull last (put_by plan replaces begun)
  put-fails last replaces (Ok (Some next, given)) begun why = tt
  put-fails last replaces (Ok (None, given)) begun why = tt
  put-fails last replaces (Err refusal) begun why = λ is. full last (why (ap Err (refusal-is refusal is)))

  write-fails : (last : VersionedManifest) (lease : Lease) (moment : ℤ) (begun : Begun) → FailsFull last (put_by (leased lease.lifetime (to_write (Some lease.id) (Some lease.lifetime) moment last)) true begun)
  write-fails last lease moment begun =
      let checkpoint = new_checkpoint last (Some lease.lifetime) moment in
      put-fails last true (leased lease.lifetime (to_write (Some lease.id) (Some lease.lifetime) moment last)) begun
      (λ is. put-full last (with_checkpoints (without_id lease.id last.manifest.checkpoints ++ checkpoint ∷ []) last) checkpoint (leased-refused lease.lifetime (to_write (Some lease.id) (Some lease.lifetime) moment last) is))

  kept-fails : (moment : ℤ) (lease : Lease) (last : VersionedManifest) (was : Option Checkpoint) (begun : Begun) → FailsFull last (kept_lease moment lease last was begun)
  kept-fails moment lease last (Some checkpoint) begun =
      put-fails last false (leased lease.lifetime (to_refresh lease.id lease.lifetime moment last)) begun
      (λ is. end-full lease.id (lease_end moment lease.lifetime) last (found lease.id last) (leased-refused lease.lifetime (to_refresh lease.id lease.lifetime moment last) is))
  kept-fails moment lease last None begun = write-fails last lease moment begun

  asked-fails : (last : VersionedManifest) (lease : Option Lease) (begun : Begun) → FailsFull last (asked_lease lease last begun)
  asked-fails last None begun = tt
  asked-fails last (Some lease) begun =
      if-full last (not begun.asked && is_due begun.moment lease) (kept_lease begun.moment lease last (found lease.id last) (record begun { asked = true })) (Ends (record begun { stage = Ended }))
      (kept-fails begun.moment lease last (found lease.id last) (record begun { asked = true })) tt

  replaying-fails : (reader : Follower) (last : VersionedManifest) (begun : Begun) → FailsFull last (replaying reader last begun)
  replaying-fails reader last begun =
      let mark = last.manifest.replay_after_wal_id in
      let empty = emptied reader mark begun in
      let on = record begun { stage = AsksLast; mark = max begun.mark mark } in
      let anew = record (emptied reader mark begun) { stage = AsksLast } in
      if-full last reader.skips (replayed last empty) (if leads_on reader begun then Goes on else Goes anew) (asked-fails last empty.lease empty) (if-full last (leads_on reader begun) (Goes on) (Goes anew) tt tt)

  decided-fails : (reader : Follower) (last : VersionedManifest) (lease : Option Lease) (begun : Begun) → FailsFull last (decided reader last lease begun)
  decided-fails reader last None begun = replaying-fails reader last (record begun { view = Some last; latest = Some last })
  decided-fails reader last (Some lease) begun =
      let read = record begun { latest = Some last } in
      if-full last (differs reader.view last) (put_by (leased lease.lifetime (to_write (Some lease.id) (Some lease.lifetime) begun.moment last)) true read) (replaying reader last read)
      (write-fails last lease begun.moment read) (replaying-fails reader last read)

  committed-fails : (reader : Follower) (next : VersionedManifest) (given : Lease) (replaces : Bool) (begun : Begun) → FailsFull next (committed reader next given replaces begun)
  committed-fails reader next given true begun = replaying-fails reader next (record begun { view = Some next; latest = Some next; lease = Some given })
  committed-fails reader next given false begun = tt

  read-fails : (last : VersionedManifest) (id : ℕ) (fresh : List Batch) (begun : Begun) → FailsFull last (read_log last id fresh begun)
  read-fails last id fresh begun =
      let next = record begun { fresh = fresh; mark = begun.mark + 1 } in
      if-full last (next.mark == id) (replayed last next) (Goes (record next { stage = ReadsLog id })) (asked-fails last next.lease next) tt

  looked-fails : (reader : Follower) (latest : VersionedManifest) (id last : ℕ) (batches : List Batch) (begun : Begun) → FailsFull latest (looked_at reader latest id last batches begun)
  looked-fails reader latest id last batches begun =
      let newest = greatest_number batches in
      let waits = nat_lt (reached_number begun) newest || id == begun.mark + 1 in
      let back : Turn = Goes (record begun { stage = LooksAt (id - 1) last }) in
      if-full latest (nat_lt (reached_number begun + reader.lag) newest) (Goes (record begun { stage = ReadsLog last })) (if waits then replayed latest begun else back) tt
      (if-full latest waits (replayed latest begun) back (asked-fails latest begun.lease begun) tt)

  again-fails : (last : VersionedManifest) (begun : Begun) → FailsFull last (read_again last begun)
  again-fails last begun =
      let next = record begun { latest = Some last } in
      if-full last (nat_lt begun.mark last.manifest.replay_after_wal_id) (Breaks (record begun { stage = Ended })) (replayed last next) tt (asked-fails last next.lease next)

  fails-by : (last : VersionedManifest) (turn : Turn) → Fails errors.InvalidDBState ≡ turn → FailsFull last turn → Full last
  fails-by last turn is fails = let mine : FailsFull last (Fails errors.InvalidDBState) = subst (FailsFull last) (sym is) fails in mine refl

  overtaken-not : (b : Bool) (begun : Begun) → Fails errors.InvalidDBState ≡ (if b then Fails (errors.TransactionalObjectTimeout 8) else Goes begun) → ⊥
  overtaken-not true begun is = absurd (cc)
  overtaken-not false begun is = absurd (cc)

  looks-fails : (reader : Follower) (latest : VersionedManifest) (id last : ℕ) (begun : Begun) (log : Option (List Batch)) → LooksTo reader latest id last begun log (Fails errors.InvalidDBState) → Full latest
  looks-fails reader latest id last begun None turn_is = absurd (cc)
  looks-fails reader latest id last begun (Some batches) turn_is = fails-by latest (looked_at reader latest id last batches begun) turn_is (looked-fails reader latest id last batches begun)

  -- by which manifest a call fails so: the latest one, the one that was read last, or that is put
  pub meets-fails : (stage : Stage) (reader : Follower) (begun : Begun) (o o' : Objects) → MeetsAt stage reader begun o (Fails errors.InvalidDBState) o' →
      (last : VersionedManifest) × ((latest_manifest o ≡ Some last) ⊎ ((begun.latest ≡ Some last) ⊎ ((given : Lease) × (replaces : Bool) × (stage ≡ Puts last given replaces) × (is_present (PutManifest last.id last.manifest) o ≡ false)))) × Full last
  meets-fails ReadsLatest reader begun o o' (latest, is, turn_is, same) = (latest, inl is, fails-by latest (decided reader latest begun.lease (noted latest begun)) turn_is (decided-fails reader latest begun.lease (noted latest begun)))
  meets-fails (Puts next given replaces) reader begun o o' (inl (free, turn_is, put)) = (next, inr (inr (given, replaces, refl, free)), fails-by next (committed reader next given replaces begun) turn_is (committed-fails reader next given replaces begun))
  meets-fails (Puts next given replaces) reader begun o o' (inr (there, turn_is, same)) = absurd (overtaken-not (begun.overtaken == 7) (begun_at begun.moment (begun.overtaken + 1) begun.history reader) turn_is)
  meets-fails AsksLast reader begun o o' (turn_is, same) = absurd (cc)
  meets-fails (LooksAt id last) reader begun o o' (latest, read, looks, same) = (latest, inr (inl read), looks-fails reader latest id last begun (log_at id o) looks)
  meets-fails (ReadsLog last) reader begun o o' (latest, fresh, replays.Whole, read, n, turn_is, same) = (latest, inr (inl read), fails-by latest (read_log latest last fresh begun) turn_is (read-fails latest last fresh begun))
  meets-fails (ReadsLog last) reader begun o o' (latest, fresh, (replays.Truncated id), read, n, turn_is, same) = absurd (cc)
  meets-fails ReadsAgain reader begun o o' (latest, is, turn_is, same) = (latest, inl is, fails-by latest (read_again latest begun) turn_is (again-fails latest begun))
  meets-fails Ended reader begun o o' m = absurd m
