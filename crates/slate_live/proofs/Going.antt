-- No call of a begun poll fails for what it decides, while ids of manifests are left and fewer than seven of its puts were overtaken.
use Rattle.std.proofs.Common.{◌≡◌, ◌∙◌, inl, inr, ℕ, ℤ, ◌+◌, ◌-◌, ◌≤◌, ◌<◌, ◌&&◌, ◌==◌, max, not, Bool, true, false, if◌then◌else◌, List, ◌++◌, ◌∷◌, [], map, Option, Some, None, Ok, Err, refl, sym, ap, subst, arith}
use Rattle.std.proofs.lemmas.Bool.{eqb-true, lt-ltb}
use Rattle.std.specs.Option.{is_some}
use Rattle.std.specs.Prelude.{◌||◌, nat_lt}
use Rattle.slate_types.specs.declared.batches.Batch.{Batch}
use Rattle.slate_store.specs.Checkpoints.{Plan, found, lease_end, new_checkpoint, puts_next, refreshed, to_end, to_refresh, to_write, with_checkpoints, without_replaced}
use Rattle.slate_store.specs.Objects.{Objects, latest_manifest, log_at}
use Rattle.slate_store.specs.declared.objects.Checkpoint.{Checkpoint}
use Rattle.slate_store.specs.declared.objects.VersionedManifest.{VersionedManifest}
use Rattle.slate_store.specs.declared.refusals.StoreRefusal.TheVariants.{InvalidDBState}
use Rattle.slate_errors.specs.declared.errors.SlateError.TheVariants as errors
use Rattle.slate_replay.specs.declared.replays.Replayed.{Replayed}
use Rattle.slate_replay.specs.declared.replays.Replayed.TheVariants as replays
use Rattle.slate_model.specs.Begun.{AsksLast, Begun, Breaks, Ended, Ends, Fails, Goes, LooksAt, Puts, ReadsAgain, ReadsLatest, ReadsLog, Stage, Turn, asked_lease, begun_at, committed, decided, emptied, greatest_number, kept_lease, leads_on, looked_at, noted, overtaken_by, put_by, reached_number, read_again, read_log, replayed, replaying, taken}
use Rattle.slate_model.specs.Follower.{Follower}
use Rattle.slate_model.specs.Lease.{differs, is_due, leased}
use Rattle.slate_model.specs.Stood.{WasLatest}
use Rattle.slate_model.specs.Write.{last_number}
use Rattle.slate_model.specs.declared.leases.Lease.{Lease}
use Rattle.slate_follow.specs.Stepping.{LooksTo, MeetsAt, log_turn}

-- a turn that isn't an error
abbrev pub GoesOn : Turn → Type 0
GoesOn (Fails error) = ⊥
GoesOn turn = Unit {0}

-- ---- plans
-- a manifest can follow this one
next-planned : {A : Type 0} (last next : VersionedManifest) (answer : A) → last.id < last_number → puts_next last next answer ≡ Ok (Some next, answer)
next-planned last next answer room = ap (λ can. if can then Ok (Some next, answer) else Err InvalidDBState) (lt-ltb last.id last_number room)

put-goes : (lifetime : ℕ) (p : Plan Checkpoint) (next : VersionedManifest) (checkpoint : Checkpoint) (replaces : Bool) (b : Begun) → p ≡ Ok (Some next, checkpoint) → GoesOn (put_by (leased lifetime p) replaces b)
put-goes lifetime p next checkpoint replaces b is = subst (λ q. GoesOn (put_by (leased lifetime q) replaces b)) (sym is) tt

write-goes : (l : VersionedManifest) (lease : Lease) (moment : ℤ) (b : Begun) → l.id < last_number → GoesOn (put_by (leased lease.lifetime (to_write (Some lease.id) (Some lease.lifetime) moment l)) true b)
write-goes l lease moment b room =
    let checkpoint = new_checkpoint l (Some lease.lifetime) moment in
    let next = with_checkpoints (without_replaced (Some lease.id) l.manifest.checkpoints ++ checkpoint ∷ []) l in
    put-goes lease.lifetime (to_write (Some lease.id) (Some lease.lifetime) moment l) next checkpoint true b (next-planned l next checkpoint room)

refresh-goes : (l : VersionedManifest) (lease : Lease) (moment : ℤ) (b : Begun) (checkpoint : Checkpoint) → found lease.id l ≡ Some checkpoint → l.id < last_number → GoesOn (put_by (leased lease.lifetime (to_refresh lease.id lease.lifetime moment l)) false b)
refresh-goes l lease moment b checkpoint is room =
    let end = lease_end moment lease.lifetime in
    let next = with_checkpoints (map (refreshed lease.id end) l.manifest.checkpoints) l in
    let renewed = record checkpoint { expire_ms = Some end } in
    put-goes lease.lifetime (to_refresh lease.id lease.lifetime moment l) next renewed false b (ap (to_end lease.id end l) is ∙ next-planned l next renewed room)

-- ---- turns
replayed-goes : (l : VersionedManifest) (b : Begun) → (is_some b.lease ≡ true → l.id < last_number) → GoesOn (replayed l b)
replayed-goes l b room = by b.lease refl
  where
    kept-by : (lease : Lease) → l.id < last_number → (there : Option Checkpoint) → found lease.id l ≡ there → GoesOn (kept_lease b.moment lease l there (record b { asked = true }))
    kept-by lease left (Some checkpoint) is = refresh-goes l lease b.moment (record b { asked = true }) checkpoint is left
    kept-by lease left None is = write-goes l lease b.moment (record b { asked = true }) left

    due : (lease : Lease) → l.id < last_number → (x : Bool) → GoesOn (if x then kept_lease b.moment lease l (found lease.id l) (record b { asked = true }) else Ends (record b { stage = Ended }))
    due lease left true = kept-by lease left (found lease.id l) refl
    due lease left false = tt

    by : (held : Option Lease) → b.lease ≡ held → GoesOn (asked_lease held l b)
    by None is = tt
    by (Some lease) is = due lease (room (ap is_some is)) (not b.asked && is_due b.moment lease)

replaying-goes : (reader : Follower) (l : VersionedManifest) (b : Begun) → (is_some b.lease ≡ true → l.id < last_number) → GoesOn (replaying reader l b)
replaying-goes reader l b room = by reader.skips (leads_on reader b)
  where
    by : (skips leads : Bool) → GoesOn (if skips then replayed l (emptied reader l.manifest.replay_after_wal_id b) else (if leads then Goes (record b { stage = AsksLast; mark = max b.mark l.manifest.replay_after_wal_id }) else Goes (record (emptied reader l.manifest.replay_after_wal_id b) { stage = AsksLast })))
    by true leads = replayed-goes l (emptied reader l.manifest.replay_after_wal_id b) room
    by false true = tt
    by false false = tt

decided-goes : (reader : Follower) (l : VersionedManifest) (lease : Option Lease) (b : Begun) → b.lease ≡ lease → (is_some lease ≡ true → l.id < last_number) → GoesOn (decided reader l lease b)
decided-goes reader l None b is room = replaying-goes reader l (record b { view = Some l; latest = Some l }) (λ held. room (ap is_some (sym is) ∙ held))
decided-goes reader l (Some held) b is room = by (differs reader.view l)
  where
    by : (x : Bool) → GoesOn (if x then put_by (leased held.lifetime (to_write (Some held.id) (Some held.lifetime) b.moment l)) true (record b { latest = Some l }) else replaying reader l (record b { latest = Some l }))
    by true = write-goes l held b.moment (record b { latest = Some l }) (room refl)
    by false = replaying-goes reader l (record b { latest = Some l }) (λ some. room refl)

committed-goes : (reader : Follower) (next : VersionedManifest) (given : Lease) (replaces : Bool) (b : Begun) → next.id < last_number → GoesOn (committed reader next given replaces b)
committed-goes reader next given true b room = replaying-goes reader next (record b { view = Some next; latest = Some next; lease = Some given }) (λ held. room)
committed-goes reader next given false b room = tt

overtaken-goes : (reader : Follower) (b : Begun) → b.overtaken < 7 → GoesOn (overtaken_by reader b)
overtaken-goes reader b few = by (b.overtaken == 7) refl
  where
    by : (x : Bool) → (b.overtaken == 7) ≡ x → GoesOn (if x then Fails (errors.TransactionalObjectTimeout 8) else Goes (begun_at b.moment (b.overtaken + 1) b.history reader))
    by true is = absurd (let eighth = eqb-true b.overtaken 7 is in omega (arith, few, eighth))
    by false is = tt

read-goes : (l : VersionedManifest) (last : ℕ) (fresh : List Batch) (b : Begun) → (is_some b.lease ≡ true → l.id < last_number) → GoesOn (read_log l last fresh b)
read-goes l last fresh b room = by (b.mark + 1 == last)
  where
    by : (x : Bool) → GoesOn (if x then replayed l (record b { fresh = fresh; mark = b.mark + 1 }) else Goes (record b { fresh = fresh; mark = b.mark + 1; stage = ReadsLog last }))
    by true = replayed-goes l (record b { fresh = fresh; mark = b.mark + 1 }) room
    by false = tt

looked-goes : (reader : Follower) (l : VersionedManifest) (id last : ℕ) (batches : List Batch) (b : Begun) → (is_some b.lease ≡ true → l.id < last_number) → GoesOn (looked_at reader l id last batches b)
looked-goes reader l id last batches b room = by (nat_lt (reached_number b + reader.lag) newest) (nat_lt (reached_number b) newest || id == b.mark + 1)
  where
    newest : ℕ
    newest = greatest_number batches

    by : (x y : Bool) → GoesOn (if x then Goes (record b { stage = ReadsLog last }) else (if y then replayed l b else Goes (record b { stage = LooksAt (id - 1) last })))
    by true y = tt
    by false true = replayed-goes l b room
    by false false = tt

looks-goes : (reader : Follower) (l : VersionedManifest) (id last : ℕ) (b : Begun) (log : Option (List Batch)) (turn : Turn) → (is_some b.lease ≡ true → l.id < last_number) → LooksTo reader l id last b log turn → GoesOn turn
looks-goes reader l id last b None turn room turn_is = subst GoesOn (sym turn_is) tt
looks-goes reader l id last b (Some batches) turn room turn_is = subst GoesOn (sym turn_is) (looked-goes reader l id last batches b room)

log-goes : (found : Replayed) (l : VersionedManifest) (last : ℕ) (fresh : List Batch) (b : Begun) → (is_some b.lease ≡ true → l.id < last_number) → GoesOn (log_turn found l last fresh b)
log-goes replays.Whole l last fresh b room = read-goes l last fresh b room
log-goes (replays.Truncated id) l last fresh b room = tt

again-goes : (l : VersionedManifest) (b : Begun) → (is_some b.lease ≡ true → l.id < last_number) → GoesOn (read_again l b)
again-goes l b room = by (nat_lt b.mark l.manifest.replay_after_wal_id)
  where
    by : (x : Bool) → GoesOn (if x then Breaks (record b { stage = Ended }) else replayed l (record b { latest = Some l }))
    by true = tt
    by false = replayed-goes l (record b { latest = Some l }) room

-- ---- a call over objects with a latest manifest
module _ (reader : Follower) (b : Begun) (o o' : Objects) (few : b.overtaken < 7) (latest : VersionedManifest) (is_latest : latest_manifest o ≡ Some latest)
    (room : is_some b.lease ≡ true → latest.id + 1 < last_number)
    (read : (last : VersionedManifest) → b.latest ≡ Some last → WasLatest o last)
    (puts : (next : VersionedManifest) (given : Lease) (replaces : Bool) → b.stage ≡ Puts next given replaces → (last : VersionedManifest) × (b.latest ≡ Some last) × (is_some b.lease ≡ true) × (next.id ≡ last.id + 1)) where
  the-latest : (l : VersionedManifest) → latest_manifest o ≡ Some l → l.id ≡ latest.id
  the-latest l is = let same : l ≡ latest = (let e = sym is ∙ is_latest in cc) in ap (λ (v : VersionedManifest). v.id) same

  -- one that was the latest has no higher id
  id-low : (last : VersionedManifest) → WasLatest o last → last.id ≤ latest.id
  id-low last was = let low = was.2 in let same = the-latest was.0 was.1 in omega (arith, low, same)

  room-latest : (l : VersionedManifest) → latest_manifest o ≡ Some l → is_some b.lease ≡ true → l.id < last_number
  room-latest l is held = let more = room held in let same = the-latest l is in omega (arith, more, same)

  pub meets-goes : (stage : Stage) → b.stage ≡ stage → (turn : Turn) → MeetsAt stage reader (taken b) o turn o' → GoesOn turn
  meets-goes ReadsLatest at turn (l, is, turn_is, same) = subst GoesOn (sym turn_is) (decided-goes reader l b.lease (noted l (taken b)) refl (room-latest l is))
  meets-goes (Puts next given replaces) at turn (inl (free, turn_is, put)) =
      let p = puts next given replaces at in
      let low = id-low p.0 (read p.0 p.1) in
      let more = room p.2 in
      let id = p.3 in
      subst GoesOn (sym turn_is) (committed-goes reader next given replaces (taken b) (omega (arith, low, more, id)))
  meets-goes (Puts next given replaces) at turn (inr (present, turn_is, same)) = subst GoesOn (sym turn_is) (overtaken-goes reader (taken b) few)
  meets-goes AsksLast at turn (turn_is, same) = subst GoesOn (sym turn_is) tt
  meets-goes (LooksAt id last) at turn (l, is, looks, same) =
      let low = id-low l (read l is) in
      looks-goes reader l id last (taken b) (log_at id o) turn (λ held. let more = room held in omega (arith, low, more)) looks
  meets-goes (ReadsLog last) at turn (l, fresh, found_log, is, replays_next, turn_is, same) =
      let low = id-low l (read l is) in
      subst GoesOn (sym turn_is) (log-goes found_log l last fresh (taken b) (λ held. let more = room held in omega (arith, low, more)))
  meets-goes ReadsAgain at turn (l, is, turn_is, same) = subst GoesOn (sym turn_is) (again-goes l (taken b) (room-latest l is))
  meets-goes Ended at turn meets = absurd meets
