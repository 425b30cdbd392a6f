-- What a begun poll puts next is planned for its lease, after the manifest that it read or put last.
use Rattle.std.proofs.Common.{◌≡◌, ◌+◌, ◌-◌, ◌==◌, ◌&&◌, max, not, ℕ, ℤ, Bool, true, false, if◌then◌else◌, List, Option, Some, None, Ok, Err, ap, refl, sym, subst, inl, inr}
use Rattle.std.specs.Option.{is_some}
use Rattle.std.specs.Prelude.{◌||◌, nat_lt}
use Rattle.slate_store.specs.Checkpoints.{Plan, found, to_refresh, to_write}
use Rattle.slate_store.specs.Objects.{Objects, last_log, log_at}
use Rattle.slate_store.specs.declared.objects.Checkpoint.{Checkpoint}
use Rattle.slate_store.specs.declared.objects.VersionedManifest.{VersionedManifest}
use Rattle.slate_types.specs.declared.batches.Batch.{Batch}
use Rattle.slate_errors.specs.declared.errors.SlateError.TheVariants as errors
use Rattle.slate_model.specs.Begun.{Begun, Breaks, Ends, Ended, Fails, Goes, Puts, AsksLast, LooksAt, ReadsAgain, ReadsLatest, ReadsLog, Stage, Turn, asked_last, asked_lease, begun_at, committed, decided, emptied, greatest_number, kept_lease, leads_on, looked_at, noted, overtaken_by, put_by, reached_number, read_again, read_log, replayed, replaying, with_log}
use Rattle.slate_model.specs.Follower.{Follower}
use Rattle.slate_model.specs.Lease.{differs, is_due, leased}
use Rattle.slate_model.specs.Stood.{IsPlanned}
use Rattle.slate_model.specs.declared.leases.Lease.{Lease}
use Rattle.slate_replay.specs.declared.replays.Replayed.TheVariants as replays
use Rattle.slate_follow.specs.Stepping.{LooksTo, MeetsAt}
use Rattle.slate_live.specs.Standing.{IsStaged, PlansFor}
use Rattle.slate_model.proofs.Leased.{leased-is}

-- a plan for a lease is one after the last manifest
pub planned-for : (lease : Lease) (replaces : Bool) (last next : VersionedManifest) (given : Lease) → PlansFor lease replaces last next given → IsPlanned last next
planned-for lease true last next given (moment, gives) =
    let p = leased-is lease.lifetime (to_write (Some lease.id) (Some lease.lifetime) moment last) (Some next) given gives in
    (lease.id, lease.lifetime, moment, p.0, inl p.1)
planned-for lease false last next given (moment, gives) =
    let p = leased-is lease.lifetime (to_refresh lease.id lease.lifetime moment last) (Some next) given gives in
    (lease.id, lease.lifetime, moment, p.0, inr p.1)

pub staged-planned : (reader : Follower) (begun : Begun) (next : VersionedManifest) (given : Lease) (replaces : Bool) (staged : IsStaged reader begun (Puts next given replaces)) → IsPlanned staged.0 next
staged-planned reader begun next given replaces staged = planned-for staged.2 replaces staged.0 next given staged.4

pub staged-leased : (reader : Follower) (begun : Begun) (next : VersionedManifest) (given : Lease) (replaces : Bool) → IsStaged reader begun (Puts next given replaces) → is_some begun.lease ≡ true
staged-leased reader begun next given replaces staged = ap is_some staged.3

-- ---- what a poll puts next in a stage
abbrev pub HasPlan : Begun → Stage → Type 0
HasPlan begun (Puts next given replaces) = (last : VersionedManifest) × (begun.latest ≡ Some last) × (lease : Lease) × (begun.lease ≡ Some lease) × PlansFor lease replaces last next given
HasPlan begun stage = Unit {0}

-- and after a turn
abbrev pub GoesPlanned : Turn → Type 0
GoesPlanned (Goes begun) = HasPlan begun begun.stage
GoesPlanned turn = Unit {0}

if-planned : (b : Bool) (x y : Turn) → GoesPlanned x → GoesPlanned y → GoesPlanned (if b then x else y)
if-planned true x y first second = first
if-planned false x y first second = second

put-planned : (lease : Lease) (latest : VersionedManifest) (replaces : Bool) (plan : Plan Lease) (begun : Begun) → begun.latest ≡ Some latest → begun.lease ≡ Some lease → ((next : VersionedManifest) (given : Lease) → plan ≡ Ok (Some next, given) → PlansFor lease replaces latest next given) →
    GoesPlanned (put_by plan replaces begun)
put-planned lease latest replaces (Ok (Some next, given)) begun read has plans = (latest, read, lease, has, plans next given refl)
put-planned lease latest replaces (Ok (None, given)) begun read has plans = tt
put-planned lease latest replaces (Err refusal) begun read has plans = tt

kept-planned : (moment : ℤ) (lease : Lease) (latest : VersionedManifest) (was : Option Checkpoint) (begun : Begun) → begun.latest ≡ Some latest → begun.lease ≡ Some lease → GoesPlanned (kept_lease moment lease latest was begun)
kept-planned moment lease latest (Some checkpoint) begun read has =
    put-planned lease latest false (leased lease.lifetime (to_refresh lease.id lease.lifetime moment latest)) begun read has (λ next given gives. (moment, gives))
kept-planned moment lease latest None begun read has =
    put-planned lease latest true (leased lease.lifetime (to_write (Some lease.id) (Some lease.lifetime) moment latest)) begun read has (λ next given gives. (moment, gives))

asked-planned : (latest : VersionedManifest) (lease : Option Lease) (begun : Begun) → begun.lease ≡ lease → begun.latest ≡ Some latest → GoesPlanned (asked_lease lease latest begun)
asked-planned latest None begun has read = tt
asked-planned latest (Some lease) begun has read =
    if-planned (not begun.asked && is_due begun.moment lease) (kept_lease begun.moment lease latest (found lease.id latest) (record begun { asked = true })) (Ends (record begun { stage = Ended }))
    (kept-planned begun.moment lease latest (found lease.id latest) (record begun { asked = true }) read has) tt

replayed-planned : (latest : VersionedManifest) (begun : Begun) → begun.latest ≡ Some latest → GoesPlanned (replayed latest begun)
replayed-planned latest begun read = asked-planned latest begun.lease begun refl read

replaying-planned : (reader : Follower) (latest : VersionedManifest) (begun : Begun) → begun.latest ≡ Some latest → GoesPlanned (replaying reader latest begun)
replaying-planned reader latest begun read =
    let mark = latest.manifest.replay_after_wal_id in
    let empty = emptied reader mark begun in
    let on = record begun { stage = AsksLast; mark = max begun.mark mark } in
    let anew = record (emptied reader mark begun) { stage = AsksLast } in
    if-planned reader.skips (replayed latest empty) (if leads_on reader begun then Goes on else Goes anew)
    (replayed-planned latest empty read)
    (if-planned (leads_on reader begun) (Goes on) (Goes anew) tt tt)

decided-planned : (reader : Follower) (latest : VersionedManifest) (lease : Option Lease) (begun : Begun) → begun.lease ≡ lease → GoesPlanned (decided reader latest lease begun)
decided-planned reader latest None begun has = replaying-planned reader latest (record begun { view = Some latest; latest = Some latest }) refl
decided-planned reader latest (Some lease) begun has =
    let read = record begun { latest = Some latest } in
    let plan = leased lease.lifetime (to_write (Some lease.id) (Some lease.lifetime) begun.moment latest) in
    if-planned (differs reader.view latest) (put_by plan true read) (replaying reader latest read)
    (put-planned lease latest true plan read refl has (λ next given gives. (begun.moment, gives)))
    (replaying-planned reader latest read refl)

committed-planned : (reader : Follower) (next : VersionedManifest) (given : Lease) (replaces : Bool) (begun : Begun) → GoesPlanned (committed reader next given replaces begun)
committed-planned reader next given true begun = replaying-planned reader next (record begun { view = Some next; latest = Some next; lease = Some given }) refl
committed-planned reader next given false begun = tt

overtaken-planned : (reader : Follower) (begun : Begun) → GoesPlanned (overtaken_by reader begun)
overtaken-planned reader begun = if-planned (begun.overtaken == 7) (Fails (errors.TransactionalObjectTimeout 8)) (Goes (begun_at begun.moment (begun.overtaken + 1) begun.history reader)) tt tt

asked-last-planned : (reader : Follower) (last : ℕ) (begun : Begun) → GoesPlanned (Goes (asked_last reader last begun))
asked-last-planned reader last begun = by (nat_lt begun.mark last) (reader.lag == 0)
  where
    by : (more none : Bool) → GoesPlanned (Goes (if more then record begun { stage = (if none then ReadsLog last else LooksAt last last); history = with_log last begun.history } else record begun { stage = ReadsAgain }))
    by true true = tt
    by true false = tt
    by false none = tt

looked-planned : (reader : Follower) (latest : VersionedManifest) (id last : ℕ) (batches : List Batch) (begun : Begun) → begun.latest ≡ Some latest → GoesPlanned (looked_at reader latest id last batches begun)
looked-planned reader latest id last batches begun read =
    let newest = greatest_number batches in
    let waits = nat_lt (reached_number begun) newest || id == begun.mark + 1 in
    let back : Turn = Goes (record begun { stage = LooksAt (id - 1) last }) in
    if-planned (nat_lt (reached_number begun + reader.lag) newest) (Goes (record begun { stage = ReadsLog last })) (if waits then replayed latest begun else back) tt
    (if-planned waits (replayed latest begun) back (replayed-planned latest begun read) tt)

looks-planned : (reader : Follower) (latest : VersionedManifest) (id last : ℕ) (begun : Begun) (log : Option (List Batch)) (turn : Turn) → begun.latest ≡ Some latest → LooksTo reader latest id last begun log turn → GoesPlanned turn
looks-planned reader latest id last begun None turn read turn_is = subst GoesPlanned (sym turn_is) tt
looks-planned reader latest id last begun (Some batches) turn read turn_is = subst GoesPlanned (sym turn_is) (looked-planned reader latest id last batches begun read)

read-planned : (latest : VersionedManifest) (last : ℕ) (fresh : List Batch) (begun : Begun) → begun.latest ≡ Some latest → GoesPlanned (read_log latest last fresh begun)
read-planned latest last fresh begun read =
    let next = record begun { fresh = fresh; mark = begun.mark + 1 } in
    if-planned (next.mark == last) (replayed latest next) (Goes (record next { stage = ReadsLog last })) (replayed-planned latest next read) tt

again-planned : (latest : VersionedManifest) (begun : Begun) → GoesPlanned (read_again latest begun)
again-planned latest begun =
    let next = record begun { latest = Some latest } in
    if-planned (nat_lt begun.mark latest.manifest.replay_after_wal_id) (Breaks (record begun { stage = Ended })) (replayed latest next) tt (replayed-planned latest next refl)

-- each call leads to what is planned
pub meets-planned : (stage : Stage) (reader : Follower) (begun : Begun) (o o' : Objects) (turn : Turn) → MeetsAt stage reader begun o turn o' → GoesPlanned turn
meets-planned ReadsLatest reader begun o o' turn (latest, is, turn_is, same) = subst GoesPlanned (sym turn_is) (decided-planned reader latest begun.lease (noted latest begun) refl)
meets-planned (Puts next given replaces) reader begun o o' turn (inl (free, turn_is, put)) = subst GoesPlanned (sym turn_is) (committed-planned reader next given replaces begun)
meets-planned (Puts next given replaces) reader begun o o' turn (inr (there, turn_is, same)) = subst GoesPlanned (sym turn_is) (overtaken-planned reader begun)
meets-planned AsksLast reader begun o o' turn (turn_is, same) = subst GoesPlanned (sym turn_is) (asked-last-planned reader (last_log begun.mark o) begun)
meets-planned (LooksAt id last) reader begun o o' turn (latest, read, looks, same) = looks-planned reader latest id last begun (log_at id o) turn read looks
meets-planned (ReadsLog last) reader begun o o' turn (latest, fresh, replays.Whole, read, n, turn_is, same) = subst GoesPlanned (sym turn_is) (read-planned latest last fresh begun read)
meets-planned (ReadsLog last) reader begun o o' turn (latest, fresh, (replays.Truncated id), read, n, turn_is, same) = subst GoesPlanned (sym turn_is) tt
meets-planned ReadsAgain reader begun o o' turn (latest, is, turn_is, same) = subst GoesPlanned (sym turn_is) (again-planned latest begun)
meets-planned Ended reader begun o o' turn m = absurd m
