-- What holds of a begun poll whatever its stage holds after each of its calls.
use Rattle.std.proofs.Common.{◌≡◌, ◌+◌, ◌-◌, ◌==◌, ◌&&◌, max, not, ℕ, ℤ, Bool, true, false, if◌then◌else◌, List, Option, Some, None, Ok, Err, refl, sym, subst, inl, inr}
use Rattle.std.specs.Prelude.{◌||◌, nat_lt}
use Rattle.slate_store.specs.Checkpoints.{Plan, found, to_refresh, to_write}
use Rattle.slate_store.specs.Objects.{Objects, PutManifest, changed, is_present, last_log, latest_manifest, log_at}
use Rattle.slate_store.specs.declared.objects.Checkpoint.{Checkpoint}
use Rattle.slate_store.specs.declared.objects.VersionedManifest.{VersionedManifest}
use Rattle.slate_types.specs.declared.batches.Batch.{Batch}
use Rattle.slate_errors.specs.declared.errors.SlateError.TheVariants as errors
use Rattle.slate_model.specs.Begun.{Begun, Breaks, Ends, Ended, Fails, Goes, Puts, AsksLast, LooksAt, ReadsAgain, ReadsLatest, ReadsLog, Stage, Turn, asked_last, asked_lease, begun_at, committed, decided, emptied, first_log, greatest_number, kept_lease, leads_on, noted, put_by, reached_number, replayed, replaying, with_latest, with_log}
use Rattle.slate_model.specs.declared.polls.PollHistory.{PollHistory}
use Rattle.slate_model.specs.Follower.{Follower}
use Rattle.slate_model.specs.Lease.{differs, is_due, leased}
use Rattle.slate_model.specs.declared.leases.Lease.{Lease}
use Rattle.slate_replay.specs.declared.replays.Replayed.TheVariants as replays
use Rattle.slate_follow.specs.Stepping.{LooksTo, MeetsAt}

-- what holds of the poll that a turn leaves
abbrev pub OfTurn : (Begun → Type 0) → Turn → Type 0
OfTurn P (Goes begun) = P begun
OfTurn P (Ends begun) = P begun
OfTurn P (Breaks begun) = P begun
OfTurn P (Fails error) = Unit {0}

-- It holds whatever the stage and the history, whether the lease was asked for, what was replayed, and where a replay begins anew.
pub record IsLasting (reader : Follower) (P : Begun → Type 0) : Type 0 where
  pub staged : (begun : Begun) (stage : Stage) → P begun → P (record begun { stage = stage })
  pub asked : (begun : Begun) → P begun → P (record begun { asked = true })
  pub marked : (begun : Begun) (mark : ℕ) → P begun → P (record begun { mark = mark })
  pub fresh : (begun : Begun) (fresh : List Batch) → P begun → P (record begun { fresh = fresh })
  pub remembers : (begun : Begun) (history : PollHistory) → P begun → P (record begun { history = history })
  pub emptied_is : (begun : Begun) (mark : ℕ) → P begun → P (emptied reader mark begun)

module _ (reader : Follower) (P : Begun → Type 0) (l : IsLasting reader P) where
  if-turn : (b : Bool) (x y : Turn) → OfTurn P x → OfTurn P y → OfTurn P (if b then x else y)
  if-turn true x y first second = first
  if-turn false x y first second = second

  put-turn : (replaces : Bool) (plan : Plan Lease) (begun : Begun) → P begun → OfTurn P (put_by plan replaces begun)
  put-turn replaces (Ok (Some next, given)) begun has = l.staged begun (Puts next given replaces) has
  put-turn replaces (Ok (None, given)) begun has = l.staged begun Ended has
  put-turn replaces (Err refusal) begun has = tt

  kept-turn : (moment : ℤ) (lease : Lease) (latest : VersionedManifest) (was : Option Checkpoint) (begun : Begun) → P begun → OfTurn P (kept_lease moment lease latest was begun)
  kept-turn moment lease latest (Some checkpoint) begun has = put-turn false (leased lease.lifetime (to_refresh lease.id lease.lifetime moment latest)) begun has
  kept-turn moment lease latest None begun has = put-turn true (leased lease.lifetime (to_write (Some lease.id) (Some lease.lifetime) moment latest)) begun has

  asked-turn : (latest : VersionedManifest) (lease : Option Lease) (begun : Begun) → P begun → OfTurn P (asked_lease lease latest begun)
  asked-turn latest None begun has = l.staged begun Ended has
  asked-turn latest (Some lease) begun has =
      if-turn (not begun.asked && is_due begun.moment lease) (kept_lease begun.moment lease latest (found lease.id latest) (record begun { asked = true })) (Ends (record begun { stage = Ended }))
      (kept-turn begun.moment lease latest (found lease.id latest) (record begun { asked = true }) (l.asked begun has)) (l.staged begun Ended has)

  replaying-turn : (latest : VersionedManifest) (begun : Begun) → P begun → OfTurn P (replaying reader latest begun)
  replaying-turn latest begun has =
      let mark = latest.manifest.replay_after_wal_id in
      let empty = emptied reader mark begun in
      let on = record begun { stage = AsksLast; mark = max begun.mark mark } in
      let anew = record (emptied reader mark begun) { stage = AsksLast } in
      let has_empty = l.emptied_is begun mark has in
      if-turn reader.skips (replayed latest empty) (if leads_on reader begun then Goes on else Goes anew)
      (asked-turn latest empty.lease empty has_empty)
      (if-turn (leads_on reader begun) (Goes on) (Goes anew) (l.staged (record begun { mark = max begun.mark mark }) AsksLast (l.marked begun (max begun.mark mark) has)) (l.staged empty AsksLast has_empty))

  decided-turn : (latest : VersionedManifest) (lease : Option Lease) (begun : Begun) → P (record begun { view = Some latest; latest = Some latest }) → P (record begun { latest = Some latest }) → OfTurn P (decided reader latest lease begun)
  decided-turn latest None begun viewed read = replaying-turn latest (record begun { view = Some latest; latest = Some latest }) viewed
  decided-turn latest (Some lease) begun viewed read =
      let now = record begun { latest = Some latest } in
      let plan = leased lease.lifetime (to_write (Some lease.id) (Some lease.lifetime) begun.moment latest) in
      if-turn (differs reader.view latest) (put_by plan true now) (replaying reader latest now) (put-turn true plan now read) (replaying-turn latest now read)

  committed-turn : (next : VersionedManifest) (given : Lease) (replaces : Bool) (begun : Begun) → P (record begun { view = Some next; latest = Some next; lease = Some given }) → P (record begun { latest = Some next; lease = Some given }) → OfTurn P (committed reader next given replaces begun)
  committed-turn next given true begun viewed read = replaying-turn next (record begun { view = Some next; latest = Some next; lease = Some given }) viewed
  committed-turn next given false begun viewed read = l.staged (record begun { latest = Some next; lease = Some given }) Ended read

  asked-last-turn : (last : ℕ) (begun : Begun) → P begun → P (asked_last reader last begun)
  asked-last-turn last begun has = by (nat_lt begun.mark last)
    where
      by : (more : Bool) → P (if more then record begun { stage = first_log reader last; history = with_log last begun.history } else record begun { stage = ReadsAgain })
      by true = l.staged (record begun { history = with_log last begun.history }) (first_log reader last) (l.remembers begun (with_log last begun.history) has)
      by false = l.staged begun ReadsAgain has

  looks-turn : (latest : VersionedManifest) (id last : ℕ) (begun : Begun) (log : Option (List Batch)) (turn : Turn) → P begun → LooksTo reader latest id last begun log turn → OfTurn P turn
  looks-turn latest id last begun None turn has turn_is = subst (OfTurn P) (sym turn_is) (l.staged begun Ended has)
  looks-turn latest id last begun (Some batches) turn has turn_is =
      let newest = greatest_number batches in
      let waits = nat_lt (reached_number begun) newest || id == begun.mark + 1 in
      let back : Turn = Goes (record begun { stage = LooksAt (id - 1) last }) in
      subst (OfTurn P) (sym turn_is)
      (if-turn (nat_lt (reached_number begun + reader.lag) newest) (Goes (record begun { stage = ReadsLog last })) (if waits then replayed latest begun else back) (l.staged begun (ReadsLog last) has)
      (if-turn waits (replayed latest begun) back (asked-turn latest begun.lease begun has) (l.staged begun (LooksAt (id - 1) last) has)))

  -- so it holds after a call, where it does by a manifest that is read, or put, and where the poll begins anew
  pub meets-turn : (stage : Stage) (begun : Begun) (o o' : Objects) (turn : Turn) → P begun → P (begun_at begun.moment (begun.overtaken + 1) begun.history reader) →
      ((latest : VersionedManifest) → latest_manifest o ≡ Some latest → P (record begun { view = Some latest; latest = Some latest }) × P (record begun { latest = Some latest })) →
      ((next : VersionedManifest) (given : Lease) (replaces : Bool) → stage ≡ Puts next given replaces → is_present (PutManifest next.id next.manifest) o ≡ false → o' ≡ changed (PutManifest next.id next.manifest) o →
      P (record begun { view = Some next; latest = Some next; lease = Some given }) × P (record begun { latest = Some next; lease = Some given })) →
      MeetsAt stage reader begun o turn o' → OfTurn P turn
  meets-turn ReadsLatest begun o o' turn has anew reads puts (latest, is, turn_is, same) =
      let history = with_latest latest begun.history in
      let p = reads latest is in
      subst (OfTurn P) (sym turn_is)
      (decided-turn latest begun.lease (noted latest begun) (l.remembers (record begun { view = Some latest; latest = Some latest }) history p.0) (l.remembers (record begun { latest = Some latest }) history p.1))
  meets-turn (Puts next given replaces) begun o o' turn has anew reads puts (inl (free, turn_is, put)) =
      let p = puts next given replaces refl free put in
      subst (OfTurn P) (sym turn_is) (committed-turn next given replaces begun p.0 p.1)
  meets-turn (Puts next given replaces) begun o o' turn has anew reads puts (inr (there, turn_is, same)) =
      subst (OfTurn P) (sym turn_is) (if-turn (begun.overtaken == 7) (Fails (errors.TransactionalObjectTimeout 8)) (Goes (begun_at begun.moment (begun.overtaken + 1) begun.history reader)) tt anew)
  meets-turn AsksLast begun o o' turn has anew reads puts (turn_is, same) = subst (OfTurn P) (sym turn_is) (asked-last-turn (last_log begun.mark o) begun has)
  meets-turn (LooksAt id last) begun o o' turn has anew reads puts (latest, read, looks, same) = looks-turn latest id last begun (log_at id o) turn has looks
  meets-turn (ReadsLog last) begun o o' turn has anew reads puts (latest, fresh, replays.Whole, read, n, turn_is, same) =
      let next = record begun { fresh = fresh; mark = begun.mark + 1 } in
      let now = l.marked (record begun { fresh = fresh }) (begun.mark + 1) (l.fresh begun fresh has) in
      subst (OfTurn P) (sym turn_is) (if-turn (next.mark == last) (replayed latest next) (Goes (record next { stage = ReadsLog last })) (asked-turn latest next.lease next now) (l.staged next (ReadsLog last) now))
  meets-turn (ReadsLog last) begun o o' turn has anew reads puts (latest, fresh, (replays.Truncated id), read, n, turn_is, same) =
      subst (OfTurn P) (sym turn_is) (l.staged (record begun { fresh = fresh }) Ended (l.fresh begun fresh has))
  meets-turn ReadsAgain begun o o' turn has anew reads puts (latest, is, turn_is, same) =
      let next = record begun { latest = Some latest } in
      subst (OfTurn P) (sym turn_is)
      (if-turn (nat_lt begun.mark latest.manifest.replay_after_wal_id) (Breaks (record begun { stage = Ended })) (replayed latest next) (l.staged begun Ended has) (asked-turn latest next.lease next (reads latest is).1))
  meets-turn Ended begun o o' turn has anew reads puts m = absurd m
