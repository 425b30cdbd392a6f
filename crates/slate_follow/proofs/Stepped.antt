-- What the methods of a poll by single calls leave, by cases on what decides them.
use Rattle.std.proofs.Common.{◌≡◌, ◌∙◌, ◌&&◌, ◌||◌, ℕ, max, nat_lt, arith, rules, not, true, false, Bool, Option, None, Some, Ok, Err, is_some, Result, if◌then◌else◌, refl, ap, sym, subst}
use Rattle.slate_store.specs.Checkpoints.{found, to_write}
use Rattle.slate_store.specs.declared.objects.VersionedManifest.{VersionedManifest}
use Rattle.slate_store.specs.declared.reader_modes.DbReaderMode.{DbReaderMode}
use Rattle.slate_errors.specs.declared.errors.SlateError.{SlateError}
use Rattle.slate_errors.specs.declared.errors.SlateError.TheVariants as errors
use Rattle.slate_model.specs.Begun.{AsksLast, Begun, Breaks, Ended, Ends, Goes, Puts, Turn, asked_lease, committed, decided, emptied, kept_lease, leads_on, put_by, read_again, replayed, replaying}
use Rattle.slate_model.specs.Follower.{Follower, is_managed}
use Rattle.slate_model.specs.Lease.{differs, is_due, leased}
use Rattle.slate_model.specs.declared.leases.Lease.{Lease}
use Rattle.slate_follow.specs.Stepping.{FitsNext, FitsReader, GivesPut, GivesTurn, IsOfCommit, IsOfDecision, TurnsTo}
use Rattle.slate_follow.specs.declared.machines.Commit.{Commit}
use Rattle.slate_follow.specs.declared.machines.Turn.{Turn as Answered}
use Rattle.slate_follow.specs.declared.machines.Turn.TheVariants as turns

-- a lease that is asked for and due is kept
pub asked-due : (latest : VersionedManifest) (begun : Begun) (held : Option Lease) (lease : Lease) → held ≡ Some lease → begun.asked ≡ false → is_due begun.moment lease ≡ true →
    asked_lease held latest begun ≡ kept_lease begun.moment lease latest (found lease.id latest) (record begun { asked = true })
asked-due latest begun held lease is unasked due = rw is (rw unasked (rw due refl))

pub asked-undue : (latest : VersionedManifest) (begun : Begun) (held : Option Lease) (lease : Lease) → held ≡ Some lease → (begun.asked || not (is_due begun.moment lease)) ≡ true →
    asked_lease held latest begun ≡ Ends (record begun { stage = Ended })
asked-undue latest begun held lease is done = rw is (cases begun.asked (is_due begun.moment lease) done)
  where
    cases : (asked due : Bool) → (asked || not due) ≡ true →
        (if not asked && due then kept_lease begun.moment lease latest (found lease.id latest) (record begun { asked = true }) else Ends (record begun { stage = Ended }))
        ≡ Ends (record begun { stage = Ended })
    cases true due e = refl
    cases false false e = refl
    cases false true e = absurd (search rules)

-- a reader without a lease goes by the latest manifest
pub decided-unleased : (reader : Follower) (latest : VersionedManifest) (held : Option Lease) (begun : Begun) (result : Result Answered SlateError) (after : Begun) → held ≡ None →
    TurnsTo reader (replaying reader latest (record begun { view = Some latest; latest = Some latest })) result after → TurnsTo reader (decided reader latest held begun) result after
decided-unleased reader latest held begun result after is t = rw is t

-- one with a lease goes on by its view while the latest manifest is the same
pub decided-same : (reader : Follower) (latest : VersionedManifest) (held : Option Lease) (lease : Lease) (begun : Begun) (result : Result Answered SlateError) (after : Begun) → held ≡ Some lease →
    differs reader.view latest ≡ false → TurnsTo reader (replaying reader latest (record begun { latest = Some latest })) result after → TurnsTo reader (decided reader latest held begun) result after
decided-same reader latest held lease begun result after is same t = rw is (rw same t)

-- and else puts another checkpoint
pub decided-other : (reader : Follower) (latest : VersionedManifest) (held : Option Lease) (lease : Lease) (begun : Begun) → held ≡ Some lease → differs reader.view latest ≡ true →
    decided reader latest held begun ≡ put_by (leased lease.lifetime (to_write (Some lease.id) (Some lease.lifetime) begun.moment latest)) true (record begun { latest = Some latest })
decided-other reader latest held lease begun is other = rw is (rw other refl)

-- ---- errors
-- those of making a manifest are those of a reader that keeps a checkpoint
pub commit-kind : (mode : DbReaderMode) (e : SlateError) → is_managed mode ≡ true → IsOfCommit e → IsOfDecision mode e
commit-kind mode errors.InvalidDBState managed of = managed
commit-kind mode errors.NoMemory managed of = tt
commit-kind mode e managed of = absurd of

pub commit-failed : (turn : Turn) (begun after : Begun) (e : SlateError) → IsOfCommit e → GivesPut turn begun (Err e) → GivesTurn turn (Err e) after
commit-failed turn begun after errors.InvalidDBState of gives = gives
commit-failed turn begun after errors.NoMemory of gives = tt
commit-failed turn begun after e of gives = absurd of

-- a reader with a lease keeps a checkpoint
pub lease-managed : (reader : Follower) (begun : Begun) (lease : Lease) → is_some begun.lease ≡ is_managed reader.mode → begun.lease ≡ Some lease → is_managed reader.mode ≡ true
lease-managed reader begun lease leased is = sym leased ∙ ap is_some is

-- making a manifest failed: a turn that makes one fails so
pub turn-failed : (reader : Follower) (turn : Turn) (begun after : Begun) (e : SlateError) → is_managed reader.mode ≡ true → IsOfCommit e → GivesPut turn begun (Err e) → after.stage ≡ Ended →
    TurnsTo reader turn (Err e) after
turn-failed reader turn begun after e managed of gives ended = record {
  gives = commit-failed turn begun after e of gives;
  fits = tt;
  kind = commit-kind reader.mode e managed of;
  staged = ended;
}

-- ---- replaying
pub emptied-fits : (reader : Follower) (mark : ℕ) (begun : Begun) → FitsNext reader begun → FitsReader reader (emptied reader mark begun)
emptied-fits reader mark begun fits = record {
  leased = fits.leased;
  after = λ keeps. absurd (false_true keeps);
  low = omega arith;
  high = omega arith;
}
  where
    false_true : false ≡ true → ⊥
    false_true e = search rules

pub replaying-skips : (reader : Follower) (latest : VersionedManifest) (begun : Begun) (result : Result Answered SlateError) (after : Begun) → reader.skips ≡ true →
    TurnsTo reader (replayed latest (emptied reader latest.manifest.replay_after_wal_id begun)) result after → TurnsTo reader (replaying reader latest begun) result after
replaying-skips reader latest begun result after skips t =
    let mark = latest.manifest.replay_after_wal_id in
    let other = if leads_on reader begun then Goes (record begun { stage = AsksLast; mark = max begun.mark mark }) else Goes (record (emptied reader mark begun) { stage = AsksLast }) in
    subst (λ (s : Bool). TurnsTo reader (if s then replayed latest (emptied reader mark begun) else other) result after) (sym skips) t

-- a manifest was made that is put next
pub turn-made : (reader : Follower) (turn : Turn) (begun after : Begun) (commit : Commit) (answered : Answered) → GivesPut turn begun (Ok commit) → answered ≡ turns.Goes →
    after ≡ record begun { stage = Puts commit.next commit.lease commit.replaces } → FitsReader reader begun → TurnsTo reader turn (Ok answered) after
turn-made reader turn begun after commit answered gives goes is fits =
    let next = record begun { stage = Puts commit.next commit.lease commit.replaces } in
    let fits' : FitsReader reader next = record { leased = fits.leased; after = fits.after; low = fits.low; high = fits.high } in
    let all : TurnsTo reader turn (Ok turns.Goes) next = record { gives = gives; fits = fits'; kind = tt; staged = tt } in
    rw goes (subst (λ (b : Begun). TurnsTo reader turn (Ok turns.Goes) b) (sym is) all)

-- the latest manifest was read again, and its replay mark isn't above the mark
pub again-on : (reader : Follower) (latest : VersionedManifest) (begun : Begun) (result : Result Answered SlateError) (after : Begun) → nat_lt begun.mark latest.manifest.replay_after_wal_id ≡ false →
    TurnsTo reader (replayed latest (record begun { latest = Some latest })) result after → TurnsTo reader (read_again latest begun) result after
again-on reader latest begun result after still t =
    subst (λ (gone : Bool). TurnsTo reader (if gone then Breaks (record begun { stage = Ended }) else replayed latest (record begun { latest = Some latest })) result after) (sym still) t

-- one that replaces a checkpoint was put
pub committed-goes : (reader : Follower) (next : VersionedManifest) (given : Lease) (replaces : Bool) (begun : Begun) (result : Result Answered SlateError) (after : Begun) → replaces ≡ true →
    TurnsTo reader (replaying reader next (record begun { view = Some next; latest = Some next; lease = Some given })) result after → TurnsTo reader (committed reader next given replaces begun) result after
committed-goes reader next given replaces begun result after is t = rw is t
