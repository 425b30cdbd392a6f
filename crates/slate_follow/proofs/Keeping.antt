-- A try of a poll of a reader that keeps a checkpoint keeps its lease by its plan.
use Rattle.std.proofs.Common.{◌≡◌, ℕ, List, [], ◌∷◌, length, Option, Some, None, is_none, Bool, true, false, cond, Result, Ok, refl, sym, ap, subst, ◌∙◌}
use Rattle.std.specs.Bool.{MatchBool}
use Rattle.std.specs.Prelude.{ℤ, ◌&&◌, ◌||◌}
use Rattle.std.specs.Result.{IfErr}
use Rattle.slate_types.specs.declared.batches.Batch.{Batch}
use Rattle.slate_store.specs.Checkpoints.{Plan, found, to_refresh, to_write}
use Rattle.slate_store.specs.Objects.{Objects, PutManifest, changed, latest_manifest}
use Rattle.slate_store.specs.Refusals.{planned}
use Rattle.slate_store.specs.declared.objects.VersionedManifest.{VersionedManifest}
use Rattle.slate_store.specs.declared.reader_modes.DbReaderMode.TheVariants.{ManagedCheckpoint}
use Rattle.slate_replay.specs.declared.replays.Replayed.{Replayed}
use Rattle.slate_errors.specs.declared.errors.SlateError.{SlateError}
use Rattle.slate_model.specs.Changes.{after_part}
use Rattle.slate_model.specs.Follow.{HasAllLogs, SeesPolled}
use Rattle.slate_model.specs.Follower.{Follower, number, unsegmented}
use Rattle.slate_model.specs.Lease.{differs, is_due, leased, replaces, to_keep, to_renew}
use Rattle.slate_model.specs.Managed.{Keeps, KeepsOrNot, PutsPlanned, SeesLatest, follower_under}
use Rattle.slate_model.specs.Stores.{Stands, by_objects, kept_seen}
use Rattle.slate_model.specs.declared.answers.PollAnswer.{PollAnswer}
use Rattle.slate_model.specs.declared.answers.PollAnswer.TheVariants.{Truncated, Whole}
use Rattle.slate_model.specs.declared.leases.Lease.{Lease}
use Rattle.slate_follow.specs.Keeping.{IsNews, MayLack, PutsBy, TakesLatest, informed}
use Rattle.slate_follow.specs.Rebuilding.{TakesUnder, answer_of}
use Rattle.slate_follow.proofs.Informed.{informed-sees, taken-latest}
use Rattle.slate_follow.proofs.Leased.{renewed, written}
use Rattle.slate_follow.proofs.Planned.{lease-kept, puts-planned}

-- ---- the plan of a poll, by what it finds
module _ (view latest : VersionedManifest) (lease : Lease) (moment : ℤ) where
  abbrev pub replacement : Plan Lease
  replacement = leased lease.lifetime (to_write (Some lease.id) (Some lease.lifetime) moment latest)

  abbrev pub renewal : Plan Lease
  renewal = leased lease.lifetime (to_refresh lease.id lease.lifetime moment latest)

  pub replaces-by : (d e n : Bool) → differs view latest ≡ d → is_due moment lease ≡ e → is_none (found lease.id latest) ≡ n → replaces view lease moment latest ≡ cond d true (cond e n false)
  replaces-by d e n differs_is due_is none_is = rw (differs_is, due_is, none_is) (by d e) where
    by : (d e : Bool) → (d || (e && n)) ≡ cond d true (cond e n false)
    by true e = refl
    by false true = refl
    by false false = refl

  pub to-replace : replaces view lease moment latest ≡ true → to_keep view lease moment latest ≡ replacement
  to-replace is = ap (λ b. cond b replacement (to_renew lease moment latest)) is

  to-other : replaces view lease moment latest ≡ false → to_keep view lease moment latest ≡ to_renew lease moment latest
  to-other is = ap (λ b. cond b replacement (to_renew lease moment latest)) is

  pub to-renewal : replaces view lease moment latest ≡ false → is_due moment lease ≡ true → to_keep view lease moment latest ≡ renewal
  to-renewal is due = to-other is ∙ ap (λ b. cond b renewal (Ok (None, lease))) due

  pub to-stay : replaces view lease moment latest ≡ false → is_due moment lease ≡ false → to_keep view lease moment latest ≡ Ok (None, lease)
  to-stay is due = to-other is ∙ ap (λ b. cond b renewal (Ok (None, lease))) due

-- what a try puts, where this is its plan after the latest manifest
abbrev pub PutsAndKeeps : Lease → ℤ → Follower → Result PollAnswer SlateError → Follower → Objects → Objects → Type 0
PutsAndKeeps lease moment old result new o o' = (made : ℕ) × PutsPlanned Stands MayLack (to_keep old.view lease moment) o result made o'
    × IfErr result (λ _. KeepsOrNot (to_keep old.view lease moment) made old o new)

module _ (o : Objects) (latest : VersionedManifest) (is : latest_manifest o ≡ Some latest) (lease : Lease) (moment : ℤ) (old : Follower) where
  abbrev plan : VersionedManifest → Plan Lease
  plan = to_keep old.view lease moment

  pub puts-by : (p : Plan Lease) → plan latest ≡ p → (result : Result PollAnswer SlateError) (new : Follower) (o' : Objects) → PutsBy MayLack p old.lease o result new.lease o' → PutsAndKeeps lease moment old result new o o'
  puts-by p p_is result new o' puts =
      let q : PutsBy MayLack (plan latest) old.lease o result new.lease o' = subst (λ y. PutsBy MayLack y old.lease o result new.lease o') (sym p_is) puts in
      (q.made, puts-planned MayLack plan o latest is result old.lease new.lease o' q, lease-kept MayLack plan o latest is result old new o' q)

-- ---- at Ok
-- where a plan that puts a manifest is followed, it was put
put-all : (refused : Objects → SlateError → Type 0) (p : Plan Lease) (old lease : Option Lease) (o o' : Objects) (answer : PollAnswer) (next : VersionedManifest) (given : Lease) → p ≡ Ok (Some next, given) → PutsBy refused p old o (Ok answer) lease o' → o' ≡ changed (PutManifest next.id next.manifest) o
put-all refused p old lease o o' answer next given gives puts =
    let changes : planned {L = List Batch} p ≡ PutManifest next.id next.manifest ∷ [] = ap planned gives in
    let made : puts.made ≡ 1 = puts.part ∙ ap length changes in
    puts.after ∙ (ap (λ n. after_part n (planned p) o) made ∙ ap (λ cs. after_part 1 cs o) changes)

-- and its lease is the one that is given
given-lease : (refused : Objects → SlateError → Type 0) (p : Plan Lease) (old lease : Option Lease) (o o' : Objects) (answer : PollAnswer) (next : Option VersionedManifest) (given : Lease) → p ≡ Ok (next, given) → PutsBy refused p old o (Ok answer) lease o' → lease ≡ Some given
given-lease refused p old lease o o' answer next given gives puts =
    let l = puts.leased in
    let both : (l.0, l.1) ≡ (next, given) = (let a = l.2 in cc) in
    l.3 ∙ ap (λ (x : Option VersionedManifest × Lease). Some x.1) both

module _ (refused : Objects → SlateError → Type 0) (t : Option Objects) (o o' : Objects) (at : t ≡ Some o) (latest : VersionedManifest) (is : latest_manifest o ≡ Some latest) (lease : Lease) (moment : ℤ) (old new : Follower) (answer : PollAnswer) where
  -- the checkpoint was replaced
  pub replaced-keeps : old.mode ≡ ManagedCheckpoint → replaces old.view lease moment latest ≡ true → PutsBy refused (replacement old.view latest lease moment) old.lease o (Ok answer) new.lease o' → TakesLatest (replacement old.view latest lease moment) old o' new answer →
      Keeps (by_objects t) lease moment old o new answer o'
  replaced-keeps managed replaced puts b =
      let p = replacement old.view latest lease moment in
      let after = put-all refused p old.lease new.lease o o' answer new.view b.given b.puts puts in
      let kept = written o latest is lease.lifetime moment new.view b.given (Some lease.id) b.puts in
      let takes = subst (λ x. TakesUnder x new.view old (follower_under new.view new) answer) after b.takes in
      record {
        latest = latest;
        is_latest = is;
        next = Some new.view;
        given = b.given;
        plan = to-replace old.view latest lease moment replaced ∙ b.puts;
        leased = given-lease refused p old.lease new.lease o o' answer (Some new.view) b.given b.puts puts;
        view = subst (λ r. MatchBool r (Some new.view ≡ Some new.view) (new.view ≡ old.view)) (sym replaced) refl;
        sees = subst (λ x. SeesLatest (by_objects t) old.skips old.lag (SeesPolled (by_objects t) old) (kept_seen old o) new.view x new answer) (sym after) (taken-latest o latest new.view is kept old managed new answer takes t at);
      }

  -- so it was, and the reader has what was new before that
  logs-so : (f : Follower) (view : VersionedManifest) (given : Option Lease) (a : PollAnswer) → HasAllLogs o' f a → HasAllLogs o' (record f { view = view; lease = given }) a
  logs-so f view given (Whole at) all = all
  logs-so f view given (Truncated at) all = tt

  pub missing-keeps : old.mode ≡ ManagedCheckpoint → differs old.view latest ≡ false → old.line.floor ≡ old.view.manifest.last_l0_seq → (bare : Follower) (added : List Batch) (found : Replayed) (mark : ℕ) → IsNews o old latest old.skips added found mark → answer ≡ answer_of found (number bare) →
      unsegmented bare ≡ record (informed old old.skips added mark) { lease = bare.lease } → replaces old.view lease moment latest ≡ true → (next : VersionedManifest) (given : Lease) → replacement old.view latest lease moment ≡ Ok (Some next, given) → new ≡ record bare { view = next; lease = Some given } →
      PutsBy refused (replacement old.view latest lease moment) old.lease o (Ok answer) new.lease o' → Keeps (by_objects t) lease moment old o new answer o'
  missing-keeps managed same floor bare added found mark news answers becomes replaced next given gives new_is puts =
      let p = replacement old.view latest lease moment in
      let after = put-all refused p old.lease new.lease o o' answer next given gives puts in
      let kept = written o latest is lease.lifetime moment next given (Some lease.id) gives in
      let tables = ap (λ (v : VersionedManifest). v.manifest.last_l0_seq) kept.form.1 in
      let replayed = ap (λ (v : VersionedManifest). v.manifest.replay_after_wal_id) kept.form.1 in
      let sees = subst (λ x. SeesLatest (by_objects t) old.skips old.lag (SeesPolled (by_objects t) old) (kept_seen old o) next x bare answer) (sym after)
      (informed-sees o (changed (PutManifest next.id next.manifest) o) latest next is refl tables replayed old managed same floor added found mark bare.lease bare answer answers t at news becomes) in
      record {
        latest = latest;
        is_latest = is;
        next = Some next;
        given = given;
        plan = to-replace old.view latest lease moment replaced ∙ gives;
        leased = given-lease refused p old.lease new.lease o o' answer (Some next) given gives puts;
        view = subst (λ r. MatchBool r (Some next ≡ Some new.view) (new.view ≡ old.view)) (sym replaced) (ap Some (sym (ap (λ (f : Follower). f.view) new_is)));
        sees = subst (λ f. SeesLatest (by_objects t) old.skips old.lag (SeesPolled (by_objects t) old) (kept_seen old o) next o' f answer) (sym new_is)
            (record { logs = λ reads none. logs-so bare next (Some given) answer (sees.logs reads none); sees = sees.sees });
      }

  -- it goes on by its view
  module _ (managed : old.mode ≡ ManagedCheckpoint) (same : differs old.view latest ≡ false) (floor : old.line.floor ≡ old.view.manifest.last_l0_seq) (added : List Batch) (found : Replayed) (mark : ℕ) (answers : answer ≡ answer_of found (number new))
      (news : IsNews o old latest old.skips added found mark) (becomes : unsegmented new ≡ record (informed old old.skips added mark) { lease = new.lease }) (unreplaced : replaces old.view lease moment latest ≡ false) where
    view_is : (skips : Bool) → unsegmented new ≡ record (informed old skips added mark) { lease = new.lease } → new.view ≡ old.view
    view_is true b = ap (λ (f : Follower). f.view) b
    view_is false b = ap (λ (f : Follower). f.view) b

    -- before the lease is due
    pub stays-keeps : is_due moment lease ≡ false → o' ≡ o → new.lease ≡ Some lease → Keeps (by_objects t) lease moment old o new answer o'
    stays-keeps early after lease_is = record {
      latest = latest;
      is_latest = is;
      next = None;
      given = lease;
      plan = to-stay old.view latest lease moment unreplaced early;
      leased = lease_is;
      view = subst (λ r. MatchBool r (None ≡ Some new.view) (new.view ≡ old.view)) (sym unreplaced) (view_is old.skips becomes);
      sees = subst (λ x. SeesLatest (by_objects t) old.skips old.lag (SeesPolled (by_objects t) old) (kept_seen old o) latest x new answer) (sym after)
          (informed-sees o o latest latest is refl refl refl old managed same floor added found mark new.lease new answer answers t at news becomes);
    }

    -- where the lease was renewed
    pub renewed-keeps : is_due moment lease ≡ true → (next : VersionedManifest) (given : Lease) → renewal old.view latest lease moment ≡ Ok (Some next, given) → PutsBy refused (renewal old.view latest lease moment) old.lease o (Ok answer) new.lease o' → Keeps (by_objects t) lease moment old o new answer o'
    renewed-keeps due next given gives puts =
        let p = renewal old.view latest lease moment in
        let after = put-all refused p old.lease new.lease o o' answer next given gives puts in
        let kept = renewed o latest is lease.lifetime moment next given lease.id gives in
        let tables = ap (λ (v : VersionedManifest). v.manifest.last_l0_seq) kept.form.1 in
        let replayed = ap (λ (v : VersionedManifest). v.manifest.replay_after_wal_id) kept.form.1 in
        record {
          latest = latest;
          is_latest = is;
          next = Some next;
          given = given;
          plan = to-renewal old.view latest lease moment unreplaced due ∙ gives;
          leased = given-lease refused p old.lease new.lease o o' answer (Some next) given gives puts;
          view = subst (λ r. MatchBool r (Some next ≡ Some new.view) (new.view ≡ old.view)) (sym unreplaced) (view_is old.skips becomes);
          sees = subst (λ x. SeesLatest (by_objects t) old.skips old.lag (SeesPolled (by_objects t) old) (kept_seen old o) next x new answer) (sym after)
              (informed-sees o (changed (PutManifest next.id next.manifest) o) latest next is refl tables replayed old managed same floor added found mark new.lease new answer answers t at news becomes);
        }
