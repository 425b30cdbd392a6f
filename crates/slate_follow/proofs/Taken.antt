-- An opening of a reader that keeps a checkpoint, from what it put and built; and a poll of one.
use Rattle.std.proofs.Common.{◌≡◌, ℕ, ◌≤◌, zero, inl, inr, List, [], ◌∷◌, length, Option, Some, None, Bool, true, false, cond, Result, Ok, Err, refl, sym, ap, subst, ◌∙◌, arith}
use Rattle.std.specs.Option.{IfSome}
use Rattle.std.specs.Prelude.{ℤ, ◌⊎◌, ◌||◌, not}
use Rattle.std.specs.Result.{IfErr}
use Rattle.slate_types.specs.Counts.{HasRisen}
use Rattle.slate_types.specs.Line.{Line}
use Rattle.slate_types.specs.Modelled.{WhereModelled}
use Rattle.slate_types.specs.declared.batches.Batch.{Batch}
use Rattle.slate_types.specs.declared.store_errors.StoreFault.TheVariants.{NotFound, Unavailable}
use Rattle.slate_types.proofs.Modelled.{modelled_as}
use Rattle.slate_store.specs.Checkpoints.{Plan, to_write}
use Rattle.slate_store.specs.Objects.{Objects, PutManifest, changed}
use Rattle.slate_store.specs.Refusals.{PlanIs, checkpoint_changes, planned, planned_after}
use Rattle.slate_store.specs.declared.objects.VersionedManifest.{VersionedManifest}
use Rattle.slate_store.specs.declared.reader_modes.DbReaderMode.TheVariants.{ManagedCheckpoint}
use Rattle.slate_store.specs.declared.refusals.StoreRefusal.TheVariants as refusals
use Rattle.slate_replay.specs.Replay.{Replays}
use Rattle.slate_replay.specs.declared.replays.Replayed.{Replayed}
use Rattle.slate_errors.specs.declared.errors.SlateError.{SlateError}
use Rattle.slate_errors.specs.declared.errors.SlateError.TheVariants as errors
use Rattle.slate_model.specs.Changes.{after_part}
use Rattle.slate_model.specs.Follow.{ReplayRefuses, SeesOwed}
use Rattle.slate_model.specs.Followed.{RefusesLatest, can_follow, last_read}
use Rattle.slate_model.specs.Follower.{Follower, HasSegments}
use Rattle.slate_model.specs.Known.{CountsFaults, IsContent}
use Rattle.slate_model.specs.Lease.{leased, to_keep, to_take}
use Rattle.slate_model.specs.Managed.{IsOpenAt, KeepRefusal, Keeps, KeepsLease, KeepsOrNot, PlanCause, PutsPlanned, SeesLatest, TakeRefusal, TakesView, TakesLease, follower_under, poll_result, unseen_line}
use Rattle.slate_model.specs.Segments.{Extractor, ops_of, unsegmented_refusal}
use Rattle.slate_model.specs.Stores.{Stands, by_objects}
use Rattle.slate_model.specs.declared.answers.PollAnswer.{PollAnswer}
use Rattle.slate_model.specs.declared.leases.Lease.{Lease}
use Rattle.slate_follow.specs.Keeping.{FailsRound, KeepLacks, MayLack, MayMismatch}
use Rattle.slate_follow.specs.Rebuilding.{BuildLacks, Builds, IsOfRebuilding}
use Rattle.slate_follow.proofs.Keeping.{PutsAndKeeps}
use Rattle.slate_follow.proofs.Lacking.{keep-lacks, keep-some, put-refuses}
use Rattle.slate_follow.proofs.Leased.{builds-latest, built-latest, written}
use Rattle.slate_follow.proofs.Rebuilt.{if_some, some_at}
use Rattle.slate_follow.proofs.Refusing.{err-same, opening-lacks, opening-unnamed}

-- ---- what was put, by another answer
module _ (refused refused' : Objects → SlateError → Type 0) (plan : VersionedManifest → Plan Lease) {A B : Type 0} (o : Objects) (made : ℕ) (o' : Objects) where
  pub err-as : (e : SlateError) → (refused o e → PlanCause (Stands (checkpoint_changes plan o) o) plan o e ⊎ refused' o e) → PutsPlanned {B = A} Stands refused plan o (Err e) made o' → PutsPlanned {B = B} Stands refused' plan o (Err e) made o'
  err-as e turn p = record { cause = elim p.cause [ inl c ↦ inl c | inr why ↦ turn why ]; part = p.part; after = p.after }

  pub ok-as : (x : A) (y : B) → PutsPlanned Stands refused plan o (Ok x) made o' → PutsPlanned Stands refused' plan o (Ok y) made o'
  ok-as x y p = record { cause = tt; part = p.part; after = p.after }

-- what follows a put of an opening failed
broken-as : (x : Option Extractor) (plan : VersionedManifest → Plan Lease) (refused : Objects → SlateError → Type 0) (A B : Type 0) (o : Objects) (made : ℕ) (o' : Objects) (y : A) (e : SlateError) → IsOfRebuilding e → RefusesLatest x true o None →
    PutsPlanned {B = A} Stands refused plan o (Ok y) made o' → PutsPlanned {B = B} Stands (TakeRefusal x) plan o (Err e) made o'
broken-as x plan refused A B o made o' y (errors.ObjectStoreError Unavailable) of fits p = record { cause = inl tt; part = (let all = p.part in omega (arith, all)); after = p.after }
broken-as x plan refused A B o made o' y (errors.EmptySegmentPrefix key) of fits p = record { cause = inr fits; part = (let all = p.part in omega (arith, all)); after = p.after }
broken-as x plan refused A B o made o' y errors.NoMemory of fits p = record { cause = inl tt; part = (let all = p.part in omega (arith, all)); after = p.after }
broken-as x plan refused A B o made o' y e of fits p = absurd of

-- a fault that is answered otherwise
pub counts-as : {A B : Type 0} (f f' : ℕ) (e : SlateError) → CountsFaults {A = A} f f' (Err e) → CountsFaults {A = B} f f' (Err e)
counts-as f f' e c = record {
  count = c.count;
  unavailable = λ is. let same : e ≡ errors.ObjectStoreError Unavailable = cc in c.unavailable (ap Err same);
  stays = c.stays;
  none_missing = λ is. let same : e ≡ errors.ObjectStoreError NotFound = cc in c.none_missing (ap Err same);
}

-- how much was made, over a store that may be modelled
pub with-made : {P : ℕ → Objects → Objects → Type 0} {a b : Option Objects} → WhereModelled (λ o o'. (made : ℕ) × P made o o') a b → (made : ℕ) × WhereModelled (P made) a b
with-made {P = P} {a = a} {b = b} w = by a refl where
  by : (t : Option Objects) → a ≡ t → (made : ℕ) × WhereModelled (P made) a b
  by None is = (zero, record { none = w.none; some = λ o at. absurd (cc (is, at)) })
  by (Some x) is =
      let s = w.some x is in (
        s.2.0,
        record { none = λ no. absurd (cc (is, no)); some = λ o at. let same : x ≡ o = cc (is, at) in (s.0, s.1, subst (λ y. P s.2.0 y s.0) same s.2.1) },
      )

-- ---- an opening
-- the plan of an opening that puts a manifest found that the database is initialised
pub taken-from : (lifetime : ℕ) (moment : ℤ) (latest next : VersionedManifest) (given : Lease) → to_take lifetime moment latest ≡ Ok (Some next, given) → leased lifetime (to_write None (Some lifetime) moment latest) ≡ Ok (Some next, given)
taken-from lifetime moment latest next given is = by latest.manifest.initialized is where
  by : (b : Bool) → cond b (leased lifetime (to_write None (Some lifetime) moment latest)) (Err refusals.InvalidDBState) ≡ Ok (Some next, given) → leased lifetime (to_write None (Some lifetime) moment latest) ≡ Ok (Some next, given)
  by true is = is
  by false is = absurd (cc)

-- and the manifest is one to follow
taken-can : (lifetime : ℕ) (moment : ℤ) (latest next : VersionedManifest) (given : Lease) → to_take lifetime moment latest ≡ Ok (Some next, given) → can_follow true latest ≡ true
taken-can lifetime moment latest next given is = by latest.manifest.initialized is where
  by : (b : Bool) → cond b (leased lifetime (to_write None (Some lifetime) moment latest)) (Err refusals.InvalidDBState) ≡ Ok (Some next, given) → (b || not true) ≡ true
  by true is = refl
  by false is = absurd (cc)

module _ (refused : Objects → SlateError → Type 0) (lifetime : ℕ) (skips : Bool) (moment : ℤ) (o o' : Objects) (made : ℕ) (next : VersionedManifest) (given : Lease) (is : PlanIs (to_take lifetime moment) o (Ok (Some next, given)))
    (puts : PutsPlanned {B = VersionedManifest × Lease} Stands refused (to_take lifetime moment) o (Ok (next, given)) made o') where
  changes : checkpoint_changes {L = List Batch} (to_take lifetime moment) o ≡ PutManifest next.id next.manifest ∷ []
  changes = ap (planned_after (to_take lifetime moment)) is.1 ∙ ap planned is.2

  pub taken-made : made ≡ 1
  taken-made = puts.part ∙ ap length changes

  pub taken-after : o' ≡ changed (PutManifest next.id next.manifest) o
  taken-after = puts.after ∙ (ap (λ n. after_part n (checkpoint_changes (to_take lifetime moment) o) o) taken-made ∙ ap (λ cs. after_part 1 cs o) changes)

  -- of what is replayed of it a key without a segment is refused so
  pub taken-refuses : (t : Option Objects) (x : Option Extractor) (refusal : Option SlateError) (batches : List Batch) (found : Replayed) →
      Replays next.manifest.replay_after_wal_id (last_read ManagedCheckpoint skips next o') next.manifest.last_l0_seq [] batches o' (Ok found) → unsegmented_refusal x (ops_of batches) ≡ refusal →
      (stored : Line) → t ≡ Some o → IsContent t stored → ReplayRefuses (by_objects t) x ManagedCheckpoint skips true o stored refusal
  taken-refuses t x refusal batches found logs lacks stored at content_is =
      let gives = taken-from lifetime moment is.0 next given is.2 in
      let m = next.manifest in
      put-refuses o is.0 next is.1 (written o is.0 is.1 lifetime moment next given None gives) t x skips true refusal (taken-can lifetime moment is.0 next given is.2) batches found
      (subst (λ s. Replays m.replay_after_wal_id (last_read ManagedCheckpoint skips next s) m.last_l0_seq [] batches s (Ok found)) taken-after logs) lacks stored at content_is

  -- what was built of the manifest that it put
  pub takes : (t : Option Objects) → t ≡ Some o → (built new : Follower) (answer : PollAnswer) (lag reach : ℕ) → reach ≡ last_read ManagedCheckpoint skips next o' → Builds o' ManagedCheckpoint skips lag next reach built answer → built.lease ≡ None →
      new ≡ record built { lease = Some given } → TakesView (by_objects t) lifetime skips lag moment o new answer o'
  takes t at built new answer lag reach reach_is builds bare becomes =
      let plan = leased lifetime (to_write None (Some lifetime) moment is.0) in
      let gives = taken-from lifetime moment is.0 next given is.2 in
      let b = builds-latest plan o' ManagedCheckpoint skips lag next reach built new answer given refl builds bare becomes reach_is gives in
      let view : new.view ≡ next = ap (λ (f : Follower). f.view) becomes ∙ ap (λ (f : Follower). f.view) builds.becomes in
      let moved = subst (λ v. Builds o' ManagedCheckpoint skips lag v (last_read ManagedCheckpoint skips v o') (follower_under v new) answer) view b.builds in
      let in_after = subst (λ x. Builds x ManagedCheckpoint skips lag next (last_read ManagedCheckpoint skips next x) (follower_under next new) answer) taken-after moved in
      let seen = built-latest o is.0 next is.1 (written o is.0 is.1 lifetime moment next given None gives) skips lag new answer in_after t unseen_line at in
      record {
        given = given;
        plan = (is.0, is.1, is.2 ∙ ap (λ v. Ok (Some v, given)) (sym view));
        leased = ap (λ (f : Follower). f.lease) becomes;
        sees = subst (λ v. SeesLatest (by_objects t) skips 0 (SeesOwed (by_objects t) ManagedCheckpoint skips lag) unseen_line v o' new answer) (sym view) (subst (λ x. SeesLatest (by_objects t) skips 0 (SeesOwed (by_objects t) ManagedCheckpoint skips lag) unseen_line next x new answer) (sym taken-after) seen);
      }

-- ---- a poll
-- a round that failed leaves a reader as it was, but for its lease, and the error is recorded
pub failed-leaves : (old inner new : Follower) (e : SlateError) → inner ≡ record old { lease = inner.lease } → new ≡ record inner { result = poll_result e } → new ≡ record old { lease = new.lease; result = poll_result e }
failed-leaves old inner new e failed closed =
    closed ∙ (ap (λ (x : Follower). record x { result = poll_result e }) failed ∙ ap (λ l. record old { lease = l; result = poll_result e }) (sym (ap (λ (x : Follower). x.lease) closed)))

-- so, with any extractor
pub round-left : (lease : Lease) (moment : ℤ) (old : Follower) (t t' : Option Objects) → old.lease ≡ Some lease → (e : SlateError) (inner new : Follower) → WhereModelled (PutsAndKeeps lease moment old (Err e) inner) t t' →
    inner ≡ record old { lease = inner.lease } → new ≡ record inner { result = poll_result e } → FailsRound moment old t e new t'
round-left lease moment old t t' held e inner new goes failed closed =
    let plan = to_keep old.view lease moment in
    let same : new.lease ≡ inner.lease = ap (λ (x : Follower). x.lease) closed in
    record {
      lease = lease;
      held = held;
      puts = modelled_as (λ o o'. (made : ℕ) × PutsPlanned {B = PollAnswer} Stands MayLack plan o (Err e) made o' × KeepsOrNot plan made old o new) goes
          (λ o o' h. (h.0, h.1, subst (λ l. KeepsOrNot plan h.0 old o (record old { lease = l })) (sym same) h.2));
      becomes = failed-leaves old inner new e failed closed;
    }

module _ (x : Option Extractor) (lease : Lease) (moment : ℤ) (old : Follower) (t t' : Option Objects) (f f' : ℕ) where
  abbrev keeps_plan : VersionedManifest → Plan Lease
  keeps_plan = to_keep old.view lease moment

  pub keeps-ok : (answer : PollAnswer) (new : Follower) → CountsFaults {A = PollAnswer} f f' (Ok answer) → WhereModelled (PutsAndKeeps lease moment old (Ok answer) new) t t' → IsOpenAt old.skips old.lag new answer →
      WhereModelled (λ o o'. Keeps (by_objects t) lease moment old o new answer o') t t' → (HasSegments x old → HasSegments x new) →
      (made : ℕ) × KeepsLease (by_objects t) x made lease moment old (record { objects = t; faults = f }) (Ok answer) new (record { objects = t'; faults = f' })
  keeps-ok answer new faults goes answers keeps segments =
      let P : ℕ → Objects → Objects → Type 0 = λ made o o'. PutsPlanned {B = PollAnswer} Stands MayLack keeps_plan o (Ok answer) made o' × IfErr {T = PollAnswer} {E = SlateError} (Ok answer) (λ _. KeepsOrNot keeps_plan made old o new) in
      let m = with-made {P = P} {a = t} {b = t'} (modelled_as (λ o o'. (made : ℕ) × P made o o') goes (λ o o' h. (h.0, (h.1, h.2)))) in (
        m.0,
        record {
          faults = faults;
          puts = modelled_as (λ o o'. PutsPlanned Stands (KeepRefusal x) keeps_plan o (Ok answer) m.0 o') m.1 (λ o o' h. ok-as MayLack (KeepRefusal x) keeps_plan o m.0 o' answer answer h.0);
          answers = answers;
          keeps = keeps;
          failed = tt;
          lapses = tt;
          segments = segments;
          segmented = λ o line at stored seen is. absurd (cc);
        },
      )

  -- what may lack a segment does where there is an extractor
  lacking : (o : Objects) (e : SlateError) → (e ≡ errors.InvalidDBState → KeepLacks x lease moment old o) → MayLack o e → PlanCause (Stands (checkpoint_changes keeps_plan o) o) keeps_plan o e ⊎ KeepRefusal x o e
  lacking o errors.InvalidDBState lacks may = keep-some x lease moment old o (lacks refl)
  lacking o e lacks may = absurd may

  pub keeps-err : (e : SlateError) (inner new : Follower) → CountsFaults {A = PollAnswer} f f' (Err e) → WhereModelled (PutsAndKeeps lease moment old (Err e) inner) t t' → inner ≡ record old { lease = inner.lease } →
      new ≡ record inner { result = poll_result e } → (e ≡ errors.InvalidDBState → IfSome t (λ o. KeepLacks x lease moment old o)) →
      (made : ℕ) × KeepsLease (by_objects t) x made lease moment old (record { objects = t; faults = f }) (Err e) new (record { objects = t'; faults = f' })
  keeps-err e inner new faults goes failed closed lacks =
      let P : ℕ → Objects → Objects → Type 0 = λ made o o'. PutsPlanned {B = PollAnswer} Stands MayLack keeps_plan o (Err e) made o' × IfErr {T = PollAnswer} (Err e) (λ _. KeepsOrNot keeps_plan made old o inner) in
      let m = with-made {P = P} {a = t} {b = t'} (modelled_as (λ o o'. (made : ℕ) × P made o o') goes (λ o o' h. (h.0, (h.1, h.2)))) in
      let same : new.lease ≡ inner.lease = ap (λ (x : Follower). x.lease) closed in
      let becomes = failed-leaves old inner new e failed closed in (
        m.0,
        record {
          faults = faults;
          puts = record {
            none = m.1.none;
            some = λ o at.
                let h = m.1.some o at in
                (h.0, h.1, err-as MayLack (KeepRefusal x) keeps_plan o m.0 h.0 e (lacking o e (λ is. some_at (λ o. KeepLacks x lease moment old o) t o at (lacks is))) h.2.0);
          };
          answers = tt;
          keeps = tt;
          failed = becomes;
          lapses = if_some t (λ o at. subst (λ l. KeepsOrNot keeps_plan m.0 old o (record old { lease = l })) (sym same) ((m.1.some o at).2.1));
          segments = λ has. subst (HasSegments x) (sym becomes) has;
          segmented = λ o line at stored seen is. keep-lacks t x lease moment old o line at stored seen (some_at (λ o. KeepLacks x lease moment old o) t o at (lacks (err-same PollAnswer e errors.InvalidDBState is)));
        },
      )

-- ---- an opening, by its steps
module _ (x : Option Extractor) (lifetime : ℕ) (skips : Bool) (lag : ℕ) (moment : ℤ) (t t' : Option Objects) (f f' : ℕ) where
  abbrev takes_plan : VersionedManifest → Plan Lease
  takes_plan = to_take lifetime moment

  abbrev TakesSo : Result (Follower × PollAnswer) SlateError → Type 0
  TakesSo result = (made : ℕ) × TakesLease (by_objects t) x made lifetime skips lag moment (record { objects = t; faults = f }) result (record { objects = t'; faults = f' })

  -- no checkpoint was committed
  pub take-failed : (e : SlateError) → WhereModelled (λ o o'. (made : ℕ) × PutsPlanned {B = VersionedManifest × Lease} Stands MayMismatch takes_plan o (Err e) made o') t t' → IfSome t (λ o. MayMismatch o e → TakeRefusal x o e) →
      ((key : List ℕ) → e ≡ errors.EmptySegmentPrefix key → ⊥) → CountsFaults {A = VersionedManifest × Lease} f f' (Err e) → TakesSo (Err e)
  take-failed e puts refuses whole faults =
      let m = with-made {P = λ made o o'. PutsPlanned {B = VersionedManifest × Lease} Stands MayMismatch takes_plan o (Err e) made o'} {a = t} {b = t'} puts in (
        m.0,
        record {
          faults = counts-as f f' e faults;
          puts = record {
            none = m.1.none;
            some = λ o at.
                let h = m.1.some o at in
                (h.0, h.1, err-as MayMismatch (TakeRefusal x) takes_plan o m.0 h.0 e (λ may. inr (some_at (λ o. MayMismatch o e → TakeRefusal x o e) t o at refuses may)) h.2);
          };
          answers = tt;
          takes = tt;
          fits = tt;
          segmented = λ o line at stored. opening-unnamed x ManagedCheckpoint t (Follower × PollAnswer) skips e whole o line;
          segments = tt;
          whole = λ key is. absurd (whole key (err-same (Follower × PollAnswer) e (errors.EmptySegmentPrefix key) is));
        },
      )

  -- it was
  module _ (next : VersionedManifest) (given : Lease) (t1 : Option Objects) (kept : t' ≡ t1) (puts : WhereModelled (λ o o'. (made : ℕ) × PutsPlanned {B = VersionedManifest × Lease} Stands MayMismatch takes_plan o (Ok (next, given)) made o') t t1)
      (plans : IfSome t (λ o. PlanIs takes_plan o (Ok (Some next, given)))) (fits : IfSome t (λ o. RefusesLatest x true o None)) where
    plan-at : (o : Objects) → t ≡ Some o → PlanIs takes_plan o (Ok (Some next, given))
    plan-at o at = some_at (λ o. PlanIs takes_plan o (Ok (Some next, given))) t o at plans

    fits-at : (o : Objects) → t ≡ Some o → RefusesLatest x true o None
    fits-at o at = some_at (λ o. RefusesLatest x true o None) t o at fits

    -- one manifest was put
    put-at : (o : Objects) → t ≡ Some o → (o' : Objects) × (t' ≡ Some o') × PutsPlanned {B = VersionedManifest × Lease} Stands MayMismatch takes_plan o (Ok (next, given)) 1 o'
    put-at o at =
        let h = puts.some o at in
        let one = taken-made MayMismatch lifetime skips moment o h.0 h.2.0 next given (plan-at o at) h.2.1 in
        (h.0, kept ∙ h.1, subst (λ n. PutsPlanned {B = VersionedManifest × Lease} Stands MayMismatch takes_plan o (Ok (next, given)) n h.0) one h.2.1)

    refuses-at : (refusal : Option SlateError) (o : Objects) (at : t ≡ Some o) (batches : List Batch) (found : Replayed) → (let o' = (put-at o at).0 in Replays next.manifest.replay_after_wal_id (last_read ManagedCheckpoint skips next o') next.manifest.last_l0_seq [] batches o' (Ok found)) →
        unsegmented_refusal x (ops_of batches) ≡ refusal → (stored : Line) → IsContent t stored → ReplayRefuses (by_objects t) x ManagedCheckpoint skips true o stored refusal
    refuses-at refusal o at batches found logs lacks stored content_is =
        let h = put-at o at in
        taken-refuses MayMismatch lifetime skips moment o h.0 1 next given (plan-at o at) h.2 t x refusal batches found logs lacks stored at content_is

    -- and what followed failed
    pub take-broken : (e : SlateError) → IsOfRebuilding e → ((key : List ℕ) → e ≡ errors.EmptySegmentPrefix key → IfSome t' (λ o. BuildLacks x o next (last_read ManagedCheckpoint skips next o) key)) → CountsFaults {A = Follower × PollAnswer} f f' (Err e) → TakesSo (Err e)
    take-broken e of lacks faults = (
      1,
      record {
        faults = faults;
        puts = record {
          none = λ no. kept ∙ puts.none no;
          some = λ o at. let h = put-at o at in (h.0, h.1, broken-as x takes_plan MayMismatch (VersionedManifest × Lease) (Follower × PollAnswer) o 1 h.0 (next, given) e of (fits-at o at) h.2);
        };
        answers = tt;
        takes = tt;
        fits = tt;
        segmented = λ o line at stored. opening-lacks x ManagedCheckpoint t (Follower × PollAnswer) skips e o line
            (λ key is.
            let h = put-at o at in
            let l = some_at (λ o. BuildLacks x o next (last_read ManagedCheckpoint skips next o) key) t' h.0 h.1 (lacks key is) in
            refuses-at (Some (errors.EmptySegmentPrefix key)) o at l.0 l.1 l.2 l.3 line stored);
        segments = tt;
        whole = λ key is. refl;
      },
    )

    -- or the reader was built
    pub take-done : (built new : Follower) (answer : PollAnswer) (reach : ℕ) → IfSome t' (λ o. reach ≡ last_read ManagedCheckpoint skips next o) → IfSome t' (λ o. Builds o ManagedCheckpoint skips lag next reach built answer) → built.lease ≡ None →
        new ≡ record built { lease = Some given } → HasSegments x built → unsegmented_refusal x (ops_of built.line.batches) ≡ None → IsOpenAt skips lag new answer → CountsFaults {A = Follower × PollAnswer} f f' (Ok (new, answer)) → TakesSo (Ok (new, answer))
    take-done built new answer reach reads builds bare becomes has whole answers faults =
        let builds-at : (o : Objects) → t' ≡ Some o → Builds o ManagedCheckpoint skips lag next reach built answer = λ o at. some_at (λ o. Builds o ManagedCheckpoint skips lag next reach built answer) t' o at builds in
        let reads-at : (o : Objects) → t' ≡ Some o → reach ≡ last_read ManagedCheckpoint skips next o = λ o at. some_at (λ o. reach ≡ last_read ManagedCheckpoint skips next o) t' o at reads in (
          1,
          record {
            faults = faults;
            puts = record {
              none = λ no. kept ∙ puts.none no;
              some = λ o at. let h = put-at o at in (h.0, h.1, ok-as MayMismatch (TakeRefusal x) takes_plan o 1 h.0 (next, given) (new, answer) h.2);
            };
            answers = answers;
            takes = record {
              none = λ no. kept ∙ puts.none no;
              some = λ o at.
                  let h = put-at o at in
                  (h.0, h.1, takes MayMismatch lifetime skips moment o h.0 1 next given (plan-at o at) h.2 t at built new answer lag reach (reads-at h.0 h.1) (builds-at h.0 h.1) bare becomes);
            };
            fits = λ o at. fits-at o at;
            segmented = λ o line at stored.
                let h = put-at o at in
                let b = builds-at h.0 h.1 in
                let m = next.manifest in
                let same : built.line.batches ≡ b.batches = ap (λ (f : Follower). f.line.batches) b.becomes in
                refuses-at None o at b.batches b.found
                (subst (λ n. Replays m.replay_after_wal_id n m.last_l0_seq [] b.batches h.0 (Ok b.found)) (reads-at h.0 h.1) b.logs)
                (ap (λ bs. unsegmented_refusal x (ops_of bs)) (sym same) ∙ whole) line stored;
            segments = subst (HasSegments x) (sym becomes) has;
            whole = λ key is. absurd (cc);
          },
        )

-- ---- the count of faults after several calls
risen-then : (f f1 f' : ℕ) → f ≤ f1 → HasRisen f1 f' → HasRisen f f'
risen-then f f1 f' low (inl less) = inl (omega (arith, low, less))
risen-then f f1 f' low (inr end) = inr end

pub counts-then : {A B : Type 0} (f f1 f' : ℕ) (e : SlateError) → f1 ≡ f → CountsFaults {A = A} f1 f' (Err e) → CountsFaults {A = B} f f' (Err e)
counts-then f f1 f' e kept c = record {
  count = (let up = c.count in omega (arith, kept, up));
  unavailable = λ is. let same : e ≡ errors.ObjectStoreError Unavailable = cc in risen-then f f1 f' (omega (arith, kept)) (c.unavailable (ap Err same));
  stays = elim c.stays [ inl same ↦ inl (same ∙ kept) | inr fault ↦ inr fault ];
  none_missing = λ is. let same : e ≡ errors.ObjectStoreError NotFound = cc in c.none_missing (ap Err same);
}

pub no-fault : {A : Type 0} (f f' : ℕ) → f' ≡ f → CountsFaults {A = A} f f' (Err errors.NoMemory)
no-fault f f' kept = record { count = omega (arith, kept); unavailable = λ is. absurd (cc); stays = inl kept; none_missing = λ is. cc }

pub all-well : {A : Type 0} (f f' : ℕ) (x : A) → f' ≡ f → CountsFaults f f' (Ok x)
all-well f f' x kept = record { count = omega (arith, kept); unavailable = λ is. absurd (cc); stays = kept; none_missing = λ is. cc }

-- whatever it answers
pub counts-on : {A : Type 0} (f f1 f' : ℕ) (r : Result A SlateError) → f1 ≡ f → CountsFaults f1 f' r → CountsFaults f f' r
counts-on f f1 f' (Ok x) kept c = all-well f f' x (c.stays ∙ kept)
counts-on f f1 f' (Err e) kept c = counts-then f f1 f' e kept c
