-- A try of a poll of a reader that keeps a checkpoint, by its steps, over a store that may be modelled.
use Rattle.std.proofs.Common.{◌≡◌, ℕ, inl, inr, List, [], Option, Some, None, Bool, true, false, cond, Result, Ok, Err, refl, sym, ap, subst, ◌∙◌, arith}
use Rattle.std.proofs.Math.Logic.{⊎_map}
use Rattle.std.specs.Option.{IfSome}
use Rattle.std.specs.Prelude.{ℤ, ◌⊎◌, nat_lt}
use Rattle.std.specs.Result.{IfOk}
use Rattle.slate_types.specs.Modelled.{WhereModelled}
use Rattle.slate_types.specs.declared.batches.Batch.{Batch}
use Rattle.slate_store.specs.Checkpoints.{Plan, found, lease_end, to_end}
use Rattle.slate_store.specs.Objects.{Objects, PutManifest, changed}
use Rattle.slate_store.specs.Refusals.{checkpoint_changes, planned, planned_after}
use Rattle.slate_store.specs.declared.objects.Checkpoint.{Checkpoint as AnyCheckpoint}
use Rattle.slate_store.specs.declared.objects.VersionedManifest.{VersionedManifest}
use Rattle.slate_store.specs.declared.reader_modes.DbReaderMode.TheVariants.{ManagedCheckpoint}
use Rattle.slate_store.specs.declared.refusals.StoreRefusal.TheVariants as refusals
use Rattle.slate_errors.specs.declared.errors.SlateError.{SlateError}
use Rattle.slate_errors.specs.declared.errors.SlateError.TheVariants.{TransactionalObjectTimeout}
use Rattle.slate_model.specs.Follower.{Follower, follower_tasks, number}
use Rattle.slate_model.specs.Lease.{differs, is_due, lease_of, leased, replaces, to_keep}
use Rattle.slate_model.specs.Managed.{Keeps, PlanCause, follower_under, unrefused}
use Rattle.slate_model.specs.Stores.{Stands, by_objects}
use Rattle.slate_model.specs.declared.answers.PollAnswer.{PollAnswer}
use Rattle.slate_model.specs.declared.leases.Lease.{Lease}
use Rattle.slate_follow.specs.Keeping.{FindsLatest, MayLack, PutsBy, PutsManifest, Replaces, TakesLatest}
use Rattle.slate_follow.specs.Takings.{GivesTaking, Taking, installed}
use Rattle.slate_follow.proofs.Having.{has-news}
use Rattle.slate_follow.specs.Rebuilding.{TakesUnder, Truncates, answer_of, unleased}
use Rattle.slate_follow.proofs.Continued.{took-truncates}
use Rattle.slate_model.specs.declared.answers.PollAnswer.TheVariants as answers
use Rattle.slate_follow.proofs.Keeping.{PutsAndKeeps, puts-by, renewal, renewed-keeps, missing-keeps, replaced-keeps, replacement, stays-keeps, to-renewal, to-stay}
use Rattle.slate_follow.proofs.Planned.{modelled-kept, modelled-put, stays-put}
use Rattle.slate_follow.proofs.Rebuilt.{if_some, some_at}

-- ---- what renews a lease
end-puts : (lifetime : ℕ) (id : List ℕ) (end : ℤ) (latest : VersionedManifest) (there : Option AnyCheckpoint) (next : Option VersionedManifest) (given : Lease) → leased lifetime (to_end id end latest there) ≡ Ok (next, given) →
    (put : VersionedManifest) × (leased lifetime (to_end id end latest there) ≡ Ok (Some put, given))
end-puts lifetime id end latest None next given is = absurd (cc)
end-puts lifetime id end latest (Some checkpoint) next given is = by (nat_lt latest.id 18446744073709551615) _ _ is where
  by : (b : Bool) (put : VersionedManifest) (after : AnyCheckpoint) → leased lifetime (cond {A = Plan AnyCheckpoint} b (Ok (Some put, after)) (Err refusals.InvalidDBState)) ≡ Ok (next, given) →
      (put' : VersionedManifest) × (leased lifetime (cond {A = Plan AnyCheckpoint} b (Ok (Some put, after)) (Err refusals.InvalidDBState)) ≡ Ok (Some put', given))
  by true put after is =
      let pair : (Some put, lease_of lifetime after) ≡ (next, given) = cc in
      (put, ap (λ (p : Option VersionedManifest × Lease). Ok (Some put, p.1)) pair)
  by false put after is = absurd (cc)

module _ (view latest : VersionedManifest) (lease : Lease) (moment : ℤ) where
  -- it puts a manifest
  pub renewal-puts : (next : Option VersionedManifest) (given : Lease) → renewal view latest lease moment ≡ Ok (next, given) → (put : VersionedManifest) × (renewal view latest lease moment ≡ Ok (Some put, given))
  renewal-puts next given = end-puts lease.lifetime lease.id (lease_end moment lease.lifetime) latest (found lease.id latest) next given

  -- the poll fails as the renewal did
  pub renewal-failed : (refused : Objects → SlateError → Type 0) (old new : Option Lease) (o o' : Objects) (e : SlateError) → PutsBy {A = Unit {0}} unrefused (renewal view latest lease moment) old o (Err e) new o' →
      PutsBy {A = PollAnswer} refused (renewal view latest lease moment) old o (Err e) new o'
  renewal-failed refused old new o o' e p = record { made = p.made; cause = ⊎_map (λ c. c) (λ none. absurd none) p.cause; part = p.part; after = p.after; leased = p.leased }

  -- and it goes on
  pub renewal-done : (refused : Objects → SlateError → Type 0) (old new : Option Lease) (o o' : Objects) (answer : PollAnswer) → PutsBy {A = Unit {0}} unrefused (renewal view latest lease moment) old o (Ok tt) new o' →
      PutsBy refused (renewal view latest lease moment) old o (Ok answer) new o'
  renewal-done refused old new o o' answer p = record { made = p.made; cause = tt; part = p.part; after = p.after; leased = p.leased }

-- a reader took what log files have under the manifest that its plan put
pub put-takes : (plan : Plan Lease) (next : VersionedManifest) (given : Lease) → plan ≡ Ok (Some next, given) → (old new : Follower) (answer : PollAnswer) (lease : Option Lease) → new.view ≡ next → {t1 t' : Option Objects} → t' ≡ t1 →
    IfSome t1 (λ o. TakesUnder o next (record old { lease = lease }) (unleased new) answer) → IfSome t' (λ o. TakesLatest plan old o new answer)
put-takes plan next given gives old new answer lease view {t1} {t'} kept took = if_some t' (λ o at.
    let takes = by o (some_at (λ o. TakesUnder o next (record old { lease = lease }) (unleased new) answer) t1 o (sym kept ∙ at) took) in
    let under : unleased new ≡ follower_under next new = ap (λ v. record new { view = v; lease = None }) view in
    record {
      given = given;
      puts = gives ∙ ap (λ v. Ok (Some v, given)) (sym view);
      takes = subst (λ v. TakesUnder o v old (follower_under v new) answer) (sym view) (subst (λ f. TakesUnder o next old f answer) under takes);
    }) where
      -- its lease before that is no matter
      by : (o : Objects) → TakesUnder o next (record old { lease = lease }) (unleased new) answer → TakesUnder o next old (unleased new) answer
      by o (inl (reads, reaches, last, taken, goes)) = inl (reads, reaches, last, taken, record { added = goes.added; found = goes.found; logs = goes.logs; becomes = goes.becomes; answers = goes.answers })
      by o (inr (not_on, last, read, builds)) = inr (not_on, last, read, builds)

-- a manifest that is put is no log file
truncates-before : (o : Objects) (next : VersionedManifest) (f : Follower) (answer : PollAnswer) → Truncates (changed (PutManifest next.id next.manifest) o) f answer → Truncates o f answer
truncates-before o next f (answers.Whole at) all = tt
truncates-before o next f (answers.Truncated at) all =
    let t = all.truncated in
    record {
      id = all.id;
      from = all.from;
      last = all.last;
      number = all.number;
      end = all.end;
      truncated = record { above = t.above; within = t.within; reached = t.reached; earlier = record { stored = t.earlier.stored; no_gap = t.earlier.no_gap }; cut = t.cut };
      before = all.before;
    }

-- its lease is no matter
truncates-bare : (o : Objects) (f : Follower) (answer : PollAnswer) → Truncates o (unleased f) answer → Truncates o f answer
truncates-bare o f (answers.Whole at) all = tt
truncates-bare o f (answers.Truncated at) all = all

pub put-truncates : (next : VersionedManifest) (old new : Follower) (answer : PollAnswer) (t t1 : Option Objects) → WhereModelled (PutsManifest next (Ok true)) t t1 → IfSome t1 (λ o. TakesUnder o next old (unleased new) answer) → IfSome t (λ o. Truncates o new answer)
put-truncates next old new answer t t1 puts took = if_some t (λ o at.
    let h = puts.some o at in
    let takes = some_at (λ o. TakesUnder o next old (unleased new) answer) t1 h.0 h.1 took in
    let here = subst (λ s. Truncates s (unleased new) answer) h.2 (took-truncates h.0 next old (unleased new) answer takes) in
    truncates-bare o new answer (truncates-before o next (unleased new) answer here))

-- over a store that may be modelled
pub kept-truncates : {A : Type 0} (P : Objects → A → Type 0) (r : Result A SlateError) {t t1 : Option Objects} → t1 ≡ t → IfOk r (λ a. IfSome t1 (λ o. P o a)) → IfOk r (λ a. IfSome t (λ o. P o a))
kept-truncates {A} P r {t} {t1} kept all = subst (λ s. IfOk r (λ a. IfSome s (λ o. P o a))) kept all

-- ---- a try, where this is the latest manifest
module _ (t : Option Objects) (latest : VersionedManifest) (is : IfSome t (λ o. FindsLatest o (Ok latest))) (lease : Lease) (moment : ℤ) (old new : Follower) where
  latest_is : (o : Objects) → t ≡ Some o → FindsLatest o (Ok latest)
  latest_is o at = some_at (λ o. FindsLatest o (Ok latest)) t o at is

  -- the checkpoint is replaced
  pub replaced-kept : old.mode ≡ ManagedCheckpoint → replaces old.view lease moment latest ≡ true → {t1 t' : Option Objects} → t1 ≡ t → (r : Result PollAnswer SlateError) →
      WhereModelled (λ o o'. PutsBy MayLack (replacement old.view latest lease moment) old.lease o r new.lease o') t1 t' → IfOk r (λ answer. IfSome t' (λ o'. TakesLatest (replacement old.view latest lease moment) old o' new answer)) →
      IfOk r (λ answer. WhereModelled (λ o o'. Keeps (by_objects t) lease moment old o new answer o') t t')
  replaced-kept managed replaced {t1} {t'} kept (Err e) puts took = tt
  replaced-kept managed replaced {t1} {t'} kept (Ok answer) puts took = record {
    none = λ no. puts.none (kept ∙ no);
    some = λ o at.
        let h = puts.some o (kept ∙ at) in
        let takes = some_at (λ o'. TakesLatest (replacement old.view latest lease moment) old o' new answer) t' h.0 h.1 took in
        (h.0, h.1, replaced-keeps MayLack t o h.0 at latest (latest_is o at) lease moment old new answer managed replaced h.2 takes);
  }

  module _ (unreplaced : replaces old.view lease moment latest ≡ false) where
    -- the lease isn't due
    pub stays-puts : is_due moment lease ≡ false → old.lease ≡ Some lease → new.lease ≡ Some lease → (answer : PollAnswer) → {t' : Option Objects} → t' ≡ t → WhereModelled (PutsAndKeeps lease moment old (Ok answer) new) t t'
    stays-puts early held holds answer kept =
        let p : Plan Lease = Ok (None, lease) in
        modelled-kept is kept (λ o at. puts-by o latest at lease moment old p (to-stay old.view latest lease moment unreplaced early) (Ok answer) new o
        (subst (λ l. PutsBy MayLack p l o (Ok answer) new.lease o) (sym held) (subst (λ l. PutsBy MayLack p (Some lease) o (Ok answer) l o) (sym holds) (stays-put MayLack p lease o answer refl))))

    -- it is, and is renewed
    pub renewed-puts : is_due moment lease ≡ true → (r0 : Result (Unit {0}) SlateError) (r : Result PollAnswer SlateError) → {t1 t' : Option Objects} → t1 ≡ t → WhereModelled (λ o o'. PutsBy unrefused (renewal old.view latest lease moment) old.lease o r0 new.lease o') t1 t' →
        ((o o' : Objects) → PutsBy unrefused (renewal old.view latest lease moment) old.lease o r0 new.lease o' → PutsBy MayLack (renewal old.view latest lease moment) old.lease o r new.lease o') → WhereModelled (PutsAndKeeps lease moment old r new) t t'
    renewed-puts due r0 r kept puts turn =
        modelled-put is kept puts (λ o o' at h. puts-by o latest at lease moment old (renewal old.view latest lease moment) (to-renewal old.view latest lease moment unreplaced due) r new o' (turn o o' h))

  -- it has what is new
  module _ (managed : old.mode ≡ ManagedCheckpoint) (open_ : old.result ≡ None) (tasks : old.tasks ≡ follower_tasks old.mode) (floor : old.line.floor ≡ old.view.manifest.last_l0_seq) (same : differs old.view latest ≡ false) (taking : Taking) (answer : PollAnswer)
      (answers : answer ≡ answer_of taking.replayed (number new)) (t1 : Option Objects) (kept : t1 ≡ t) (takes : IfSome t1 (λ o. GivesTaking (TakesUnder o latest old) latest old taking)) where
    takes-at : (o : Objects) → t ≡ Some o → GivesTaking (TakesUnder o latest old) latest old taking
    takes-at o at = some_at (λ o. GivesTaking (TakesUnder o latest old) latest old taking) t1 o (kept ∙ at) takes

    -- and stays at its view
    module _ (becomes : new ≡ record (installed old.view taking old) { lease = new.lease }) (unreplaced : replaces old.view lease moment latest ≡ false) where
      pub stays-kept : is_due moment lease ≡ false → new.lease ≡ Some lease → WhereModelled (λ o o'. Keeps (by_objects t) lease moment old o new answer o') t t1
      stays-kept early holds = record {
        none = λ no. kept ∙ no;
        some = λ o at.
            let n = has-news o latest old taking open_ tasks floor same new becomes answer answers (takes-at o at) in
            (o, kept ∙ at, stays-keeps MayLack t o o at latest (latest_is o at) lease moment old new answer managed same floor n.0 n.1 taking.mark n.3 n.2 n.4 unreplaced early refl holds);
      }

      pub renewed-kept : is_due moment lease ≡ true → {t' : Option Objects} → WhereModelled (λ o o'. PutsBy {A = Unit {0}} unrefused (renewal old.view latest lease moment) old.lease o (Ok tt) new.lease o') t1 t' → WhereModelled (λ o o'. Keeps (by_objects t) lease moment old o new answer o') t t'
      renewed-kept due puts = record {
        none = λ no. puts.none (kept ∙ no);
        some = λ o at.
            let h = puts.some o (kept ∙ at) in
            let n = has-news o latest old taking open_ tasks floor same new becomes answer answers (takes-at o at) in
            let l = h.2.leased in
            let put = renewal-puts old.view latest lease moment l.0 l.1 l.2 in
            let done = renewal-done old.view latest lease moment MayLack old.lease new.lease o h.0 answer h.2 in
            (h.0, h.1, renewed-keeps MayLack t o h.0 at latest (latest_is o at) lease moment old new answer managed same floor n.0 n.1 taking.mark n.3 n.2 n.4 unreplaced due put.0 l.1 put.1 done);
      }

    -- or goes by the manifest that was put
    pub missing-kept : replaces old.view lease moment latest ≡ true → Replaces (replacement old.view latest lease moment) taking old new answer → {t' : Option Objects} →
        WhereModelled (λ o o'. PutsBy MayLack (replacement old.view latest lease moment) old.lease o (Ok answer) new.lease o') t1 t' → WhereModelled (λ o o'. Keeps (by_objects t) lease moment old o new answer o') t t'
    missing-kept replaced (next, given, gives, new_is, is) puts = record {
      none = λ no. puts.none (kept ∙ no);
      some = λ o at.
          let h = puts.some o (kept ∙ at) in
          let bare = installed old.view taking old in
          let counted = answers ∙ ap (answer_of taking.replayed) (ap number new_is) in
          let n = has-news o latest old taking open_ tasks floor same bare refl answer counted (takes-at o at) in
          (h.0, h.1, missing-keeps MayLack t o h.0 at latest (latest_is o at) lease moment old new answer managed same floor bare n.0 n.1 taking.mark n.2 n.3 n.4 replaced next given gives new_is h.2);
    }

  -- as it answers
  pub missing-all : old.mode ≡ ManagedCheckpoint → old.result ≡ None → old.tasks ≡ follower_tasks old.mode → old.line.floor ≡ old.view.manifest.last_l0_seq → differs old.view latest ≡ false → (taking : Taking) (t1 : Option Objects) → t1 ≡ t →
      IfSome t1 (λ o. GivesTaking (TakesUnder o latest old) latest old taking) → replaces old.view lease moment latest ≡ true → (r : Result PollAnswer SlateError) → IfOk r (λ answer. Replaces (replacement old.view latest lease moment) taking old new answer) → {t' : Option Objects} →
      WhereModelled (λ o o'. PutsBy MayLack (replacement old.view latest lease moment) old.lease o r new.lease o') t1 t' → IfOk r (λ answer. WhereModelled (λ o o'. Keeps (by_objects t) lease moment old o new answer o') t t')
  missing-all managed open_ tasks floor same taking t1 kept takes replaced (Err e) became puts = tt
  missing-all managed open_ tasks floor same taking t1 kept takes replaced (Ok answer) became puts = missing-kept managed open_ tasks floor same taking answer became.4 t1 kept takes replaced became puts

-- ---- clauses by what was answered
pub if-ok-all : {A P : Type 0} (r : Result A SlateError) → P → IfOk r (λ _. P)
if-ok-all (Ok x) p = p
if-ok-all (Err e) p = tt

pub if-ok-as : {A P Q : Type 0} (r : Result A SlateError) → (P → Q) → IfOk r (λ _. P) → IfOk r (λ _. Q)
if-ok-as (Ok x) f p = f p
if-ok-as (Err e) f p = tt

-- ---- where the plan of a poll puts nothing that stands there
module _ (t : Option Objects) (latest : VersionedManifest) (is : IfSome t (λ o. FindsLatest o (Ok latest))) (lease : Lease) (moment : ℤ) (old : Follower) where
  abbrev keeping : VersionedManifest → Plan Lease
  keeping = to_keep old.view lease moment

  changes-are : (o : Objects) → t ≡ Some o → (p : Plan Lease) → keeping latest ≡ p → checkpoint_changes {L = List Batch} keeping o ≡ planned p
  changes-are o at p p_is = ap (planned_after keeping) (some_at (λ o. FindsLatest o (Ok latest)) t o at is) ∙ ap planned p_is

  pub unstanding-by : (p : Plan Lease) → keeping latest ≡ p → {t1 : Option Objects} → t1 ≡ t → IfSome t1 (λ o. Stands (planned p) o → ⊥) → IfSome t (λ o. Stands (checkpoint_changes keeping o) o → ⊥)
  unstanding-by p p_is {t1} kept free = if_some t (λ o at stands.
      some_at (λ o. Stands (planned p) o → ⊥) t1 o (kept ∙ at) free (subst (λ cs. Stands cs o) (changes-are o at p p_is) stands))

  none-stands : (o : Objects) → Stands [] o → ⊥
  none-stands o (change, (k, low, same), there) = omega (arith, low)

  pub unstanding-none : {given : Lease} → keeping latest ≡ Ok (None, given) → IfSome t (λ o. Stands (checkpoint_changes keeping o) o → ⊥)
  unstanding-none {given} none = if_some t (λ o at stands. none-stands o (subst (λ cs. Stands cs o) (changes-are o at (Ok (None, given)) none) stands))

-- every try found another manifest there
pub never-put : (t t' : Option Objects) (lease : Lease) (moment : ℤ) (old new : Follower) → t' ≡ t → new ≡ old →
    IfSome t (λ o. PlanCause (Stands (checkpoint_changes (to_keep old.view lease moment) o) o) (to_keep old.view lease moment) o (TransactionalObjectTimeout 8)) → WhereModelled (PutsAndKeeps lease moment old (Err (TransactionalObjectTimeout 8)) new) t t'
never-put t t' lease moment old new kept same met =
    let plan = to_keep old.view lease moment in
    record {
      none = λ no. kept ∙ no;
      some = λ o at.
          let cause = some_at (λ o. PlanCause (Stands (checkpoint_changes plan o) o) plan o (TransactionalObjectTimeout 8)) t o at met in
          (o, kept ∙ at, (0, record { cause = inl cause; part = refl; after = refl }, inl (ap (λ (f : Follower). f.lease) same)));
    }

-- and each one found so by its plan
pub timed-out : (stands : Type 0) (plan : VersionedManifest → Plan Lease) (o : Objects) → PlanCause stands plan o (TransactionalObjectTimeout 8) ⊎ MayLack o (TransactionalObjectTimeout 8) → PlanCause stands plan o (TransactionalObjectTimeout 8)
timed-out stands plan o (inl cause) = cause
timed-out stands plan o (inr none) = absurd none
