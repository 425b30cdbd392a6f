-- How often a reader that keeps a checkpoint calls the store.
use Rattle.std.proofs.Common.{◌≡◌, ℕ, zero, suc, ◌+◌, ◌-◌, ◌*◌, ◌<◌, ◌≤◌, max, map, List, Option, Some, None, Bool, true, false, cond, Ok, refl, sym, ap, subst, ◌∙◌, arith}
use Rattle.std.proofs.Math.Nat.{add-mul, mul-le-mul_right}
use Rattle.std.specs.Option.{IfSome}
use Rattle.std.specs.Prelude.{ℤ, List, ◌||◌}
use Rattle.slate_types.specs.Modelled.{WhereModelled}
use Rattle.slate_types.specs.declared.batches.Batch.{Batch}
use Rattle.slate_store.proofs.LastLog.{at_least}
use Rattle.slate_store.specs.Checkpoints.{Plan, to_write}
use Rattle.slate_store.specs.Objects.{Objects, PutManifest, changed, greatest, last_log, latest_manifest}
use Rattle.slate_store.specs.Refusals.{PlanIs, checkpoint_changes}
use Rattle.slate_store.specs.declared.objects.VersionedManifest.{VersionedManifest}
use Rattle.slate_store.specs.declared.reader_modes.DbReaderMode.{DbReaderMode}
use Rattle.slate_store.specs.declared.reader_modes.DbReaderMode.TheVariants.{Checkpoint, FollowLatest, ManagedCheckpoint}
use Rattle.slate_errors.specs.declared.errors.SlateError.{SlateError}
use Rattle.slate_errors.specs.declared.errors.SlateError.TheVariants.{TransactionalObjectTimeout}
use Rattle.slate_model.proofs.Reduced.{some-same}
use Rattle.slate_model.specs.Followed.{followed_logs, last_read, logs_under, read_logs}
use Rattle.slate_model.specs.Follower.{Follower, is_pinned}
use Rattle.slate_model.specs.Lease.{differs, is_due, leased, to_take}
use Rattle.slate_model.specs.Managed.{PlanCause, PutsPlanned}
use Rattle.slate_model.specs.Open.{mark_of, replayed_logs}
use Rattle.slate_model.specs.Stores.{Stands}
use Rattle.slate_model.specs.declared.leases.Lease.{Lease}
use Rattle.slate_follow.specs.Keeping.{CallsRound, FindsLatest, PutsManifest, calls_to_keep}
use Rattle.slate_follow.specs.Lagging.{readings}
use Rattle.slate_follow.specs.Rebuilding.{CallsContinuing, CallsRebuilding, goes_on, last_above, new_logs}
use Rattle.slate_follow.proofs.Continued.{greatest-greater}
use Rattle.slate_follow.proofs.Lagging.{readings-more}
use Rattle.slate_follow.proofs.Leased.{HasCheckpoints, reads, written-form}
use Rattle.slate_follow.proofs.Rebuilt.{if_some, some_at}
use Rattle.slate_follow.proofs.Taken.{taken-after, taken-from}

pub at-most-one : (b : Bool) → cond b 0 1 ≤ 1
at-most-one true = omega arith
at-most-one false = omega arith

-- the log files under a manifest with other checkpoints, which is put, are those under the one before
put-logs : (o o' : Objects) (latest next : VersionedManifest) → HasCheckpoints latest next → o' ≡ changed (PutManifest next.id next.manifest) o → (skips : Bool) →
    last_read ManagedCheckpoint skips next o' - next.manifest.replay_after_wal_id ≡ read_logs ManagedCheckpoint skips o (Some latest)
put-logs o o' latest next form after skips =
    let logs = ap (λ (x : Objects). x.logs) after in
    let replayed = ap (λ (v : VersionedManifest). v.manifest.replay_after_wal_id) form.1 in
    ap (λ n. n - next.manifest.replay_after_wal_id) (sym (reads o o' latest next logs replayed skips)) ∙ ap (λ n. last_read ManagedCheckpoint skips latest o - n) replayed

-- ---- an opening
module _ (refused : Objects → SlateError → Type 0) (lifetime : ℕ) (skips : Bool) (moment : ℤ) (t t1 : Option Objects) (next : VersionedManifest) (given : Lease)
    (puts : WhereModelled (λ o o'. (made : ℕ) × PutsPlanned {B = VersionedManifest × Lease} Stands refused (to_take lifetime moment) o (Ok (next, given)) made o') t t1)
    (plans : IfSome t (λ o. PlanIs (to_take lifetime moment) o (Ok (Some next, given)))) (last : ℕ) (reach : IfSome t1 (λ o. last ≡ last_read ManagedCheckpoint skips next o)) where
  logs-are : (o : Objects) → t ≡ Some o → last - next.manifest.replay_after_wal_id ≡ followed_logs ManagedCheckpoint skips o
  logs-are o at =
      let h = puts.some o at in
      let plan = some_at (λ o. PlanIs (to_take lifetime moment) o (Ok (Some next, given))) t o at plans in
      let form = written-form plan.0 lifetime moment next given None (taken-from lifetime moment plan.0 next given plan.2) in
      let after = taken-after refused lifetime skips moment o h.0 h.2.0 next given plan h.2.1 in
      let last_is = some_at (λ o. last ≡ last_read ManagedCheckpoint skips next o) t1 h.0 h.1 reach in
      ap (λ n. n - next.manifest.replay_after_wal_id) last_is ∙ (put-logs o h.0 plan.0 next form after skips ∙ ap (logs_under ManagedCheckpoint skips o) (sym plan.1))

  pub taken-calls : (n n' : ℕ) → n' ≤ n + 17 + (last - next.manifest.replay_after_wal_id) → IfSome t (λ o. n' ≤ n + (followed_logs ManagedCheckpoint skips o + 17))
  taken-calls n n' most = if_some t (λ o at. (let same = logs-are o at in omega (arith, same, most)))

-- ---- a poll
-- the greatest of the greater of two numbers and others isn't further above that than the greatest of one of them is above it
greater-fewer : (m n : ℕ) (xs : List ℕ) → greatest (max m n) xs - max m n ≤ greatest n xs - n
greater-fewer m n xs =
    let most = greatest-greater m n xs in
    let least = at_least n xs in
    omega (arith, most, least)

module _ (o : Objects) (latest : VersionedManifest) (is : latest_manifest o ≡ Some latest) where
  abbrev mark : ℕ
  mark = latest.manifest.replay_after_wal_id

  all-logs : replayed_logs o ≡ last_log mark o - mark
  all-logs = ap (λ x. last_log (mark_of x) o - mark_of x) is

  free-read : (mode : DbReaderMode) (skips : Bool) → is_pinned mode ≡ false → read_logs mode skips o (Some latest) ≤ replayed_logs o
  free-read mode true free = omega arith
  free-read (Checkpoint id) false free = absurd (cc)
  free-read FollowLatest false free = (let same = all-logs in omega (arith, same))
  free-read ManagedCheckpoint false free = (let same = all-logs in omega (arith, same))

  -- a reader reads no more under the latest manifest than an opening does
  pub new-below : (f : Follower) → is_pinned f.mode ≡ false → new_logs f latest o ≤ readings f.lag (replayed_logs o)
  new-below f free = readings-more f.lag _ _ (by (goes_on f latest)) where
    by : (b : Bool) → cond b (last_above f latest o - max f.mark mark) (read_logs f.mode f.skips o (Some latest)) ≤ replayed_logs o
    by true = (let same = all-logs in let fewer = greater-fewer f.mark mark (map (λ log. log.0) o.logs) in omega (arith, same, fewer))
    by false = free-read f.mode f.skips free

-- nor does it under one with other checkpoints, which is put
module _ (o o' : Objects) (latest next : VersionedManifest) (form : HasCheckpoints latest next) (after : o' ≡ changed (PutManifest next.id next.manifest) o) (f : Follower) (managed : f.mode ≡ ManagedCheckpoint) where
  abbrev above : List (ℕ × List Batch) → ℕ → ℕ
  above logs n = greatest (max f.mark n) (map (λ log. log.0) logs) - max f.mark n

  pub put-new : new_logs f next o' ≡ new_logs f latest o
  put-new =
      let m : VersionedManifest → ℕ = λ v. v.manifest.replay_after_wal_id in
      let marks : m next ≡ m latest = ap m form.1 in
      let goes : goes_on f next ≡ goes_on f latest = ap (goes_on f) form.1 in
      let over : above o'.logs (m next) ≡ above o.logs (m latest) = ap (λ (x : Objects). above x.logs (m next)) after ∙ ap (above o.logs) marks in
      let reads : read_logs f.mode f.skips o' (Some next) ≡ read_logs f.mode f.skips o (Some latest) =
      subst (λ k. read_logs k f.skips o' (Some next) ≡ read_logs k f.skips o (Some latest)) (sym managed) (put-logs o o' latest next form after f.skips) in
      ap (readings f.lag) (ap (λ b. cond b (above o'.logs (m next)) (read_logs f.mode f.skips o' (Some next))) goes
      ∙ (ap (λ n. cond (goes_on f latest) n (read_logs f.mode f.skips o' (Some next))) over ∙ ap (λ n. cond (goes_on f latest) (above o.logs (m latest)) n) reads))

-- a poll of a reader that follows the latest manifest
module _ (latest : VersionedManifest) (t t1 : Option Objects) (kept : t1 ≡ t) (is : IfSome t (λ o. FindsLatest o (Ok latest))) (old : Follower) where
  found-at : (o : Objects) → t ≡ Some o → latest_manifest o ≡ Some latest
  found-at o at = some_at (λ o. FindsLatest o (Ok latest)) t o at is

  pub follow-below : is_pinned old.mode ≡ false → (n n1 n' : ℕ) → n1 ≤ n + 1 → IfSome t1 (λ o. n' ≤ n1 + (new_logs old latest o + 1)) → IfSome t (λ o. CallsRebuilding o old.lag n n')
  follow-below free n n1 n' one more = if_some t (λ o at.
      let a = some_at (λ o. n' ≤ n1 + (new_logs old latest o + 1)) t1 o (kept ∙ at) more in
      let b = new-below o latest (found-at o at) old free in
      omega (arith, one, a, b))

  pub follow-costs : (n n1 n' : ℕ) → n1 ≤ n + 1 → IfSome t1 (λ o. n' ≤ n1 + (new_logs old latest o + 1)) → IfSome t (λ o. CallsContinuing o old n n')
  follow-costs n n1 n' one more = if_some t (λ o at found found_is.
      let same : latest ≡ found = some-same latest found (sym (found-at o at) ∙ found_is) in
      let a = some_at (λ o. n' ≤ n1 + (new_logs old latest o + 1)) t1 o (kept ∙ at) more in
      subst (λ v. n' ≤ n + 2 + new_logs old v o) same (omega (arith, one, a)))

-- a new checkpoint
pub replaced-calls : (replaced : Option (List ℕ)) (lifetime : ℕ) (moment : ℤ) (latest next : VersionedManifest) (given : Lease) → leased lifetime (to_write replaced (Some lifetime) moment latest) ≡ Ok (Some next, given) → (t t1 : Option Objects) → WhereModelled (PutsManifest next (Ok true)) t t1 →
    (f : Follower) → f.mode ≡ ManagedCheckpoint → (n n1 n' : ℕ) → n1 ≤ n + 1 → IfSome t1 (λ o. n' ≤ n1 + (new_logs f next o + 1)) → IfSome t (λ o. n' ≤ n + (new_logs f latest o + 2))
replaced-calls replaced lifetime moment latest next given gives t t1 puts f managed n n1 n' one then =
    if_some t (λ o at.
    let h = puts.some o at in
    let most = some_at (λ o. n' ≤ n1 + (new_logs f next o + 1)) t1 h.0 h.1 then in
    let same = put-new o h.0 latest next (written-form latest lifetime moment next given replaced gives) h.2 f managed in
    omega (arith, same, one, most))

-- a try, which finds the latest manifest first
module _ (latest : VersionedManifest) (t t1 : Option Objects) (kept : t1 ≡ t) (is : IfSome t (λ o. FindsLatest o (Ok latest))) (old : Follower) (managed : old.mode ≡ ManagedCheckpoint) (lease : Lease) (moment : ℤ) (n n1 : ℕ) (one : n1 ≤ n + 1) where
  latest_is : (o : Objects) → t ≡ Some o → latest_manifest o ≡ Some latest
  latest_is o at = some_at (λ o. FindsLatest o (Ok latest)) t o at is

  below : (f : Follower) → f.mode ≡ ManagedCheckpoint → (o : Objects) → t ≡ Some o → new_logs f latest o ≤ readings f.lag (replayed_logs o)
  below f f_managed o at = new-below o latest (latest_is o at) f (ap is_pinned f_managed)

  abbrev keeping : ℕ → ℕ
  keeping logs = calls_to_keep old.view lease moment latest logs

  -- how many calls it made
  keeping-at : (n' : ℕ) → ((o : Objects) → t ≡ Some o → n' ≤ n + keeping (new_logs old latest o)) → IfSome t (λ o. CallsRound o old lease moment n n')
  keeping-at n' most = if_some t (λ o at found found_is.
      let same : latest ≡ found = some-same latest found (sym (latest_is o at) ∙ found_is) in
      subst (λ v. n' ≤ n + calls_to_keep old.view lease moment v (new_logs old v o)) same (most o at))

  differing : differs old.view latest ≡ true → (logs : ℕ) → keeping logs ≡ logs + 3
  differing d logs = ap (λ b. cond (b || is_due moment lease) (logs + 3) (logs + 2)) d

  due-then : is_due moment lease ≡ true → (logs : ℕ) → keeping logs ≡ logs + 3
  due-then due logs = by (differs old.view latest) where
    by : (d : Bool) → cond (d || is_due moment lease) (logs + 3) (logs + 2) ≡ logs + 3
    by true = refl
    by false = ap (λ b. cond b (logs + 3) (logs + 2)) due

  resting : differs old.view latest ≡ false → is_due moment lease ≡ false → (logs : ℕ) → keeping logs ≡ logs + 2
  resting d due logs = ap (λ b. cond (b || is_due moment lease) (logs + 3) (logs + 2)) d ∙ ap (λ b. cond b (logs + 3) (logs + 2)) due

  -- it replaces the checkpoint then
  module _ (n' : ℕ) (more : IfSome t1 (λ o. n' ≤ n1 + (new_logs old latest o + 2))) where
    then-at : (o : Objects) → t ≡ Some o → n' ≤ n1 + (new_logs old latest o + 2)
    then-at o at = some_at (λ o. n' ≤ n1 + (new_logs old latest o + 2)) t1 o (kept ∙ at) more

    pub replaced-first : IfSome t (λ o. n' ≤ n + (readings old.lag (replayed_logs o) + 3))
    replaced-first = if_some t (λ o at. (let a = then-at o at in let b = below old managed o at in omega (arith, one, a, b)))

    pub replaced-costs : differs old.view latest ≡ true → IfSome t (λ o. CallsRound o old lease moment n n')
    replaced-costs d = keeping-at n' (λ o at. (let a = then-at o at in let k = differing d (new_logs old latest o) in omega (arith, one, a, k)))

  -- it takes what is new then
  module _ (n2 : ℕ) (news : IfSome t1 (λ o. n2 ≤ n1 + (new_logs old latest o + 1))) (n' : ℕ) where
    news-at : (o : Objects) → t ≡ Some o → n2 ≤ n1 + (new_logs old latest o + 1)
    news-at o at = some_at (λ o. n2 ≤ n1 + (new_logs old latest o + 1)) t1 o (kept ∙ at) news

    pub news-then : n' ≤ n2 + 1 → IfSome t (λ o. n' ≤ n + (readings old.lag (replayed_logs o) + 3))
    news-then more = if_some t (λ o at. (let a = news-at o at in let b = below old managed o at in omega (arith, one, more, a, b)))

    pub rest-costs : differs old.view latest ≡ false → is_due moment lease ≡ false → n' ≤ n2 → IfSome t (λ o. CallsRound o old lease moment n n')
    rest-costs same early more = keeping-at n' (λ o at. (let a = news-at o at in let k = resting same early (new_logs old latest o) in omega (arith, one, more, a, k)))

    pub due-costs : is_due moment lease ≡ true → n' ≤ n2 + 1 → IfSome t (λ o. CallsRound o old lease moment n n')
    due-costs due more = keeping-at n' (λ o at. (let a = news-at o at in let k = due-then due (new_logs old latest o) in omega (arith, one, more, a, k)))

-- the first try puts what its plan says, unless a manifest is there already, and then each one finds so
pub first-costs : (plan : VersionedManifest → Plan Lease) (t t1 : Option Objects) (kept : t1 ≡ t) (earlier n n1 n' : ℕ) (old : Follower) (lease : Lease) (moment : ℤ) → IfSome t (λ o. n1 ≤ n + earlier * (readings old.lag (replayed_logs o) + 3)) →
    (0 < earlier → IfSome t (λ o. PlanCause (Stands (checkpoint_changes plan o) o) plan o (TransactionalObjectTimeout 8))) → IfSome t1 (λ o. Stands (checkpoint_changes plan o) o → ⊥) → IfSome t1 (λ o. CallsRound o old lease moment n1 n') → IfSome t (λ o. CallsRound o old lease moment n n')
first-costs plan t t1 kept zero n n1 n' old lease moment before met free costs = if_some t (λ o at latest is.
    let a = some_at (λ o. n1 ≤ n + 0 * (readings old.lag (replayed_logs o) + 3)) t o at before in
    let b = some_at (λ o. CallsRound o old lease moment n1 n') t1 o (kept ∙ at) costs latest is in
    omega (arith, a, b))
first-costs plan t t1 kept (suc earlier) n n1 n' old lease moment before met free costs = if_some t (λ o at.
    absurd (some_at (λ o. Stands (checkpoint_changes plan o) o → ⊥) t1 o (kept ∙ at) free (some_at (λ o. PlanCause (Stands (checkpoint_changes plan o) o) plan o (TransactionalObjectTimeout 8)) t o at (met (omega arith))).1))

-- tries that found another manifest first, and one more
module _ (t t1 : Option Objects) (kept : t1 ≡ t) (lag earlier n n1 n' : ℕ) (before : IfSome t (λ o. n1 ≤ n + earlier * (readings lag (replayed_logs o) + 3))) where
  pub tries-on : IfSome t1 (λ o. n' ≤ n1 + (readings lag (replayed_logs o) + 3)) → IfSome t (λ o. n' ≤ n + (earlier + 1) * (readings lag (replayed_logs o) + 3))
  tries-on then = if_some t (λ o at.
      let a = some_at (λ o. n1 ≤ n + earlier * (readings lag (replayed_logs o) + 3)) t o at before in
      let b = some_at (λ o. n' ≤ n1 + (readings lag (replayed_logs o) + 3)) t1 o (kept ∙ at) then in
      let one = add-mul earlier 1 (readings lag (replayed_logs o) + 3) in
      omega (arith, a, b, one))

  pub last-try : earlier < 8 → IfSome t1 (λ o. n' ≤ n1 + (readings lag (replayed_logs o) + 3)) → IfSome t (λ o. n' ≤ n + 8 * (readings lag (replayed_logs o) + 3))
  last-try fewer then = if_some t (λ o at.
      let a = some_at (λ o. n' ≤ n + (earlier + 1) * (readings lag (replayed_logs o) + 3)) t o at (tries-on then) in
      let most : (earlier + 1) * (readings lag (replayed_logs o) + 3) ≤ 8 * (readings lag (replayed_logs o) + 3) = mul-le-mul_right (readings lag (replayed_logs o) + 3) (omega (arith, fewer)) in
      omega (arith, a, most))

pub all-tries : (t : Option Objects) (lag earlier n n1 : ℕ) → IfSome t (λ o. n1 ≤ n + earlier * (readings lag (replayed_logs o) + 3)) → earlier ≤ 8 → IfSome t (λ o. n1 ≤ n + 8 * (readings lag (replayed_logs o) + 3))
all-tries t lag earlier n n1 before within = if_some t (λ o at.
    let a = some_at (λ o. n1 ≤ n + earlier * (readings lag (replayed_logs o) + 3)) t o at before in
    let most : earlier * (readings lag (replayed_logs o) + 3) ≤ 8 * (readings lag (replayed_logs o) + 3) = mul-le-mul_right (readings lag (replayed_logs o) + 3) within in
    omega (arith, a, most))
