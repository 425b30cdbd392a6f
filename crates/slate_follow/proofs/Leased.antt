-- What a reader that keeps a checkpoint sees: of a manifest that was put after the latest one, or as it goes on.
use Rattle.std.proofs.Common.{◌≡◌, ◌⊎◌, ℕ, ◌+◌, ◌<◌, ◌≤◌, max, inl, inr, List, map, Option, Some, None, is_some, Bool, true, false, Ok, refl, sym, ap, subst, ◌∙◌, arith}
use Rattle.std.proofs.Math.Bool.{or-true}
use Rattle.std.proofs.Math.Logic.{⊎_map}
use Rattle.std.specs.Prelude.{ℤ}
use Rattle.slate_types.specs.Line.{Line, end}
use Rattle.slate_types.specs.declared.batches.Batch.{Batch}
use Rattle.slate_store.proofs.Checkpointed.{refresh-keeps, write-keeps}
use Rattle.slate_store.specs.Checkpoints.{Plan, found, lease_end, puts_next, to_end, to_refresh, to_write, with_checkpoints}
use Rattle.slate_store.specs.Content.{IsSound, content}
use Rattle.slate_store.specs.Objects.{Objects, PutManifest, changed, greatest, last_log, latest_manifest}
use Rattle.slate_store.specs.Refusals.{KeepsContent, planned, planned_after}
use Rattle.slate_store.specs.declared.objects.Checkpoint.{Checkpoint as AnyCheckpoint}
use Rattle.slate_store.specs.declared.objects.VersionedManifest.{VersionedManifest}
use Rattle.slate_store.specs.declared.reader_modes.DbReaderMode.{DbReaderMode}
use Rattle.slate_store.specs.declared.reader_modes.DbReaderMode.TheVariants.{Checkpoint, FollowLatest, ManagedCheckpoint}
use Rattle.slate_model.proofs.Leased.{leased-is, put-low}
use Rattle.slate_model.proofs.Maintained.{put-latest}
use Rattle.slate_model.proofs.Reduced.{some-same}
use Rattle.slate_model.specs.Changes.{after_part}
use Rattle.slate_model.specs.Follow.{HasAllLogs, IsOwed, SeesOwed, SeesPolled}
use Rattle.slate_model.specs.Followed.{IsView, last_read}
use Rattle.slate_model.specs.Follower.{Follower, is_managed, kept_follower, number, rebuilt, unsegmented}
use Rattle.slate_model.specs.Handle.{line_above, up_to}
use Rattle.slate_model.specs.Lease.{leased}
use Rattle.slate_model.specs.Managed.{SeesLatest, follower_under}
use Rattle.slate_model.specs.Stores.{by_objects}
use Rattle.slate_model.specs.declared.answers.PollAnswer.{PollAnswer}
use Rattle.slate_model.specs.declared.answers.PollAnswer.TheVariants.{Whole, Truncated}
use Rattle.slate_model.specs.declared.leases.Lease.{Lease}
use Rattle.slate_follow.specs.Keeping.{BuildsLatest}
use Rattle.slate_follow.specs.Rebuilding.{Builds}
use Rattle.slate_follow.proofs.Rebuilt.{builds-sees, has-all}

-- ---- the manifest that a plan puts
-- it is the one that follows, with other checkpoints
followed-next : (latest next next1 : VersionedManifest) (checkpoint checkpoint1 : AnyCheckpoint) → puts_next latest next1 checkpoint1 ≡ Ok (Some next, checkpoint) → next ≡ next1
followed-next latest next next1 checkpoint checkpoint1 is = some-same next next1 (put-low latest next1 checkpoint1 (Some next) checkpoint is).1

-- so a manifest with all of another one but its checkpoints
abbrev pub HasCheckpoints : (latest next : VersionedManifest) → Type 0
HasCheckpoints latest next = (checkpoints : List AnyCheckpoint) × (next ≡ with_checkpoints checkpoints latest)

pub written-form : (latest : VersionedManifest) (lifetime : ℕ) (moment : ℤ) (next : VersionedManifest) (given : Lease) (replaced : Option (List ℕ)) → leased lifetime (to_write replaced (Some lifetime) moment latest) ≡ Ok (Some next, given) → HasCheckpoints latest next
written-form latest lifetime moment next given replaced gives =
    let from = leased-is lifetime (to_write replaced (Some lifetime) moment latest) (Some next) given gives in
    (_, followed-next latest next _ from.0 _ from.1)

-- what keeps content, and puts this manifest after the latest one
pub record PutsKept (o : Objects) (latest next : VersionedManifest) : Type 0 where
  pub form : HasCheckpoints latest next
  pub keeps : KeepsContent o (changed (PutManifest next.id next.manifest) o)

module _ (o : Objects) (latest : VersionedManifest) (is : latest_manifest o ≡ Some latest) (lifetime : ℕ) (moment : ℤ) (next : VersionedManifest) (given : Lease) where
  pub written : (replaced : Option (List ℕ)) → leased lifetime (to_write replaced (Some lifetime) moment latest) ≡ Ok (Some next, given) → PutsKept o latest next
  written replaced gives =
      let plan = to_write replaced (Some lifetime) moment in
      let from = leased-is lifetime (plan latest) (Some next) given gives in
      record {
        form = written-form latest lifetime moment next given replaced gives;
        keeps = subst (KeepsContent o) (ap (λ cs. after_part 1 cs o) (ap (planned_after plan) is ∙ ap planned from.1)) (write-keeps replaced (Some lifetime) moment 1 o);
      }

  end-form : (id : List ℕ) (end : ℤ) (checkpoint : AnyCheckpoint) (there : Option AnyCheckpoint) → to_end id end latest there ≡ Ok (Some next, checkpoint) → HasCheckpoints latest next
  end-form id end checkpoint None is = absurd (cc)
  end-form id end checkpoint (Some old) is = (_, followed-next latest next _ checkpoint _ is)

  pub renewed : (id : List ℕ) → leased lifetime (to_refresh id lifetime moment latest) ≡ Ok (Some next, given) → PutsKept o latest next
  renewed id gives =
      let plan = to_refresh id lifetime moment in
      let from = leased-is lifetime (plan latest) (Some next) given gives in
      record {
        form = end-form id (lease_end moment lifetime) from.0 (found id latest) from.1;
        keeps = subst (KeepsContent o) (ap (λ cs. after_part 1 cs o) (ap (planned_after plan) is ∙ ap planned from.1)) (refresh-keeps id lifetime moment 1 o);
      }

-- so it is the latest
pub put-is : (o : Objects) (latest next : VersionedManifest) → IsSound o → latest_manifest o ≡ Some latest → HasCheckpoints latest next → latest_manifest (changed (PutManifest next.id next.manifest) o) ≡ Some next
put-is o latest next sound is form =
    subst (λ (v : VersionedManifest). latest_manifest (changed (PutManifest v.id v.manifest) o) ≡ Some v) (sym form.1) (put-latest o latest sound is (with_checkpoints form.0 latest).manifest)

-- ---- what is built of the manifest that was put
module _ (o : Objects) (latest next : VersionedManifest) (is : latest_manifest o ≡ Some latest) (put : PutsKept o latest next) (skips : Bool) (lag : ℕ) (new : Follower) (answer : PollAnswer) where
  abbrev after : Objects
  after = changed (PutManifest next.id next.manifest) o

  abbrev read : ℕ
  read = last_read ManagedCheckpoint skips next after

  module _ (builds : Builds after ManagedCheckpoint skips lag next read (follower_under next new) answer) where
    logs : skips ≡ false → HasAllLogs after new answer
    logs reads = has-all after ManagedCheckpoint skips next builds.found (number new) new answer refl reads (ap (λ (f : Follower). f.mark) builds.becomes) builds.answers

    sees : (t : Option Objects) → IsSound o → SeesOwed (by_objects t) ManagedCheckpoint skips lag after (content o) (follower_under next new) answer
    sees t sound =
        let kept = put.keeps sound in
        let can : IsView ManagedCheckpoint false after next = (next, put-is o latest next sound is put.form, or-true next.manifest.initialized, refl) in
        subst (λ line. SeesOwed (by_objects t) ManagedCheckpoint skips lag after line (follower_under next new) answer) kept.1
        (builds-sees ManagedCheckpoint skips false lag after next read (can, refl) (follower_under next new) answer t kept.0 builds)

    pub built-latest : (t : Option Objects) (seen : Line → Type 0) → t ≡ Some o → SeesLatest (by_objects t) skips 0 (SeesOwed (by_objects t) ManagedCheckpoint skips lag) seen next after new answer
    built-latest t seen at = record {
      logs = λ reads _. logs reads;
      sees = λ line stored before.
          let same : stored.0 ≡ o = some-same stored.0 o (sym stored.1 ∙ at) in
          subst (λ l. SeesOwed (by_objects t) ManagedCheckpoint skips lag after l (follower_under next new) answer) (sym (stored.3 ∙ ap content same)) (sees t (subst IsSound same stored.2));
    }

-- ---- what is read of a manifest is read of one with other checkpoints
module _ (o o' : Objects) (latest latest' : VersionedManifest) (logs : o'.logs ≡ o.logs) (replayed : latest'.manifest.replay_after_wal_id ≡ latest.manifest.replay_after_wal_id) where
  lasts : (n : ℕ) → last_log n o ≡ last_log n o'
  lasts n = ap (λ ls. greatest n (map (λ (log : ℕ × List Batch). log.0) ls)) (sym logs)

  pub reads : (skips : Bool) → last_read ManagedCheckpoint skips latest o ≡ last_read ManagedCheckpoint skips latest' o'
  reads true = sym replayed
  reads false = ap (λ n. last_log n o) (sym replayed) ∙ lasts latest'.manifest.replay_after_wal_id

-- and what is seen
module _ (t : Option Objects) (o o' : Objects) (latest latest' : VersionedManifest) (logs : o'.logs ≡ o.logs) (tabled : latest'.manifest.last_l0_seq ≡ latest.manifest.last_l0_seq)
    (replayed : latest'.manifest.replay_after_wal_id ≡ latest.manifest.replay_after_wal_id) (new : Follower) (answer : PollAnswer) where
  seen-under : (mode : DbReaderMode) (skips : Bool) (lag : ℕ) (owed : Line) (mark : ℕ) → unsegmented (follower_under latest new) ≡ kept_follower (rebuilt mode skips lag latest owed mark) →
      unsegmented (follower_under latest' new) ≡ kept_follower (rebuilt mode skips lag latest' owed mark)
  seen-under mode skips lag owed mark same = ap (λ (f : Follower). record f { view = latest' }) same ∙ ap (λ n. rebuilt mode skips lag latest' (line_above n owed) mark) (sym tabled)

  sees-on : (skips : Bool) (lag : ℕ) (stored : Line) → SeesOwed (by_objects t) ManagedCheckpoint skips lag o stored (follower_under latest new) answer → SeesOwed (by_objects t) ManagedCheckpoint skips lag o' stored (follower_under latest' new) answer
  sees-on skips lag stored s = (
    s.0,
    owed-on skips s.1,
    seen-under ManagedCheckpoint skips lag s.0 (last_read ManagedCheckpoint skips latest o) s.2 ∙ ap (λ n. kept_follower (rebuilt ManagedCheckpoint skips lag latest' s.0 n)) (reads o o' latest latest' logs replayed skips),
    s.3,
  ) where
    owed-on : (skips : Bool) → IsOwed (by_objects t) ManagedCheckpoint skips o latest stored s.0 → IsOwed (by_objects t) ManagedCheckpoint skips o' latest' stored s.0
    owed-on true is = is ∙ ap (λ n. up_to n stored) (sym tabled)
    owed-on false is = is

  pub polled-on : (old : Follower) (stored : Line) → old.mode ≡ ManagedCheckpoint → SeesPolled (by_objects t) old o stored (follower_under latest new) answer → SeesPolled (by_objects t) old o' stored (follower_under latest' new) answer
  polled-on old stored managed (inl (s, catches)) =
      let here = subst (λ m. SeesOwed (by_objects t) m old.skips old.lag o stored (follower_under latest new) answer) managed s in
      inl (
        subst (λ m. SeesOwed (by_objects t) m old.skips old.lag o' stored (follower_under latest' new) answer) (sym managed) (sees-on old.skips old.lag stored here),
        subst (λ n. (old.lag ≡ 0) ⊎ ((old.skips ≡ true) ⊎ ((max (number old) n + old.lag < end stored) ⊎ (n < old.view.manifest.last_l0_seq)))) (sym tabled) catches,
      )
  polled-on old stored managed (inr s) =
      let near = s.near in
      let reached = s.reached in
      inr (record {
        reads = s.reads;
        may = s.may;
        near = subst (λ n. end stored ≤ max (number old) n + old.lag) (sym tabled) near;
        reached = subst (λ n. number new ≡ max (number old) n) (sym tabled) reached;
        sees = seen-under old.mode old.skips old.lag (up_to (number new) stored) new.mark s.sees;
        mark = ⊎_map (λ is. is ∙ ap (max old.mark) (sym replayed)) (λ (less, is). (subst (λ n. number old < n) (sym tabled) less, is ∙ sym replayed)) s.mark;
        answered = s.answered;
      })

  pub has-on : (answer : PollAnswer) → HasAllLogs o new answer → HasAllLogs o' new answer
  has-on (Whole at) all = let same = lasts o o' latest latest' logs replayed 0 in omega (arith, all, same)
  has-on (Truncated at) all = tt

-- ---- what was built, by the steps that built it
pub managed-is : (mode : DbReaderMode) → is_managed mode ≡ true → mode ≡ ManagedCheckpoint
managed-is ManagedCheckpoint is = refl
managed-is (Checkpoint id) is = absurd (cc)
managed-is FollowLatest is = absurd (cc)

-- a reader with a lease is in the mode that keeps a checkpoint
pub mode-leased : (mode : DbReaderMode) (held : Option Lease) (lease : Lease) → is_some held ≡ is_managed mode → held ≡ Some lease → mode ≡ ManagedCheckpoint
mode-leased mode held lease leased is = managed-is mode (sym leased ∙ ap is_some is)

module _ (plan : Plan Lease) (o : Objects) (mode : DbReaderMode) (skips : Bool) (lag : ℕ) (next : VersionedManifest) (reach : ℕ) (built new : Follower) (answer : PollAnswer) (given : Lease)
    (managed : mode ≡ ManagedCheckpoint) (builds : Builds o mode skips lag next reach built answer) (bare : built.lease ≡ None) (becomes : new ≡ record built { lease = Some given }) where
  view_is : new.view ≡ next
  view_is = ap (λ (f : Follower). f.view) becomes ∙ ap (λ (f : Follower). f.view) builds.becomes

  under_is : follower_under new.view new ≡ built
  under_is = ap (λ (f : Follower). follower_under f.view f) becomes ∙ ap (λ l. record built { lease = l }) (sym bare)

  pub builds-latest : reach ≡ last_read mode skips next o → plan ≡ Ok (Some next, given) → BuildsLatest plan skips lag o new answer
  builds-latest reach_is gives =
      let all = subst (λ n. Builds o mode skips lag next n built answer) reach_is builds in
      let in_mode = subst (λ m. Builds o m skips lag next (last_read m skips next o) built answer) managed all in
      let of_view = subst (λ v. Builds o ManagedCheckpoint skips lag v (last_read ManagedCheckpoint skips v o) built answer) (sym view_is) in_mode in
      record {
        given = given;
        puts = gives ∙ ap (λ v. Ok (Some v, given)) (sym view_is);
        builds = subst (λ f. Builds o ManagedCheckpoint skips lag new.view (last_read ManagedCheckpoint skips new.view o) f answer) (sym under_is) of_view;
      }
