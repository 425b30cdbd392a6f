-- What a reader sees that takes what is new, and stays at the manifest that it goes by.
use Rattle.std.proofs.Common.{◌≡◌, ℕ, ◌<◌, ◌≤◌, max, inl, inr, List, [], ◌++◌, Option, Some, Bool, true, false, refl, sym, ap, subst, ◌∙◌, arith}
use Rattle.std.proofs.Math.Bool.{or-true}
use Rattle.std.proofs.lemmas.Bool.{and_parts, eqb-true, not-false}
use Rattle.slate_types.specs.Line.{IsPrefix, Line, batches_above}
use Rattle.slate_types.specs.declared.batches.Batch.{Batch}
use Rattle.slate_store.specs.Content.{IsSound, content}
use Rattle.slate_store.specs.Objects.{Objects, PutManifest, changed, last_log, latest_manifest}
use Rattle.slate_store.specs.declared.objects.VersionedManifest.{VersionedManifest}
use Rattle.slate_store.specs.declared.reader_modes.DbReaderMode.{DbReaderMode}
use Rattle.slate_store.specs.declared.reader_modes.DbReaderMode.TheVariants.{ManagedCheckpoint}
use Rattle.slate_replay.specs.Replay.{line_of}
use Rattle.slate_replay.specs.declared.replays.Replayed.{Replayed}
use Rattle.slate_replay.specs.declared.replays.Replayed.TheVariants.{Whole}
use Rattle.slate_model.proofs.Reduced.{some-same}
use Rattle.slate_model.specs.Follow.{HasAllLogs, LacksSegment, SeesPolled}
use Rattle.slate_model.specs.Segments.{Extractor}
use Rattle.slate_model.specs.Followed.{IsView, last_read}
use Rattle.slate_model.specs.Follower.{Follower, is_pinned, number, rebuilt, unsegmented}
use Rattle.slate_model.specs.Handle.{line_above}
use Rattle.slate_model.specs.Lease.{differs}
use Rattle.slate_model.specs.Managed.{SeesLatest, follower_under}
use Rattle.slate_model.specs.Stores.{by_objects, kept_seen}
use Rattle.slate_model.specs.declared.answers.PollAnswer.{PollAnswer}
use Rattle.slate_model.specs.declared.answers.PollAnswer.TheVariants as answers
use Rattle.slate_model.specs.declared.leases.Lease.{Lease}
use Rattle.slate_follow.specs.Keeping.{IsNews, informed}
use Rattle.slate_follow.specs.Rebuilding.{Builds, GoesOn, Reaches, TakesUnder, TakingLacks, answer_of, followed, reached}
use Rattle.slate_follow.proofs.Continued.{all-taken, goes-sees, took-logs, took-refuses, took-sees}
use Rattle.slate_follow.proofs.Later.{nothing-replayed}
use Rattle.slate_follow.proofs.Leased.{PutsKept, has-on, polled-on, put-is}
use Rattle.slate_follow.proofs.Rebuilt.{builds-sees, has-above}

-- a manifest that doesn't differ from a view ends its tables where the view does
pub tabled-same : (view latest : VersionedManifest) → differs view latest ≡ false → view.manifest.last_l0_seq ≡ latest.manifest.last_l0_seq
tabled-same view latest same =
    let all = not-false _ same in
    eqb-true view.manifest.last_l0_seq latest.manifest.last_l0_seq ((and_parts _ _ ((and_parts _ _ all).0)).1)

module _ (o : Objects) (latest : VersionedManifest) (is : latest_manifest o ≡ Some latest) (old : Follower) (managed : old.mode ≡ ManagedCheckpoint) (same : differs old.view latest ≡ false)
    (floor : old.line.floor ≡ old.view.manifest.last_l0_seq) (added : List Batch) (found : Replayed) (mark : ℕ) (lease : Option Lease) (new : Follower) (answer : PollAnswer) (answers : answer ≡ answer_of found (number new)) where
  tabled : old.view.manifest.last_l0_seq ≡ latest.manifest.last_l0_seq
  tabled = tabled-same old.view latest same

  free : is_pinned old.mode ≡ false
  free = ap is_pinned managed

  can : (mode : DbReaderMode) → mode ≡ ManagedCheckpoint → IsView mode false o latest
  can mode is_managed = subst (λ m. IsView m false o latest) (sym is_managed) (latest, is, or-true latest.manifest.initialized, refl)

  reaches : Reaches old latest
  reaches = let e = tabled in (omega (arith, e), omega (arith, e, floor))

  -- one that skips log files has the tables alone
  module _ (skipping : old.skips ≡ true) (news : IsNews o old latest true added found mark) (becomes : unsegmented new ≡ record (informed old true added mark) { lease = lease }) where
    built : Builds o old.mode old.skips old.lag latest latest.manifest.replay_after_wal_id (follower_under latest new) answer
    built = record {
      batches = [];
      found = Whole;
      logs = nothing-replayed latest.manifest.replay_after_wal_id latest.manifest.last_l0_seq o;
      becomes = ap (follower_under latest) becomes
          ∙ (ap (λ n. rebuilt old.mode old.skips old.lag latest (line_of n []) mark) tabled
          ∙ ap (λ n. rebuilt old.mode old.skips old.lag latest (line_of latest.manifest.last_l0_seq []) n) news.2);
      answers = answers ∙ ap (λ f. answer_of f (number new)) news.1;
    }

    pub skipping-sees : (t : Option Objects) → IsSound o → SeesPolled (by_objects t) old o (content o) (follower_under latest new) answer
    skipping-sees t sound =
        let last : latest.manifest.replay_after_wal_id ≡ last_read old.mode old.skips latest o = ap (λ s. last_read old.mode s latest o) (sym skipping) in
        inl (builds-sees old.mode old.skips false old.lag o latest latest.manifest.replay_after_wal_id (can old.mode managed, last) (follower_under latest new) answer t sound built, inr (inl skipping))

  -- one that reads them goes on
  module _ (reading : old.skips ≡ false) (news : IsNews o old latest false added found mark) (becomes : unsegmented new ≡ record (informed old false added mark) { lease = lease }) where
    goes : GoesOn o latest news.0 old (follower_under latest new) answer
    goes = record {
      added = added;
      found = found;
      logs = news.2;
      becomes = ap (follower_under latest) becomes
          ∙ (ap (λ n. rebuilt old.mode old.skips old.lag latest (line_of n (batches_above n (old.line.batches ++ added))) mark) tabled
          ∙ ap (followed old latest added) news.3);
      answers = answers;
    }

    pub reading-sees : (t : Option Objects) → IsSound o → kept_seen old o (content o) → SeesPolled (by_objects t) old o (content o) (follower_under latest new) answer
    reading-sees t sound seen = goes-sees t o latest news.0 old (follower_under latest new) answer reading free sound is seen reaches news.1 goes

    pub reading-logs : old.lag ≡ 0 → HasAllLogs o new answer
    reading-logs none =
        let from = max old.mark latest.manifest.replay_after_wal_id in
        has-above o from found (number new) new answer (ap (λ (f : Follower). f.mark) becomes ∙ (news.3 ∙ ap (reached found) (all-taken o old.lag (number old) from news.0 none news.1))) answers

-- what it sees after that, where a manifest with other checkpoints may be put
module _ (o o' : Objects) (latest latest' : VersionedManifest) (is : latest_manifest o ≡ Some latest) (logs : o'.logs ≡ o.logs) (tables : latest'.manifest.last_l0_seq ≡ latest.manifest.last_l0_seq)
    (replayed : latest'.manifest.replay_after_wal_id ≡ latest.manifest.replay_after_wal_id) (old : Follower) (managed : old.mode ≡ ManagedCheckpoint) (same : differs old.view latest ≡ false)
    (floor : old.line.floor ≡ old.view.manifest.last_l0_seq) (added : List Batch) (found : Replayed) (mark : ℕ) (lease : Option Lease) (new : Follower) (answer : PollAnswer) (answers : answer ≡ answer_of found (number new)) (t : Option Objects) (at : t ≡ Some o) where
  sees-by : (skips : Bool) → old.skips ≡ skips → IsNews o old latest skips added found mark → unsegmented new ≡ record (informed old skips added mark) { lease = lease } → IsSound o → kept_seen old o (content o) →
      SeesPolled (by_objects t) old o (content o) (follower_under latest new) answer
  sees-by true is_skips news becomes sound seen = skipping-sees o latest is old managed same floor added found mark lease new answer answers is_skips news becomes t sound
  sees-by false is_skips news becomes sound seen = reading-sees o latest is old managed same floor added found mark lease new answer answers is_skips news becomes t sound seen

  logs-by : (skips : Bool) → old.skips ≡ skips → IsNews o old latest skips added found mark → unsegmented new ≡ record (informed old skips added mark) { lease = lease } → skips ≡ false → old.lag ≡ 0 → HasAllLogs o' new answer
  logs-by true is_skips news becomes reading none = absurd (cc)
  logs-by false is_skips news becomes reading none =
      has-on t o o' latest latest' logs tables replayed new answer answer (reading-logs o latest is old managed same floor added found mark lease new answer answers is_skips news becomes none)

  pub informed-sees : IsNews o old latest old.skips added found mark → unsegmented new ≡ record (informed old old.skips added mark) { lease = lease } → SeesLatest (by_objects t) old.skips old.lag (SeesPolled (by_objects t) old) (kept_seen old o) latest' o' new answer
  informed-sees news becomes = record {
    logs = logs-by old.skips refl news becomes;
    sees = λ line stored seen.
        let content_is = stored in
        let whole : content_is.0 ≡ o = some-same content_is.0 o (sym content_is.1 ∙ at) in
        let line_is : line ≡ content o = content_is.3 ∙ ap content whole in
        polled-on t o o' latest latest' logs tables replayed new answer old line managed
        (subst (λ l. SeesPolled (by_objects t) old o l (follower_under latest new) answer) (sym line_is)
        (sees-by old.skips refl news becomes (subst IsSound whole content_is.2) (subst (kept_seen old o) line_is seen)));
  }

-- the manifest that it goes by is no matter of what it has seen, where the tables end as before
pub under-seen : (o : Objects) (line : Line) (latest : VersionedManifest) (f : Follower) → f.view.manifest.last_l0_seq ≡ latest.manifest.last_l0_seq → kept_seen (follower_under latest f) o line → kept_seen f o line
under-seen o line latest f tabled (w, is, begins, has) =
    let view : w.view ≡ latest = sym (ap (λ (x : Follower). x.view) is) in
    let tables : w.view.manifest.last_l0_seq ≡ f.view.manifest.last_l0_seq = ap (λ (v : VersionedManifest). v.manifest.last_l0_seq) view ∙ sym tabled in (
      record w { view = f.view; lease = f.lease },
      ap (λ (x : Follower). record x { view = f.view; lease = f.lease }) is ∙ ap (λ n. record w { view = f.view; lease = f.lease; line = line_above n w.line }) tables,
      begins,
      record { mark = has.mark; logs = has.logs },
    )

-- ---- what a reader takes of a manifest that was put after the latest one
had-under : (o : Objects) (view : VersionedManifest) (f : Follower) (answer : PollAnswer) → HasAllLogs o (follower_under view f) answer → HasAllLogs o f answer
had-under o view f (answers.Whole at) all = all
had-under o view f (answers.Truncated at) all = tt

module _ (o : Objects) (latest next : VersionedManifest) (is : latest_manifest o ≡ Some latest) (put : PutsKept o latest next) (old : Follower) (managed : old.mode ≡ ManagedCheckpoint) where
  abbrev after : Objects
  after = changed (PutManifest next.id next.manifest) o

  unpinned : is_pinned old.mode ≡ false
  unpinned = ap is_pinned managed

  -- it has seen the log files as before
  pub seen-after : IsSound o → kept_seen old o (content o) → kept_seen old after (content after)
  seen-after sound (w, same, begins, has) =
      let next_is = put-is o latest next sound is put.form in
      let marks : (v : VersionedManifest) → latest_manifest after ≡ Some v → v.manifest.replay_after_wal_id ≡ latest.manifest.replay_after_wal_id =
      λ v at. ap (λ (v : VersionedManifest). v.manifest.replay_after_wal_id) (some-same v next (sym at ∙ next_is) ∙ put.form.1) in (
        w,
        same,
        subst (IsPrefix w.line) (sym (put.keeps sound).1) begins,
        record {
          mark = λ v at. subst (λ n. w.mark ≤ last_log n after) (sym (marks v at)) (has.mark latest is);
          logs = λ v id bs at over within stored. has.logs latest id bs is (subst (λ n. n < id) (marks v at) over) within stored;
        },
      )

  -- and sees what it is to, of the line that was stored before as before
  pub taken-latest : (new : Follower) (answer : PollAnswer) → TakesUnder after next old (follower_under next new) answer → (t : Option Objects) → t ≡ Some o →
      SeesLatest (by_objects t) old.skips old.lag (SeesPolled (by_objects t) old) (kept_seen old o) next after new answer
  taken-latest new answer takes t at = record {
    logs = λ reads none. had-under after next new answer (took-logs after next old (follower_under next new) answer unpinned reads none takes);
    sees = λ line stored before.
        let same : stored.0 ≡ o = some-same stored.0 o (sym stored.1 ∙ at) in
        let sound : IsSound o = subst IsSound same stored.2 in
        let line_is : line ≡ content o = stored.3 ∙ ap content same in
        let kept = put.keeps sound in
        let seen = seen-after sound (subst (kept_seen old o) line_is before) in
        let all = took-sees after next (put-is o latest next sound is put.form) old (follower_under next new) answer unpinned t kept.0 (λ _. seen) takes in
        subst (λ l. SeesPolled (by_objects t) old after l (follower_under next new) answer) (kept.1 ∙ sym line_is) all;
  }

  -- or a key that it takes has no segment
  pub taken-lacking : (t : Option Objects) (x : Option Extractor) → IsSound o → kept_seen old o (content o) → TakingLacks x after next old → LacksSegment (by_objects t) x ManagedCheckpoint old.skips false after (content o)
  taken-lacking t x sound seen lacks =
      let kept = put.keeps sound in
      let all = took-refuses after next (put-is o latest next sound is put.form) old old (answers.Whole 0) unpinned t x kept.0 (λ _. seen-after sound seen) lacks in
      subst (λ l. LacksSegment (by_objects t) x ManagedCheckpoint old.skips false after l) kept.1 (subst (λ m. LacksSegment (by_objects t) x m old.skips false after (content after)) managed all)
