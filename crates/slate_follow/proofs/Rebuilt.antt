-- What is built anew of a sound store sees all that it is owed.
use Rattle.std.proofs.Common.{◌≡◌, ℕ, ◌+◌, ◌≤◌, length, map, Bool, true, false, List, [], ◌∷◌, Option, Some, None, Ok, inl, inr, refl, sym, subst, ap, ◌∙◌, arith}
use Rattle.std.proofs.Math.Bool.{or-true}
use Rattle.std.specs.Option.{IfSome}
use Rattle.std.specs.Prelude.{◌⊎◌}
use Rattle.slate_types.specs.declared.batches.Batch.{Batch}
use Rattle.slate_types.specs.Line.{Line, end}
use Rattle.slate_store.specs.declared.objects.VersionedManifest.{VersionedManifest}
use Rattle.slate_store.specs.declared.reader_modes.DbReaderMode.{DbReaderMode}
use Rattle.slate_store.specs.declared.reader_modes.DbReaderMode.TheVariants as modes
use Rattle.slate_store.specs.Content.{IsSound, content, logged}
use Rattle.slate_store.specs.Objects.{Objects, greatest, last_log, latest_manifest}
use Rattle.slate_replay.proofs.Recovered.{recovered-all}
use Rattle.slate_replay.specs.Replay.{Replays}
use Rattle.slate_replay.specs.declared.replays.Replayed.{Replayed}
use Rattle.slate_replay.specs.declared.replays.Replayed.TheVariants as replays
use Rattle.slate_errors.specs.declared.errors.SlateError.{SlateError}
use Rattle.slate_errors.specs.declared.errors.SlateError.TheVariants as errors
use Rattle.slate_model.specs.Follow.{HasAllLogs, IsOwed, ReplayRefuses, SeesOwed}
use Rattle.slate_model.specs.Followed.{IsView, last_read}
use Rattle.slate_model.specs.Follower.{Follower, is_pinned, number, rebuilt, unsegmented}
use Rattle.slate_model.specs.Handle.{Handle, kept_handle, line_above}
use Rattle.slate_model.specs.Known.{IsContent}
use Rattle.slate_model.specs.Open.{mark_of, next_manifest, opened_handle, replayed}
use Rattle.slate_model.specs.Segments.{Extractor, ops_of, unsegmented_refusal}
use Rattle.slate_model.specs.Stores.{by_objects}
use Rattle.slate_model.proofs.Keeping.{line_above-end}
use Rattle.slate_model.proofs.Owing.{Owed, kept-is, owing}
use Rattle.slate_model.proofs.Reduced.{some-same}
use Rattle.slate_model.proofs.Reopened.{line_from, recovered, recovered-is}
use Rattle.slate_model.specs.declared.answers.PollAnswer.{PollAnswer}
use Rattle.slate_model.specs.declared.answers.PollAnswer.TheVariants.{Whole, Truncated}
use Rattle.slate_follow.specs.Rebuilding.{BuildLacks, Builds, FindsView, HasLogs, ReplaysView, WaitsWithTables, answer_of, reached}

-- The content of sound objects is kept, under their latest manifest, as what the log files have above its last number in
-- tables: as an opening of a handle keeps it.
module _ (o : Objects) (view : VersionedManifest) (sound : IsSound o) (is : latest_manifest o ≡ Some view) where
  abbrev next : VersionedManifest
  next = next_manifest None (Some view) (last_log view.manifest.replay_after_wal_id o)

  opened : recovered None true 0 [] next (logged o next.manifest) ≡ kept_handle (opened_handle None true 0 [] next (content o))
  opened =
      subst (λ x. let v = next_manifest None x (last_log (mark_of x) o) in recovered None true 0 [] v (logged o v.manifest) ≡ kept_handle (opened_handle None true 0 [] v (content o))) is
      (recovered-is None true 0 [] o sound)

  pub kept-line : line_from view.manifest.last_l0_seq (logged o view.manifest) ≡ line_above view.manifest.last_l0_seq (content o)
  kept-line = ap (λ (h : Handle). h.line) opened

  pub kept-end : view.manifest.last_l0_seq + length (logged o view.manifest) ≡ end (content o)
  kept-end = ap (λ (h : Handle). h.durable) opened

-- what a reader is owed doesn't hang on the store that its code knows
owed-any : (t : Option Objects) (o : Objects) (mode : DbReaderMode) (skips : Bool) (view : VersionedManifest) (stored owed : Line) →
    IsOwed (by_objects (Some o)) mode skips o view stored owed → IsOwed (by_objects t) mode skips o view stored owed
owed-any t o mode true view stored owed is = is
owed-any t o (modes.Checkpoint id) false view stored owed is = is
owed-any t o modes.FollowLatest false view stored owed is = is
owed-any t o modes.ManagedCheckpoint false view stored owed is = is

-- A reader that doesn't stay at a checkpoint and doesn't skip reads all log files, and is owed all that is stored.
module _ (o : Objects) (view : VersionedManifest) where
  all_read : (mode : DbReaderMode) → is_pinned mode ≡ false → last_read mode false view o ≡ last_log view.manifest.replay_after_wal_id o
  all_read (modes.Checkpoint id) free = absurd (cc)
  all_read modes.FollowLatest free = refl
  all_read modes.ManagedCheckpoint free = refl

  pub unpinned-last : (mode : DbReaderMode) (skips : Bool) → is_pinned mode ≡ false → skips ≡ false → last_read mode skips view o ≡ last_log view.manifest.replay_after_wal_id o
  unpinned-last mode skips free reads = ap (λ s. last_read mode s view o) reads ∙ all_read mode free

  owed_all : (t : Option Objects) (mode : DbReaderMode) (stored : Line) → is_pinned mode ≡ false → IsOwed (by_objects t) mode false o view stored stored
  owed_all t (modes.Checkpoint id) stored free = absurd (cc)
  owed_all t modes.FollowLatest stored free = refl
  owed_all t modes.ManagedCheckpoint stored free = refl

  pub unpinned-owed : (t : Option Objects) (mode : DbReaderMode) (skips : Bool) (stored : Line) → is_pinned mode ≡ false → skips ≡ false → IsOwed (by_objects t) mode skips o view stored stored
  unpinned-owed t mode skips stored free reads = subst (λ s. IsOwed (by_objects t) mode s o view stored stored) (sym reads) (owed_all t mode stored free)

-- the greatest of a number and others isn't below that of 0 and these
greatest-least : (n : ℕ) (xs : List ℕ) → greatest 0 xs ≤ greatest n xs
greatest-least n [] = omega arith
greatest-least n (x ∷ xs) = let rest = greatest-least n xs in omega (arith, rest)

-- a follower that was replayed to the last log file above one, and answers so, has them all
pub has-above : (o : Objects) (n : ℕ) (found : Replayed) (at : ℕ) (follower : Follower) (answer : PollAnswer) → follower.mark ≡ reached found (last_log n o) → answer ≡ answer_of found at → HasAllLogs o follower answer
has-above o n (replays.Truncated id) at follower answer mark answers = subst (HasAllLogs o follower) (sym answers) tt
has-above o n replays.Whole at follower answer mark answers =
    let least = greatest-least n (map (λ log. log.0) o.logs) in
    subst (HasAllLogs o follower) (sym answers) (omega (arith, mark, least))

-- and so has one that was replayed to the last log file that it reads
pub has-all : (o : Objects) (mode : DbReaderMode) (skips : Bool) (view : VersionedManifest) (found : Replayed) (at : ℕ) (follower : Follower) (answer : PollAnswer) → is_pinned mode ≡ false → skips ≡ false →
    follower.mark ≡ reached found (last_read mode skips view o) → answer ≡ answer_of found at → HasAllLogs o follower answer
has-all o mode skips view found at follower answer free reads mark answers =
    has-above o view.manifest.replay_after_wal_id found at follower answer (mark ∙ ap (reached found) (unpinned-last o view mode skips free reads)) answers

-- a reader that doesn't stay at a checkpoint goes by the latest manifest
pub latest-can : (o : Objects) (view : VersionedManifest) → latest_manifest o ≡ Some view → (mode : DbReaderMode) → is_pinned mode ≡ false → IsView mode false o view
latest-can o view is (modes.Checkpoint id) free = absurd (cc)
latest-can o view is modes.FollowLatest free = (view, is, or-true view.manifest.initialized, refl)
latest-can o view is modes.ManagedCheckpoint free = (view, is, or-true view.manifest.initialized, refl)

-- A follower that has the batches of a line that it is owed, those above the last number in tables, and that was replayed to the
-- last log file that it reads, sees what it is owed.
pub sees-kept : (t : Option Objects) (o : Objects) (mode : DbReaderMode) (skips : Bool) (lag : ℕ) (view : VersionedManifest) (stored owed : Line) (found : Replayed) (batches : List Batch) (follower : Follower) (answer : PollAnswer) →
    IsOwed (by_objects t) mode skips o view stored owed → line_from view.manifest.last_l0_seq batches ≡ line_above view.manifest.last_l0_seq owed → found ≡ replays.Whole →
    unsegmented follower ≡ rebuilt mode skips lag view (line_from view.manifest.last_l0_seq batches) (reached found (last_read mode skips view o)) → answer ≡ answer_of found (number follower) →
    SeesOwed (by_objects t) mode skips lag o stored follower answer
sees-kept t o mode skips lag view stored owed found batches follower answer is_owed line whole becomes answers =
    let floor = view.manifest.last_l0_seq in
    let last = last_read mode skips view o in
    let same : view ≡ follower.view = sym (ap (λ (f : Follower). f.view) becomes) in
    let ends : number follower ≡ end owed = ap number becomes ∙ (ap end line ∙ line_above-end floor owed) in
    let kept = becomes ∙ (ap (λ r. rebuilt mode skips lag view (line_from floor batches) (reached r last)) whole ∙ ap (λ l. rebuilt mode skips lag view l last) line) in (
      owed,
      subst (λ v. IsOwed (by_objects t) mode skips o v stored owed) same is_owed,
      kept ∙ ap (λ (v : VersionedManifest). rebuilt mode skips lag v (line_above v.manifest.last_l0_seq owed) (last_read mode skips v o)) same,
      answers ∙ (ap (λ r. answer_of r (number follower)) whole ∙ ap Whole ends),
    )

module _ (mode : DbReaderMode) (skips opening : Bool) (lag : ℕ) (o : Objects) (view : VersionedManifest) (last : ℕ) (can : FindsView mode skips opening o (Ok (view, last))) (follower : Follower) (answer : PollAnswer) where
  has_logs : (found : Replayed) (batches : List Batch) (at : ℕ) → Replays view.manifest.replay_after_wal_id last view.manifest.last_l0_seq [] batches o (Ok found) →
      HasLogs o (rebuilt mode skips lag view (line_from view.manifest.last_l0_seq batches) (reached found last)) (answer_of found at)
  has_logs replays.Whole batches at logs =
      let m = view.manifest in
      (subst (λ n. Replays m.replay_after_wal_id n m.last_l0_seq [] batches o (Ok replays.Whole)) can.1 logs, can.1)
  has_logs (replays.Truncated id) batches at logs =
      let m = view.manifest in
      (id, subst (λ n. Replays m.replay_after_wal_id n m.last_l0_seq [] batches o (Ok (replays.Truncated id))) can.1 logs, refl)

  logs-plain : (answer : PollAnswer) → HasLogs o (unsegmented follower) answer → HasLogs o follower answer
  logs-plain (Whole at) logs = logs
  logs-plain (Truncated at) logs = logs

  replays-plain : ReplaysView opening o (unsegmented follower) answer → ReplaysView opening o follower answer
  replays-plain r = record { view = r.view; floor = r.floor; logs = by r.logs }
    where
      by : HasLogs o (unsegmented follower) answer ⊎ ((opening ≡ false) × WaitsWithTables o (unsegmented follower) answer) → HasLogs o follower answer ⊎ ((opening ≡ false) × WaitsWithTables o follower answer)
      by (inl logs) = inl (logs-plain answer logs)
      by (inr (polls, w)) = inr (polls, record { none = w.none; mark = w.mark; may = w.may; waits = w.waits; answers = w.answers })

  -- what is built is a replay of the log files of the manifest that it goes by
  pub replays-view : Builds o mode skips lag view last follower answer → ReplaysView opening o follower answer
  replays-view built =
      let one = rebuilt mode skips lag view (line_from view.manifest.last_l0_seq built.batches) (reached built.found last) in
      replays-plain (subst (λ f. ReplaysView opening o f answer) (sym built.becomes)
      (record {
        view = can.0;
        floor = refl;
        logs = inl (subst (HasLogs o one) (sym built.answers) (has_logs built.found built.batches (number follower) built.logs));
      }))

  -- of sound objects the log files have what it is owed above the last number in tables
  pub replays-owed : (sound : IsSound o) → (batches : List Batch) (found : Replayed) → Replays view.manifest.replay_after_wal_id last view.manifest.last_l0_seq [] batches o (Ok found) →
      (line_from view.manifest.last_l0_seq batches ≡ line_above view.manifest.last_l0_seq (owing o mode skips opening view sound can.0).owed) × (found ≡ replays.Whole)
  replays-owed sound batches found logs =
      let m = view.manifest in
      let its : Owed o (content o) mode skips view = owing o mode skips opening view sound can.0 in
      let all = recovered-all m.replay_after_wal_id (last_read mode skips view o) m.last_l0_seq its.tables.rest batches o its.whole its.belong found
      (subst (λ n. Replays m.replay_after_wal_id n m.last_l0_seq [] batches o (Ok found)) can.1 logs) in
      (ap (line_from m.last_l0_seq) all.0 ∙ sym (kept-is o m its.owed its.tables its.numbered), all.1)

  -- and sees what it is owed of sound objects
  pub builds-sees : (t : Option Objects) → IsSound o → Builds o mode skips lag view last follower answer → SeesOwed (by_objects t) mode skips lag o (content o) follower answer
  builds-sees t sound built =
      let its : Owed o (content o) mode skips view = owing o mode skips opening view sound can.0 in
      let all = replays-owed sound built.batches built.found built.logs in
      let becomes = subst (λ n. unsegmented follower ≡ rebuilt mode skips lag view (line_from view.manifest.last_l0_seq built.batches) (reached built.found n)) can.1 built.becomes in
      sees-kept t o mode skips lag view (content o) its.owed built.found built.batches follower answer (owed-any t o mode skips view (content o) its.owed its.is_owed) all.0 all.1 becomes built.answers

  -- of whose keys the first without a segment is that of what is replayed
  pub builds-refuses : (t : Option Objects) (x : Option Extractor) (refusal : Option SlateError) → IsSound o → (batches : List Batch) (found : Replayed) → Replays view.manifest.replay_after_wal_id last view.manifest.last_l0_seq [] batches o (Ok found) →
      unsegmented_refusal x (ops_of batches) ≡ refusal → ReplayRefuses (by_objects t) x mode skips opening o (content o) refusal
  builds-refuses t x refusal sound batches found logs refused =
      let its : Owed o (content o) mode skips view = owing o mode skips opening view sound can.0 in
      let same : batches ≡ replayed view its.owed = ap (λ (l : Line). l.batches) (replays-owed sound batches found logs).0 in
      (view, its.owed, can.0, owed-any t o mode skips view (content o) its.owed its.is_owed, ap (λ bs. unsegmented_refusal x (ops_of bs)) (sym same) ∙ refused)

-- what holds of each that there is holds where there is one
pub if_some : {X : Type 0} {P : X → Type 0} (t : Option X) → ((x : X) → t ≡ Some x → P x) → IfSome t P
if_some None f = tt
if_some (Some x) f = f x refl

pub some_at : {X : Type 0} (P : X → Type 0) (t : Option X) (x : X) → t ≡ Some x → IfSome t P → P x
some_at P t x at h = subst (λ y. IfSome y P) at h

-- what holds of sound objects' content holds of the line that is stored
pub at_stored : {t : Option Objects} (P : Line → Type 0) (o : Objects) (stored : Line) → t ≡ Some o → IsContent t stored → (IsSound o → stored ≡ content o → P (content o)) → P stored
at_stored P o stored at content_is holds =
    let same : content_is.0 ≡ o = some-same content_is.0 o (sym content_is.1 ∙ at) in
    let line : stored ≡ content o = content_is.3 ∙ ap content same in
    subst P (sym line) (holds (subst IsSound same content_is.2) line)

-- what was found and built
module _ (mode : DbReaderMode) (skips opening : Bool) (lag : ℕ) (view : VersionedManifest) (last : ℕ) (follower : Follower) (answer : PollAnswer) {t t1 : Option Objects} (kept : t1 ≡ t)
    (found : IfSome t (λ o. FindsView mode skips opening o (Ok (view, last)))) (built : IfSome t1 (λ o. Builds o mode skips lag view last follower answer)) where
  found_at : (o : Objects) → t ≡ Some o → FindsView mode skips opening o (Ok (view, last))
  found_at o at = some_at (λ o. FindsView mode skips opening o (Ok (view, last))) t o at found

  built_at : (o : Objects) → t ≡ Some o → Builds o mode skips lag view last follower answer
  built_at o at = some_at (λ o. Builds o mode skips lag view last follower answer) t1 o (kept ∙ at) built

  pub built-view : (o : Objects) → t ≡ Some o → ReplaysView opening o follower answer
  built-view o at = replays-view mode skips opening lag o view last (found_at o at) follower answer (built_at o at)

  pub built-can : (o : Objects) → t ≡ Some o → IsView mode opening o follower.view
  built-can o at =
      let same : view ≡ follower.view = sym (ap (λ (f : Follower). f.view) (built_at o at).becomes) in
      subst (IsView mode opening o) same (found_at o at).0

  pub built-logs : (o : Objects) → t ≡ Some o → is_pinned mode ≡ false → skips ≡ false → HasAllLogs o follower answer
  built-logs o at free reads =
      let can = found_at o at in
      let built_it = built_at o at in
      let mark = ap (λ (f : Follower). f.mark) built_it.becomes ∙ ap (reached built_it.found) can.1 in
      has-all o mode skips view built_it.found (number follower) follower answer free reads mark built_it.answers

  pub built-sees : (o : Objects) (stored : Line) → t ≡ Some o → IsContent t stored → SeesOwed (by_objects t) mode skips lag o stored follower answer
  built-sees o stored at content_is =
      at_stored (λ l. SeesOwed (by_objects t) mode skips lag o l follower answer) o stored at content_is (λ sound _. builds-sees mode skips opening lag o view last (found_at o at) follower answer t sound (built_at o at))

  -- each key of which has a segment
  pub built-segmented : (x : Option Extractor) → unsegmented_refusal x (ops_of follower.line.batches) ≡ None → (o : Objects) (stored : Line) → t ≡ Some o → IsContent t stored → ReplayRefuses (by_objects t) x mode skips opening o stored None
  built-segmented x fits o stored at content_is =
      let built_it = built_at o at in
      let same : follower.line.batches ≡ built_it.batches = ap (λ (f : Follower). f.line.batches) built_it.becomes in
      at_stored (λ l. ReplayRefuses (by_objects t) x mode skips opening o l None) o stored at content_is
      (λ sound _. builds-refuses mode skips opening lag o view last (found_at o at) follower answer t x None sound built_it.batches built_it.found built_it.logs (ap (λ bs. unsegmented_refusal x (ops_of bs)) (sym same) ∙ fits))

-- what was found, and has a key without a segment
pub lacking-refuses : {t t1 : Option Objects} (x : Option Extractor) (mode : DbReaderMode) (skips opening : Bool) (view : VersionedManifest) (last : ℕ) (key : List ℕ) → t1 ≡ t → IfSome t (λ o. FindsView mode skips opening o (Ok (view, last))) → IfSome t1 (λ o. BuildLacks x o view last key) →
    (o : Objects) (stored : Line) → t ≡ Some o → IsContent t stored → ReplayRefuses (by_objects t) x mode skips opening o stored (Some (errors.EmptySegmentPrefix key))
lacking-refuses {t} {t1} x mode skips opening view last key kept found lacks o stored at content_is =
    let can = some_at (λ o. FindsView mode skips opening o (Ok (view, last))) t o at found in
    let l = some_at (λ o. BuildLacks x o view last key) t1 o (kept ∙ at) lacks in
    let refusal = Some (errors.EmptySegmentPrefix key) in
    let plain = rebuilt mode skips 0 view (line_from view.manifest.last_l0_seq l.0) last in
    at_stored (λ s. ReplayRefuses (by_objects t) x mode skips opening o s refusal) o stored at content_is (λ sound _. builds-refuses mode skips opening 0 o view last can plain (Whole 0) t x refusal sound l.0 l.1 l.2 l.3)
