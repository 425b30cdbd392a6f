-- Objects stay sound when a log file is stored that goes on from their content.
use Rattle.slate_store.proofs.Entries.{absent, insert-last}
use Rattle.slate_store.proofs.Gapless.{gapless-greatest}
use Rattle.slate_store.proofs.Kept.{log-keeps, logs-kept, pinned-kept, pinned-reads, pins-after, tables-kept}
use Rattle.slate_store.proofs.LastLog.{at_least}
use Rattle.slate_store.proofs.Latest.{all-at_most, its-objects, rising-push}
use Rattle.slate_store.specs.Content.{AreGapless, IdsRise, HasItsObjects, IsPinned, IsSound, KeepsPins, ReadsSame, content, content_by, logged, logs_above, number_before, table_batches}
use Rattle.slate_store.specs.Objects.{Objects, PutLog, changed, last_log, latest_manifest}
use Rattle.slate_store.specs.declared.objects.Checkpoint.{Checkpoint}
use Rattle.slate_store.specs.declared.objects.Manifest.{Manifest}
use Rattle.slate_store.specs.declared.objects.VersionedManifest.{VersionedManifest}
use Rattle.slate_types.proofs.Lines.{above-all}
use Rattle.slate_types.specs.Line.{AreNumberedFrom, IsLine, IsPrefix, batches_above, end, extended}
use Rattle.slate_types.specs.declared.batches.Batch.{Batch}
use Rattle.std.proofs.Common.{◌++◌, ◌+◌, ◌<◌, ◌∙◌, ◌∷◌, ◌≡◌, [], List, Some, ap, append_assoc, arith, cond, length, length-append, ltb, map, refl, subst, sym, true, ℕ}
use Rattle.std.proofs.lemmas.Bool.{lt-ltb}
use Rattle.std.proofs.lemmas.Grind.{flat_map-append}
use Rattle.std.proofs.lemmas.List.Elements.{All-weaker, filter-append}
use Rattle.std.proofs.lemmas.List.{append-nil, length-map, map-append}
use Rattle.std.specs.List.{filter, flat_map}
use Rattle.std.specs.Option.{IfSome}

-- a line goes on by batches that are numbered from its end on
pub numbered-append : (floor : ℕ) (xs ys : List Batch) → AreNumberedFrom floor xs → AreNumberedFrom (floor + length xs) ys → AreNumberedFrom floor (xs ++ ys)
numbered-append floor [] ys h k = subst (λ n. AreNumberedFrom n ys) (omega arith) k
numbered-append floor (x ∷ xs) ys h k =
    (h.0, numbered-append (floor + 1) xs ys h.1 (let e : floor + length (x ∷ xs) ≡ (floor + 1) + length xs = omega arith in subst (λ n. AreNumberedFrom n ys) e k))

-- ids without gaps go on by the next one
pub gapless-push : (before : ℕ) (ids : List ℕ) (id : ℕ) → AreGapless before ids → id ≡ before + length ids + 1 → AreGapless before (ids ++ id ∷ [])
gapless-push before [] id h next = (omega arith, tt)
gapless-push before (x ∷ ids) id h next = (h.0, gapless-push x ids id h.1 (let first : x ≡ before + 1 = h.0 in omega arith))

-- the objects after a put of the next log file
abbrev pub with_log : Objects → Manifest → List Batch → Objects
with_log o m bs = changed (PutLog (last_log m.replay_after_wal_id o + 1) bs) o

module _ (o : Objects) (m : Manifest) (bs : List Batch) where
  -- the next log file goes to the end
  pub logs-after : (with_log o m bs).logs ≡ o.logs ++ (last_log m.replay_after_wal_id o + 1, bs) ∷ []
  logs-after = insert-last (last_log m.replay_after_wal_id o + 1) m.replay_after_wal_id bs o.logs (omega arith)

  pub above-after : logs_above m.replay_after_wal_id (with_log o m bs) ≡ logs_above m.replay_after_wal_id o ++ (last_log m.replay_after_wal_id o + 1, bs) ∷ []
  above-after =
      let next = last_log m.replay_after_wal_id o + 1 in
      let over : m.replay_after_wal_id < next = let h = at_least m.replay_after_wal_id (map (λ e. e.0) o.logs) in omega arith in
      let yes : ltb m.replay_after_wal_id next ≡ true = lt-ltb m.replay_after_wal_id next over in
      ap (filter (λ log. ltb m.replay_after_wal_id log.0)) logs-after
      ∙ (filter-append (λ log. ltb m.replay_after_wal_id log.0) o.logs ((next, bs) ∷ []) ∙ ap (λ b. logs_above m.replay_after_wal_id o ++ cond b ((next, bs) ∷ []) []) yes)

  logged-after : logged (with_log o m bs) m ≡ logged o m ++ batches_above m.last_l0_seq bs
  logged-after =
      let next = last_log m.replay_after_wal_id o + 1 in
      let olds = flat_map (λ log. log.1) (logs_above m.replay_after_wal_id o) in
      let news : flat_map (λ log. log.1) (logs_above m.replay_after_wal_id (with_log o m bs)) ≡ olds ++ (bs ++ []) =
      ap (flat_map (λ log. log.1)) above-after ∙ flat_map-append (λ log. log.1) (logs_above m.replay_after_wal_id o) ((next, bs) ∷ []) in
      ap (batches_above m.last_l0_seq) (news ∙ ap (λ xs. olds ++ xs) (append-nil bs))
      ∙ filter-append (λ b. ltb m.last_l0_seq b.number) olds bs

  gapless-after : AreGapless m.replay_after_wal_id (map (λ log. log.0) (logs_above m.replay_after_wal_id o)) → AreGapless m.replay_after_wal_id (map (λ log. log.0) (logs_above m.replay_after_wal_id (with_log o m bs)))
  gapless-after gapless =
      let ids = map (λ log. log.0) (logs_above m.replay_after_wal_id o) in
      let next = last_log m.replay_after_wal_id o + 1 in
      let last = gapless-greatest m.replay_after_wal_id m.replay_after_wal_id o.logs (omega arith) gapless in
      let ids-after : map (λ log. log.0) (logs_above m.replay_after_wal_id (with_log o m bs)) ≡ ids ++ next ∷ [] =
      ap (map (λ log. log.0)) above-after ∙ map-append (λ log. log.0) (logs_above m.replay_after_wal_id o) ((next, bs) ∷ []) in
      let count = length-map (logs_above m.replay_after_wal_id o) (λ log. log.0) in
      subst (AreGapless m.replay_after_wal_id) (sym ids-after) (gapless-push m.replay_after_wal_id ids next gapless (omega (arith, last, count)))

-- Storing batches that go on from the content keeps objects sound, and what checkpoints keep, and appends them to the
-- content.
pub record Appended (o : Objects) (bs : List Batch) (o' : Objects) : Type 0 where
  pub sound : IsSound o'
  pub content : content o' ≡ extended (content o) bs
  pub latest : latest_manifest o' ≡ latest_manifest o
  pub pins : KeepsPins o o'

module _ (o : Objects) (latest : VersionedManifest) (bs : List Batch) (sound : IsSound o) (is : latest_manifest o ≡ Some latest) where
  content-is : content o ≡ content_by o (Some latest)
  content-is = ap (content_by o) is

  content-after : AreNumberedFrom (end (content o)) bs → content (with_log o latest.manifest bs) ≡ extended (content o) bs
  content-after next =
      let m = latest.manifest in
      let joined = table_batches o m.tables in
      let tables = (its-objects o latest sound is).tables.joined in
      let after-is : content (with_log o m bs) ≡ content_by (with_log o m bs) (Some latest) = ap (content_by (with_log o m bs)) is in
      let end_is : end (content o) ≡ m.last_l0_seq + length (logged o m) =
      ap end content-is ∙ (let t = tables in let l = length-append joined (logged o m) in omega (arith, t, l)) in
      let fresh : batches_above m.last_l0_seq bs ≡ bs = above-all (end (content o)) m.last_l0_seq bs next (omega (arith, end_is)) in
      after-is
      ∙ (ap (λ xs. record { floor = number_before joined m.last_l0_seq; batches = joined ++ xs }) (logged-after o m bs ∙ ap (λ xs. logged o m ++ xs) fresh)
      ∙ (ap (λ xs. record { floor = number_before joined m.last_l0_seq; batches = xs }) (sym (append_assoc joined (logged o m) bs))
      ∙ ap (λ l. extended l bs) (sym content-is)))

  -- to store batches as the next log file
  pub appended : AreNumberedFrom (end (content o)) bs → Appended o bs (with_log o latest.manifest bs)
  appended next =
      let m = latest.manifest in
      let id = last_log m.replay_after_wal_id o + 1 in
      let o1 = with_log o m bs in
      let its = its-objects o latest sound is in
      let after = content-after next in
      let free = absent id m.replay_after_wal_id o.logs (omega arith) in
      let begins : IsPrefix (content_by o (Some latest)) (content_by o1 (Some latest)) =
      (bs, sym (ap (content_by o1) is) ∙ (after ∙ ap (λ l. extended l bs) content-is)) in
      let pinned = λ (checkpoint : Checkpoint) (pinned : IsPinned o latest checkpoint).
      pinned-kept o o1 latest latest checkpoint pinned (log-keeps o pinned.manifest id bs pinned.logs free) refl (omega arith) begins in
      let reads = λ (checkpoint : Checkpoint) (pinned : IsPinned o latest checkpoint).
      pinned-reads o o1 latest checkpoint pinned (log-keeps o pinned.manifest id bs pinned.logs free) refl in
      let keeps = log-keeps o m id bs its.logs free in
      let rising = rising-push (last_log m.replay_after_wal_id o) id (map (λ e. e.0) o.logs) sound.logs (all-at_most m.replay_after_wal_id (map (λ e. e.0) o.logs)) (omega arith) in
      let objects : HasItsObjects o1 latest =
      record {
        tables = tables-kept keeps its.tables;
        logs = logs-kept keeps its.logs;
        gapless = gapless-after o m bs its.gapless;
        epochs = its.epochs;
        differ = its.differ;
        pinned = λ k d less. pinned _ (its.pinned k d less);
      } in
      record {
        sound = record {
          manifests = sound.manifests;
          logs = subst IdsRise (sym (ap (map (λ e. e.0)) (logs-after o m bs) ∙ map-append (λ e. e.0) o.logs ((id, bs) ∷ []))) rising;
          tables = sound.tables;
          nothing = λ none. absurd (cc (none, is));
          line = subst IsLine (sym after) (numbered-append (content o).floor (content o).batches bs sound.line next);
          latest = subst (λ x. IfSome x (HasItsObjects o1)) (sym is) objects;
        };
        content = after;
        latest = refl;
        pins = pins-after o o1 latest is (All-weaker (IsPinned o latest) (ReadsSame o o1) reads m.checkpoints its.pinned);
      }
