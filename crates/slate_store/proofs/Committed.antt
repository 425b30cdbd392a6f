-- Objects stay sound when a manifest is put after the latest one.
use Rattle.slate_store.proofs.Entries.{absent, apart, insert-last, last-push, lookup-insert_other, lookup-insert_same}
use Rattle.slate_store.proofs.Gapless.{between-front, gapless-greatest}
use Rattle.slate_store.proofs.Kept.{Stays, logs-kept, manifest-keeps, pinned-kept, pins-after, tables-kept}
use Rattle.slate_store.proofs.Latest.{all-greatest, ids-within, its-objects, rising-push}
use Rattle.slate_store.specs.Checkpoints.{checkpoint_id}
use Rattle.slate_store.specs.Content.{AreGapless, IdsRise, HasItsLogs, HasItsObjects, HasItsTables, IsPinned, IsSound, ReadsSame, content, content_by, logged, logs_above, number_before, pinned_content, table_batches}
use Rattle.slate_store.specs.Logs.{batches_between}
use Rattle.slate_store.specs.Objects.{Objects, PutManifest, changed, entry_at, last, latest_manifest, log_at, versioned}
use Rattle.slate_store.specs.declared.objects.Checkpoint.{Checkpoint}
use Rattle.slate_store.specs.declared.objects.Manifest.{Manifest}
use Rattle.slate_store.specs.declared.objects.VersionedManifest.{VersionedManifest}
use Rattle.slate_types.specs.Line.{IsLine, IsPrefix, batches_above}
use Rattle.slate_types.specs.declared.batches.Batch.{Batch}
use Rattle.std.proofs.Common.{◌++◌, ◌+◌, ◌-◌, ◌∙◌, ◌∷◌, ◌≡◌, ◌≤◌, ◌⊎◌, [], List, None, Some, ap, append_assoc, arith, drop, inl, inr, length, ltb, map, refl, subst, sym, take, ℕ}
use Rattle.std.proofs.lemmas.Bool.{cases_lt}
use Rattle.std.proofs.lemmas.Cmp.{nat_cmp_total}
use Rattle.std.proofs.lemmas.Grind.{flat_map-append}
use Rattle.std.proofs.lemmas.List.Elements.{All-weaker, filter-append}
use Rattle.std.proofs.lemmas.List.{map-append, take-append-drop}
use Rattle.std.specs.List.{All, IsDistinct, flat_map, slice_index_or}
use Rattle.std.specs.Option.{IfSome, option_map}
use Rattle.std.specs.Prelude.{nat_eq}

-- A checkpoint of the next manifest is pinned already, or keeps that manifest.
abbrev pub IsKeptOn : Objects → VersionedManifest → Checkpoint → Type 0
IsKeptOn o latest checkpoint = IsPinned o latest checkpoint ⊎ ((checkpoint.id ≡ checkpoint_id checkpoint.manifest_id) × (checkpoint.manifest_id ≡ latest.id + 1))

-- the manifest after the latest one
abbrev pub after : VersionedManifest → Manifest → VersionedManifest
after latest m = record { id = latest.id + 1; manifest = m }

-- A manifest may be put after the latest one: it has its tables and log files, these without a gap, its epoch isn't
-- lower, what it names is a line that the content begins, and its checkpoints differ and are kept on.
pub record MayFollow (o : Objects) (latest : VersionedManifest) (m : Manifest) : Type 0 where
  pub tables : HasItsTables o m
  pub logs : HasItsLogs o m
  pub gapless : AreGapless m.replay_after_wal_id (map (λ log. log.0) (logs_above m.replay_after_wal_id o))
  pub epoch : latest.manifest.writer_epoch ≤ m.writer_epoch
  pub line : IsLine (content_by o (Some (after latest m)))
  pub begins : IsPrefix (content_by o (Some latest)) (content_by o (Some (after latest m)))
  pub differ : IsDistinct nat_eq (map (λ checkpoint. checkpoint.manifest_id) m.checkpoints)
  pub checkpoints : All (IsKeptOn o latest) m.checkpoints

-- What the put leaves: the content by that manifest, which is the latest one; and checkpoints keep what they kept.
pub record Committed (o : Objects) (next : VersionedManifest) (o' : Objects) : Type 0 where
  pub sound : IsSound o'
  pub latest : latest_manifest o' ≡ Some next
  pub content : content o' ≡ content_by o (Some next)
  pub pins : (checkpoints : List Checkpoint) → All (ReadsSame o o') checkpoints

-- ---- the log files of a manifest at the moment of its put are the first of those above its mark
between-begins : (mark i : ℕ) (o : Objects) → AreGapless mark (map (λ log. log.0) (logs_above mark o)) → i ≤ length (logs_above mark o) → flat_map (λ log. log.1) (logs_above mark o) ≡ batches_between mark (mark + i) o ++ flat_map (λ log. log.1) (drop i (logs_above mark o))
between-begins mark i o gapless low =
    ap (flat_map (λ log. log.1)) (sym (take-append-drop i (logs_above mark o)))
    ∙ (flat_map-append (λ log. log.1) (take i (logs_above mark o)) (drop i (logs_above mark o))
    ∙ ap (λ bs. bs ++ flat_map (λ log. log.1) (drop i (logs_above mark o))) (sym (between-front mark o gapless i low)))

-- where ids go on without a gap, no log file is stored past them
pub stored-within : (o : Objects) (m : Manifest) → HasItsLogs o m → AreGapless m.replay_after_wal_id (map (λ log. log.0) (logs_above m.replay_after_wal_id o)) → m.next_wal_id ≤ m.replay_after_wal_id + length (logs_above m.replay_after_wal_id o) + 1
stored-within o m has gapless =
    elim (cases_lt (m.replay_after_wal_id + length (logs_above m.replay_after_wal_id o) + 1) m.next_wal_id) [
      | inl past ↦
          let mark = m.replay_after_wal_id in
          let id = mark + length (logs_above mark o) + 1 in
          let none : log_at id o ≡ None = absent-above o mark gapless in
          absurd (has.stored id (omega arith) past none)
      | inr within ↦ within
    ] where
      absent-above : (o : Objects) (mark : ℕ) → AreGapless mark (map (λ log. log.0) (logs_above mark o)) → log_at (mark + length (logs_above mark o) + 1) o ≡ None
      absent-above o mark gapless =
          let count = gapless-greatest mark mark o.logs (omega arith) gapless in
          absent (mark + length (logs_above mark o) + 1) mark o.logs (omega (arith, count))

-- a line begins one with more batches
prefix-more : (floor : ℕ) (joined front later all : List Batch) → all ≡ front ++ later → IsPrefix (record { floor = floor; batches = joined ++ front }) (record { floor = floor; batches = joined ++ all })
prefix-more floor joined front later all parts = (later, ap (λ bs. record { floor = floor; batches = bs }) (ap (λ bs. joined ++ bs) parts ∙ sym (append_assoc joined front later)))

-- what a manifest names when it is put begins what it names then and later
pinned-begins : (o : Objects) (latest : VersionedManifest) (m : Manifest) → HasItsLogs o m → AreGapless m.replay_after_wal_id (map (λ log. log.0) (logs_above m.replay_after_wal_id o)) → IsPrefix (pinned_content o m) (content_by o (Some (after latest m)))
pinned-begins o latest m has gapless =
    let mark = m.replay_after_wal_id in
    let n = m.last_l0_seq in
    let i = m.next_wal_id - 1 - mark in
    let within = stored-within o m has gapless in
    let next = has.next in
    let joined = table_batches o m.tables in
    let front = batches_between mark (m.next_wal_id - 1) o in
    let later = flat_map (λ log. log.1) (drop i (logs_above mark o)) in
    let at : mark + i ≡ m.next_wal_id - 1 = omega arith in
    let parts : flat_map (λ log. log.1) (logs_above mark o) ≡ front ++ later = between-begins mark i o gapless (omega arith) ∙ ap (λ k. batches_between mark k o ++ later) at in
    let split : logged o m ≡ batches_above n front ++ batches_above n later = ap (batches_above n) parts ∙ filter-append (λ b. ltb n b.number) front later in
    prefix-more (number_before joined n) joined (batches_above n front) (batches_above n later) (logged o m) split

module _ (o : Objects) (latest : VersionedManifest) (m : Manifest) (sound : IsSound o) (is : latest_manifest o ≡ Some latest) (may : MayFollow o latest m) where
  abbrev next : VersionedManifest
  next = after latest m

  abbrev o1 : Objects
  o1 = changed (PutManifest next.id m) o

  manifests-after : o1.manifests ≡ o.manifests ++ (next.id, m) ∷ []
  manifests-after =
      let top = all-greatest latest.id 0 (map (λ e. e.0) o.manifests) (ids-within o latest sound is) in
      insert-last next.id 0 m o.manifests (omega (arith, top))

  latest-after : latest_manifest o1 ≡ Some next
  latest-after = ap (λ es. option_map versioned (last es)) manifests-after ∙ ap (option_map versioned) (last-push o.manifests (next.id, m))

  content-after : content o1 ≡ content_by o (Some next)
  content-after = ap (content_by o1) latest-after

  pinned-old : (checkpoint : Checkpoint) → IsPinned o latest checkpoint → IsPinned o1 next checkpoint
  pinned-old checkpoint pinned =
      let within = pinned.within in
      pinned-kept o o1 latest next checkpoint pinned (manifest-keeps o pinned.manifest next.id m)
      (lookup-insert_other nat_cmp_total checkpoint.manifest_id next.id m o.manifests (apart checkpoint.manifest_id next.id (λ same. omega arith)))
      (omega arith) may.begins

  pinned-new : (checkpoint : Checkpoint) → checkpoint.id ≡ checkpoint_id checkpoint.manifest_id → checkpoint.manifest_id ≡ latest.id + 1 → IsPinned o1 next checkpoint
  pinned-new checkpoint id at =
      let keeps = manifest-keeps o m next.id m in
      record {
        id = id;
        within = omega arith;
        manifest = m;
        kept = ap (λ k. entry_at k o1.manifests) at ∙ lookup-insert_same nat_cmp_total next.id m o.manifests;
        tables = tables-kept keeps may.tables;
        logs = logs-kept keeps may.logs;
        begins = pinned-begins o latest m may.logs may.gapless;
      }

  pinned-on : (checkpoint : Checkpoint) → IsKeptOn o latest checkpoint → IsPinned o1 next checkpoint
  pinned-on checkpoint (inl pinned) = pinned-old checkpoint pinned
  pinned-on checkpoint (inr new) = pinned-new checkpoint new.0 new.1

  reads-after : (checkpoint : Checkpoint) → ReadsSame o o1 checkpoint
  reads-after checkpoint m' found =
      let top = all-greatest latest.id 0 (map (λ e. e.0) o.manifests) (ids-within o latest sound is) in
      let free : entry_at next.id o.manifests ≡ None = absent next.id 0 o.manifests (omega (arith, top)) in
      let other = apart checkpoint.manifest_id next.id (λ same. let none : entry_at checkpoint.manifest_id o.manifests ≡ None = ap (λ k. entry_at k o.manifests) same ∙ free in absurd (cc (none, found))) in
      (lookup-insert_other nat_cmp_total checkpoint.manifest_id next.id m o.manifests other ∙ found, refl)

  pub committed : Committed o next o1
  committed =
      let its = its-objects o latest sound is in
      let keeps = manifest-keeps o m next.id m in
      let rising = rising-push latest.id next.id (map (λ e. e.0) o.manifests) sound.manifests (ids-within o latest sound is) (omega arith) in
      let epoch = may.epoch in
      let objects : HasItsObjects o1 next =
      record {
        tables = tables-kept keeps may.tables;
        logs = logs-kept keeps may.logs;
        gapless = may.gapless;
        epochs = All-weaker (λ table. table.0.epoch ≤ latest.manifest.writer_epoch) (λ table. table.0.epoch ≤ m.writer_epoch) (λ table low. omega arith) o.tables its.epochs;
        differ = may.differ;
        pinned = λ k d less. pinned-on _ (may.checkpoints k d less);
      } in
      record {
        sound = record {
          manifests = subst IdsRise (sym (ap (map (λ e. e.0)) manifests-after ∙ map-append (λ e. e.0) o.manifests ((next.id, m) ∷ []))) rising;
          logs = sound.logs;
          tables = sound.tables;
          nothing = λ none. absurd (let some = latest-after in cc);
          line = subst IsLine (sym content-after) may.line;
          latest = subst (λ x. IfSome x (HasItsObjects o1)) (sym latest-after) objects;
        };
        latest = latest-after;
        content = content-after;
        pins = λ checkpoints k d less m' found. reads-after (slice_index_or checkpoints k d) m' found;
      }

-- where it names the same content, all stays
pub stays-committed : (o o' : Objects) (latest next : VersionedManifest) → latest_manifest o ≡ Some latest → content_by o (Some next) ≡ content_by o (Some latest) → Committed o next o' → Stays o o'
stays-committed o o' latest next is same put =
    (put.sound, put.content ∙ (same ∙ sym (ap (content_by o) is)), pins-after o o' next put.latest (put.pins next.manifest.checkpoints))
