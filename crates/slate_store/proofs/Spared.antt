-- Objects stay sound, with the same content, by a change that spares what the latest manifest and those that its
-- checkpoints keep name.
use Rattle.slate_store.proofs.Entries.{all-from_keys, all-insert, sorted-insert, table_total}
use Rattle.slate_store.proofs.Kept.{Keeps, all-both, batches-kept, logs-kept, pinned-kept, pinned-reads, pins-same, pins-then, prefix-same, stays, table-keeps, tables-kept}
use Rattle.slate_store.proofs.Latest.{its-objects}
use Rattle.slate_store.specs.Content.{AreGapless, IdsRise, HasItsLogs, HasItsObjects, HasItsTables, IsPinned, IsSound, ReadsSame, content, content_by, logged, logs_above, number_before, table_batches}
use Rattle.slate_store.specs.Objects.{Objects, PutTable, changed, entry_at, latest_manifest, table_at, table_cmp}
use Rattle.slate_store.specs.declared.objects.Checkpoint.{Checkpoint}
use Rattle.slate_store.specs.declared.objects.Manifest.{Manifest}
use Rattle.slate_store.specs.declared.objects.TableId.{TableId}
use Rattle.slate_store.specs.declared.objects.VersionedManifest.{VersionedManifest}
use Rattle.slate_types.specs.Line.{IsLine, batches_above}
use Rattle.slate_types.specs.declared.batches.Batch.{Batch}
use Rattle.std.proofs.Common.{◌++◌, ◌∙◌, ◌≡◌, ◌≤◌, List, None, Some, ap, arith, map, refl, subst, sym}
use Rattle.std.proofs.lemmas.List.Elements.{All-map, recursion_from_All}
use Rattle.std.specs.BTreeMap.{insert_entry}
use Rattle.std.specs.List.Sorted.{IsStrictlySortedBy}
use Rattle.std.specs.List.{All, flat_map}
use Rattle.std.specs.Map.{keys_of}
use Rattle.std.specs.Option.{IfSome}

-- sound objects with the same content and the same latest manifest, whose checkpoints keep what they kept
pub record Unmoved (o o' : Objects) : Type 0 where
  pub sound : IsSound o'
  pub content : content o' ≡ content o
  pub latest : latest_manifest o' ≡ latest_manifest o
  pub pins : (latest : VersionedManifest) → latest_manifest o ≡ Some latest → All (ReadsSame o o') latest.manifest.checkpoints

pub unmoved-then : (a b c : Objects) → Unmoved a b → Unmoved b c → Unmoved a c
unmoved-then a b c first second =
    record {
      sound = second.sound;
      content = second.content ∙ first.content;
      latest = second.latest ∙ first.latest;
      pins = λ latest is. pins-then a b c latest.manifest.checkpoints (first.pins latest is) (second.pins latest (first.latest ∙ is));
    }

pub unmoved : (o : Objects) → IsSound o → Unmoved o o
unmoved o sound = record { sound = sound; content = refl; latest = refl; pins = λ latest is. pins-same o latest.manifest.checkpoints }

-- a manifest that is kept stays, and what it names
pub record StaysKept (o o' : Objects) (checkpoint : Checkpoint) : Type 0 where
  pub entry : entry_at checkpoint.manifest_id o'.manifests ≡ entry_at checkpoint.manifest_id o.manifests
  pub keeps : (m : Manifest) → entry_at checkpoint.manifest_id o.manifests ≡ Some m → HasItsTables o m → HasItsLogs o m → Keeps o o' m

-- The objects after a change are in order, the latest manifest is the same, and what it and those that its checkpoints
-- keep name stays, with all log files above its mark.
pub record Spares (o : Objects) (latest : VersionedManifest) (o' : Objects) : Type 0 where
  pub manifests : IdsRise (map (λ entry. entry.0) o'.manifests)
  pub logs : IdsRise (map (λ log. log.0) o'.logs)
  pub tables : IsStrictlySortedBy table_cmp (map (λ table. table.0) o'.tables)
  pub epochs : All (λ table. table.0.epoch ≤ latest.manifest.writer_epoch) o'.tables
  pub latest_is : latest_manifest o' ≡ Some latest
  pub above : logs_above latest.manifest.replay_after_wal_id o' ≡ logs_above latest.manifest.replay_after_wal_id o
  pub keeps : Keeps o o' latest.manifest
  pub kept : All (StaysKept o o') latest.manifest.checkpoints

module _ (o o' : Objects) (latest : VersionedManifest) (sound : IsSound o) (is : latest_manifest o ≡ Some latest) (spares : Spares o latest o') where
  abbrev m : Manifest
  m = latest.manifest

  content_by-spared : content_by o' (Some latest) ≡ content_by o (Some latest)
  content_by-spared =
      ap (λ bs. record { floor = number_before bs m.last_l0_seq; batches = bs ++ logged o' m }) (batches-kept o o' m.tables spares.keeps.tables)
      ∙ ap (λ logs. record { floor = number_before (table_batches o m.tables) m.last_l0_seq; batches = table_batches o m.tables ++ batches_above m.last_l0_seq (flat_map (λ log. log.1) logs) }) spares.above

  pinned-spared : (checkpoint : Checkpoint) → StaysKept o o' checkpoint → IsPinned o latest checkpoint → IsPinned o' latest checkpoint
  pinned-spared checkpoint stays pinned =
      pinned-kept o o' latest latest checkpoint pinned (stays.keeps pinned.manifest pinned.kept pinned.tables pinned.logs) stays.entry (omega arith)
      (prefix-same (content_by o (Some latest)) (content_by o' (Some latest)) content_by-spared)

  reads-spared : (checkpoint : Checkpoint) → StaysKept o o' checkpoint → IsPinned o latest checkpoint → ReadsSame o o' checkpoint
  reads-spared checkpoint stays pinned = pinned-reads o o' latest checkpoint pinned (stays.keeps pinned.manifest pinned.kept pinned.tables pinned.logs) stays.entry

  pub spared : Unmoved o o'
  spared =
      let its = its-objects o latest sound is in
      let same : content o' ≡ content o = ap (content_by o') spares.latest_is ∙ (content_by-spared ∙ sym (ap (content_by o) is)) in
      let objects : HasItsObjects o' latest =
      record {
        tables = tables-kept spares.keeps its.tables;
        logs = logs-kept spares.keeps its.logs;
        gapless = subst (λ logs. AreGapless m.replay_after_wal_id (map (λ log. log.0) logs)) (sym spares.above) its.gapless;
        epochs = spares.epochs;
        differ = its.differ;
        pinned = all-both (StaysKept o o') (IsPinned o latest) (IsPinned o' latest) m.checkpoints pinned-spared spares.kept its.pinned;
      } in
      record {
        sound = record {
          manifests = spares.manifests;
          logs = spares.logs;
          tables = spares.tables;
          nothing = λ none. absurd (let some = spares.latest_is in cc);
          line = subst IsLine (sym same) sound.line;
          latest = subst (λ x. IfSome x (HasItsObjects o')) (sym spares.latest_is) objects;
        };
        content = same;
        latest = spares.latest_is ∙ sym is;
        pins = λ found at.
            subst (λ (v : VersionedManifest). All (ReadsSame o o') v.manifest.checkpoints) (let same : latest ≡ found = cc (is, at) in same)
            (all-both (StaysKept o o') (IsPinned o latest) (ReadsSame o o') m.checkpoints reads-spared spares.kept its.pinned);
      }

-- ---- a put of a table
module _ (o : Objects) (latest : VersionedManifest) (id : TableId) (bs : List Batch) (sound : IsSound o) (is : latest_manifest o ≡ Some latest) where
  low-insert : (es : List (TableId × List Batch)) → id.epoch ≤ latest.manifest.writer_epoch → All (λ table. table.0.epoch ≤ latest.manifest.writer_epoch) es → All (λ table. table.0.epoch ≤ latest.manifest.writer_epoch) (insert_entry table_cmp es id bs)
  low-insert es low all =
      let P : TableId → Type 0 = λ t. t.epoch ≤ latest.manifest.writer_epoch in
      let before = recursion_from_All P (keys_of es) (All-map P (λ e. e.0) es all) in
      all-from_keys P (insert_entry table_cmp es id bs) (all-insert table_total P id bs es before low)

  -- under an id that isn't stored, by an epoch that isn't above the latest manifest's
  pub tabled : id.epoch ≤ latest.manifest.writer_epoch → table_at id o ≡ None → Unmoved o (changed (PutTable id bs) o)
  tabled low free =
      let its = its-objects o latest sound is in
      spared o (changed (PutTable id bs) o) latest sound is
      (record {
        manifests = sound.manifests;
        logs = sound.logs;
        tables = sorted-insert table_total id bs o.tables sound.tables;
        epochs = low-insert o.tables low its.epochs;
        latest_is = is;
        above = refl;
        keeps = table-keeps o latest.manifest id bs its.tables free;
        kept = λ k d less. record { entry = refl; keeps = λ m found tables logs. table-keeps o m id bs tables free };
      })
