-- A compaction keeps sound objects sound, their content, and what their checkpoints keep, wherever it is broken off.
use Rattle.slate_store.proofs.Committed.{Committed, committed}
use Rattle.slate_store.proofs.Entries.{lookup-insert_same, table_total}
use Rattle.slate_store.proofs.Kept.{Stays, pins-after, pins-then, prefix-same, stays}
use Rattle.slate_store.proofs.Latest.{its-line, its-objects}
use Rattle.slate_store.proofs.Parts.{part-more, part-none, part-one}
use Rattle.slate_store.proofs.Spared.{Unmoved, tabled}
use Rattle.slate_store.specs.Changes.{after_part}
use Rattle.slate_store.specs.Compaction.{Compacts, compact_changes, compact_changes_by, tables_at, with_table}
use Rattle.slate_store.specs.Content.{HasItsTables, IsSound, StoresTable, content_by, logged, number_before, table_batches}
use Rattle.slate_store.specs.Objects.{Objects, PutManifest, PutTable, changed, latest_manifest, table_at}
use Rattle.slate_store.specs.Refusals.{KeepsContent}
use Rattle.slate_store.specs.declared.objects.Manifest.{Manifest}
use Rattle.slate_store.specs.declared.objects.TableId.{TableId}
use Rattle.slate_store.specs.declared.objects.VersionedManifest.{VersionedManifest}
use Rattle.slate_store.specs.declared.refusals.StoreRefusal.{StoreRefusal}
use Rattle.slate_types.specs.Line.{IsLine}
use Rattle.slate_types.specs.declared.batches.Batch.{Batch}
use Rattle.std.proofs.Common.{◌++◌, ◌+◌, ◌<◌, ◌∙◌, ◌∷◌, ◌≡◌, ◌≤◌, [], Bool, List, None, Option, Result, Some, ap, arith, cond, false, inl, length, refl, subst, suc, sym, true, zero, ℕ}
use Rattle.std.proofs.lemmas.Bool.{ltb-false}
use Rattle.std.proofs.lemmas.List.Elements.{All-cons, All-head, All-nil}
use Rattle.std.proofs.lemmas.List.{append-nil}
use Rattle.std.specs.List.{All, IsDistinct, flat_map}
use Rattle.std.specs.Option.{option_to_list, unwrap_or}
use Rattle.std.specs.Prelude.{nat_lt}

-- the tables that are stored, joined in order, are the batches of the tables
pub joined-batches : (o : Objects) (ids : List TableId) → flat_map (λ bs. bs) (tables_at o ids) ≡ table_batches o ids
joined-batches o [] = refl
joined-batches o (id ∷ ids) = by (table_at id o) (joined-batches o ids) where
  by : (table : Option (List Batch)) → flat_map (λ bs. bs) (tables_at o ids) ≡ table_batches o ids → flat_map (λ bs. bs) (option_to_list table ++ tables_at o ids) ≡ unwrap_or table [] ++ table_batches o ids
  by None later = later
  by (Some table) later = ap (λ bs. table ++ bs) later

-- stored tables, where there are any, have a batch
some-batch : (o : Objects) (ids : List TableId) → 0 < length ids → All (StoresTable o) ids → (first : Batch) × (rest : List Batch) × (table_batches o ids ≡ first ∷ rest)
some-batch o [] some stored = absurd (omega arith)
some-batch o (id ∷ ids) some stored =
    let stores = All-head (StoresTable o) id ids stored in
    (stores.0, stores.1 ++ table_batches o ids, ap (λ table. unwrap_or table [] ++ table_batches o ids) stores.2)

module _ (o : Objects) (id : TableId) (latest : VersionedManifest) (sound : IsSound o) (is : latest_manifest o ≡ Some latest) (low : id.epoch ≤ latest.manifest.writer_epoch) (free : table_at id o ≡ None) (some : 0 < length latest.manifest.tables) where
  abbrev m : Manifest
  m = latest.manifest

  -- the table that is put
  abbrev whole : List Batch
  whole = flat_map (λ bs. bs) (tables_at o m.tables)

  abbrev next : VersionedManifest
  next = with_table id latest

  abbrev o1 : Objects
  o1 = changed (PutTable id whole) o

  put : Unmoved o o1
  put = tabled o latest id whole sound is low free

  is-after : latest_manifest o1 ≡ Some latest
  is-after = is

  stored-after : table_at id o1 ≡ Some whole
  stored-after = lookup-insert_same table_total id whole o.tables

  batches-after : table_batches o1 (id ∷ []) ≡ table_batches o m.tables
  batches-after = ap (λ table. unwrap_or table [] ++ []) stored-after ∙ (append-nil whole ∙ joined-batches o m.tables)

  -- both manifests name the same batches
  content-same : content_by o1 (Some next) ≡ content_by o (Some latest)
  content-same = ap (λ bs. record { floor = number_before bs m.last_l0_seq; batches = bs ++ logged o m }) batches-after

  content-put : content_by o1 (Some latest) ≡ content_by o (Some latest)
  content-put = sym (ap (content_by o1) is-after) ∙ (put.content ∙ ap (content_by o) is)

  tables-after : HasItsTables o1 next.manifest
  unfolding IsDistinct
  tables-after =
      let its = its-objects o latest sound is in
      let any = some-batch o m.tables some its.tables.stored in
      record {
        stored = All-cons (StoresTable o1) id [] (any.0, any.1, stored-after ∙ ap Some (joined-batches o m.tables ∙ any.2)) (All-nil (StoresTable o1));
        differ = (tt, tt);
        joined = subst (λ bs. number_before bs m.last_l0_seq + length bs ≡ m.last_l0_seq) (sym batches-after) its.tables.joined;
      }

  pub joined-committed : Committed o1 next (changed (PutManifest next.id next.manifest) o1)
  joined-committed =
      let its = its-objects o1 latest put.sound is-after in
      committed o1 latest next.manifest put.sound is-after
      (record {
        tables = tables-after;
        logs = record { next = its.logs.next; stored = its.logs.stored };
        gapless = its.gapless;
        epoch = omega arith;
        line = subst IsLine (sym content-same) (its-line o latest sound is);
        begins = prefix-same (content_by o1 (Some latest)) (content_by o1 (Some next)) (content-same ∙ sym content-put);
        differ = its.differ;
        checkpoints = λ k d less. inl (its.pinned k d less);
      })

  pub joined-keeps : (made : ℕ) → Stays o (after_part made (PutTable id whole ∷ PutManifest next.id next.manifest ∷ []) o)
  joined-keeps made =
      let after = joined-committed in
      part-more (Stays o) (PutTable id whole) (PutManifest next.id next.manifest ∷ []) o made (stays o sound)
      (λ part. part-one (Stays o) (PutManifest next.id next.manifest) o1 part
      (put.sound, put.content, pins-after o o1 latest is-after (put.pins latest is)) (
        after.sound,
        after.content ∙ (content-same ∙ sym (ap (content_by o) is)),
        pins-after o (changed (PutManifest next.id next.manifest) o1) next after.latest
            (pins-then o o1 (changed (PutManifest next.id next.manifest) o1) next.manifest.checkpoints (put.pins latest is) (after.pins next.manifest.checkpoints)),
      ))

compaction-part : (id : TableId) (made : ℕ) (o : Objects) → ((latest : VersionedManifest) → latest_manifest o ≡ Some latest → id.epoch ≤ latest.manifest.writer_epoch) → table_at id o ≡ None → KeepsContent o (after_part made (compact_changes (flat_map (λ batches. batches)) id o) o)
compaction-part id made o low free sound = by (latest_manifest o) refl where
  several : (latest : VersionedManifest) → latest_manifest o ≡ Some latest → (t : Bool) → nat_lt (length latest.manifest.tables) 2 ≡ t →
      let cs = cond t [] (PutTable id (flat_map (λ bs. bs) (tables_at o latest.manifest.tables)) ∷ PutManifest (with_table id latest).id (with_table id latest).manifest ∷ []) in
      Stays o (after_part made cs o)
  several latest is true few = subst (Stays o) (sym (part-none made o)) (stays o sound)
  several latest is false many =
      let two = ltb-false (length latest.manifest.tables) 2 many in
      joined-keeps o id latest sound is (low latest is) free (omega arith) made

  by : (found : Option VersionedManifest) → latest_manifest o ≡ found → let cs = compact_changes_by (flat_map (λ batches. batches)) id o found in Stays o (after_part made cs o)
  by None is = subst (Stays o) (sym (part-none made o)) (stays o sound)
  by (Some latest) is = several latest is (nat_lt (length latest.manifest.tables) 2) refl

-- Into a table under an id that isn't stored, by an epoch that isn't above the latest manifest's.
pub compaction-keeps : (id : TableId) (made : ℕ) (o : Objects) → ((latest : VersionedManifest) → latest_manifest o ≡ Some latest → id.epoch ≤ latest.manifest.writer_epoch) → (0 < made → table_at id o ≡ None) → KeepsContent o (after_part made (compact_changes (flat_map (λ batches. batches)) id o) o)
compaction-keeps id zero o low free sound = stays o sound
compaction-keeps id (suc made) o low free sound = compaction-part id (suc made) o low (free (omega arith)) sound

pub compacts-keep : {epoch index index' made : ℕ} {o o' : Objects} {result : Result VersionedManifest StoreRefusal} → Compacts epoch index index' o result made o' → ((latest : VersionedManifest) → latest_manifest o ≡ Some latest → epoch ≤ latest.manifest.writer_epoch) → (0 < made → table_at (record { epoch = epoch; index = index }) o ≡ None) → KeepsContent o o'
compacts-keep {epoch} {index} {index'} {made} {o} {o'} {result} compacts low free =
    subst (KeepsContent o) (sym compacts.after) (compaction-keeps (record { epoch = epoch; index = index }) made o low free)
