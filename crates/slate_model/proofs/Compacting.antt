-- A compaction and a refresh by a valid handle leave sound objects and a valid handle.
use Rattle.std.proofs.Common.{◌≡◌, ℕ, zero, suc, ◌+◌, ◌<◌, ◌≤◌, ◌⊎◌, inl, inr, List, [], ◌∷◌, length, take, cond, flat_map, Some, None, Result, Ok, Err, Bool, true, false, refl, sym, subst, ap, ◌∙◌, arith, ltb}
use Rattle.std.proofs.lemmas.Bool.{ltb-false}
use Rattle.slate_types.specs.Line.{Line}
use Rattle.slate_types.specs.declared.batches.Batch.{Batch}
use Rattle.slate_store.proofs.Compacted.{compaction-keeps, joined-committed}
use Rattle.slate_store.specs.Compaction.{compact_changes, compact_changes_by, compacted, tables_at, with_table}
use Rattle.slate_store.specs.Content.{IsSound, content}
use Rattle.slate_store.specs.Objects.{Change, Objects, PutManifest, PutTable, last_log, latest_manifest, table_at}
use Rattle.slate_store.specs.declared.objects.TableId.{TableId}
use Rattle.slate_store.specs.declared.objects.VersionedManifest.{VersionedManifest}
use Rattle.slate_errors.specs.declared.errors.SlateError.{SlateError}
use Rattle.slate_model.specs.Catalogue.{catalogue_of}
use Rattle.slate_model.specs.Changes.{PartMade, after_part}
use Rattle.slate_model.specs.Flush.{IsCurrent, tables_put}
use Rattle.slate_model.specs.Handle.{Handle, kept_handle, next_table}
use Rattle.slate_model.specs.Refresh.{CompactAnswer, JoinsTables, RefreshAnswer, fenced_result}
use Rattle.slate_model.specs.Stores.{JoinFault, by_objects}
use Rattle.slate_model.specs.Valid.{AreBefore, IsValidHandle, ReadsLine}
use Rattle.slate_model.proofs.Adding.{AreAdded, Lasts, compact-puts, one-put, other-table}
use Rattle.slate_model.proofs.Flushed.{part_le}
use Rattle.slate_model.proofs.Logging.{KeepLogs, logs-are_same, logs-same, LogsAre, LogsGo, LogsStay, OfLine, PastLine, part-are, part-logs, PutLogs, puts-part, stay-follow, stay-go}
use Rattle.slate_model.proofs.Moving.{Follows, Moved, none-known}
use Rattle.slate_model.proofs.Prefixes.{prefix-same}
use Rattle.slate_model.proofs.Reduced.{whole}
use Rattle.slate_model.proofs.Viewing.{viewed-moved}

-- a compaction leaves the epoch and the last number in tables
compacted-epoch : (id : TableId) (latest : VersionedManifest) → (compacted id latest).manifest.writer_epoch ≡ latest.manifest.writer_epoch
compacted-epoch id latest = by (ltb (length latest.manifest.tables) 2) where
  by : (few : Bool) → (cond few latest (with_table id latest)).manifest.writer_epoch ≡ latest.manifest.writer_epoch
  by true = refl
  by false = refl

compacted-number : (id : TableId) (latest : VersionedManifest) → (compacted id latest).manifest.last_l0_seq ≡ latest.manifest.last_l0_seq
compacted-number id latest = by (ltb (length latest.manifest.tables) 2) where
  by : (few : Bool) → (cond few latest (with_table id latest)).manifest.last_l0_seq ≡ latest.manifest.last_l0_seq
  by true = refl
  by false = refl

compacted-mark : (id : TableId) (latest : VersionedManifest) → (compacted id latest).manifest.replay_after_wal_id ≡ latest.manifest.replay_after_wal_id
compacted-mark id latest = by (ltb (length latest.manifest.tables) 2) where
  by : (few : Bool) → (cond few latest (with_table id latest)).manifest.replay_after_wal_id ≡ latest.manifest.replay_after_wal_id
  by true = refl
  by false = refl

-- and all log files
compaction-keeps-logs : (mark last : ℕ) (id : TableId) (o : Objects) (latest : VersionedManifest) → KeepLogs mark last (compact_changes_by (flat_map (λ bs. bs)) id o (Some latest))
compaction-keeps-logs mark last id o latest = by (ltb (length latest.manifest.tables) 2) where
  by : (few : Bool) → KeepLogs mark last (cond few [] (PutTable id (flat_map (λ bs. bs) (tables_at o latest.manifest.tables)) ∷ PutManifest (with_table id latest).id (with_table id latest).manifest ∷ []))
  by true = tt
  by false = tt

compaction-put_logs : (P : List Batch → Type 0) (id : TableId) (o : Objects) (latest : VersionedManifest) → PutLogs P (compact_changes_by (flat_map (λ bs. bs)) id o (Some latest))
compaction-put_logs P id o latest = by (ltb (length latest.manifest.tables) 2) where
  by : (few : Bool) → PutLogs P (cond few [] (PutTable id (flat_map (λ bs. bs) (tables_at o latest.manifest.tables)) ∷ PutManifest (with_table id latest).id (with_table id latest).manifest ∷ []))
  by true = tt
  by false = tt

-- the latest manifest after so many changes of so many
abbrev LatestAfter : VersionedManifest → VersionedManifest → ℕ → ℕ → Objects → Type 0
LatestAfter latest next all made o' = ((latest_manifest o' ≡ Some latest) × (made < all)) ⊎ ((latest_manifest o' ≡ Some next) × (made ≡ all))

module _ (o : Objects) (id : TableId) (latest : VersionedManifest) (sound : IsSound o) (is : latest_manifest o ≡ Some latest) (low : id.epoch ≤ latest.manifest.writer_epoch) (free : table_at id o ≡ None) where
  abbrev puts : List Change
  puts = PutTable id (flat_map (λ bs. bs) (tables_at o latest.manifest.tables)) ∷ PutManifest (with_table id latest).id (with_table id latest).manifest ∷ []

  join-latest : (few : Bool) → ltb (length latest.manifest.tables) 2 ≡ few → (made : ℕ) → made ≤ length (cond few [] puts) → LatestAfter latest (cond few latest (with_table id latest)) (length (cond few [] puts)) made (after_part made (cond few [] puts) o)
  join-latest true at zero le = inr (is, refl)
  join-latest true at (suc made) le = absurd (omega (arith, le))
  join-latest false at zero le = inl (is, omega arith)
  join-latest false at (suc zero) le = inl (is, omega arith)
  join-latest false at (suc (suc zero)) le =
      let many = ltb-false (length latest.manifest.tables) 2 at in
      inr ((joined-committed o id latest sound is low free (omega (arith, many))).latest, refl)
  join-latest false at (suc (suc (suc made))) le = absurd (omega (arith, le))

module _ (stored : Line) (o o' : Objects) (latest : VersionedManifest) (h k : Handle) (r : Result (Unit {0}) SlateError) (made : ℕ)
    (sound : IsSound o) (holds : content o ≡ stored) (is : latest_manifest o ≡ Some latest) (live : h.result ≡ None) (v : IsValidHandle stored (catalogue_of o) h) (reads : ReadsLine o h.view h.line) (before : AreBefore h h.view.manifest.tables)
    (same : whole h k ≡ record h { counter = k.counter; view = k.view; result = fenced_result r }) where
  found-latest : (found : VersionedManifest) → latest_manifest o ≡ Some found → found ≡ latest
  found-latest found at = cc

  known-latest : v.behind.0 ≡ latest
  known-latest = found-latest v.behind.0 v.behind.1

  low-epoch : h.epoch ≤ latest.manifest.writer_epoch
  low-epoch = let e = ap (λ (m : VersionedManifest). m.manifest.writer_epoch) known-latest in let low = v.behind.2 in omega (arith, e, low)

  ahead : h.view.manifest.last_l0_seq ≤ latest.manifest.last_l0_seq
  ahead = let e = ap (λ (m : VersionedManifest). m.manifest.last_l0_seq) known-latest in let low = v.behind.3 in omega (arith, e, low)

  found-current : (found : VersionedManifest) → IsCurrent h.epoch o found → latest.manifest.writer_epoch ≤ h.epoch
  found-current found c = let e = ap (λ (m : VersionedManifest). m.manifest.writer_epoch) (found-latest found c.0) in let low = c.1 in omega (arith, e, low)

  module _ (j : JoinsTables (by_objects (Some o)) (kept_handle h) o r k made o') where
    abbrev id : TableId
    id = next_table h

    free : table_at id o ≡ None
    free = none-known id o (v.unused h.counter (omega arith))

    abbrev cs : List Change
    cs = compact_changes_by (flat_map (λ bs. bs)) id o (Some latest)

    changes-are : compact_changes (flat_map (λ bs. bs)) id o ≡ cs
    changes-are = ap (compact_changes_by (flat_map (λ bs. bs)) id o) is

    after : o' ≡ after_part made cs o
    after = j.after ∙ ap (λ xs. after_part made xs o) changes-are

    le : made ≤ length cs
    le = subst (λ (xs : List Change). made ≤ length xs) changes-are (part_le r (length (compact_changes (flat_map (λ bs. bs)) id o)) made j.part)

    keeps : IsSound o' × (content o' ≡ content o)
    keeps =
        let k = compaction-keeps id made o (λ found at. subst (λ (m : VersionedManifest). h.epoch ≤ m.manifest.writer_epoch) (sym (found-latest found at)) low-epoch) (λ some. free) sound in
        (subst IsSound (sym j.after) k.0, ap content j.after ∙ k.1)

    latest-after : LatestAfter latest (compacted id latest) (length cs) made o'
    latest-after = subst (LatestAfter latest (compacted id latest) (length cs) made) (sym after) (join-latest o id latest sound is low-epoch free (ltb (length latest.manifest.tables) 2) refl made le)

    added : AreAdded id o (tables_put (take made cs)) o'
    added = subst (AreAdded id o (tables_put (take made cs))) (sym after) (one-put id made cs o (compact-puts id o latest))

    lasts-same : (q : TableId) → (q.epoch ≡ h.epoch → q.index < h.counter) → Lasts o o' q
    lasts-same q low some = other-table id q (tables_put (take made cs)) o o' added
        (λ tied. let less = low (ap (λ (x : TableId). x.epoch) tied) in let i = ap (λ (x : TableId). x.index) tied in absurd (omega (arith, less, i)))

    counted : h.counter + tables_put (take made cs) ≤ k.counter
    counted = subst (λ (xs : List Change). h.counter + tables_put (take made xs) ≤ k.counter) changes-are j.counted.0

    unused-after : (index : ℕ) → k.counter ≤ index → table_at (record { epoch = h.epoch; index = index }) o' ≡ None
    unused-after index high =
        let before : table_at (record { epoch = h.epoch; index = index }) o ≡ None = none-known (record { epoch = h.epoch; index = index }) o (v.unused index (let c = counted in omega (arith, c, high))) in
        elim added [
          | inl none ↦ ap (λ es. table_at (record { epoch = h.epoch; index = index }) (record { manifests = o.manifests; logs = o.logs; tables = es })) none.0 ∙ before
          | inr one ↦
              let c = counted in
              let count = one.2 in
              other-table id (record { epoch = h.epoch; index = index }) (tables_put (take made cs)) o o' added
              (λ tied. let i = ap (λ (q : TableId). q.index) tied in absurd (omega (arith, c, count, high, i))) ∙ before
        ]

    follows-by : (n' : VersionedManifest) → latest_manifest o' ≡ Some n' → n'.manifest.writer_epoch ≡ latest.manifest.writer_epoch → n'.manifest.last_l0_seq ≡ latest.manifest.last_l0_seq → n'.manifest.replay_after_wal_id ≡ latest.manifest.replay_after_wal_id → Follows stored stored o o' latest n'
    follows-by n' at epoch number mark = record {
      sound = keeps.0;
      content = keeps.1 ∙ holds;
      grows = prefix-same stored;
      latest_is = at;
      epochs = omega (arith, epoch);
      tabled = omega (arith, number);
      leaps = inl number;
      marked = λ same. mark;
      logs = stay-follow o o' latest.manifest.replay_after_wal_id n'.manifest.replay_after_wal_id (sym mark)
          (subst (LogsStay latest.manifest.replay_after_wal_id (last_log latest.manifest.replay_after_wal_id o) o) (sym after) (part-logs latest.manifest.replay_after_wal_id (last_log latest.manifest.replay_after_wal_id o) made cs o (compaction-keeps-logs latest.manifest.replay_after_wal_id (last_log latest.manifest.replay_after_wal_id o) id o latest)));
      logs_are = subst (LogsAre (OfLine stored) o) (sym after) (part-are (OfLine stored) made cs o (puts-part (OfLine stored) made cs (compaction-put_logs (OfLine stored) id o latest)));
      news = subst (LogsAre (PastLine stored) o) (sym after) (part-are (PastLine stored) made cs o (puts-part (PastLine stored) made cs (compaction-put_logs (PastLine stored) id o latest)));
      goes = subst (LogsGo (last_log latest.manifest.replay_after_wal_id o) o) (sym after) (stay-go (last_log latest.manifest.replay_after_wal_id o) o (after_part made cs o) (part-logs 0 (last_log latest.manifest.replay_after_wal_id o) made cs o (compaction-keeps-logs 0 (last_log latest.manifest.replay_after_wal_id o) id o latest)));
    }

    moved-by : (n' : VersionedManifest) → latest_manifest o' ≡ Some n' → n'.manifest.writer_epoch ≡ latest.manifest.writer_epoch → n'.manifest.last_l0_seq ≡ latest.manifest.last_l0_seq → n'.manifest.replay_after_wal_id ≡ latest.manifest.replay_after_wal_id →
        ((k.view ≡ h.view) ⊎ ((k.view ≡ n') × (latest.manifest.writer_epoch ≤ h.epoch))) → Moved stored stored o o' latest h (whole h k)
    moved-by n' at epoch number mark views =
        subst (Moved stored stored o o' latest h) (sym same)
        (viewed-moved stored o o' latest n' h k.counter k.view (fenced_result r) is live v reads (follows-by n' at epoch number mark) epoch number views
        (λ q differ. other-table id q (tables_put (take made cs)) o o' added (λ tied. differ (ap (λ (x : TableId). x.epoch) tied)))
        before lasts-same (let c = counted in omega (arith, c)) unused-after)

    -- the view is the manifest that the compaction left, or the old one
    views-by : (q : Result (Unit {0}) SlateError) → CompactAnswer (JoinFault id o) (kept_handle h) o q k.view → PartMade q (length (compact_changes (flat_map (λ bs. bs)) id o)) made →
        (k.view ≡ h.view) ⊎ ((k.view ≡ compacted id latest) × (made ≡ length cs) × (latest.manifest.writer_epoch ≤ h.epoch))
    views-by (Ok x) a part =
        inr (subst (λ (m : VersionedManifest). k.view ≡ compacted id m) (found-latest a.0 a.1.0) a.2, part ∙ ap length changes-are, found-current a.0 a.1)
    views-by (Err e) a part = inl a.1

    -- the last number in tables of the view doesn't fall
    pub compact-rises : h.view.manifest.last_l0_seq ≤ k.view.manifest.last_l0_seq
    compact-rises = elim (views-by r j.answer j.part) [
      | inl old ↦ (let e = ap (λ (m : VersionedManifest). m.manifest.last_l0_seq) old in omega (arith, e))
      | inr new ↦
          let e = ap (λ (m : VersionedManifest). m.manifest.last_l0_seq) new.0 in
          let c = compacted-number id latest in
          let low = ahead in
          omega (arith, e, c, low)
    ]

    pub compact-moved : Moved stored stored o o' latest h (whole h k)
    compact-moved = elim latest-after [
      | inl before ↦ moved-by latest before.0 refl refl refl (elim (views-by r j.answer j.part) [
        | inl old ↦ inl old
        | inr new ↦ (let all = new.1 in let few = before.1 in absurd (omega (arith, all, few)))
      ])
      | inr committed ↦ moved-by (compacted id latest) committed.0 (compacted-epoch id latest) (compacted-number id latest) (compacted-mark id latest) (elim (views-by r j.answer j.part) [
        | inl old ↦ inl old
        | inr new ↦ inr (new.0, new.2)
      ])
    ]

  -- ---- a refresh
  pub refresh-rises : RefreshAnswer (kept_handle h) o r k.view → h.view.manifest.last_l0_seq ≤ k.view.manifest.last_l0_seq
  refresh-rises a = by r a where
    by : (q : Result (Unit {0}) SlateError) → RefreshAnswer (kept_handle h) o q k.view → h.view.manifest.last_l0_seq ≤ k.view.manifest.last_l0_seq
    by (Ok x) a = let e = ap (λ (m : VersionedManifest). m.manifest.last_l0_seq) (found-latest k.view a.0) in let low = ahead in omega (arith, e, low)
    by (Err e) a = let e = ap (λ (m : VersionedManifest). m.manifest.last_l0_seq) a.1 in omega (arith, e)

  pub refresh-moved : RefreshAnswer (kept_handle h) o r k.view → k.counter ≡ h.counter → Moved stored stored o o latest h (whole h k)
  refresh-moved a counter =
      subst (Moved stored stored o o latest h) (sym same)
      (viewed-moved stored o o latest latest h k.counter k.view (fenced_result r) is live v reads
      (record { sound = sound; content = holds; grows = prefix-same stored; latest_is = is; epochs = omega arith; tabled = omega arith; leaps = inl refl; marked = λ same. refl; logs = stay-follow o o _ _ refl (logs-same _ _ o o refl); logs_are = logs-are_same (OfLine stored) o o refl; news = logs-are_same (PastLine stored) o o refl; goes = stay-go _ o o (logs-same _ _ o o refl) }) refl refl (views-by r a)
      (λ q differ. refl) before (λ q low some. refl) (omega (arith, counter)) (λ index high. none-known (record { epoch = h.epoch; index = index }) o (v.unused index (omega (arith, counter, high))))) where
        views-by : (q : Result (Unit {0}) SlateError) → RefreshAnswer (kept_handle h) o q k.view → (k.view ≡ h.view) ⊎ ((k.view ≡ latest) × (latest.manifest.writer_epoch ≤ h.epoch))
        views-by (Ok x) a = inr (found-latest k.view a.0, found-current k.view a)
        views-by (Err e) a = inl a.1
