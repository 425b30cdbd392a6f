-- What an opening leaves of the handles of a world, and the handle that it gives.
use Rattle.std.proofs.Common.{◌≡◌, ℕ, ◌+◌, ◌<◌, ◌≤◌, inl, List, [], ◌∷◌, Some, None, Option, Bool, false, refl, sym, subst, ap, ◌∙◌, arith}
use Rattle.std.specs.List.{Contains}
use Rattle.std.proofs.lemmas.Bool.{false_from_ne_true}
use Rattle.std.proofs.lemmas.List.Elements.{All-head, All-nil, All-tail}
use Rattle.std.specs.BTreeMap.{is_at}
use Rattle.std.specs.List.{All}
use Rattle.std.specs.Map.{lookup}
use Rattle.slate_types.proofs.Lines.{above-none}
use Rattle.slate_types.specs.Line.{IsLine, IsPrefix, Line, end, extended}
use Rattle.slate_types.specs.declared.batches.Batch.{Batch}
use Rattle.slate_store.proofs.Entries.{same_table, tied}
use Rattle.slate_store.proofs.Latest.{its-objects, nothing_there}
use Rattle.slate_store.specs.Content.{IsSound, content}
use Rattle.slate_store.specs.Objects.{Objects, last_log, latest_manifest, table_at, table_cmp}
use Rattle.slate_store.specs.declared.objects.TableId.{TableId}
use Rattle.slate_store.specs.declared.objects.VersionedManifest.{VersionedManifest}
use Rattle.slate_errors.specs.declared.endings.TaskName.{TaskName}
use Rattle.slate_model.specs.Catalogue.{catalogue_of}
use Rattle.slate_model.specs.Changes.{after_part}
use Rattle.slate_model.specs.Handle.{Handle, unstored}
use Rattle.slate_model.specs.Segments.{Extractor, extractor_name}
use Rattle.slate_model.specs.Open.{found_log, mark_of, next_manifest, open_changes, opened_handle, opened_manifest}
use Rattle.slate_model.specs.Valid.{IsValidHandle, ReadsLine}
use Rattle.slate_model.proofs.Adding.{none-put}
use Rattle.slate_model.proofs.Logging.{LogsAre, OfLine, PastLine, part-are, part-logs, puts-part, stay-follow, stay-go}
use Rattle.slate_model.proofs.Moving.{Follows, known-none, still-valid}
use Rattle.slate_model.proofs.Prefixes.{extended-nil, prefix-same, up_to-all}
use Rattle.slate_model.proofs.Reopened.{opened}
use Rattle.slate_model.proofs.Tabled.{floor-low, joined-line, tables-within}

-- no table has an epoch above all of these
pub absent-table : (n : ℕ) (q : TableId) (es : List (TableId × List Batch)) → n < q.epoch → All (λ table. table.0.epoch ≤ n) es → lookup (is_at (table_cmp q)) es ≡ None
absent-table n q [] above low = refl
absent-table n q (e ∷ es) above low =
    let first = All-head (λ (table : TableId × List Batch). table.0.epoch ≤ n) e es low in
    let apart : is_at (table_cmp q) e.0 ≡ false = false_from_ne_true (is_at (table_cmp q) e.0) (λ tie.
    let same = ap (λ (id : TableId). id.epoch) (same_table q e.0 (tied (table_cmp q e.0) tie)) in absurd (omega (arith, above, first, same))) in
    rw apart (absent-table n q es above (All-tail (λ (table : TableId × List Batch). table.0.epoch ≤ n) e es low))

-- the epoch of an opening is above that of each table
new-epoch : (name : Option (List ℕ)) (o : Objects) (latest : Option VersionedManifest) (last : ℕ) (q : TableId) → IsSound o → latest_manifest o ≡ latest → q.epoch ≡ (next_manifest name latest last).manifest.writer_epoch → table_at q o ≡ None
new-epoch name o None last q sound is epoch = subst (λ x. table_at q x ≡ None) (sym (nothing_there o sound is)) refl
new-epoch name o (Some latest) last q sound is epoch = absent-table latest.manifest.writer_epoch q o.tables (omega (arith, epoch)) (its-objects o latest sound is).epochs

module _ (x : Option Extractor) (stored : Line) (o : Objects) (made : ℕ) (sound : IsSound o) (holds : content o ≡ stored) (some : 0 < made) (few : made ≤ 2) where
  abbrev o' : Objects
  o' = after_part made (open_changes (extractor_name x) (λ xs. xs) o) o

  abbrev v : VersionedManifest
  v = opened_manifest (extractor_name x) o

  same-tables : o'.tables ≡ o.tables
  same-tables = (none-put made (open_changes (extractor_name x) (λ xs. xs) o) o tt).0

  pub same-table_at : (q : TableId) → table_at q o' ≡ table_at q o
  same-table_at q = ap (lookup (is_at (table_cmp q))) same-tables

  content-is : content o' ≡ stored
  content-is = (opened (extractor_name x) o made sound some few).content ∙ holds

  -- the fence comes after the last log file
  before-fence : (latest : VersionedManifest) → latest_manifest o ≡ Some latest → last_log latest.manifest.replay_after_wal_id o < found_log o + 1
  before-fence latest is = let e = ap (λ x. last_log (mark_of x) o) is in omega (arith, e)

  -- the fence has no batch
  pub opened-logs_are : LogsAre (OfLine stored) o o'
  opened-logs_are = part-are (OfLine stored) made (open_changes (extractor_name x) (λ xs. xs) o) o (puts-part (OfLine stored) made (open_changes (extractor_name x) (λ xs. xs) o) (All-nil (λ batch. Contains stored.batches batch), tt))

  -- and comes after the line
  opened-news : LogsAre (PastLine stored) o o'
  opened-news = part-are (PastLine stored) made (open_changes (extractor_name x) (λ xs. xs) o) o (puts-part (PastLine stored) made (open_changes (extractor_name x) (λ xs. xs) o) (All-nil (λ (batch : Batch). end stored < batch.number), tt))

  pub opened-follows : (latest : VersionedManifest) → latest_manifest o ≡ Some latest → Follows stored stored o o' latest v
  opened-follows latest is =
      let b = opened (extractor_name x) o made sound some few in
      let epoch : v.manifest.writer_epoch ≡ latest.manifest.writer_epoch + 1 = ap (λ m. (next_manifest (extractor_name x) m (found_log o)).manifest.writer_epoch) is in
      let mark : v.manifest.replay_after_wal_id ≡ latest.manifest.replay_after_wal_id = ap (λ m. (next_manifest (extractor_name x) m (found_log o)).manifest.replay_after_wal_id) is in
      let number : v.manifest.last_l0_seq ≡ latest.manifest.last_l0_seq = ap (λ m. (next_manifest (extractor_name x) m (found_log o)).manifest.last_l0_seq) is in
      record {
        sound = b.sound;
        content = content-is;
        grows = prefix-same stored;
        latest_is = b.latest;
        epochs = omega (arith, epoch);
        tabled = omega (arith, number);
        leaps = inl number;
        marked = λ same. mark;
        logs = stay-follow o o' latest.manifest.replay_after_wal_id v.manifest.replay_after_wal_id (sym mark) (part-logs latest.manifest.replay_after_wal_id (last_log latest.manifest.replay_after_wal_id o) made (open_changes (extractor_name x) (λ xs. xs) o) o (before-fence latest is, tt));
        logs_are = opened-logs_are;
        news = opened-news;
        goes = stay-go (last_log latest.manifest.replay_after_wal_id o) o o' (part-logs 0 (last_log latest.manifest.replay_after_wal_id o) made (open_changes (extractor_name x) (λ xs. xs) o) o (before-fence latest is, tt));
      }

  -- a handle that was opened before is fenced
  pub fenced : (g : Handle) → IsValidHandle stored (catalogue_of o) g → IsValidHandle stored (catalogue_of o') g
  fenced g valid =
      let latest = valid.behind.0 in
      let is = valid.behind.1 in
      let b = opened (extractor_name x) o made sound some few in
      let epoch : v.manifest.writer_epoch ≡ latest.manifest.writer_epoch + 1 = ap (λ m. (next_manifest (extractor_name x) m (found_log o)).manifest.writer_epoch) is in
      let low = valid.behind.2 in
      still-valid stored stored o o' latest v is (opened-follows latest is) g (λ index high none. same-table_at (record { epoch = g.epoch; index = index }) ∙ none)
      (λ found live at current.
      let same : v ≡ found = (let a = b.latest in cc) in
      let e = ap (λ (m : VersionedManifest). m.manifest.writer_epoch) same in
      absurd (omega (arith, e, epoch, low, current))) valid

  -- so its epoch is lower than that of the opening
  pub older : (g : Handle) → IsValidHandle stored (catalogue_of o) g → g.epoch < v.manifest.writer_epoch
  older g valid =
      let epoch : v.manifest.writer_epoch ≡ valid.behind.0.manifest.writer_epoch + 1 = ap (λ m. (next_manifest (extractor_name x) m (found_log o)).manifest.writer_epoch) valid.behind.1 in
      let low = valid.behind.2 in
      omega (arith, epoch, low)

  module _ (keeps_log : Bool) (limit : ℕ) (tasks : List TaskName) (line : IsLine stored) where
    abbrev new : Handle
    new = opened_handle x keeps_log limit tasks v stored

    whole-line : stored ≡ extended (content o') []
    whole-line = sym content-is ∙ sym (extended-nil (content o'))

    -- the handle of the opening sees all that is stored
    pub opened-valid : IsValidHandle stored (catalogue_of o') new
    opened-valid =
        let b = opened (extractor_name x) o made sound some few in
        let none : unstored new ≡ [] = above-none stored.floor (end stored) stored.batches line (omega arith) in
        record {
          numbered = line;
          floor = floor-low o' v stored [] b.sound b.latest whole-line line;
          tabled = tables-within o' v stored [] b.sound b.latest whole-line line;
          durable = omega arith;
          confirmed = subst (λ l. IsPrefix l stored) (sym (up_to-all (end stored) stored (omega arith))) (prefix-same stored);
          unused = λ index high. known-none (record { epoch = v.manifest.writer_epoch; index = index }) o'
              (same-table_at (record { epoch = v.manifest.writer_epoch; index = index })
              ∙ new-epoch (extractor_name x) o (latest_manifest o) (found_log o) (record { epoch = v.manifest.writer_epoch; index = index }) sound refl refl);
          behind = (v, b.latest, omega arith, omega arith);
          current = λ found live at current.
              let same : v ≡ found = (let a = b.latest in cc) in
              (ap (extended stored) none ∙ extended-nil stored, sym (ap (λ (m : VersionedManifest). m.manifest.last_l0_seq) same));
        }

    pub opened-reads : ReadsLine o' new.view new.line
    opened-reads there = let b = opened (extractor_name x) o made sound some few in joined-line o' v stored [] b.sound b.latest whole-line line
