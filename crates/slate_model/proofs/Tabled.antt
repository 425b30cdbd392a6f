-- A table of all batches that aren't in tables, and the manifest that names it, keep objects sound.
use Rattle.std.proofs.Common.{◌≡◌, ℕ, ◌+◌, ◌<◌, ◌≤◌, List, [], ◌∷◌, ◌++◌, length, drop, map, Some, None, false, refl, sym, subst, ap, ◌∙◌, append_assoc, arith, inl, length-append, ltb}
use Rattle.std.proofs.Math.Seq.{drop-append_seam}
use Rattle.std.proofs.lemmas.Bool.{false_from_ne_true, le-ltb}
use Rattle.std.proofs.lemmas.Cmp.{eq_by_cmp_equiv}
use Rattle.std.proofs.lemmas.Grind.{flat_map-append}
use Rattle.std.proofs.lemmas.List.Elements.{All-append, All-cons, All-head, All-nil, All-tail}
use Rattle.std.proofs.lemmas.List.{append-nil}
use Rattle.std.proofs.lemmas.Map.Keys.{IsDistinct-push}
use Rattle.std.specs.List.{All, AllByRecursion, filter, flat_map, list_any}
use Rattle.std.specs.Option.{unwrap_or}
use Rattle.std.specs.Ordering.{eq_by_cmp}
use Rattle.slate_types.proofs.Lines.{above-drop}
use Rattle.slate_types.specs.Line.{AreNumberedFrom, IsLine, Line, batches_above, extended, end}
use Rattle.slate_types.specs.declared.batches.Batch.{Batch}
use Rattle.slate_store.proofs.Committed.{Committed, committed}
use Rattle.slate_store.proofs.Entries.{lookup-insert_same, same_table, table_total, tied}
use Rattle.slate_store.proofs.Kept.{batches-kept, table-keeps, tables-kept}
use Rattle.slate_store.proofs.Latest.{all-at_most, its-objects}
use Rattle.slate_store.proofs.Spared.{Unmoved, tabled}
use Rattle.slate_store.specs.Content.{AreGapless, HasItsTables, IsSound, StoresTable, content, content_by, logged, logs_above, number_before, table_batches}
use Rattle.slate_store.specs.Objects.{Objects, PutManifest, PutTable, changed, last_log, latest_manifest, table_at, table_cmp}
use Rattle.slate_store.specs.declared.objects.Manifest.{Manifest}
use Rattle.slate_store.specs.declared.objects.TableId.{TableId}
use Rattle.slate_store.specs.declared.objects.VersionedManifest.{VersionedManifest}
use Rattle.slate_model.specs.Flush.{flushed_manifest}
use Rattle.slate_model.specs.Handle.{Handle, accepted, next_table, untabled}

-- no stored table has an id under which none is stored
none-stored : (o : Objects) (id : TableId) (ids : List TableId) → table_at id o ≡ None → All (StoresTable o) ids → list_any (eq_by_cmp table_cmp id) ids ≡ false
none-stored o id [] free stored = refl
none-stored o id (q ∷ ids) free stored =
    let apart : eq_by_cmp table_cmp id q ≡ false =
    false_from_ne_true (eq_by_cmp table_cmp id q) (λ tie.
    let same = same_table id q (tied (table_cmp id q) tie) in
    let some = (All-head (StoresTable o) q ids stored).2 in
    let none : table_at q o ≡ None = sym (ap (λ k. table_at k o) same) ∙ free in
    absurd (cc (some, none))) in
    rw apart (none-stored o id ids free (All-tail (StoresTable o) q ids stored))

-- no log file is above the last one
none-above : {X : Type 0} (n : ℕ) (es : List (ℕ × X)) → AllByRecursion (λ id. id ≤ n) (map (λ e. e.0) es) → filter (λ e. ltb n e.0) es ≡ []
none-above n [] low = refl
none-above n (e ∷ es) low = rw (le-ltb n e.0 low.0) (none-above n es low.1)

-- the first batch of a line has the number after its floor
before-first : (floor n : ℕ) (bs : List Batch) → AreNumberedFrom floor bs → 0 < length bs → number_before bs n ≡ floor
before-first floor n [] numbered some = absurd (omega arith)
before-first floor n (b ∷ bs) numbered some = let first = numbered.0 in omega arith

first-batch : (bs : List Batch) → 0 < length bs → (first : Batch) × (rest : List Batch) × (bs ≡ first ∷ rest)
first-batch [] some = absurd (omega arith)
first-batch (b ∷ bs) some = (b, bs, refl)

-- a line that is the content and then these batches
module _ (o : Objects) (latest : VersionedManifest) (line : Line) (rest : List Batch) (sound : IsSound o) (is : latest_manifest o ≡ Some latest)
    (line_is : line ≡ extended (content o) rest) (numbered : IsLine line) where
  parts-are : line ≡ extended (content_by o (Some latest)) rest
  parts-are = line_is ∙ ap (λ l. extended l rest) (ap (content_by o) is)

  batches-are : line.batches ≡ table_batches o latest.manifest.tables ++ (logged o latest.manifest ++ rest)
  batches-are = ap (λ (l : Line). l.batches) parts-are ∙ append_assoc (table_batches o latest.manifest.tables) (logged o latest.manifest) rest

  floor-is : line.floor ≡ number_before (table_batches o latest.manifest.tables) latest.manifest.last_l0_seq
  floor-is = ap (λ (l : Line). l.floor) parts-are

  joined-end : line.floor + length (table_batches o latest.manifest.tables) ≡ latest.manifest.last_l0_seq
  joined-end = ap (λ n. n + length (table_batches o latest.manifest.tables)) floor-is ∙ (its-objects o latest sound is).tables.joined

  -- above the last number in tables it has what follows the batches in tables
  above-joined : batches_above latest.manifest.last_l0_seq line.batches ≡ logged o latest.manifest ++ rest
  above-joined =
      let joined = table_batches o latest.manifest.tables in
      above-drop line.floor latest.manifest.last_l0_seq (length joined) line.batches numbered joined-end
      ∙ (ap (drop (length joined)) batches-are ∙ drop-append_seam joined (logged o latest.manifest ++ rest))

  -- the tables, joined, and the batches above make it
  pub joined-line : table_batches o latest.manifest.tables ++ batches_above latest.manifest.last_l0_seq line.batches ≡ line.batches
  joined-line = ap (λ xs. table_batches o latest.manifest.tables ++ xs) above-joined ∙ sym batches-are

  -- it doesn't end before the last number in tables
  pub tables-within : latest.manifest.last_l0_seq ≤ end line
  tables-within =
      let e = joined-end in
      let l = length-append (table_batches o latest.manifest.tables) (logged o latest.manifest ++ rest) in
      let b : length line.batches ≡ length (table_batches o latest.manifest.tables ++ (logged o latest.manifest ++ rest)) = ap length batches-are in
      omega (arith, e, l, b)

  -- its floor isn't above the last number in tables
  pub floor-low : line.floor ≤ latest.manifest.last_l0_seq
  floor-low = let e = joined-end in omega (arith, e)

-- a handle whose line is the content and then these batches, and which has some that aren't in tables
module _ (o : Objects) (latest : VersionedManifest) (h : Handle) (rest : List Batch) (sound : IsSound o) (is : latest_manifest o ≡ Some latest)
    (low : h.epoch ≤ latest.manifest.writer_epoch) (free : table_at (next_table h) o ≡ None)
    (line_is : h.line ≡ extended (content o) rest) (numbered : IsLine h.line) (some : latest.manifest.last_l0_seq < accepted h) where
  abbrev m : Manifest
  m = latest.manifest

  abbrev last : ℕ
  last = last_log m.replay_after_wal_id o

  abbrev m' : Manifest
  m' = flushed_manifest h m last

  abbrev next : VersionedManifest
  next = record { id = latest.id + 1; manifest = m' }

  abbrev bs : List Batch
  bs = h.line.batches

  abbrev table : List Batch
  table = untabled m h

  abbrev o1 : Objects
  o1 = changed (PutTable (next_table h) table) o

  abbrev joined : List Batch
  joined = table_batches o m.tables

  pub table-put : Unmoved o o1
  table-put = tabled o latest (next_table h) table sound is low free

  is-after : latest_manifest o1 ≡ Some latest
  is-after = is

  whole-line : joined ++ table ≡ bs
  whole-line = joined-line o latest h.line rest sound is line_is numbered

  some-batches : 0 < length bs
  some-batches = let e = joined-end o latest h.line rest sound is line_is numbered in let s : m.last_l0_seq < h.line.floor + length bs = some in omega (arith, e, s)

  some-table : 0 < length table
  some-table =
      let l = length-append joined table in
      let j : length (joined ++ table) ≡ length bs = ap length whole-line in
      let e = joined-end o latest h.line rest sound is line_is numbered in
      let s : m.last_l0_seq < h.line.floor + length bs = some in
      omega (arith, l, j, e, s)

  stored-after : table_at (next_table h) o1 ≡ Some table
  stored-after = lookup-insert_same table_total (next_table h) table o.tables

  pub batches-after : table_batches o1 m'.tables ≡ bs
  batches-after =
      let its = its-objects o latest sound is in
      let keeps = table-keeps o m (next_table h) table its.tables free in
      flat_map-append (λ id. unwrap_or (table_at id o1) []) m.tables (next_table h ∷ [])
      ∙ (ap (λ xs. xs ++ table_batches o1 (next_table h ∷ [])) (batches-kept o o1 m.tables keeps.tables)
      ∙ (ap (λ t. joined ++ (unwrap_or t [] ++ [])) stored-after ∙ (ap (λ t. joined ++ t) (append-nil table) ∙ whole-line)))

  none-left : logs_above last o ≡ []
  none-left = none-above last o.logs (all-at_most m.replay_after_wal_id (map (λ e. e.0) o.logs))

  logged-after : logged o1 m' ≡ []
  logged-after = ap (λ logs. batches_above m'.last_l0_seq (flat_map (λ log. log.1) logs)) none-left

  floor-after : number_before (table_batches o1 m'.tables) m'.last_l0_seq ≡ h.line.floor
  floor-after = ap (λ xs. number_before xs m'.last_l0_seq) batches-after ∙ before-first h.line.floor m'.last_l0_seq bs numbered some-batches

  content-next : content_by o1 (Some next) ≡ h.line
  content-next =
      ap (λ n. record { floor = n; batches = table_batches o1 m'.tables ++ logged o1 m' }) floor-after
      ∙ (ap (λ xs. record { floor = h.line.floor; batches = xs ++ logged o1 m' }) batches-after
      ∙ (ap (λ xs. record { floor = h.line.floor; batches = bs ++ xs }) logged-after
      ∙ ap (λ xs. record { floor = h.line.floor; batches = xs }) (append-nil bs)))

  content-put : content_by o1 (Some latest) ≡ content o
  content-put = sym (ap (content_by o1) is-after) ∙ table-put.content

  tables-after : HasItsTables o1 m'
  tables-after =
      let its = its-objects o latest sound is in
      let keeps = table-keeps o m (next_table h) table its.tables free in
      let first = first-batch table some-table in
      record {
        stored = All-append (StoresTable o1) m.tables (next_table h ∷ []) (tables-kept keeps its.tables).stored
            (All-cons (StoresTable o1) (next_table h) [] (first.0, first.1, stored-after ∙ ap Some first.2) (All-nil (StoresTable o1)));
        differ = IsDistinct-push (eq_by_cmp_equiv table_total) m.tables (next_table h) its.tables.differ (none-stored o (next_table h) m.tables free its.tables.stored);
        joined = ap (λ n. n + length (table_batches o1 m'.tables)) floor-after ∙ ap (λ xs. h.line.floor + length xs) batches-after;
      }

  -- What both leave: the line of the handle is the content.
  pub flushed-committed : Committed o1 next (changed (PutManifest next.id next.manifest) o1)
  flushed-committed =
      let its = its-objects o1 latest table-put.sound is-after in
      committed o1 latest m' table-put.sound is-after
      (record {
        tables = tables-after;
        logs = record { next = omega arith; stored = λ id over below. absurd (omega arith) };
        gapless = subst (λ logs. AreGapless last (map (λ log. log.0) logs)) (sym none-left) tt;
        epoch = omega arith;
        line = subst IsLine (sym content-next) numbered;
        begins = (rest, content-next ∙ (line_is ∙ ap (λ l. extended l rest) (sym content-put)));
        differ = its.differ;
        checkpoints = λ k d less. inl (its.pinned k d less);
      })

  pub flushed-content : content (changed (PutManifest next.id next.manifest) o1) ≡ h.line
  flushed-content = flushed-committed.content ∙ content-next
