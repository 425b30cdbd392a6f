-- A flush of a valid handle leaves sound objects and a valid handle, wherever it is broken off.
use Rattle.std.proofs.Common.{◌≡◌, ℕ, zero, suc, ◌+◌, ◌<◌, ◌≤◌, ◌⊎◌, inl, inr, List, [], ◌∷◌, ◌++◌, length, map, take, cond, Some, None, Result, Ok, Err, Bool, true, false, refl, sym, subst, ap, ◌∙◌, arith}
use Rattle.std.proofs.lemmas.Bool.{cases_lt, le-leb, ltb-false, ltb-true, leb-true, leb-false, lt-leb}
use Rattle.std.proofs.lemmas.List.{append-nil}
use Rattle.std.proofs.lemmas.List.Elements.{All-contains_itself, All-nil, Contains-append_right}
use Rattle.std.specs.List.{Contains}
use Rattle.std.specs.Prelude.{nat_le}
use Rattle.slate_types.proofs.Lines.{above-none}
use Rattle.slate_types.specs.Line.{AreNumberedFrom, IsLine, IsPrefix, Line, batches_above, end, extended}
use Rattle.slate_types.specs.declared.batches.Batch.{Batch}
use Rattle.slate_types.specs.declared.options.FlushType.{FlushType}
use Rattle.slate_types.specs.declared.options.FlushType.TheVariants.{Wal, MemTable}
use Rattle.slate_store.proofs.Latest.{its-objects}
use Rattle.slate_store.specs.Content.{IsSound, content}
use Rattle.slate_store.specs.Objects.{Change, Objects, last_log, latest_manifest, table_at}
use Rattle.slate_store.specs.declared.objects.TableId.{TableId}
use Rattle.slate_store.specs.declared.objects.VersionedManifest.{VersionedManifest}
use Rattle.slate_errors.specs.declared.errors.SlateError.{SlateError}
use Rattle.slate_errors.specs.declared.errors.SlateError.TheVariants as errors
use Rattle.slate_errors.specs.declared.endings.TaskName.{TaskName}
use Rattle.slate_model.specs.Catalogue.{catalogue_of}
use Rattle.slate_model.specs.Changes.{PartMade, after_part}
use Rattle.slate_model.specs.Flush.{CanFlush, DurableAfter, FlushAnswer, FlushesOnly, IsFlushed, StoresBatches, flush_changes, flush_changes_by, flush_changes_under, flush_view, grown, grows, has_untabled, log_after, log_changes, next_flushed, tables_put, table_changes, has_log_for, IsCurrent, flush_result}
use Rattle.slate_model.specs.Handle.{CloseResult, Handle, accepted, kept_handle, next_table, to_log, unstored}
use Rattle.slate_model.specs.Stores.{Stands, by_objects}
use Rattle.slate_model.specs.Tables.{AreStored}
use Rattle.slate_model.specs.Valid.{AreBefore, IsValidHandle, ReadsLine, up_to}
use Rattle.slate_model.proofs.Adding.{AreAdded, Lasts, Stay, flush-puts, one-put, other-table, stay-added}
use Rattle.slate_model.proofs.Flushed.{Leaves, flush-leaves, part_le}
use Rattle.slate_model.proofs.Keeping.{changes-kept, view-kept}
use Rattle.slate_model.proofs.Logging.{keep-append, KeepLogs, LogsAre, LogsFollow, LogsGo, LogsStay, mark-follow, OfLine, PastLine, numbered-past, part-are, part-logs, PutLogs, puts-part, stay-follow, stay-go}
use Rattle.slate_store.proofs.LastLog.{at_least}
use Rattle.slate_model.proofs.Moving.{Follows, Moved, known-none, none-known, still-reads}
use Rattle.slate_model.proofs.Reopened.{numbered_rest}
use Rattle.slate_model.proofs.Prefixes.{extended-nil, prefix-after, prefix-end, prefix-same, up_to-all}
use Rattle.slate_model.proofs.Reduced.{whole}
use Rattle.slate_model.proofs.Tabled.{joined-line, tables-within}

-- the tables of the latest manifest of sound objects are stored
pub latest-stored : (o : Objects) (latest : VersionedManifest) → IsSound o → latest_manifest o ≡ Some latest → AreStored o latest.manifest.tables
latest-stored o latest sound is k d less none =
    let some = (its-objects o latest sound is).tables.stored k d less in
    let found = some.2 in
    absurd (cc (found, none))

-- a flush commits no other epoch, and no lower last number in tables
view-epoch : (t : FlushType) (h : Handle) (latest : VersionedManifest) (last : ℕ) → (flush_view t h latest last).manifest.writer_epoch ≡ latest.manifest.writer_epoch
view-epoch Wal h latest last = refl
view-epoch MemTable h latest last = by (has_untabled h latest.manifest) where
  by : (some : Bool) → (cond some (next_flushed h latest last) latest).manifest.writer_epoch ≡ latest.manifest.writer_epoch
  by true = refl
  by false = refl

view-number : (t : FlushType) (h : Handle) (latest : VersionedManifest) (last : ℕ) → latest.manifest.last_l0_seq ≤ (flush_view t h latest last).manifest.last_l0_seq
view-number Wal h latest last = omega arith
view-number MemTable h latest last = by (has_untabled h latest.manifest) refl where
  by : (some : Bool) → has_untabled h latest.manifest ≡ some → latest.manifest.last_l0_seq ≤ (cond some (next_flushed h latest last) latest).manifest.last_l0_seq
  by true is = let less = ltb-true latest.manifest.last_l0_seq (accepted h) is in omega (arith, less)
  by false is = omega arith

-- the last number in its tables is the old one, or that of the last batch that the handle accepted
view-leaps : (t : FlushType) (h : Handle) (latest : VersionedManifest) (last : ℕ) → ((flush_view t h latest last).manifest.last_l0_seq ≡ latest.manifest.last_l0_seq) ⊎ ((flush_view t h latest last).manifest.last_l0_seq ≡ accepted h)
view-leaps Wal h latest last = inl refl
view-leaps MemTable h latest last = by (has_untabled h latest.manifest) where
  by : (some : Bool) → ((cond some (next_flushed h latest last) latest).manifest.last_l0_seq ≡ latest.manifest.last_l0_seq) ⊎ ((cond some (next_flushed h latest last) latest).manifest.last_l0_seq ≡ accepted h)
  by true = inr refl
  by false = inl refl

-- the replay mark of the manifest that a flush commits is the old one, or not below the last log file
log_after-high : (bs : List Batch) (last : ℕ) → last ≤ log_after bs last
log_after-high [] last = omega arith
log_after-high (b ∷ bs) last = omega arith

view-mark : (t : FlushType) (h : Handle) (latest : VersionedManifest) (last : ℕ) → ((flush_view t h latest last).manifest.replay_after_wal_id ≡ latest.manifest.replay_after_wal_id) ⊎ (last ≤ (flush_view t h latest last).manifest.replay_after_wal_id)
view-mark Wal h latest last = inl refl
view-mark MemTable h latest last = by (has_untabled h latest.manifest) where
  by : (some : Bool) → ((cond some (next_flushed h latest last) latest).manifest.replay_after_wal_id ≡ latest.manifest.replay_after_wal_id) ⊎ (last ≤ (cond some (next_flushed h latest last) latest).manifest.replay_after_wal_id)
  by true = inr (log_after-high (to_log h) last)
  by false = inl refl

-- and is the old one while the last number in tables is
view-marked : (t : FlushType) (h : Handle) (latest : VersionedManifest) (last : ℕ) → (flush_view t h latest last).manifest.last_l0_seq ≡ latest.manifest.last_l0_seq → (flush_view t h latest last).manifest.replay_after_wal_id ≡ latest.manifest.replay_after_wal_id
view-marked Wal h latest last = λ same. refl
view-marked MemTable h latest last = by (has_untabled h latest.manifest) refl where
  by : (some : Bool) → has_untabled h latest.manifest ≡ some → (cond some (next_flushed h latest last) latest).manifest.last_l0_seq ≡ latest.manifest.last_l0_seq →
      (cond some (next_flushed h latest last) latest).manifest.replay_after_wal_id ≡ latest.manifest.replay_after_wal_id
  by true is same = let less = ltb-true latest.manifest.last_l0_seq (accepted h) is in absurd (omega (arith, less, same))
  by false is same = refl

-- a flush puts a log file after the last one
log-keeps-logs : (mark : ℕ) (bs : List Batch) (last : ℕ) → KeepLogs mark last (log_changes (λ xs. xs) bs last)
log-keeps-logs mark [] last = tt
log-keeps-logs mark (b ∷ bs) last = (omega arith, tt)

flush-keeps-logs : (mark : ℕ) (t : FlushType) (h : Handle) (latest : VersionedManifest) (last : ℕ) → KeepLogs mark last (flush_changes_under (λ xs. xs) t h latest last)
flush-keeps-logs mark Wal h latest last = log-keeps-logs mark (to_log h) last
flush-keeps-logs mark MemTable h latest last = by (has_untabled h latest.manifest) where
  by : (some : Bool) → KeepLogs mark last (cond some (log_changes (λ xs. xs) (to_log h) last ++ table_changes (λ xs. xs) h latest last) [])
  by true = keep-append mark last (log_changes (λ xs. xs) (to_log h) last) (table_changes (λ xs. xs) h latest last) (log-keeps-logs mark (to_log h) last) tt
  by false = tt

-- and what it puts is such a log file, where it puts one
log-put_logs : (P : List Batch → Type 0) (bs : List Batch) (last made : ℕ) (rest : List Change) → (0 < made → P bs) → PutLogs P rest → PutLogs P (take made (log_changes (λ xs. xs) bs last ++ rest))
log-put_logs P [] last made rest such puts = puts-part P made rest puts
log-put_logs P (b ∷ bs) last zero rest such puts = tt
log-put_logs P (b ∷ bs) last (suc made) rest such puts = (such (omega arith), puts-part P made rest puts)

flush-put_logs : (P : List Batch → Type 0) (t : FlushType) (h : Handle) (latest : VersionedManifest) (last made : ℕ) → (0 < made → P (to_log h)) → PutLogs P (take made (flush_changes_under (λ xs. xs) t h latest last))
flush-put_logs P Wal h latest last made such = subst (λ cs. PutLogs P (take made cs)) (append-nil (log_changes (λ xs. xs) (to_log h) last)) (log-put_logs P (to_log h) last made [] such tt)
flush-put_logs P MemTable h latest last made such = by (has_untabled h latest.manifest) where
  by : (some : Bool) → PutLogs P (take made (cond some (log_changes (λ xs. xs) (to_log h) last ++ table_changes (λ xs. xs) h latest last) []))
  by true = log-put_logs P (to_log h) last made (table_changes (λ xs. xs) h latest last) such tt
  by false = puts-part P made [] tt

-- where a flush has fewer changes than store the batches, there are none
at-least-two : (bs : List Change) (c d : Change) → 1 < length (bs ++ c ∷ d ∷ [])
at-least-two [] c d = omega arith
at-least-two (b ∷ bs) c d = let later = at-least-two bs c d in omega (arith, later)

not-fewer : (keeps : Bool) (n : ℕ) → 1 < n → n < cond keeps 1 2 → ⊥
not-fewer true n more few = absurd (omega (arith, more, few))
not-fewer false n more few = absurd (omega (arith, more, few))

no-log : (bs : List Batch) (last : ℕ) → length (log_changes (λ xs. xs) bs last) < 1 → bs ≡ []
no-log [] last few = refl
no-log (b ∷ bs) last few = absurd (omega (arith, few))

few-none : (t : FlushType) (h : Handle) (latest : VersionedManifest) (last : ℕ) → (t ≡ Wal → h.keeps_log ≡ true) → IsLine h.line → latest.manifest.last_l0_seq ≤ h.durable →
    length (flush_changes_under (λ xs. xs) t h latest last) < grows h → unstored h ≡ []
few-none Wal h latest last keeps numbered low = logged (keeps refl) where
  logged : h.keeps_log ≡ true → length (log_changes (λ xs. xs) (to_log h) last) < grows h → unstored h ≡ []
  logged is = rw is (no-log (unstored h) last)
few-none MemTable h latest last keeps numbered low = by (has_untabled h latest.manifest) refl where
  by : (some : Bool) → has_untabled h latest.manifest ≡ some → length (cond some (log_changes (λ xs. xs) (to_log h) last ++ table_changes (λ xs. xs) h latest last) []) < grows h → unstored h ≡ []
  by true is few = absurd (not-fewer h.keeps_log _ (at-least-two (log_changes (λ xs. xs) (to_log h) last) _ _) few)
  by false is few = above-none h.line.floor h.durable h.line.batches numbered (let all = ltb-false latest.manifest.last_l0_seq (accepted h) is in omega (arith, all, low))

grows-some : (keeps : Bool) → 0 < cond keeps 1 2
grows-some true = omega arith
grows-some false = omega arith

-- nothing is stored where no change was made
not-grown : (keeps : Bool) (stored all : Line) → cond (nat_le (cond keeps 1 2) 0) all stored ≡ stored
not-grown true stored all = refl
not-grown false stored all = refl

pub grown-zero : (made : ℕ) (stored : Line) (h : Handle) → made ≡ 0 → grown made stored h ≡ stored
grown-zero made stored h none = ap (λ n. grown n stored h) none ∙ not-grown h.keeps_log stored (extended stored (unstored h))

-- what a flush of a valid handle did, and left of it
module _ (stored : Line) (o o' : Objects) (latest : VersionedManifest) (t : FlushType) (h k : Handle) (r : Result (Unit {0}) SlateError) (closed : CloseResult) (tasks : List TaskName) (made : ℕ)
    (sound : IsSound o) (holds : content o ≡ stored) (is : latest_manifest o ≡ Some latest) (v : IsValidHandle stored (catalogue_of o) h) (reads : ReadsLine o h.view h.line) (before : AreBefore h h.view.manifest.tables)
    (can : CanFlush t h) (s : StoresBatches (by_objects (Some o)) t (kept_handle h) o r k made o') (f : IsFlushed (λ a. a) made r closed tasks h (whole h k)) where
  abbrev last : ℕ
  last = last_log latest.manifest.replay_after_wal_id o

  abbrev cs : List Change
  cs = flush_changes_under (λ xs. xs) t h latest last

  abbrev next : VersionedManifest
  next = flush_view t h latest last

  known-latest : v.behind.0 ≡ latest
  known-latest = let b = v.behind.1 in cc

  ahead : h.view.manifest.last_l0_seq ≤ latest.manifest.last_l0_seq
  ahead = let number = ap (λ (m : VersionedManifest). m.manifest.last_l0_seq) known-latest in let low = v.behind.3 in omega (arith, number, low)

  low-epoch : h.epoch ≤ latest.manifest.writer_epoch
  low-epoch = let epoch = ap (λ (m : VersionedManifest). m.manifest.writer_epoch) known-latest in let low = v.behind.2 in omega (arith, epoch, low)

  free : table_at (next_table h) o ≡ None
  free = none-known (next_table h) o (v.unused h.counter (omega arith))

  keeps : t ≡ Wal → h.keeps_log ≡ true
  keeps same = sym (ap (λ u. has_log_for u h) same) ∙ can.1

  changes-are : flush_changes (λ xs. xs) t (kept_handle h) o ≡ cs
  changes-are = ap (flush_changes_by (λ xs. xs) t (kept_handle h) o) is ∙ changes-kept h v.tabled latest last ahead (λ xs. xs) t

  after : o' ≡ after_part made cs o
  after = s.after ∙ ap (λ xs. after_part made xs o) changes-are

  le : made ≤ length cs
  le = subst (λ (xs : List Change). made ≤ length xs) changes-are (part_le r (length (flush_changes (λ xs. xs) t (kept_handle h) o)) made s.part)

  added : AreAdded (next_table h) o (tables_put (take made cs)) o'
  added = subst (AreAdded (next_table h) o (tables_put (take made cs))) (sym after) (one-put (next_table h) made cs o (flush-puts t h latest last))

  stays : Stay o o'
  stays = stay-added (next_table h) (tables_put (take made cs)) o o' added free

  -- a table of another handle is as it was
  pub others-same : (q : TableId) → (q.epoch ≡ h.epoch → ⊥) → table_at q o' ≡ table_at q o
  others-same q differ = other-table (next_table h) q (tables_put (take made cs)) o o' added (λ same. differ (ap (λ (id : TableId). id.epoch) same))

  -- so is one that comes before its next one
  lasts-same : (q : TableId) → (q.epoch ≡ h.epoch → q.index < h.counter) → Lasts o o' q
  lasts-same q low some = other-table (next_table h) q (tables_put (take made cs)) o o' added
      (λ same. let less = low (ap (λ (id : TableId). id.epoch) same) in let i = ap (λ (id : TableId). id.index) same in absurd (omega (arith, less, i)))

  counted : h.counter + tables_put (take made cs) ≤ k.counter
  counted = subst (λ (xs : List Change). h.counter + tables_put (take made xs) ≤ k.counter) changes-are s.counted.0

  -- no table has the id of its next one
  unused-after : (index : ℕ) → k.counter ≤ index → table_at (record { epoch = h.epoch; index = index }) o' ≡ None
  unused-after index high =
      let before : table_at (record { epoch = h.epoch; index = index }) o ≡ None = none-known (record { epoch = h.epoch; index = index }) o (v.unused index (let c = counted in omega (arith, c, high))) in
      elim added [
        | inl none ↦ ap (λ es. table_at (record { epoch = h.epoch; index = index }) (record { manifests = o.manifests; logs = o.logs; tables = es })) none.0 ∙ before
        | inr one ↦
            let c = counted in
            let count = one.2 in
            other-table (next_table h) (record { epoch = h.epoch; index = index }) (tables_put (take made cs)) o o' added
            (λ same. let i = ap (λ (id : TableId). id.index) same in absurd (omega (arith, c, count, high, i))) ∙ before
      ]

  abbrev Current : Type 0
  Current = latest.manifest.writer_epoch ≤ h.epoch

  found-latest : (found : VersionedManifest) → latest_manifest o ≡ Some found → found ≡ latest
  found-latest found at = cc

  found-current : (found : VersionedManifest) → IsCurrent h.epoch o found → Current
  found-current found c = let epoch = ap (λ (m : VersionedManifest). m.manifest.writer_epoch) (found-latest found c.0) in let low = c.1 in omega (arith, epoch, low)

  -- where a change was made, the epoch is current
  made-current : 0 < made → Current
  made-current some = let c = s.current some in found-current c.0 c.1

  -- the view is what the flush committed, and all was made; or the old one; or the one that it read
  abbrev Views : Type 0
  Views = ((made ≡ length cs) × (k.view ≡ next) × Current × (k.durable ≡ accepted h)) ⊎ ((k.view ≡ h.view) ⊎ ((k.view ≡ latest) × Current))

  views-by : (q : Result (Unit {0}) SlateError) → FlushAnswer (Stands (flush_changes (λ xs. xs) t (kept_handle h) o) o) t (kept_handle h) o q k.view → PartMade q (length (flush_changes (λ xs. xs) t (kept_handle h) o)) made → DurableAfter (nat_le (grows h) made) h q k.durable → Views
  views-by (Ok x) a part d =
      let same = found-latest a.0 a.1.0 in
      let view : k.view ≡ flush_view t (kept_handle h) latest last = subst (λ (m : VersionedManifest). k.view ≡ flush_view t (kept_handle h) m (last_log m.manifest.replay_after_wal_id o)) same a.2 in
      inl (part ∙ ap length changes-are, view ∙ view-kept h v.tabled latest last ahead t, found-current a.0 a.1, d)
  views-by (Err e) a part d = elim a.1 [
    | inl same ↦ inr (inl same)
    | inr current ↦ inr (inr (found-latest k.view current.0, found-current k.view current))
  ]

  views-ok : (x : Unit {0}) → FlushAnswer (Stands (flush_changes (λ xs. xs) t (kept_handle h) o) o) t (kept_handle h) o (Ok x) k.view → PartMade {A = Unit {0}} (Ok x) (length (flush_changes (λ xs. xs) t (kept_handle h) o)) made → k.durable ≡ accepted h → k.view ≡ next
  views-ok x a part d =
      let same = found-latest a.0 a.1.0 in
      let view : k.view ≡ flush_view t (kept_handle h) latest last = subst (λ (m : VersionedManifest). k.view ≡ flush_view t (kept_handle h) m (last_log m.manifest.replay_after_wal_id o)) same a.2 in
      view ∙ view-kept h v.tabled latest last ahead t

  kept-view : (e : SlateError) → FlushAnswer (Stands (flush_changes (λ xs. xs) t (kept_handle h) o) o) t (kept_handle h) o (Err e) k.view → (k.view ≡ h.view) ⊎ ((k.view ≡ latest) × Current)
  kept-view e a = elim a.1 [
    | inl same ↦ inl same
    | inr current ↦ inr (found-latest k.view current.0, found-current k.view current)
  ]

  views : Views
  views = views-by r s.answer s.part f.durable

  -- the durable number is the old one, or the accepted one and all is stored
  abbrev Durables : Type 0
  Durables = (k.durable ≡ h.durable) ⊎ ((k.durable ≡ accepted h) × ((nat_le (grows h) made ≡ true) ⊎ ((made ≡ length cs) × Current)))

  durables-by : (q : Result (Unit {0}) SlateError) → FlushAnswer (Stands (flush_changes (λ xs. xs) t (kept_handle h) o) o) t (kept_handle h) o q k.view → PartMade q (length (flush_changes (λ xs. xs) t (kept_handle h) o)) made → DurableAfter (nat_le (grows h) made) h q k.durable → Durables
  durables-by (Ok x) a part d = inr (d, inr (part ∙ ap length changes-are, found-current a.0 a.1))
  durables-by (Err errors.NoMemory) a part d = by (nat_le (grows h) made) refl d where
    by : (b : Bool) → nat_le (grows h) made ≡ b → k.durable ≡ cond b (accepted h) h.durable → Durables
    by true is_b d = inr (d, inl is_b)
    by false is_b d = inl d
  durables-by (Err e) a part d = elim d [
    | inl old ↦ inl old
    | inr new ↦ inr (new.1, inl new.0)
  ]

  durables : Durables
  durables = durables-by r s.answer s.part f.durable

  abbrev stored' : Line
  stored' = grown made stored h

  line-is : Current → extended stored (unstored h) ≡ h.line
  line-is cur = (v.current latest can.0 is cur).0

  grown-by : (b : Bool) → nat_le (grows h) made ≡ b → stored' ≡ cond b (extended stored (unstored h)) stored
  grown-by b is_b = ap (λ x. cond x (extended stored (unstored h)) stored) is_b

  -- all of the line is stored
  stored-all : Current → (nat_le (grows h) made ≡ true) ⊎ ((made ≡ length cs) × Current) → stored' ≡ h.line
  stored-all cur (inl all) = grown-by true all ∙ line-is cur
  stored-all cur (inr all) = by (nat_le (grows h) made) refl where
    by : (b : Bool) → nat_le (grows h) made ≡ b → stored' ≡ h.line
    by true is_b = grown-by true is_b ∙ line-is cur
    by false is_b =
        let less : made < grows h = leb-false (grows h) made is_b in
        let low : latest.manifest.last_l0_seq ≤ h.durable = (let same = (v.current latest can.0 is cur).1 in let t = v.tabled in omega (arith, same, t)) in
        let count = all.0 in
        let none = few-none t h latest last keeps v.numbered low (omega (arith, less, count)) in
        grown-by false is_b ∙ (sym (extended-nil stored) ∙ (ap (extended stored) (sym none) ∙ line-is cur))

  all-current : (nat_le (grows h) made ≡ true) ⊎ ((made ≡ length cs) × Current) → Current
  all-current (inl all) = made-current (let some = grows-some h.keeps_log in let less = leb-true (grows h) made all in omega (arith, some, less))
  all-current (inr all) = all.1

  -- ---- the objects
  abbrev LeftBy : Type 0
  LeftBy = Leaves o latest next h.line (grows h) (length cs) made o'

  left : Current → LeftBy
  left cur =
      let line : h.line ≡ extended (content o) (unstored h) = sym (line-is cur) ∙ ap (λ l. extended l (unstored h)) (sym holds) in
      subst (Leaves o latest next h.line (grows h) (length cs) made) (sym after) (flush-leaves o latest h sound is low-epoch free line v.numbered t keeps made le)

  -- where the epoch isn't current, nothing was put
  none-made : (Current → ⊥) → made ≡ 0
  none-made old = by made refl where
    by : (n : ℕ) → made ≡ n → made ≡ 0
    by zero is_n = is_n
    by (suc n) is_n = absurd (old (made-current (omega (arith, is_n))))

  same-objects : (Current → ⊥) → o' ≡ o
  same-objects old = after ∙ ap (λ n. after_part n cs o) (none-made old)

  -- the latest manifest afterwards is that of before, or the one that was committed
  pub record Newest : Type 0 where
    manifest : VersionedManifest
    is_latest : latest_manifest o' ≡ Some manifest
    which : ((manifest ≡ latest) × ((made < length cs) ⊎ (Current → ⊥))) ⊎ ((manifest ≡ next) × Current)
    sound_after : IsSound o'
    content_after : content o' ≡ stored'

  content-current : Current → content o' ≡ stored'
  content-current cur = by (nat_le (grows h) made) refl where
    by : (b : Bool) → nat_le (grows h) made ≡ b → content o' ≡ stored'
    by true is_b = (left cur).after (leb-true (grows h) made is_b) ∙ (sym (line-is cur) ∙ sym (grown-by true is_b))
    by false is_b = (left cur).before (leb-false (grows h) made is_b) ∙ (holds ∙ sym (grown-by false is_b))

  grown-none : made ≡ 0 → stored' ≡ stored
  grown-none none = grown-by false (lt-leb (grows h) made (let some = grows-some h.keeps_log in omega (arith, some, none)))

  newest : Newest
  newest = elim (cases_lt h.epoch latest.manifest.writer_epoch) [
    | inl less ↦
        let old : Current → ⊥ = λ (cur : Current). (absurd (omega (arith, less, cur))) in
        record {
          manifest = latest;
          is_latest = ap latest_manifest (same-objects old) ∙ is;
          which = inl (refl, inr old);
          sound_after = subst IsSound (sym (same-objects old)) sound;
          content_after = ap content (same-objects old) ∙ (holds ∙ sym (grown-none (none-made old)));
        }
    | inr cur ↦ elim (cases_lt made (length cs)) [
      | inl fewer ↦ record {
        manifest = latest;
        is_latest = (left cur).below fewer;
        which = inl (refl, inl fewer);
        sound_after = (left cur).sound;
        content_after = content-current cur;
      }
      | inr all ↦ record {
        manifest = next;
        is_latest = (left cur).whole (let few = le in omega (arith, all, few));
        which = inr (refl, cur);
        sound_after = (left cur).sound;
        content_after = content-current cur;
      }
    ]
  ]

  abbrev n' : VersionedManifest
  n' = newest.manifest

  next-number : latest.manifest.last_l0_seq ≤ n'.manifest.last_l0_seq
  next-number = elim newest.which [
    | inl same ↦ (let e = ap (λ (m : VersionedManifest). m.manifest.last_l0_seq) same.0 in omega (arith, e))
    | inr new ↦ (let e = ap (λ (m : VersionedManifest). m.manifest.last_l0_seq) new.0 in let low = view-number t h latest last in omega (arith, e, low))
  ]

  next-leaps : (n'.manifest.last_l0_seq ≡ latest.manifest.last_l0_seq) ⊎ (end stored ≤ n'.manifest.last_l0_seq)
  next-leaps = elim newest.which [
    | inl same ↦ inl (ap (λ (m : VersionedManifest). m.manifest.last_l0_seq) same.0)
    | inr new ↦
        let e = ap (λ (m : VersionedManifest). m.manifest.last_l0_seq) new.0 in
        elim (view-leaps t h latest last) [
          | inl same ↦ inl (e ∙ same)
          | inr all ↦ let low = prefix-end stored h.line (unstored h, sym (line-is new.1)) in inr (omega (arith, e, all, low))
        ]
  ]

  next-epoch : n'.manifest.writer_epoch ≡ latest.manifest.writer_epoch
  next-epoch = elim newest.which [
    | inl same ↦ ap (λ (m : VersionedManifest). m.manifest.writer_epoch) same.0
    | inr new ↦ ap (λ (m : VersionedManifest). m.manifest.writer_epoch) new.0 ∙ view-epoch t h latest last
  ]

  next-marked : n'.manifest.last_l0_seq ≡ latest.manifest.last_l0_seq → n'.manifest.replay_after_wal_id ≡ latest.manifest.replay_after_wal_id
  next-marked number = elim newest.which [
    | inl same ↦ ap (λ (m : VersionedManifest). m.manifest.replay_after_wal_id) same.0
    | inr new ↦
        ap (λ (m : VersionedManifest). m.manifest.replay_after_wal_id) new.0
        ∙ view-marked t h latest last (sym (ap (λ (m : VersionedManifest). m.manifest.last_l0_seq) new.0) ∙ number)
  ]

  logs-stay : LogsStay latest.manifest.replay_after_wal_id last o o'
  logs-stay = subst (LogsStay latest.manifest.replay_after_wal_id last o) (sym after) (part-logs latest.manifest.replay_after_wal_id last made cs o (flush-keeps-logs latest.manifest.replay_after_wal_id t h latest last))

  logs-follow : LogsFollow o o' latest.manifest.replay_after_wal_id n'.manifest.replay_after_wal_id
  logs-follow = elim newest.which [
    | inl same ↦ stay-follow o o' latest.manifest.replay_after_wal_id n'.manifest.replay_after_wal_id (sym (ap (λ (m : VersionedManifest). m.manifest.replay_after_wal_id) same.0)) logs-stay
    | inr new ↦
        let e = ap (λ (m : VersionedManifest). m.manifest.replay_after_wal_id) new.0 in
        let least = at_least latest.manifest.replay_after_wal_id (map (λ (log : ℕ × List Batch). log.0) o.logs) in
        elim (view-mark t h latest last) [
          | inl kept ↦ stay-follow o o' latest.manifest.replay_after_wal_id n'.manifest.replay_after_wal_id (sym (e ∙ kept)) logs-stay
          | inr high ↦ mark-follow o o' latest.manifest.replay_after_wal_id n'.manifest.replay_after_wal_id (omega (arith, e, high, least)) (omega (arith, e, high)) logs-stay
        ]
  ]

  -- what goes to the log is stored then
  logged-of : 0 < made → OfLine stored' (to_log h)
  logged-of some = by h.keeps_log refl where
    by : (b : Bool) → h.keeps_log ≡ b → OfLine stored' (to_log h)
    by true is_b =
        let all : nat_le (grows h) made ≡ true = subst (λ x. nat_le (cond x 1 2) made ≡ true) (sym is_b) (le-leb 1 made (omega (arith, some))) in
        let logs : to_log h ≡ unstored h = ap (λ x. cond x (unstored h) []) is_b in
        let line = grown-by true all in
        subst (OfLine stored') (sym logs) (subst (λ l. OfLine l (unstored h)) (sym line) (λ k d less. Contains-append_right stored.batches (unstored h) _ (All-contains_itself (unstored h) k d less)))
    by false is_b =
        let logs : to_log h ≡ [] = ap (λ x. cond x (unstored h) []) is_b in
        subst (OfLine stored') (sym logs) (All-nil (λ batch. Contains stored'.batches batch))

  -- and comes after what was
  logged-past : 0 < made → PastLine stored (to_log h)
  logged-past some = by h.keeps_log refl where
    by : (b : Bool) → h.keeps_log ≡ b → PastLine stored (to_log h)
    by true is_b =
        let line = line-is (made-current some) in
        let numbered : AreNumberedFrom stored.floor (stored.batches ++ unstored h) = subst (λ (l : Line). AreNumberedFrom l.floor l.batches) (sym line) v.numbered in
        let logs : to_log h ≡ unstored h = ap (λ x. cond x (unstored h) []) is_b in
        subst (PastLine stored) (sym logs) (numbered-past (end stored) (unstored h) (numbered_rest stored.floor stored.batches (unstored h) numbered))
    by false is_b =
        let logs : to_log h ≡ [] = ap (λ x. cond x (unstored h) []) is_b in
        subst (PastLine stored) (sym logs) (All-nil (λ (batch : Batch). end stored < batch.number))

  follows : Follows stored stored' o o' latest n'
  follows = record {
    sound = newest.sound_after;
    content = newest.content_after;
    grows = prefix-after stored stored (nat_le (grows h) made) (unstored h) (prefix-same stored);
    latest_is = newest.is_latest;
    epochs = (let e = next-epoch in omega (arith, e));
    tabled = next-number;
    leaps = next-leaps;
    marked = next-marked;
    logs = logs-follow;
    logs_are = subst (LogsAre (OfLine stored') o) (sym after) (part-are (OfLine stored') made cs o (flush-put_logs (OfLine stored') t h latest last made logged-of));
    news = subst (LogsAre (PastLine stored) o) (sym after) (part-are (PastLine stored) made cs o (flush-put_logs (PastLine stored) t h latest last made logged-past));
    goes = subst (LogsGo last o) (sym after) (stay-go last o (after_part made cs o) (part-logs 0 last made cs o (flush-keeps-logs 0 t h latest last)));
  }

  alone : ((stored' ≡ stored) × (n'.manifest.last_l0_seq ≡ latest.manifest.last_l0_seq)) ⊎ Current
  alone = elim newest.which [
    | inl same ↦ elim same.1 [
      | inl fewer ↦ by-made made refl
      | inr old ↦ inl (grown-none (none-made old), ap (λ (m : VersionedManifest). m.manifest.last_l0_seq) same.0)
    ]
    | inr new ↦ inr new.1
  ] where
    by-made : (n : ℕ) → made ≡ n → ((stored' ≡ stored) × (n'.manifest.last_l0_seq ≡ latest.manifest.last_l0_seq)) ⊎ Current
    by-made zero is_n = elim newest.which [
      | inl same ↦ inl (grown-none is_n, ap (λ (m : VersionedManifest). m.manifest.last_l0_seq) same.0)
      | inr new ↦ inr new.1
    ]
    by-made (suc n) is_n = inr (made-current (omega (arith, is_n)))

  -- what the flush committed is the latest, where all was made
  committed-is : made ≡ length cs → Current → n' ≡ next
  committed-is all cur = elim newest.which [
    | inl same ↦ elim same.1 [
      | inl fewer ↦ absurd (omega (arith, all, fewer))
      | inr old ↦ absurd (old cur)
    ]
    | inr new ↦ new.0
  ]

  -- ---- the handle
  abbrev new : Handle
  new = whole h k

  new-epoch : new.epoch ≡ h.epoch
  new-epoch = ap (λ (a : Handle). a.epoch) f.same

  durable-low : h.durable ≤ k.durable
  durable-low = elim durables [
    | inl same ↦ omega (arith, same)
    | inr all ↦ (let d = v.durable in let a = all.0 in omega (arith, a, d))
  ]

  durable-high : k.durable ≤ accepted h
  durable-high = elim durables [
    | inl same ↦ (let d = v.durable in omega (arith, same, d))
    | inr all ↦ (let a = all.0 in omega (arith, a))
  ]

  -- all of the line is stored under what the flush committed
  view-line : made ≡ length cs → Current → h.line ≡ extended (content o') []
  view-line all cur = sym (stored-all cur (inr (all, cur))) ∙ (sym newest.content_after ∙ sym (extended-nil (content o')))

  committed-latest : made ≡ length cs → Current → latest_manifest o' ≡ Some next
  committed-latest all cur = newest.is_latest ∙ ap Some (committed-is all cur)

  number : {a b : VersionedManifest} → a ≡ b → a.manifest.last_l0_seq ≡ b.manifest.last_l0_seq
  number same = ap (λ (m : VersionedManifest). m.manifest.last_l0_seq) same

  tabled-after : k.view.manifest.last_l0_seq ≤ k.durable
  tabled-after = elim views [
    | inl committed ↦
        let e = number committed.1 in
        let within = tables-within o' next h.line [] newest.sound_after (committed-latest committed.0 committed.2) (view-line committed.0 committed.2) v.numbered in
        let all = committed.3 in
        omega (arith, e, within, all)
    | inr kept ↦ elim kept [
      | inl same ↦ (let e = number same in let t = v.tabled in let low = durable-low in omega (arith, e, t, low))
      | inr read ↦ (let e = number read.0 in let same = (v.current latest can.0 is read.1).1 in let t = v.tabled in let low = durable-low in omega (arith, e, same, t, low))
    ]
  ]

  numbers-after : k.view.manifest.last_l0_seq ≤ n'.manifest.last_l0_seq
  numbers-after = elim views [
    | inl committed ↦ (let e = number (committed.1 ∙ sym (committed-is committed.0 committed.2)) in omega (arith, e))
    | inr kept ↦ elim kept [
      | inl same ↦ (let e = number same in let low = ahead in let n = next-number in omega (arith, e, low, n))
      | inr read ↦ (let e = number read.0 in let n = next-number in omega (arith, e, n))
    ]
  ]

  floor-after : h.line.floor ≤ k.view.manifest.last_l0_seq
  floor-after = elim views [
    | inl committed ↦ (let e = number committed.1 in let low = ahead in let n = view-number t h latest last in let floor = v.floor in omega (arith, e, low, n, floor))
    | inr kept ↦ elim kept [
      | inl same ↦ (let e = number same in let floor = v.floor in omega (arith, e, floor))
      | inr read ↦ (let e = number read.0 in let low = ahead in let floor = v.floor in omega (arith, e, low, floor))
    ]
  ]

  view-after : (k.view ≡ h.view) ⊎ AreStored o' k.view.manifest.tables
  view-after = elim views [
    | inl committed ↦ inr (subst (λ (m : VersionedManifest). AreStored o' m.manifest.tables) (sym committed.1) (latest-stored o' next newest.sound_after (committed-latest committed.0 committed.2)))
    | inr kept ↦ elim kept [
      | inl same ↦ inl same
      | inr read ↦ inr (subst (λ (m : VersionedManifest). AreStored o' m.manifest.tables) (sym read.0) (stays.stored latest.manifest.tables (latest-stored o latest sound is)))
    ]
  ]

  -- the tables of this manifest, joined, and what is above them are the line
  abbrev MakesLine : VersionedManifest → Type 0
  MakesLine m = ReadsLine o' m h.line

  reads-after : MakesLine k.view
  reads-after = elim views [
    | inl committed ↦
        subst MakesLine (sym committed.1) (λ there. joined-line o' next h.line [] newest.sound_after (committed-latest committed.0 committed.2) (view-line committed.0 committed.2) v.numbered)
    | inr kept ↦ elim kept [
      | inl same ↦
          subst MakesLine (sym same) (still-reads o o' h.view h.line (λ k d less. lasts-same _ (before k d less)) reads)
      | inr read ↦
          let line : h.line ≡ extended (content o) (unstored h) = sym (line-is read.1) ∙ ap (λ l. extended l (unstored h)) (sym holds) in
          subst MakesLine (sym read.0)
          (λ there. ap (λ bs. bs ++ batches_above latest.manifest.last_l0_seq h.line.batches) (stays.batches latest.manifest.tables (latest-stored o latest sound is))
          ∙ joined-line o latest h.line (unstored h) sound is line v.numbered)
    ]
  ]

  confirmed-after : IsPrefix (up_to k.durable h.line) stored'
  confirmed-after = elim durables [
    | inl same ↦ prefix-after (up_to k.durable h.line) stored (nat_le (grows h) made) (unstored h) (subst (λ n. IsPrefix (up_to n h.line) stored) (sym same) v.confirmed)
    | inr all ↦
        subst (IsPrefix (up_to k.durable h.line)) (sym (stored-all (all-current all.1) all.1))
        (subst (λ l. IsPrefix l h.line) (sym (up_to-all k.durable h.line (let d = all.0 in omega (arith, d)))) (prefix-same h.line))
  ]

  -- the batches that the handle hasn't stored afterwards
  none-left : k.durable ≡ accepted h → batches_above k.durable h.line.batches ≡ []
  none-left all = above-none h.line.floor k.durable h.line.batches v.numbered (omega (arith, all))

  abbrev Goes : VersionedManifest → Type 0
  Goes found = (extended stored' (batches_above k.durable h.line.batches) ≡ h.line) × (found.manifest.last_l0_seq ≡ k.view.manifest.last_l0_seq)

  -- all is stored, and the durable number says so
  all-goes : k.durable ≡ accepted h → stored' ≡ h.line → extended stored' (batches_above k.durable h.line.batches) ≡ h.line
  all-goes all line = ap (extended stored') (none-left all) ∙ (extended-nil stored' ∙ line)

  old-goes : k.durable ≡ h.durable → nat_le (grows h) made ≡ false → Current → extended stored' (batches_above k.durable h.line.batches) ≡ h.line
  old-goes same none cur =
      ap (λ l. extended l (batches_above k.durable h.line.batches)) (grown-by false none)
      ∙ (ap (λ n. extended stored (batches_above n h.line.batches)) same ∙ line-is cur)

  -- an error that closes nothing leaves the manifest
  latest-goes : Current → n' ≡ latest → (k.view ≡ h.view) ⊎ ((k.view ≡ latest) × Current) → n'.manifest.last_l0_seq ≡ k.view.manifest.last_l0_seq
  latest-goes cur same (inl kept) = number same ∙ ((v.current latest can.0 is cur).1 ∙ sym (number kept))
  latest-goes cur same (inr read) = number same ∙ sym (number read.0)

  fewer-latest : Current → (made ≡ 0) ⊎ (made < length cs) → n' ≡ latest
  fewer-latest cur few = elim newest.which [
    | inl same ↦ same.0
    | inr new ↦ elim few [
      | inl none ↦ (let at = newest.is_latest in let e : o' ≡ o = after ∙ ap (λ n. after_part n cs o) none in let same = ap latest_manifest e in found-latest n' (sym same ∙ at))
      | inr fewer ↦ (let at = newest.is_latest in let b = (left cur).below fewer in cc)
    ]
  ]

  goes-by : (q : Result (Unit {0}) SlateError) → r ≡ q → closed ≡ None → (closed ≡ None → closed ≡ flush_result q) →
      FlushAnswer (Stands (flush_changes (λ xs. xs) t (kept_handle h) o) o) t (kept_handle h) o q k.view → PartMade q (length (flush_changes (λ xs. xs) t (kept_handle h) o)) made →
      FlushesOnly q (length cs) made → DurableAfter (nat_le (grows h) made) h q k.durable → Current → Goes n'
  goes-by (Ok x) is_q live says a part only d cur =
      let all : made ≡ length cs = part ∙ ap length changes-are in
      let view = views-ok x a part d in
      (all-goes d (stored-all cur (inr (all, cur))), number (committed-is all cur ∙ sym view))
  goes-by (Err errors.NoMemory) is_q live says a part only d cur =
      by (nat_le (grows h) made) refl d where
        by : (b : Bool) → nat_le (grows h) made ≡ b → k.durable ≡ cond b (accepted h) h.durable → Goes n'
        by true is_b d = (all-goes d (stored-all cur (inl is_b)), latest-goes cur (fewer-latest cur only) (kept-view errors.NoMemory a))
        by false is_b d = (old-goes d is_b cur, latest-goes cur (fewer-latest cur only) (kept-view errors.NoMemory a))
  goes-by (Err errors.InvalidDBState) is_q live says a part only d cur =
      let no : nat_le (grows h) made ≡ false = lt-leb (grows h) made (let some = grows-some h.keeps_log in omega (arith, some, only)) in
      elim d [
        | inl old ↦ (old-goes old no cur, latest-goes cur (fewer-latest cur (inl only)) (kept-view errors.InvalidDBState a))
        | inr new ↦ absurd (let yes = new.0 in cc)
      ]
  goes-by (Err errors.Fenced) is_q live says a part only d cur = absurd (let e = says live in cc)
  goes-by (Err errors.LatestTransactionalObjectVersionMissing) is_q live says a part only d cur = absurd (let e = says live in cc)
  goes-by (Err errors.TransactionalObjectVersionExists) is_q live says a part only d cur = absurd (let e = says live in cc)
  goes-by (Err (errors.ObjectStoreError fault)) is_q live says a part only d cur = absurd (let e = says live in cc)
  goes-by (Err e) is_q live says a part only d cur = absurd a.0

  -- ---- all of it
  module _ (says : closed ≡ None → closed ≡ flush_result r) where
    current-after : (found : VersionedManifest) → new.result ≡ None → latest_manifest o' ≡ Some found → found.manifest.writer_epoch ≤ new.epoch → Goes found
    current-after found live at low =
        let same : n' ≡ found = (let b = newest.is_latest in cc) in
        let open_is : closed ≡ None = sym (ap (λ (a : Handle). a.result) f.same) ∙ live in
        let epoch = ap (λ (m : VersionedManifest). m.manifest.writer_epoch) same in
        let mine = new-epoch in
        let e = next-epoch in
        let only : FlushesOnly r (length cs) made = subst (λ (xs : List Change). FlushesOnly r (length xs) made) changes-are s.only in
        subst Goes same (goes-by r refl open_is says s.answer s.part only f.durable (omega (arith, epoch, mine, e, low)))

    pub flush-valid : IsValidHandle stored' (catalogue_of o') new
    flush-valid = record {
      numbered = v.numbered;
      floor = floor-after;
      tabled = tabled-after;
      durable = durable-high;
      confirmed = confirmed-after;
      unused = λ index high. known-none (record { epoch = k.epoch; index = index }) o'
          (subst (λ e. table_at (record { epoch = e; index = index }) o' ≡ None) (sym new-epoch) (unused-after index high));
      behind = (n', newest.is_latest, (let e = next-epoch in let m = new-epoch in let low = low-epoch in omega (arith, e, m, low)), numbers-after);
      current = current-after;
    }

    -- the handle moved
    pub flush-moved : Moved stored stored' o o' latest h new
    flush-moved = record {
      next = n';
      follows = follows;
      others = others-same;
      lasts = lasts-same;
      counter = (let c = counted in omega (arith, c));
      view = view-after;
      same_epoch = next-epoch;
      alone = alone;
      epoch = new-epoch;
      mine = flush-valid;
      reads = reads-after;
    }
