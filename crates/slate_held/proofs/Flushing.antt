-- A flush keeps a handle in step with its store, wherever it is broken off.
use Rattle.std.proofs.Common.{◌≡◌, ◌≢◌, ℕ, zero, suc, ◌+◌, ◌<◌, ◌≤◌, ◌⊎◌, inl, inr, List, [], ◌∷◌, ◌++◌, All, Bool, true, false, cond, length, map, get_or, leb, Option, Some, None, Result, Ok, Err, refl, sym, subst, ap, ◌∙◌, arith}
use Rattle.std.specs.List.{AllByRecursion, Contains}
use Rattle.std.specs.Ordering.{nat_cmp}
use Rattle.std.specs.BTreeMap.{insert_entry, is_at}
use Rattle.std.specs.Map.{lookup}
use Rattle.std.proofs.lemmas.Bool.{cases_lt, false_from_ne_true, leb-true, ltb-false}
use Rattle.std.proofs.lemmas.Cmp.{nat_cmp_total}
use Rattle.std.proofs.lemmas.List.Elements.{All-contains_itself, All-nil, All-weaker, Contains-append_right}
use Rattle.slate_types.specs.declared.batches.Batch.{Batch}
use Rattle.slate_types.specs.declared.options.FlushType.{FlushType}
use Rattle.slate_types.specs.declared.options.FlushType.TheVariants.{Wal, MemTable}
use Rattle.slate_types.specs.Line.{IsLine}
use Rattle.slate_types.proofs.Lines.{above-all}
use Rattle.slate_store.specs.declared.objects.Manifest.{Manifest}
use Rattle.slate_store.specs.declared.objects.VersionedManifest.{VersionedManifest}
use Rattle.slate_store.specs.Logs.{IsLogged}
use Rattle.slate_store.specs.Objects.{Change, IsGreatest, Objects, PutLog, PutManifest, PutTable, changed, entry_at, last_log, latest_manifest, log_at, table_cmp}
use Rattle.slate_store.proofs.Entries.{absent, apart, lookup-insert_other, lookup-insert_same, table_total}
use Rattle.slate_store.proofs.Latest.{next-greatest, next-latest}
use Rattle.slate_store.proofs.LastLog.{at_least}
use Rattle.slate_store.proofs.Parts.{part-none}
use Rattle.slate_errors.specs.declared.errors.SlateError.{SlateError}
use Rattle.slate_errors.specs.declared.errors.SlateError.TheVariants as errors
use Rattle.slate_errors.specs.declared.endings.TaskName.{TaskName}
use Rattle.slate_seqtrack.specs.Tracker.{Tracker}
use Rattle.slate_model.specs.Changes.{PartMade, after_part}
use Rattle.slate_model.specs.Flush.{DurableAfter, FlushAnswer, IsFlushed, StoresBatches, flush_changes, flush_changes_by, flush_changes_under, flush_view, grows, has_log_for, log_changes, next_flushed, table_changes}
use Rattle.slate_model.specs.Handle.{CloseResult, Handle, accepted, has_untabled, kept_handle, next_table, to_log, unstored, untabled}
use Rattle.slate_model.specs.Stores.{Stands, by_objects}
use Rattle.slate_model.proofs.Flushed.{part_le}
use Rattle.slate_held.specs.Keeping.{IsInStep, IsStored, IsTabled}
use Rattle.slate_held.proofs.Lined.{above-has, empty-line, same-line}
use Rattle.slate_held.proofs.Stepping.{logged-same}

some-inj : {X : Type 0} (x y : X) → Some x ≡ Some y → x ≡ y
some-inj x y h = cc

some_none : {X : Type 0} (x : X) (o : Option X) → o ≡ Some x → o ≡ None → ⊥
some_none x o some none = cc

-- ---- a log file after the last one
module _ (mark : ℕ) (o : Objects) (bs : List Batch) (o' : Objects) (put : o'.logs ≡ insert_entry nat_cmp o.logs (last_log mark o + 1) bs) where
  -- leaves the others
  pub log-stays : (b : Batch) → IsLogged mark o b → IsLogged mark o' b
  log-stays b x =
      let id = last_log mark o + 1 in
      let none : log_at id o ≡ None = absent id mark o.logs (omega arith) in
      let other : x.id ≢ id = λ same. some_none x.log (log_at x.id o) x.stored (ap (λ k. log_at k o) same ∙ none) in
      let at : log_at x.id o' ≡ log_at x.id o = ap (entry_at x.id) put ∙ lookup-insert_other nat_cmp_total x.id id bs o.logs (apart x.id id other) in
      record { id = x.id; log = x.log; above = x.above; stored = at ∙ x.stored; has = x.has }

  -- and has its batches
  pub log-put : (b : Batch) → Contains bs b → IsLogged mark o' b
  log-put b has =
      let id = last_log mark o + 1 in
      record { id = id; log = bs; above = least; stored = ap (entry_at id) put ∙ lookup-insert_same nat_cmp_total id bs o.logs; has = has }
    where
      least : mark < last_log mark o + 1
      least = let low = at_least mark (map (λ (log : ℕ × List Batch). log.0) o.logs) in omega (arith, low)

-- ---- an open handle in step with its store
module _ (h : Handle) (o : Objects) (latest : VersionedManifest) (line : IsLine h.line) (low : h.durable ≤ accepted h) (s : IsInStep h o latest) (unclosed : h.result ≡ None) where
  abbrev m : Manifest
  m = latest.manifest

  abbrev mark : ℕ
  mark = m.replay_after_wal_id

  abbrev last : ℕ
  last = last_log mark o

  number : m.last_l0_seq ≡ h.line.floor
  number = s.tabled unclosed ∙ sym s.floor

  -- its durable batches are in the log
  logged : All (λ b. b.number ≤ h.durable → IsLogged mark o b) h.line.batches
  logged = All-weaker (λ b. b.number ≤ h.durable → IsStored h.result m o b) (λ b. b.number ≤ h.durable → IsLogged mark o b) (λ b at low. in-log b (at low)) h.line.batches s.stored where
    in-log : (b : Batch) → IsStored h.result m o b → IsLogged mark o b
    in-log b (inl log) = log
    in-log b (inr table) = absurd (table.0 unclosed)

  -- the handle after a flush
  abbrev pub after : (durable counter : ℕ) → Tracker → VersionedManifest → CloseResult → List TaskName → Handle
  after durable counter tracker view result tasks = kept_handle (record h { durable = durable; counter = counter; tracker = tracker; view = view; result = result; tasks = tasks })

  module _ (d counter : ℕ) (tracker : Tracker) (v : VersionedManifest) (r : CloseResult) (tasks : List TaskName) (o' : Objects) where
    -- under a view with the number that it had, the handle's line stays
    pub in-step : (next : VersionedManifest) → v.manifest.last_l0_seq ≡ h.line.floor → latest_manifest o' ≡ Some next → IsGreatest o' next → next.manifest.writer_epoch ≡ m.writer_epoch →
        (r ≡ None → next.manifest.last_l0_seq ≡ v.manifest.last_l0_seq) → All (λ b. b.number ≤ d → IsStored r next.manifest o' b) h.line.batches → IsInStep (after d counter tracker v r tasks) o' next
    in-step next at is greatest epoch tabled stored =
        let same = same-line h.line line v.manifest.last_l0_seq at in
        record {
          is = is;
          greatest = greatest;
          epoch = epoch ∙ s.epoch;
          tabled = tabled;
          floor = ap (λ l. l.floor) same ∙ sym at;
          stored = subst (λ l. All (λ b. b.number ≤ d → IsStored r next.manifest o' b) l.batches) (sym same) stored;
        }

    -- under one that has all, it has no batch
    pub in-step_tabled : (next : VersionedManifest) → v.manifest.last_l0_seq ≡ accepted h → latest_manifest o' ≡ Some next → IsGreatest o' next → next.manifest.writer_epoch ≡ m.writer_epoch →
        next.manifest.last_l0_seq ≡ v.manifest.last_l0_seq → IsInStep (after d counter tracker v r tasks) o' next
    in-step_tabled next at is greatest epoch tabled =
        let none = empty-line h.line line v.manifest.last_l0_seq at in
        record {
          is = is;
          greatest = greatest;
          epoch = epoch ∙ s.epoch;
          tabled = λ _. tabled;
          floor = ap (λ l. l.floor) none;
          stored = subst (λ l. All (λ b. b.number ≤ d → IsStored r next.manifest o' b) l.batches) (sym none) (All-nil (λ b. b.number ≤ d → IsStored r next.manifest o' b));
        }

  -- ---- what part of the changes leaves
  -- Not the manifest: it is the latest as before, the log files stay, and the batches up to a number are in the log.
  record Short (d : ℕ) (o' : Objects) : Type 0 where
    manifests : o'.manifests ≡ o.manifests
    logs : All (λ b. b.number ≤ d → IsLogged mark o' b) h.line.batches

  -- All, with the manifest, which names the table of all batches in memory.
  record Whole (next : VersionedManifest) (o' : Objects) : Type 0 where
    is : latest_manifest o' ≡ Some next
    greatest : IsGreatest o' next
    tabled : All (IsTabled next.manifest o') h.line.batches

  -- batches that aren't durable are to go to the log
  to-go : h.keeps_log ≡ true → All (λ b. h.durable < b.number → Contains (to_log h) b) h.line.batches
  to-go keeps = rw keeps (above-has h.durable h.line.batches)

  -- nothing was put of the log
  short-none : (d : ℕ) (o' : Objects) → (d ≡ h.durable) ⊎ ((h.keeps_log ≡ true) × (to_log h ≡ [])) → o'.manifests ≡ o.manifests → o'.logs ≡ o.logs → Short d o'
  short-none d o' why manifests logs = record {
    manifests = manifests;
    logs = elim why [
      | inl same ↦ All-weaker (λ b. b.number ≤ h.durable → IsLogged mark o b) (λ b. b.number ≤ d → IsLogged mark o' b)
          (λ b at under. logged-same mark o o' b (λ id over. ap (entry_at id) logs) (at (omega (arith, under, same)))) h.line.batches logged
      | inr none ↦ λ k x less under. by none.0 none.1 k x less under
    ];
  } where
    here : (b : Batch) → IsLogged mark o b → IsLogged mark o' b
    here b x = logged-same mark o o' b (λ id over. ap (entry_at id) logs) x

    none-has : (xs : List Batch) (b : Batch) → xs ≡ [] → Contains xs b → ⊥
    none-has xs b is has = let e = ap length is in let less = has.1 in omega (arith, e, less)

    by : h.keeps_log ≡ true → to_log h ≡ [] → All (λ b. b.number ≤ d → IsLogged mark o' b) h.line.batches
    by keeps none k x less under = elim (cases_lt h.durable (get_or h.line.batches k x).number) [
      | inl above ↦ absurd (none-has (to_log h) (get_or h.line.batches k x) none (to-go keeps k x less above))
      | inr below ↦ here (get_or h.line.batches k x) (logged k x less below)
    ]

  -- the log file was put
  short-put : (d : ℕ) (o' : Objects) → h.keeps_log ≡ true → o'.manifests ≡ o.manifests → o'.logs ≡ insert_entry nat_cmp o.logs (last + 1) (to_log h) → Short d o'
  short-put d o' keeps manifests logs = record { manifests = manifests; logs = by } where
    by : All (λ b. b.number ≤ d → IsLogged mark o' b) h.line.batches
    by k x less under = elim (cases_lt h.durable (get_or h.line.batches k x).number) [
      | inl above ↦ log-put mark o (to_log h) o' logs (get_or h.line.batches k x) (to-go keeps k x less above)
      | inr below ↦ log-stays mark o (to_log h) o' logs (get_or h.line.batches k x) (logged k x less below)
    ]

  -- the manifest was put, after the table
  whole-put : (tabled : Objects) → tabled.manifests ≡ o.manifests → tabled.tables ≡ insert_entry table_cmp o.tables (next_table h) (untabled m h) →
      let next = next_flushed h latest last in Whole next (changed (PutManifest next.id next.manifest) tabled)
  whole-put tabled manifests tables =
      let next = next_flushed h latest last in
      let greatest : IsGreatest tabled latest = subst (λ (es : List (ℕ × Manifest)). AllByRecursion (λ id. id ≤ latest.id) (map (λ e. e.0) es)) (sym manifests) s.greatest in
      let all : untabled m h ≡ h.line.batches = above-all h.line.floor m.last_l0_seq h.line.batches line (omega (arith, number)) in
      record {
        is = next-latest tabled latest.id next greatest (omega arith);
        greatest = next-greatest tabled latest.id next greatest (omega arith);
        tabled = All-weaker (Contains h.line.batches) (IsTabled next.manifest (changed (PutManifest next.id next.manifest) tabled))
            (λ b has. record {
              id = next_table h;
              table = untabled m h;
              named = Contains-append_right m.tables (next_table h ∷ []) (next_table h) (0, omega arith, refl);
              stored = ap (lookup (is_at (table_cmp (next_table h)))) tables ∙ lookup-insert_same table_total (next_table h) (untabled m h) o.tables;
              has = subst (λ (bs : List Batch). Contains bs b) (sym all) has;
            }) h.line.batches (All-contains_itself h.line.batches);
      }

  -- what is told of the durable number before the batches are stored
  early : (stored : Bool) (r : Result (Unit {0}) SlateError) (d : ℕ) → DurableAfter stored h r d → stored ≡ false → ((x : Unit {0}) → r ≡ Ok x → ⊥) → d ≡ h.durable
  early stored (Ok x) d durable none fails = absurd (fails x refl)
  early stored (Err errors.NoMemory) d durable none fails = durable ∙ ap (λ b. cond b (accepted h) h.durable) none
  early stored (Err e) d durable none fails = elim durable [ inl same ↦ same | inr all ↦ absurd (cc (all.0, none)) ]

  unstarted : (keeps : Bool) → leb (cond keeps 1 2) 0 ≡ false
  unstarted true = refl
  unstarted false = refl

  abbrev changes : FlushType → List Change
  changes t = flush_changes_under (λ xs. xs) t h latest last

  -- how far a flush came
  abbrev Came : FlushType → ℕ → ℕ → Objects → List Change → Type 0
  Came t made d o' cs =
      (Short d o' × ((made < length cs) ⊎ (flush_view t h latest last ≡ latest)))
      ⊎ ((0 < made) × (made ≡ length cs) × (flush_view t h latest last ≡ next_flushed h latest last) × Whole (next_flushed h latest last) o')

  -- Ok comes after all changes
  abbrev Okay : ℕ → Result (Unit {0}) SlateError → List Change → Type 0
  Okay made r cs = (x : Unit {0}) → r ≡ Ok x → made ≡ length cs

  -- before the batches are stored, nothing more is durable
  before : (made : ℕ) (r : Result (Unit {0}) SlateError) (d : ℕ) → DurableAfter (leb (grows h) made) h r d → leb (grows h) made ≡ false → ((x : Unit {0}) → r ≡ Ok x → ⊥) → d ≡ h.durable
  before made r d durable none fails = early (leb (grows h) made) r d durable none fails

  to-log : h.keeps_log ≡ true → (bs : List Batch) → to_log h ≡ bs → (made : ℕ) (r : Result (Unit {0}) SlateError) (d : ℕ) → DurableAfter (leb (grows h) made) h r d → let cs = log_changes (λ xs. xs) bs last in Okay made r cs → made ≤ length cs → Short d (after_part made cs o)
  to-log keeps [] is made r d durable okay le = subst (Short d) (sym (part-none made o)) (short-none d o (inr (keeps, is)) refl refl)
  to-log keeps (b ∷ bs) is zero r d durable okay le =
      short-none d o (inl (before 0 r d durable (unstarted h.keeps_log) (λ x ok. let e = okay x ok in omega (arith, e)))) refl refl
  to-log keeps (b ∷ bs) is (suc zero) r d durable okay le =
      short-put d (changed (PutLog (last + 1) (b ∷ bs)) o) keeps refl (ap (insert_entry nat_cmp o.logs (last + 1)) (sym is))
  to-log keeps (b ∷ bs) is (suc (suc made)) r d durable okay le = absurd (omega (arith, le))

  keeps-by : (bs : List Batch) (b : Batch) → to_log h ≡ b ∷ bs → h.keeps_log ≡ true
  keeps-by bs b is = by h.keeps_log refl where
    by : (keeps : Bool) → h.keeps_log ≡ keeps → keeps ≡ true
    by true at = refl
    by false at = let none : to_log h ≡ [] = ap (λ k. cond k (unstored h) []) at in absurd (cc (none, is))

  -- without a log file only the manifest stores batches
  unlogged : (made : ℕ) (r : Result (Unit {0}) SlateError) (d : ℕ) → DurableAfter (leb (grows h) made) h r d → to_log h ≡ [] → made < 2 → ((x : Unit {0}) → r ≡ Ok x → ⊥) → (d ≡ h.durable) ⊎ ((h.keeps_log ≡ true) × (to_log h ≡ []))
  unlogged made r d durable none few fails = by h.keeps_log refl where
    by : (keeps : Bool) → h.keeps_log ≡ keeps → (d ≡ h.durable) ⊎ ((h.keeps_log ≡ true) × (to_log h ≡ []))
    by true at = inr (at, none)
    by false at =
        let two : leb (grows h) made ≡ false = ap (λ k. leb (cond k 1 2) made) at ∙ false_from_ne_true (leb 2 made) (λ yes. let le = leb-true 2 made yes in omega (arith, le, few)) in
        inl (before made r d durable two fails)

  abbrev puts : List Change
  puts = table_changes (λ xs. xs) h latest last

  to-table : has_untabled h m ≡ true → (bs : List Batch) → to_log h ≡ bs → (made : ℕ) (r : Result (Unit {0}) SlateError) (d : ℕ) → DurableAfter (leb (grows h) made) h r d → let cs = log_changes (λ xs. xs) bs last ++ puts in Okay made r cs → made ≤ length cs → Came MemTable made d (after_part made cs o) cs
  to-table some bs is = by bs is where
    view : flush_view MemTable h latest last ≡ next_flushed h latest last
    view = ap (λ t. cond t (next_flushed h latest last) latest) some

    by : (bs : List Batch) → to_log h ≡ bs → (made : ℕ) (r : Result (Unit {0}) SlateError) (d : ℕ) → DurableAfter (leb (grows h) made) h r d → let cs = log_changes (λ xs. xs) bs last ++ puts in Okay made r cs → made ≤ length cs → Came MemTable made d (after_part made cs o) cs
    by [] is zero r d durable okay le = inl (short-none d o (unlogged 0 r d durable is (omega arith) (λ x ok. let e = okay x ok in omega (arith, e))) refl refl, inl (omega arith))
    by [] is (suc zero) r d durable okay le =
        inl (short-none d (changed (PutTable (next_table h) (untabled m h)) o) (unlogged 1 r d durable is (omega arith) (λ x ok. let e = okay x ok in omega (arith, e))) refl refl, inl (omega arith))
    by [] is (suc (suc zero)) r d durable okay le = inr (omega arith, refl, view, whole-put (changed (PutTable (next_table h) (untabled m h)) o) refl refl)
    by [] is (suc (suc (suc made))) r d durable okay le = absurd (omega (arith, le))
    by (b ∷ bs) is zero r d durable okay le =
        inl (short-none d o (inl (before 0 r d durable (unstarted h.keeps_log) (λ x ok. let e = okay x ok in omega (arith, e)))) refl refl, inl (omega arith))
    by (b ∷ bs) is (suc zero) r d durable okay le =
        inl (short-put d (changed (PutLog (last + 1) (b ∷ bs)) o) (keeps-by bs b is) refl (ap (insert_entry nat_cmp o.logs (last + 1)) (sym is)), inl (omega arith))
    by (b ∷ bs) is (suc (suc zero)) r d durable okay le =
        inl (short-put d (changed (PutTable (next_table h) (untabled m h)) (changed (PutLog (last + 1) (b ∷ bs)) o)) (keeps-by bs b is) refl (ap (insert_entry nat_cmp o.logs (last + 1)) (sym is)), inl (omega arith))
    by (b ∷ bs) is (suc (suc (suc zero))) r d durable okay le =
        inr (omega arith, refl, view, whole-put (changed (PutTable (next_table h) (untabled m h)) (changed (PutLog (last + 1) (b ∷ bs)) o)) refl refl)
    by (b ∷ bs) is (suc (suc (suc (suc made)))) r d durable okay le = absurd (omega (arith, le))

  came : (t : FlushType) → has_log_for t h ≡ true → (made : ℕ) (r : Result (Unit {0}) SlateError) (d : ℕ) → DurableAfter (leb (grows h) made) h r d → Okay made r (changes t) → made ≤ length (changes t) → Came t made d (after_part made (changes t) o) (changes t)
  came Wal keeps made r d durable okay le = inl (to-log keeps (to_log h) refl made r d durable okay le, inr refl)
  came MemTable keeps made r d durable okay le = by (has_untabled h m) refl okay le where
    by : (some : Bool) → has_untabled h m ≡ some →
        let cs = cond some (log_changes (λ xs. xs) (to_log h) last ++ puts) [] in
        Okay made r cs → made ≤ length cs → Came MemTable made d (after_part made cs o) cs
    by true is okay le = to-table is (to_log h) refl made r d durable okay le
    by false is okay le =
        let past = ltb-false m.last_l0_seq (accepted h) is in
        inl (
          record {
            manifests = ap (λ (x : Objects). x.manifests) (part-none made o);
            logs = λ k x less under. absurd (omega (arith, less, past, number));
          },
          inr (ap (λ t. cond t (next_flushed h latest last) latest) is),
        )

  -- ---- the handle after it
  module _ (x : Option Objects) (t : FlushType) (has : has_log_for t h ≡ true) (made : ℕ) (r : Result (Unit {0}) SlateError) (closed : CloseResult) (tasks : List TaskName) (new : Handle) (o' : Objects)
      (flushed : IsFlushed kept_handle made r closed tasks h new) (stored : StoresBatches (by_objects x) t h o r new made o')
      (shut : (e : SlateError) → r ≡ Err e → 0 < made → made ≡ length (flush_changes (λ xs. xs) t h o) → closed ≢ None) where
    same : flush_changes (λ xs. xs) t h o ≡ changes t
    same = ap (flush_changes_by (λ xs. xs) t h o) s.is

    okay : Okay made r (changes t)
    okay x ok = let p = subst (λ q. PartMade q (length (flush_changes (λ xs. xs) t h o)) made) ok stored.part in p ∙ ap length same

    within : made ≤ length (changes t)
    within = subst (λ cs. made ≤ length cs) same (part_le r (length (flush_changes (λ xs. xs) t h o)) made stored.part)

    come : Came t made new.durable o' (changes t)
    come = subst (λ (q : Objects). Came t made new.durable q (changes t)) (sym (stored.after ∙ ap (λ (cs : List Change). after_part made cs o) same)) (came t has made r new.durable flushed.durable okay within)

    -- the view after Ok, and after an error
    view-ok : (u : Unit {0}) → r ≡ Ok u → new.view ≡ flush_view t h latest last
    view-ok u ok =
        let a = subst (λ q. FlushAnswer (Stands (flush_changes (λ xs. xs) t h o) o) t h o q new.view) ok stored.answer in
        let found : a.0 ≡ latest = some-inj a.0 latest (sym (a.1).0 ∙ s.is) in
        a.2 ∙ ap (λ (l : VersionedManifest). flush_view t h l (last_log l.manifest.replay_after_wal_id o)) found

    view-err : (e : SlateError) → r ≡ Err e → new.view.manifest.last_l0_seq ≡ h.line.floor
    view-err e err =
        let a = subst (λ q. FlushAnswer (Stands (flush_changes (λ xs. xs) t h o) o) t h o q new.view) err stored.answer in
        elim a.1 [
          | inl old ↦ ap (λ (v : VersionedManifest). v.manifest.last_l0_seq) old ∙ sym s.floor
          | inr current ↦ ap (λ (v : VersionedManifest). v.manifest.last_l0_seq) (some-inj new.view latest (sym current.0 ∙ s.is)) ∙ number
        ]

    short-step : Short new.durable o' → new.view.manifest.last_l0_seq ≡ h.line.floor → (next : VersionedManifest) × IsInStep (after new.durable new.counter new.tracker new.view closed tasks) o' next
    short-step short at = (
      latest,
      in-step new.durable new.counter new.tracker new.view closed tasks o' latest at
          (ap (λ (es : List (ℕ × Manifest)). latest_manifest (record { manifests = es; logs = o'.logs; tables = o'.tables })) short.manifests ∙ s.is)
          (subst (λ (es : List (ℕ × Manifest)). AllByRecursion (λ id. id ≤ latest.id) (map (λ e. e.0) es)) (sym short.manifests) s.greatest) refl (λ _. number ∙ sym at)
          (All-weaker (λ b. b.number ≤ new.durable → IsLogged mark o' b) (λ b. b.number ≤ new.durable → IsStored closed m o' b) (λ b log low. inl (log low)) h.line.batches short.logs),
    )

    stepped : (q : Result (Unit {0}) SlateError) → r ≡ q → (next : VersionedManifest) × IsInStep (after new.durable new.counter new.tracker new.view closed tasks) o' next
    stepped (Ok u) is = elim come [
      | inl short ↦ short-step short.0 (elim short.1 [
        | inl few ↦ absurd (let all = okay u is in omega (arith, few, all))
        | inr stays ↦ ap (λ (v : VersionedManifest). v.manifest.last_l0_seq) (view-ok u is ∙ stays) ∙ number
      ])
      | inr whole ↦
          let next = next_flushed h latest last in
          let at = ap (λ (v : VersionedManifest). v.manifest.last_l0_seq) (view-ok u is ∙ whole.2) in
          (next, in-step_tabled new.durable new.counter new.tracker new.view closed tasks o' next at (whole.3).is (whole.3).greatest refl (sym at))
    ]
    stepped (Err e) is = elim come [
      | inl short ↦ short-step short.0 (view-err e is)
      | inr whole ↦
          let next = next_flushed h latest last in
          let ends = shut e is whole.0 (whole.1 ∙ ap length (sym same)) in (
            next,
            in-step new.durable new.counter new.tracker new.view closed tasks o' next (view-err e is) (whole.3).is (whole.3).greatest refl (λ none. absurd (ends none))
                (All-weaker (IsTabled next.manifest o') (λ b. b.number ≤ new.durable → IsStored closed next.manifest o' b) (λ b table low. inr (ends, table)) h.line.batches (whole.3).tabled),
          )
    ]

    pub flush-step : (next : VersionedManifest) × IsInStep new o' next
    flush-step = subst (λ (k : Handle). (next : VersionedManifest) × IsInStep k o' next) (sym flushed.same) (stepped r refl)
