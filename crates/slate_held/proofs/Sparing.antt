-- What a sweep, a call on checkpoints and a compaction leave of what the latest manifest names.
use Rattle.std.proofs.Common.{◌≡◌, ℕ, ℤ, zero, suc, ◌<◌, ◌≤◌, ◌==◌, inl, inr, List, [], ◌∷◌, ◌++◌, All, Bool, true, false, cond, not, length, map, Option, Some, None, refl, sym, subst, ap, ◌∙◌, arith, ltb}
use Rattle.std.specs.BTreeMap.{is_at}
use Rattle.std.specs.List.{AllByRecursion, filter, flat_map, list_any}
use Rattle.std.specs.Option.{option_map}
use Rattle.std.specs.Ordering.{eq_by_cmp, nat_cmp}
use Rattle.std.proofs.lemmas.Bool.{eqb-false, ltb-false, or_parts}
use Rattle.std.proofs.lemmas.Cmp.{nat_cmp_total}
use Rattle.std.proofs.lemmas.List.Elements.{All-append, All-contains, All-head, All-map, All-tail, All-weaker}
use Rattle.slate_types.specs.declared.batches.Batch.{Batch}
use Rattle.slate_types.specs.Line.{IsLine}
use Rattle.slate_store.specs.declared.objects.Manifest.{Manifest}
use Rattle.slate_store.specs.declared.objects.VersionedManifest.{VersionedManifest}
use Rattle.slate_store.specs.Changes.{after_part}
use Rattle.slate_store.specs.Compaction.{compact_changes, compact_changes_by, tables_at, with_table}
use Rattle.slate_store.specs.Logs.{IsLogged}
use Rattle.slate_store.specs.Checkpoints.{is_expired, with_checkpoints}
use Rattle.slate_store.specs.Objects.{Change, IsGreatest, Objects, PutLog, PutManifest, PutTable, RemoveLog, RemoveManifest, RemoveTable, changed, changed_all, entry_at, last, latest_manifest, table_cmp, versioned}
use Rattle.slate_store.specs.Sweeps.{has_expired, keeps_log, keeps_manifest, keeps_table, protecting, removals, sweep_changes, sweep_changes_by}
use Rattle.slate_store.proofs.Entries.{apart, lookup-without, table_total}
use Rattle.slate_store.proofs.Kept.{not-any}
use Rattle.slate_store.proofs.Latest.{next-greatest, next-latest, some-versioned}
use Rattle.slate_store.proofs.Parts.{part-more, part-none, part-one}
use Rattle.slate_store.proofs.Removed.{last-filter}
use Rattle.slate_store.proofs.Swept.{fails}
use Rattle.slate_model.specs.Handle.{CloseResult, Handle, kept_handle, next_table}
use Rattle.slate_held.specs.Keeping.{IsInStep, IsStored}
use Rattle.slate_held.proofs.Lined.{same-line}
use Rattle.slate_held.proofs.Stepping.{NamesSame, logged-same, names-same, step-over, step-put}

-- ---- removals
-- a change removes nothing that the latest manifest names, and not that manifest
abbrev pub Spares : VersionedManifest → Change → Type 0
Spares latest (RemoveManifest id) = (id == latest.id) ≡ false
Spares latest (RemoveLog id) = id ≤ latest.manifest.replay_after_wal_id
Spares latest (RemoveTable id) = list_any (eq_by_cmp table_cmp id) latest.manifest.tables ≡ false
Spares latest (PutManifest id manifest) = ⊥
Spares latest (PutLog id log) = ⊥
Spares latest (PutTable id table) = ⊥

all-filtered : (k : ℕ) (test : ℕ × Manifest → Bool) (es : List (ℕ × Manifest)) → AllByRecursion (λ id. id ≤ k) (map (λ e. e.0) es) → AllByRecursion (λ id. id ≤ k) (map (λ e. e.0) (filter test es))
all-filtered k test [] all = tt
all-filtered k test (e ∷ es) all = elim (test e) as (λ t. AllByRecursion (λ id. id ≤ k) (map (λ x. x.0) (cond t (e ∷ filter test es) (filter test es)))) [
  | true ↦ (all.0, all-filtered k test es all.1)
  | false ↦ all-filtered k test es all.1
]

module _ (h : Handle) (o : Objects) (latest : VersionedManifest) (s : IsInStep h o latest) where
  spared : (c : Change) → Spares latest c → IsInStep h (changed c o) latest
  spared (RemoveManifest id) spares =
      let test : ℕ × Manifest → Bool = λ e. not (is_at (nat_cmp id) e.0) in
      let other = apart id latest.id (eqb-false id latest.id spares) in
      let is = ap (option_map versioned) (last-filter test (latest.id, latest.manifest) o.manifests (some-versioned (last o.manifests) latest s.is) (ap not other)) in
      step-over h o (changed (RemoveManifest id) o) latest latest s is (all-filtered latest.id test o.manifests s.greatest) (names-same latest.manifest) (record { logs = λ q over. refl; tables = λ q named. refl })
  spared (RemoveLog id) spares =
      step-over h o (changed (RemoveLog id) o) latest latest s s.is s.greatest (names-same latest.manifest)
      (record { logs = λ q over. lookup-without nat_cmp_total q id o.logs (apart id q (λ same. omega (arith, same, over, spares))); tables = λ q named. refl })
  spared (RemoveTable id) spares =
      step-over h o (changed (RemoveTable id) o) latest latest s s.is s.greatest (names-same latest.manifest)
      (record {
        logs = λ q over. refl;
        tables = λ q named. lookup-without table_total q id o.tables (All-contains (λ x. eq_by_cmp table_cmp id x ≡ false) latest.manifest.tables q (not-any (eq_by_cmp table_cmp id) latest.manifest.tables spares) named);
      })
  spared (PutManifest id manifest) spares = absurd spares
  spared (PutLog id log) spares = absurd spares
  spared (PutTable id table) spares = absurd spares

-- several, all of them or a prefix
spared-part : (made : ℕ) (cs : List Change) (h : Handle) (o : Objects) (latest : VersionedManifest) → IsInStep h o latest → All (Spares latest) cs → IsInStep h (after_part made cs o) latest
spared-part zero cs h o latest s spares = s
spared-part (suc made) [] h o latest s spares = s
spared-part (suc made) (c ∷ cs) h o latest s spares =
    spared-part made cs h (changed c o) latest (spared h o latest s c (All-head (Spares latest) c cs spares)) (All-tail (Spares latest) c cs spares)

-- those of a sweep
removals-spare : (latest : VersionedManifest) (o : Objects) → All (Spares latest) (removals latest o)
removals-spare latest o =
    let tables = filter (λ table. not (keeps_table (protecting latest o) table.0)) o.tables in
    let logs = filter (λ log. not (keeps_log (protecting latest o) log.0)) o.logs in
    let manifests = filter (λ entry. not (keeps_manifest latest entry.0)) o.manifests in
    All-append (Spares latest) (map (λ table. RemoveTable table.0) tables) (map (λ log. RemoveLog log.0) logs ++ map (λ entry. RemoveManifest entry.0) manifests)
    (All-map (Spares latest) (λ table. RemoveTable table.0) tables
    (All-weaker (λ table. keeps_table (protecting latest o) table.0 ≡ false) (λ table. Spares latest (RemoveTable table.0)) (λ table no. (or_parts _ _ no).0) tables (fails (λ table. keeps_table (protecting latest o) table.0) o.tables)))
    (All-append (Spares latest) (map (λ log. RemoveLog log.0) logs) (map (λ entry. RemoveManifest entry.0) manifests)
    (All-map (Spares latest) (λ log. RemoveLog log.0) logs
    (All-weaker (λ log. keeps_log (protecting latest o) log.0 ≡ false) (λ log. Spares latest (RemoveLog log.0)) (λ log no. ltb-false latest.manifest.replay_after_wal_id log.0 (or_parts _ _ no).0) logs (fails (λ log. keeps_log (protecting latest o) log.0) o.logs)))
    (All-map (Spares latest) (λ entry. RemoveManifest entry.0) manifests
    (All-weaker (λ entry. keeps_manifest latest entry.0 ≡ false) (λ entry. Spares latest (RemoveManifest entry.0)) (λ entry no. (or_parts _ _ no).0) manifests (fails (λ entry. keeps_manifest latest entry.0) o.manifests))))

-- a handle is in step with some latest manifest
abbrev pub Steps : Handle → Objects → Type 0
Steps h o = (latest : VersionedManifest) × IsInStep h o latest

-- a put of the next manifest, which names the same
pub next-part : (h : Handle) (o : Objects) (latest next : VersionedManifest) (made : ℕ) → IsInStep h o latest → latest.id < next.id → NamesSame latest.manifest next.manifest → Steps h (after_part made (PutManifest next.id next.manifest ∷ []) o)
next-part h o latest next made s above names = part-one (Steps h) (PutManifest next.id next.manifest) o made (latest, s) (next, step-put h o latest next s above names)

-- ---- a sweep
-- the manifest that is left when the expired checkpoints are taken out
abbrev unexpired : ℤ → VersionedManifest → VersionedManifest
unexpired moment latest = with_checkpoints (filter (λ checkpoint. not (is_expired moment checkpoint)) latest.manifest.checkpoints) latest

pub sweep-steps : (moment : ℤ) (made : ℕ) (h : Handle) (o : Objects) (latest : VersionedManifest) → IsInStep h o latest → Steps h (after_part made (sweep_changes moment o) o)
sweep-steps moment made h o latest s =
    subst (λ (found : Option VersionedManifest). Steps h (after_part made (sweep_changes_by moment o found) o)) (sym s.is) (by (has_expired moment latest))
  where
    by : (t : Bool) →
        let next = cond t (unexpired moment latest) latest in
        let first = cond t (PutManifest next.id next.manifest ∷ []) [] in
        Steps h (after_part made (first ++ removals next (changed_all first o)) o)
    by false = (latest, spared-part made (removals latest o) h o latest s (removals-spare latest o))
    by true =
        let next = unexpired moment latest in
        let o1 = changed (PutManifest next.id next.manifest) o in
        let s1 = step-put h o latest next s (omega arith) (record { mark = refl; tables = refl; epoch = refl; number = refl }) in
        part-more (Steps h) (PutManifest next.id next.manifest) (removals next o1) o made (latest, s) (λ part. (next, spared-part part (removals next o1) h o1 next s1 (removals-spare next o1)))

-- ---- a compaction of an open handle
module _ (h : Handle) (o : Objects) (latest : VersionedManifest) (s : IsInStep h o latest) (unclosed : h.result ≡ None) where
  -- after a put of a table its durable batches are in the log as before
  abbrev tabled : List Batch → Objects
  tabled table = changed (PutTable (next_table h) table) o

  -- the handle under another view with the same number, which may be closed
  stored-unclosed : (r : CloseResult) (b : Batch) (m : Manifest) (o' : Objects) → m.replay_after_wal_id ≡ latest.manifest.replay_after_wal_id → o'.logs ≡ o.logs → IsStored h.result latest.manifest o b → IsStored r m o' b
  stored-unclosed r b m o' mark logs (inl log) =
      inl (subst (λ k. IsLogged k o' b) (sym mark) (logged-same latest.manifest.replay_after_wal_id o o' b (λ id over. ap (entry_at id) logs) log))
  stored-unclosed r b m o' mark logs (inr table) = absurd (table.0 unclosed)

  pub moved : (line : IsLine h.line) (counter : ℕ) (v : VersionedManifest) (r : CloseResult) (o' : Objects) (next : VersionedManifest) → v.manifest.last_l0_seq ≡ h.view.manifest.last_l0_seq → latest_manifest o' ≡ Some next → IsGreatest o' next →
      next.manifest.writer_epoch ≡ latest.manifest.writer_epoch → next.manifest.last_l0_seq ≡ latest.manifest.last_l0_seq → next.manifest.replay_after_wal_id ≡ latest.manifest.replay_after_wal_id → o'.logs ≡ o.logs →
      IsInStep (kept_handle (record h { counter = counter; view = v; result = r })) o' next
  moved line counter v r o' next at is greatest epoch number mark logs =
      let same = same-line h.line line v.manifest.last_l0_seq (at ∙ sym s.floor) in
      record {
        is = is;
        greatest = greatest;
        epoch = epoch ∙ s.epoch;
        tabled = λ none. number ∙ (s.tabled unclosed ∙ sym at);
        floor = ap (λ l. l.floor) same ∙ (s.floor ∙ sym at);
        stored = subst (λ l. All (λ b. b.number ≤ h.durable → IsStored r next.manifest o' b) l.batches) (sym same)
            (All-weaker (λ b. b.number ≤ h.durable → IsStored h.result latest.manifest o b) (λ b. b.number ≤ h.durable → IsStored r next.manifest o' b)
            (λ b stored low. stored-unclosed r b next.manifest o' mark logs (stored low)) h.line.batches s.stored);
      }

  -- what a compaction leaves, where none of its changes, the table, or all were made
  abbrev Left : (counter : ℕ) → VersionedManifest → CloseResult → Objects → Type 0
  Left counter v r o' = Steps (kept_handle (record h { counter = counter; view = v; result = r })) o'

  pub compact-steps : (line : IsLine h.line) (made counter : ℕ) (v : VersionedManifest) (r : CloseResult) → v.manifest.last_l0_seq ≡ h.view.manifest.last_l0_seq → Left counter v r (after_part made (compact_changes (flat_map (λ bs. bs)) (next_table h) o) o)
  compact-steps line made counter v r at =
      subst (λ (found : Option VersionedManifest). Left counter v r (after_part made (compact_changes_by (flat_map (λ bs. bs)) (next_table h) o found) o)) (sym s.is) (by (ltb (length latest.manifest.tables) 2))
    where
      stays : (o' : Objects) → o'.manifests ≡ o.manifests → o'.logs ≡ o.logs → Left counter v r o'
      stays o' manifests logs = (
        latest,
        moved line counter v r o' latest at (ap (λ (es : List (ℕ × Manifest)). option_map versioned (last es)) manifests ∙ s.is)
            (subst (λ (es : List (ℕ × Manifest)). AllByRecursion (λ id. id ≤ latest.id) (map (λ e. e.0) es)) (sym manifests) s.greatest) refl refl refl logs,
      )

      joined : (table : List Batch) → let next = with_table (next_table h) latest in Left counter v r (changed (PutManifest next.id next.manifest) (tabled table))
      joined table =
          let next = with_table (next_table h) latest in
          (next, moved line counter v r (changed (PutManifest next.id next.manifest) (tabled table)) next at (next-latest (tabled table) latest.id next s.greatest (omega arith)) (next-greatest (tabled table) latest.id next s.greatest (omega arith)) refl refl refl refl)

      by : (few : Bool) →
          let table = flat_map (λ bs. bs) (tables_at o latest.manifest.tables) in
          let next = with_table (next_table h) latest in
          Left counter v r (after_part made (cond few [] (PutTable (next_table h) table ∷ PutManifest next.id next.manifest ∷ [])) o)
      by true = subst (Left counter v r) (sym (part-none made o)) (stays o refl refl)
      by false =
          let table = flat_map (λ bs. bs) (tables_at o latest.manifest.tables) in
          let next = with_table (next_table h) latest in
          part-more (Left counter v r) (PutTable (next_table h) table) (PutManifest next.id next.manifest ∷ []) o made (stays o refl refl)
          (λ part. part-one (Left counter v r) (PutManifest next.id next.manifest) (tabled table) part (stays (tabled table) refl refl) (joined table))
