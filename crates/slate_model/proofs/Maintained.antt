-- What a committed checkpoint and a sweep leave of objects, and what a world knows of it.
use Rattle.std.specs.List.{list_any}
use Rattle.std.specs.List.{flat_map}
use Rattle.std.specs.Option.{option_to_list}
use Rattle.std.proofs.Common.{◌≡◌, ◌≢◌, ◌⊎◌, ℕ, zero, suc, ◌+◌, ◌∙◌, List, [], ◌∷◌, ◌++◌, length, map, cond, not, Bool, true, false, Option, Some, None, Result, Ok, Err, refl, sym, ap, subst, inl, inr, arith}
use Rattle.std.proofs.lemmas.Bool.{or_parts, ltb-false}
use Rattle.std.proofs.lemmas.List.Elements.{All-append, All-cons, All-head, All-map, All-nil, All-tail}
use Rattle.std.proofs.lemmas.List.{length-map, map-append}
use Rattle.std.proofs.lemmas.Map.Entries.{lookup-filter-keys}
use Rattle.std.specs.BTreeMap.{is_at}
use Rattle.std.specs.List.{All, Contains, filter}
use Rattle.std.specs.Option.{option_map}
use Rattle.std.specs.Prelude.{ℤ, nat_lt}
use Rattle.slate_store.proofs.Checkpointed.{recheckpointed, some-differ, some-kept, write-keeps}
use Rattle.slate_store.proofs.Entries.{absent, insert-last, last-push, lookup-without, same_table, table_total, tied}
use Rattle.slate_store.proofs.Latest.{all-greatest, ids-within, its-objects}
use Rattle.slate_store.proofs.Parts.{part-more, part-none, part-one}
use Rattle.slate_store.proofs.Removed.{IsSpare, removed-part}
use Rattle.slate_store.proofs.Swept.{fails, sweep-keeps}
use Rattle.slate_store.specs.Checkpoints.{Plan, found, is_expired, lease_end, new_checkpoint, puts_next, to_delete, to_end, to_refresh, to_take_out, to_write, with_checkpoints}
use Rattle.slate_store.specs.Content.{IdsRise, IsPinned, IsSound, content}
use Rattle.slate_store.specs.Objects.{last_log, Change, ChangeOf, Objects, PutLog, PutManifest, PutTable, RemoveLog, RemoveManifest, RemoveTable, changed, changed_all, entry_at, is_present, last, latest_manifest, table_at, table_cmp, versioned}
use Rattle.slate_store.specs.Refusals as calls
use Rattle.slate_store.specs.Refusals.{FollowsPlan, KeepsContent, checkpoint_changes, planned, planned_after}
use Rattle.slate_store.specs.Sweeps as sweeps
use Rattle.slate_store.specs.Sweeps.{expiries, has_expired, keeps_log, keeps_manifest, keeps_table, protecting, removals, sweep_changes, sweep_changes_by, without_expired}
use Rattle.slate_store.specs.declared.objects.Checkpoint.{Checkpoint}
use Rattle.slate_store.specs.declared.objects.Manifest.{Manifest}
use Rattle.slate_store.specs.declared.objects.TableId.{TableId}
use Rattle.slate_store.specs.declared.objects.VersionedManifest.{VersionedManifest}
use Rattle.slate_store.specs.declared.refusals.StoreRefusal.TheVariants as refusals
use Rattle.slate_store.specs.declared.refusals.StoreRefusal.{StoreRefusal}
use Rattle.slate_types.specs.Line.{Line}
use Rattle.slate_types.specs.declared.batches.Batch.{Batch}
use Rattle.slate_types.specs.declared.store_errors.StoreFault.TheVariants.{NotFound, Unavailable}
use Rattle.slate_errors.specs.declared.errors.SlateError.{SlateError}
use Rattle.slate_errors.specs.declared.errors.SlateError.TheVariants as errors
use Rattle.slate_model.proofs.Catalogued.{catalogue-after, reduced, spanned}
use Rattle.slate_model.proofs.Reduced.{as_modelled, catalogued, holding, modelled}
use Rattle.slate_model.specs.Catalogue.{Span, catalogue_of}
use Rattle.slate_model.specs.Changes.{PartMade, after_part}
use Rattle.slate_model.specs.Maintain.{CheckpointAnswer, CheckpointCause, Checkpoints, CommitsCheckpoint, Sweeps, SweepsAnswer, SweepsCause, SweepsObjects, commit_changes}
use Rattle.slate_model.proofs.Logging.{KeepLogs, LogsAre, LogsGo, LogsStay, PutLogs, part-are, part-logs, puts-part, stay-go}
use Rattle.slate_model.proofs.Removing.{Waits, part-go, removals-rise, removals-wait, removed_ids}
use Rattle.slate_model.specs.Refusal.{error_of_refusal}
use Rattle.slate_model.specs.Stores.{Stands, SweepFault, by_catalogue, by_objects}
use Rattle.slate_model.specs.Write.{last_number}

-- ---- what they leave of sound objects
-- The objects stay sound, with the same content. The latest manifest has the same epoch, end of its tables and replay mark, and
-- each table and each log file is as it was, or gone, and each log file above the mark as it was; they go in
-- their order.
pub record Maintained (o o' : Objects) : Type 0 where
  pub sound : IsSound o'
  pub content : content o' ≡ content o
  pub latest : (latest : VersionedManifest) → latest_manifest o ≡ Some latest →
      (next : VersionedManifest) × (latest_manifest o' ≡ Some next) × (next.manifest.writer_epoch ≡ latest.manifest.writer_epoch) × (next.manifest.last_l0_seq ≡ latest.manifest.last_l0_seq)
      × (next.manifest.replay_after_wal_id ≡ latest.manifest.replay_after_wal_id)
  pub logs : (latest : VersionedManifest) → latest_manifest o ≡ Some latest → LogsStay latest.manifest.replay_after_wal_id (last_log latest.manifest.replay_after_wal_id o) o o'
  pub lasts : (q : TableId) → table_at q o' ≢ None → table_at q o' ≡ table_at q o
  pub unput : (q : TableId) → table_at q o ≡ None → table_at q o' ≡ None
  pub logs_are : LogsAre (λ batches. ⊥) o o'
  pub goes : (last : ℕ) → LogsGo last o o'

-- a change puts no table
abbrev PutsNoTable : Change → Type 0
PutsNoTable (PutTable id table) = ⊥
PutsNoTable change = Unit {0}

-- each table is as it was, or gone
abbrev LeavesTables : Objects → Objects → Type 0
LeavesTables o o' = (q : TableId) → (table_at q o' ≡ None) ⊎ (table_at q o' ≡ table_at q o)

leaves-then : (a b c : Objects) → LeavesTables a b → LeavesTables b c → LeavesTables a c
leaves-then a b c first second q = elim (second q) [
  | inl gone ↦ inl gone
  | inr same ↦ elim (first q) [
    | inl gone ↦ inl (same ∙ gone)
    | inr before ↦ inr (same ∙ before)
  ]
]

table-removed : (id : TableId) (o : Objects) → LeavesTables o (changed (RemoveTable id) o)
table-removed id o q = by (is_at (table_cmp id) q) refl where
  by : (b : Bool) → is_at (table_cmp id) q ≡ b → (table_at q (changed (RemoveTable id) o) ≡ None) ⊎ (table_at q (changed (RemoveTable id) o) ≡ table_at q o)
  by true at = inl (lookup-filter-keys (is_at (table_cmp q)) (λ key. not (is_at (table_cmp id) key)) false
      (λ key same. ap (λ k. not (is_at (table_cmp id) k)) (sym (same_table q key (tied (table_cmp q key) same))) ∙ ap not at) o.tables)
  by false apart = inr (lookup-without table_total q id o.tables apart)

changed-leaves : (c : Change) (o : Objects) → PutsNoTable c → LeavesTables o (changed c o)
changed-leaves (PutManifest id manifest) o plain q = inr refl
changed-leaves (PutLog id log) o plain q = inr refl
changed-leaves (PutTable id table) o plain q = absurd plain
changed-leaves (RemoveManifest id) o plain q = inr refl
changed-leaves (RemoveLog id) o plain q = inr refl
changed-leaves (RemoveTable id) o plain q = table-removed id o q

part-leaves : (made : ℕ) (cs : List Change) (o : Objects) → All PutsNoTable cs → LeavesTables o (after_part made cs o)
part-leaves zero cs o plain q = inr refl
part-leaves (suc made) [] o plain q = inr refl
part-leaves (suc made) (c ∷ cs) o plain q =
    leaves-then o (changed c o) (after_part made cs (changed c o)) (changed-leaves c o (All-head PutsNoTable c cs plain)) (part-leaves made cs (changed c o) (All-tail PutsNoTable c cs plain)) q

-- this manifest is followed by the latest one of these objects
abbrev HasNext : VersionedManifest → Objects → Type 0
HasNext latest o' =
    (next : VersionedManifest) × (latest_manifest o' ≡ Some next) × (next.manifest.writer_epoch ≡ latest.manifest.writer_epoch) × (next.manifest.last_l0_seq ≡ latest.manifest.last_l0_seq)
    × (next.manifest.replay_after_wal_id ≡ latest.manifest.replay_after_wal_id)

-- what changes leave that put no table
maintained : (o o' : Objects) → IsSound o' → content o' ≡ content o → ((latest : VersionedManifest) → latest_manifest o ≡ Some latest → HasNext latest o') →
    ((latest : VersionedManifest) → latest_manifest o ≡ Some latest → LogsStay latest.manifest.replay_after_wal_id (last_log latest.manifest.replay_after_wal_id o) o o') → LeavesTables o o' → LogsAre (λ batches. ⊥) o o' → ((last : ℕ) → LogsGo last o o') → Maintained o o'
maintained o o' sound same next logs leaves are goes = record {
  sound = sound;
  content = same;
  latest = next;
  logs = logs;
  lasts = λ q there. elim (leaves q) [
    | inl gone ↦ absurd (there gone)
    | inr before ↦ before
  ];
  unput = λ q free. elim (leaves q) [
    | inl gone ↦ gone
    | inr before ↦ before ∙ free
  ];
  logs_are = are;
  goes = goes;
}

-- a manifest that is put after the latest one is the latest
pub put-latest : (o : Objects) (latest : VersionedManifest) → IsSound o → latest_manifest o ≡ Some latest → (m : Manifest) → latest_manifest (changed (PutManifest (latest.id + 1) m) o) ≡ Some (record { id = latest.id + 1; manifest = m })
put-latest o latest sound is m =
    let top = all-greatest latest.id 0 (map (λ e. e.0) o.manifests) (ids-within o latest sound is) in
    ap (option_map versioned) (ap last (insert-last (latest.id + 1) 0 m o.manifests (omega (arith, top))) ∙ last-push o.manifests (latest.id + 1, m))

-- ---- a plan for a checkpoint
-- a plan puts the latest manifest with other checkpoints, or nothing
abbrev pub Recheckpoints : {A : Type 0} → VersionedManifest → Plan A → Type 0
Recheckpoints latest (Ok (Some next, answer)) = (checkpoints : List Checkpoint) × (next ≡ with_checkpoints checkpoints latest)
Recheckpoints latest (Ok (None, answer)) = Unit {0}
Recheckpoints latest (Err refusal) = Unit {0}

-- the manifest that commits a checkpoint, after the latest one
abbrev committing : Option ℕ → ℤ → VersionedManifest → VersionedManifest
committing lifetime moment latest = with_checkpoints (latest.manifest.checkpoints ++ new_checkpoint latest lifetime moment ∷ []) latest

-- the plan of it, by whether the latest manifest's id is below the last one
abbrev plan_by : Option ℕ → ℤ → VersionedManifest → Bool → Plan Checkpoint
plan_by lifetime moment latest b = cond b (Ok (Some (committing lifetime moment latest), new_checkpoint latest lifetime moment)) (Err refusals.InvalidDBState)

puts-recheckpoints : {A : Type 0} (checkpoints : List Checkpoint) (latest : VersionedManifest) (answer : A) → Recheckpoints latest (puts_next latest (with_checkpoints checkpoints latest) answer)
puts-recheckpoints {A} checkpoints latest answer = by (nat_lt latest.id last_number) where
  by : (b : Bool) → Recheckpoints {A = A} latest (cond b (Ok (Some (with_checkpoints checkpoints latest), answer)) (Err refusals.InvalidDBState))
  by true = (checkpoints, refl)
  by false = tt

pub write-recheckpoints : (replaced : Option (List ℕ)) (lifetime : Option ℕ) (moment : ℤ) (latest : VersionedManifest) → Recheckpoints latest (to_write replaced lifetime moment latest)
write-recheckpoints replaced lifetime moment latest = puts-recheckpoints _ latest _

pub refresh-recheckpoints : (id : List ℕ) (lifetime : ℕ) (moment : ℤ) (latest : VersionedManifest) → Recheckpoints latest (to_refresh id lifetime moment latest)
refresh-recheckpoints id lifetime moment latest = by (found id latest) where
  by : (checkpoint : Option Checkpoint) → Recheckpoints latest (to_end id (lease_end moment lifetime) latest checkpoint)
  by None = tt
  by (Some checkpoint) = puts-recheckpoints _ latest _

pub delete-recheckpoints : (id : List ℕ) (latest : VersionedManifest) → Recheckpoints latest (to_delete id latest)
delete-recheckpoints id latest = by (found id latest) where
  by : (checkpoint : Option Checkpoint) → Recheckpoints latest (to_take_out id latest checkpoint)
  by None = tt
  by (Some checkpoint) = puts-recheckpoints _ latest tt

module _ {A : Type 0} (plan : VersionedManifest → Plan A) (made : ℕ) (o : Objects) where
  planned-next : (latest : VersionedManifest) → IsSound o → latest_manifest o ≡ Some latest → (p : Plan A) → Recheckpoints latest p → HasNext latest (after_part made (planned p) o)
  planned-next latest sound is (Ok (Some next, answer)) (checkpoints, same) =
      part-one (HasNext latest) (PutManifest next.id next.manifest) o made (latest, is, refl, refl, refl)
      (subst (λ (n : VersionedManifest). HasNext latest (changed (PutManifest n.id n.manifest) o)) (sym same)
      (with_checkpoints checkpoints latest, put-latest o latest sound is (with_checkpoints checkpoints latest).manifest, refl, refl, refl))
  planned-next latest sound is (Ok (None, answer)) puts = subst (HasNext latest) (sym (part-none made o)) (latest, is, refl, refl, refl)
  planned-next latest sound is (Err refusal) puts = subst (HasNext latest) (sym (part-none made o)) (latest, is, refl, refl, refl)

  planned-no_table : (p : Plan A) → All PutsNoTable (planned p)
  planned-no_table (Ok (Some next, answer)) = All-cons PutsNoTable (PutManifest next.id next.manifest) [] tt (All-nil PutsNoTable)
  planned-no_table (Ok (None, answer)) = All-nil PutsNoTable
  planned-no_table (Err refusal) = All-nil PutsNoTable

  after-no_table : (found : Option VersionedManifest) → All PutsNoTable (planned_after plan found)
  after-no_table None = All-nil PutsNoTable
  after-no_table (Some latest) = planned-no_table (plan latest)

  planned-logs : (mark last : ℕ) (p : Plan A) → KeepLogs mark last (planned p)
  planned-logs mark last (Ok (Some next, answer)) = tt
  planned-logs mark last (Ok (None, answer)) = tt
  planned-logs mark last (Err refusal) = tt

  after-logs : (mark last : ℕ) (found : Option VersionedManifest) → KeepLogs mark last (planned_after plan found)
  after-logs mark last None = tt
  after-logs mark last (Some latest) = planned-logs mark last (plan latest)

  planned-put_logs : (p : Plan A) → PutLogs (λ batches. ⊥) (planned p)
  planned-put_logs (Ok (Some next, answer)) = tt
  planned-put_logs (Ok (None, answer)) = tt
  planned-put_logs (Err refusal) = tt

  after-put_logs : (found : Option VersionedManifest) → PutLogs (λ batches. ⊥) (planned_after plan found)
  after-put_logs None = tt
  after-put_logs (Some latest) = planned-put_logs (plan latest)

  -- what a plan puts that keeps sound objects sound
  pub planned-maintains : ((latest : VersionedManifest) → Recheckpoints latest (plan latest)) → KeepsContent o (after_part made (checkpoint_changes plan o) o) → IsSound o → Maintained o (after_part made (checkpoint_changes plan o) o)
  planned-maintains puts keeps sound =
      let stays = keeps sound in
      maintained o (after_part made (checkpoint_changes plan o) o) stays.0 stays.1
      (λ latest is. subst (λ found. HasNext latest (after_part made (planned_after plan found) o)) (sym is) (planned-next latest sound is (plan latest) (puts latest)))
      (λ latest is. part-logs latest.manifest.replay_after_wal_id (last_log latest.manifest.replay_after_wal_id o) made (checkpoint_changes plan o) o (after-logs _ _ (latest_manifest o)))
      (part-leaves made (checkpoint_changes plan o) o (after-no_table (latest_manifest o)))
      (part-are (λ batches. ⊥) made (checkpoint_changes plan o) o (puts-part (λ batches. ⊥) made (checkpoint_changes plan o) (after-put_logs (latest_manifest o))))
      (λ last. stay-go last o (after_part made (checkpoint_changes plan o) o) (part-logs 0 last made (checkpoint_changes plan o) o (after-logs 0 last (latest_manifest o))))

-- a checkpoint that is committed, or not yet
pub checkpoint-maintains : (lifetime : Option ℕ) (moment : ℤ) (made : ℕ) (o : Objects) → IsSound o → Maintained o (after_part made (commit_changes lifetime moment o) o)
checkpoint-maintains lifetime moment made o = planned-maintains (to_write None lifetime moment) made o (write-recheckpoints None lifetime moment) (write-keeps None lifetime moment made o)

-- ---- a sweep
-- the removals of a sweep remove nothing that is protected
removals-spare : (latest : VersionedManifest) (o : Objects) → All (IsSpare latest o) (removals latest o)
removals-spare latest o =
    let tables = filter (λ table. not (keeps_table (protecting latest o) table.0)) o.tables in
    let logs = filter (λ log. not (keeps_log (protecting latest o) log.0)) o.logs in
    let manifests = filter (λ entry. not (keeps_manifest latest entry.0)) o.manifests in
    All-append (IsSpare latest o) (map (λ table. RemoveTable table.0) tables) (map (λ log. RemoveLog log.0) logs ++ map (λ entry. RemoveManifest entry.0) manifests)
    (All-map (IsSpare latest o) (λ table. RemoveTable table.0) tables (fails (λ table. keeps_table (protecting latest o) table.0) o.tables))
    (All-append (IsSpare latest o) (map (λ log. RemoveLog log.0) logs) (map (λ entry. RemoveManifest entry.0) manifests)
    (All-map (IsSpare latest o) (λ log. RemoveLog log.0) logs (fails (λ log. keeps_log (protecting latest o) log.0) o.logs))
    (All-map (IsSpare latest o) (λ entry. RemoveManifest entry.0) manifests (fails (λ entry. keeps_manifest latest entry.0) o.manifests)))

spare-no_table : (latest : VersionedManifest) (o : Objects) (c : Change) → IsSpare latest o c → PutsNoTable c
spare-no_table latest o (PutManifest id manifest) spare = tt
spare-no_table latest o (PutLog id log) spare = tt
spare-no_table latest o (PutTable id table) spare = spare
spare-no_table latest o (RemoveManifest id) spare = tt
spare-no_table latest o (RemoveLog id) spare = tt
spare-no_table latest o (RemoveTable id) spare = tt

removals-no_table : (latest : VersionedManifest) (o : Objects) → All PutsNoTable (removals latest o)
removals-no_table latest o k d less = spare-no_table latest o _ (removals-spare latest o k d less)

spare-put_logs : (latest : VersionedManifest) (o : Objects) (cs : List Change) → All (IsSpare latest o) cs → PutLogs (λ batches. ⊥) cs
spare-put_logs latest o [] spare = tt
spare-put_logs latest o (c ∷ cs) spare = by c (All-head (IsSpare latest o) c cs spare) (spare-put_logs latest o cs (All-tail (IsSpare latest o) c cs spare)) where
  by : (c : Change) → IsSpare latest o c → PutLogs (λ batches. ⊥) cs → PutLogs (λ batches. ⊥) (c ∷ cs)
  by (PutManifest id manifest) spare rest = rest
  by (PutLog id log) spare rest = absurd spare
  by (PutTable id table) spare rest = rest
  by (RemoveManifest id) spare rest = rest
  by (RemoveLog id) spare rest = rest
  by (RemoveTable id) spare rest = rest

-- nor a log file above the replay mark
spare-keep : (latest : VersionedManifest) (last : ℕ) (o : Objects) (cs : List Change) → All (IsSpare latest o) cs → KeepLogs latest.manifest.replay_after_wal_id last cs
spare-keep latest last o [] spare = tt
spare-keep latest last o (c ∷ cs) spare = by c (All-head (IsSpare latest o) c cs spare) (spare-keep latest last o cs (All-tail (IsSpare latest o) c cs spare)) where
  by : (c : Change) → IsSpare latest o c → KeepLogs latest.manifest.replay_after_wal_id last cs → KeepLogs latest.manifest.replay_after_wal_id last (c ∷ cs)
  by (PutManifest id manifest) spare rest = rest
  by (PutLog id log) spare rest = absurd spare
  by (PutTable id table) spare rest = rest
  by (RemoveManifest id) spare rest = rest
  by (RemoveLog id) spare rest = (ltb-false latest.manifest.replay_after_wal_id id (or_parts (nat_lt latest.manifest.replay_after_wal_id id) (list_any (λ (m : Manifest). nat_lt m.replay_after_wal_id id) (flat_map (λ (checkpoint : Checkpoint). option_to_list (entry_at checkpoint.manifest_id o.manifests)) latest.manifest.checkpoints)) spare).0, rest)
  by (RemoveTable id) spare rest = rest

-- the manifest that is left when the expired checkpoints are taken out
abbrev unexpired : ℤ → VersionedManifest → VersionedManifest
unexpired moment latest = with_checkpoints (filter (λ checkpoint. not (is_expired moment checkpoint)) latest.manifest.checkpoints) latest

module _ (moment : ℤ) (o : Objects) where
  -- the changes of a sweep, by whether a checkpoint has expired
  abbrev sweep_by : VersionedManifest → Bool → List Change
  sweep_by latest t =
      let next = cond t (unexpired moment latest) latest in
      let first = cond t (PutManifest next.id next.manifest ∷ []) [] in
      first ++ removals next (changed_all first o)

  sweep-next : (made : ℕ) (latest : VersionedManifest) → IsSound o → latest_manifest o ≡ Some latest → (t : Bool) → HasNext latest (after_part made (sweep_by latest t) o)
  sweep-next made latest sound is false =
      let end = removed-part made (removals latest o) o latest sound is (removals-spare latest o) in
      (latest, end.latest ∙ is, refl, refl, refl)
  sweep-next made latest sound is true =
      let test : Checkpoint → Bool = λ checkpoint. not (is_expired moment checkpoint) in
      let next = unexpired moment latest in
      let o1 = changed (PutManifest next.id next.manifest) o in
      let put = recheckpointed o latest sound is (filter test latest.manifest.checkpoints) (some-differ o latest sound is test) (some-kept o latest sound is test) in
      part-more (HasNext latest) (PutManifest next.id next.manifest) (removals next o1) o made (latest, is, refl, refl, refl)
      (λ part. let end = removed-part part (removals next o1) o1 next put.sound put.latest (removals-spare next o1) in (next, end.latest ∙ put.latest, refl, refl, refl))

  sweep-keeps-logs : (latest : VersionedManifest) (last : ℕ) (t : Bool) → KeepLogs latest.manifest.replay_after_wal_id last (sweep_by latest t)
  sweep-keeps-logs latest last false = spare-keep latest last o (removals latest o) (removals-spare latest o)
  sweep-keeps-logs latest last true =
      let next = unexpired moment latest in
      let o1 = changed (PutManifest next.id next.manifest) o in
      spare-keep next last o1 (removals next o1) (removals-spare next o1)

  sweep_by-no_table : (latest : VersionedManifest) (t : Bool) → All PutsNoTable (sweep_by latest t)
  sweep_by-no_table latest false = removals-no_table latest o
  sweep_by-no_table latest true =
      let next = unexpired moment latest in
      let o1 = changed (PutManifest next.id next.manifest) o in
      All-cons PutsNoTable (PutManifest next.id next.manifest) (removals next o1) tt (removals-no_table next o1)

  sweep_by-put_logs : (latest : VersionedManifest) (t : Bool) → PutLogs (λ batches. ⊥) (sweep_by latest t)
  sweep_by-put_logs latest false = spare-put_logs latest o (removals latest o) (removals-spare latest o)
  sweep_by-put_logs latest true =
      let next = unexpired moment latest in
      let o1 = changed (PutManifest next.id next.manifest) o in
      spare-put_logs next o1 (removals next o1) (removals-spare next o1)

  sweep-put_logs : (found : Option VersionedManifest) → PutLogs (λ batches. ⊥) (sweep_changes_by moment o found)
  sweep-put_logs None = tt
  sweep-put_logs (Some latest) = sweep_by-put_logs latest (has_expired moment latest)

  sweep-no_table : (found : Option VersionedManifest) → All PutsNoTable (sweep_changes_by moment o found)
  sweep-no_table None = All-nil PutsNoTable
  sweep-no_table (Some latest) = sweep_by-no_table latest (has_expired moment latest)

  -- it removes log files in their order
  sweep_by-rises : IsSound o → (latest : VersionedManifest) (t : Bool) → IdsRise (removed_ids (sweep_by latest t))
  sweep_by-rises sound latest false = removals-rise latest o sound.logs
  sweep_by-rises sound latest true = removals-rise (unexpired moment latest) (changed (PutManifest (unexpired moment latest).id (unexpired moment latest).manifest) o) sound.logs

  sweep-rises : IsSound o → (found : Option VersionedManifest) → IdsRise (removed_ids (sweep_changes_by moment o found))
  sweep-rises sound None = tt
  sweep-rises sound (Some latest) = sweep_by-rises sound latest (has_expired moment latest)

  sweep_by-waits : (latest : VersionedManifest) (t : Bool) → Waits o (removed_ids (sweep_by latest t))
  sweep_by-waits latest false = removals-wait latest o
  sweep_by-waits latest true = removals-wait (unexpired moment latest) (changed (PutManifest (unexpired moment latest).id (unexpired moment latest).manifest) o)

  sweep-waits : (found : Option VersionedManifest) → Waits o (removed_ids (sweep_changes_by moment o found))
  sweep-waits None = λ id below among low. absurd among
  sweep-waits (Some latest) = sweep_by-waits latest (has_expired moment latest)

-- a sweep, wherever it is broken off
pub sweep-maintains : (moment : ℤ) (made : ℕ) (o : Objects) → IsSound o → Maintained o (after_part made (sweep_changes moment o) o)
sweep-maintains moment made o sound =
    let stays = sweep-keeps moment made o sound in
    maintained o (after_part made (sweep_changes moment o) o) stays.0 stays.1
    (λ latest is. subst (λ found. HasNext latest (after_part made (sweep_changes_by moment o found) o)) (sym is) (sweep-next moment o made latest sound is (has_expired moment latest)))
    (λ latest is. part-logs latest.manifest.replay_after_wal_id (last_log latest.manifest.replay_after_wal_id o) made (sweep_changes moment o) o
    (subst (λ found. KeepLogs latest.manifest.replay_after_wal_id (last_log latest.manifest.replay_after_wal_id o) (sweep_changes_by moment o found)) (sym is) (sweep-keeps-logs moment o latest (last_log latest.manifest.replay_after_wal_id o) (has_expired moment latest))))
    (part-leaves made (sweep_changes moment o) o (sweep-no_table moment o (latest_manifest o)))
    (part-are (λ batches. ⊥) made (sweep_changes moment o) o (puts-part (λ batches. ⊥) made (sweep_changes moment o) (sweep-put_logs moment o (latest_manifest o))))
    (λ last. part-go last made (sweep_changes moment o) o (sweep-put_logs moment o (latest_manifest o)) (sweep-rises moment o sound (latest_manifest o)) (sweep-waits moment o (latest_manifest o)))

-- ---- what calls of a store do
-- what a call answers to a command
abbrev pub answered : {A : Type 0} → Result A StoreRefusal → Result A SlateError
answered (Ok x) = Ok x
answered (Err refusal) = Err (error_of_refusal refusal)

-- as many changes are made
answered-part : {A : Type 0} (r : Result A StoreRefusal) (all made : ℕ) → calls.PartMade r all made → PartMade (answered r) all made
answered-part (Ok x) all made part = part
answered-part (Err (refusals.CheckpointMissing id)) all made part = part
answered-part (Err refusals.LatestTransactionalObjectVersionMissing) all made part = part
answered-part (Err refusals.Fenced) all made part = part
answered-part (Err refusals.InvalidDBState) all made part = omega (arith, part)
answered-part (Err (refusals.ObjectStoreError fault)) all made part = part
answered-part (Err refusals.TransactionalObjectVersionExists) all made part = part
answered-part (Err (refusals.TransactionalObjectTimeout tries)) all made part = part
answered-part (Err refusals.NoMemory) all made part = part

-- what the plan of a checkpoint says
plan-answer : (lifetime : Option ℕ) (moment : ℤ) (latest : VersionedManifest) (b : Bool) (next : Option VersionedManifest) (checkpoint : Checkpoint) → plan_by lifetime moment latest b ≡ Ok (next, checkpoint) → checkpoint ≡ new_checkpoint latest lifetime moment
plan-answer lifetime moment latest true next checkpoint is =
    let both : (next, checkpoint) ≡ (Some (committing lifetime moment latest), new_checkpoint latest lifetime moment) = cc in
    ap (λ (p : Option VersionedManifest × Checkpoint). p.1) both
plan-answer lifetime moment latest false next checkpoint is = absurd (cc)

plan-refusal : (lifetime : Option ℕ) (moment : ℤ) (latest : VersionedManifest) (b : Bool) (e : StoreRefusal) → plan_by lifetime moment latest b ≡ Err e → (b ≡ false) × (e ≡ refusals.InvalidDBState)
plan-refusal lifetime moment latest true e is = absurd (cc)
plan-refusal lifetime moment latest false e is = (refl, cc)

module _ (lifetime : Option ℕ) (moment : ℤ) (o : Objects) where
  commit-cause : (e : StoreRefusal) → calls.CheckpointCause (to_write None lifetime moment) o e → CheckpointCause (Stands (commit_changes lifetime moment o) o) o (error_of_refusal e)
  commit-cause (refusals.CheckpointMissing id) c = absurd (let no = (plan-refusal lifetime moment c.0 (nat_lt (c.0).id last_number) (refusals.CheckpointMissing id) c.2).1 in cc)
  commit-cause refusals.LatestTransactionalObjectVersionMissing c = c
  commit-cause refusals.Fenced c = c
  commit-cause refusals.InvalidDBState c =
      (c.0, c.1, ltb-false (c.0).id last_number (plan-refusal lifetime moment c.0 (nat_lt (c.0).id last_number) refusals.InvalidDBState c.2).0)
  commit-cause (refusals.ObjectStoreError NotFound) c = c
  commit-cause (refusals.ObjectStoreError Unavailable) c = c
  commit-cause refusals.TransactionalObjectVersionExists c = c
  commit-cause (refusals.TransactionalObjectTimeout tries) c =
      let next = c.1 in
      let put : Change = PutManifest next.id next.manifest in
      let changes : commit_changes lifetime moment o ≡ put ∷ [] = ap (planned_after (to_write None lifetime moment)) (c.3).1 ∙ ap planned (c.3).2 in
      let stands : Stands (put ∷ []) o = (put, (0, omega arith, refl), c.4) in
      (c.0, subst (λ cs. Stands cs o) (sym changes) stands)
  commit-cause refusals.NoMemory c = c

  commit-answer : (made : ℕ) (r : Result Checkpoint StoreRefusal) (o' : Objects) → FollowsPlan (to_write None lifetime moment) o r made o' → CheckpointAnswer (Stands (commit_changes lifetime moment o) o) lifetime moment o (answered r)
  commit-answer made (Ok checkpoint) o' follows =
      let plan = (follows.answer).1 in
      (plan.0, plan.1, plan-answer lifetime moment plan.0 (nat_lt (plan.0).id last_number) (follows.answer).0 checkpoint plan.2)
  commit-answer made (Err e) o' follows = commit-cause e follows.cause

-- a call that follows the plan of a checkpoint commits it
pub commits-by : (lifetime : Option ℕ) (moment : ℤ) (o o' : Objects) (made : ℕ) (r : Result Checkpoint StoreRefusal) → FollowsPlan (to_write None lifetime moment) o r made o' → CommitsCheckpoint (by_objects (Some o)) lifetime moment o (answered r) made o'
commits-by lifetime moment o o' made r follows = record {
  answer = commit-answer lifetime moment o made r o' follows;
  part = answered-part r (length (commit_changes lifetime moment o)) made follows.part;
  after = follows.after;
}

sweep-cause : (moment : ℤ) (o : Objects) (e : StoreRefusal) → sweeps.SweepCause moment o e → SweepsCause (SweepFault moment o) moment o (error_of_refusal e)
sweep-cause moment o (refusals.CheckpointMissing id) c = c
sweep-cause moment o refusals.LatestTransactionalObjectVersionMissing c = c
sweep-cause moment o refusals.Fenced c = c
sweep-cause moment o refusals.InvalidDBState c = c
sweep-cause moment o (refusals.ObjectStoreError NotFound) c = c
sweep-cause moment o (refusals.ObjectStoreError Unavailable) c = c
sweep-cause moment o refusals.TransactionalObjectVersionExists c = c
sweep-cause moment o (refusals.TransactionalObjectTimeout tries) c = c
sweep-cause moment o refusals.NoMemory c = c

sweep-answer : (moment : ℤ) (o o' : Objects) (r : Result ℕ StoreRefusal) → sweeps.SweepAnswer moment o r o' → SweepsAnswer (SweepFault moment o) moment o (answered r) o'
sweep-answer moment o o' (Ok count) a = a
sweep-answer moment o o' (Err e) a = sweep-cause moment o e a

-- a sweep of a store sweeps its objects
pub sweeps-by : (moment : ℤ) (o o' : Objects) (made : ℕ) (r : Result ℕ StoreRefusal) → sweeps.Sweeps moment o r made o' → SweepsObjects (by_objects (Some o)) moment o (answered r) made o'
sweeps-by moment o o' made r swept = record {
  answer = sweep-answer moment o o' r swept.answer;
  part = answered-part r (length (sweep_changes moment o)) made swept.part;
  after = swept.after;
}

-- ---- what a world knows of them
-- the entries that pass a test of their ids, as they are known
passed-known : {K : Type 0} (test : K → Bool) (es : List (K × List Batch)) → map spanned (filter (λ e. test e.0) es) ≡ filter (λ e. test e.0) (map spanned es)
passed-known test [] = refl
passed-known {K} test (e ∷ es) = by (test e.0) (passed-known test es) where
  by : (b : Bool) → map spanned (filter (λ e. test e.0) es) ≡ filter (λ e. test e.0) (map spanned es) → map spanned (cond b (e ∷ filter (λ e. test e.0) es) (filter (λ e. test e.0) es)) ≡ cond b (spanned e ∷ filter (λ e. test e.0) (map spanned es)) (filter (λ e. test e.0) (map spanned es))
  by true later = ap (λ rest. spanned e ∷ rest) later
  by false later = later

-- what is protected, as it is known
protected-known : (latest : VersionedManifest) (o : Objects) → catalogue_of (sweeps.protected latest o) ≡ sweeps.protected latest (catalogue_of o)
protected-known latest o =
    let logs = passed-known (keeps_log (protecting latest o)) o.logs in
    let tables = passed-known (keeps_table (protecting latest o)) o.tables in
    λ i. record { manifests = filter (λ entry. keeps_manifest latest entry.0) o.manifests; logs = logs i; tables = tables i }

-- the changes that name the ids of entries
named-known : {K X : Type 0} (f : K → Change) (g : K → ChangeOf Span) → ((k : K) → reduced (f k) ≡ g k) → (es : List (K × X)) → map reduced (map (λ e. f e.0) es) ≡ map (λ e. g e.0) es
named-known f g same [] = refl
named-known f g same (e ∷ es) = ap (λ c. c ∷ map reduced (map (λ e. f e.0) es)) (same e.0) ∙ ap (λ cs. g e.0 ∷ cs) (named-known f g same es)

ids-known : {K : Type 0} (g : K → ChangeOf Span) (es : List (K × List Batch)) → map (λ e. g e.0) es ≡ map (λ e. g e.0) (map spanned es)
ids-known g [] = refl
ids-known g (e ∷ es) = ap (λ cs. g e.0 ∷ cs) (ids-known g es)

-- the removals of the log files or tables that pass a test
removed-known : {K : Type 0} (f : K → Change) (g : K → ChangeOf Span) (test : K → Bool) → ((k : K) → reduced (f k) ≡ g k) → (es : List (K × List Batch)) → map reduced (map (λ e. f e.0) (filter (λ e. test e.0) es)) ≡ map (λ e. g e.0) (filter (λ e. test e.0) (map spanned es))
removed-known f g test same es =
    named-known f g same (filter (λ e. test e.0) es)
    ∙ (ids-known g (filter (λ e. test e.0) es) ∙ ap (map (λ e. g e.0)) (passed-known test es))

removals-known : (latest : VersionedManifest) (o : Objects) → map reduced (removals latest o) ≡ removals latest (catalogue_of o)
removals-known latest o =
    let tables = map (λ table. RemoveTable table.0) (filter (λ table. not (keeps_table (protecting latest o) table.0)) o.tables) in
    let logs = map (λ log. RemoveLog log.0) (filter (λ log. not (keeps_log (protecting latest o) log.0)) o.logs) in
    let manifests = filter (λ entry. not (keeps_manifest latest entry.0)) o.manifests in
    let known_tables = removed-known (λ id. RemoveTable id) (λ id. RemoveTable id) (λ id. not (keeps_table (protecting latest o) id)) (λ id. refl) o.tables in
    let known_logs = removed-known (λ id. RemoveLog id) (λ id. RemoveLog id) (λ id. not (keeps_log (protecting latest o) id)) (λ id. refl) o.logs in
    let known_manifests = named-known (λ id. RemoveManifest id) (λ id. RemoveManifest id) (λ id. refl) manifests in
    let one : List (ChangeOf Span) = map (λ table. RemoveTable table.0) (filter (λ table. not (keeps_table (protecting latest o) table.0)) (catalogue_of o).tables) in
    let two : List (ChangeOf Span) = map (λ log. RemoveLog log.0) (filter (λ log. not (keeps_log (protecting latest o) log.0)) (catalogue_of o).logs) in
    map-append reduced tables (logs ++ map (λ entry. RemoveManifest entry.0) manifests)
    ∙ (ap (λ cs. cs ++ map reduced (logs ++ map (λ entry. RemoveManifest entry.0) manifests)) known_tables
    ∙ ap (λ cs. one ++ cs)
    (map-append reduced logs (map (λ entry. RemoveManifest entry.0) manifests)
    ∙ (ap (λ cs. cs ++ map reduced (map (λ entry. RemoveManifest entry.0) manifests)) known_logs ∙ ap (λ cs. two ++ cs) known_manifests)))

-- the changes that take out the expired checkpoints
abbrev expiries_by : {L : Type 0} → ℤ → VersionedManifest → Bool → List (ChangeOf L)
expiries_by moment latest b = let next = cond b (unexpired moment latest) latest in cond b (PutManifest next.id next.manifest ∷ []) []

expiries_by-known : (moment : ℤ) (latest : VersionedManifest) (b : Bool) → map reduced (expiries_by moment latest b) ≡ expiries_by moment latest b
expiries_by-known moment latest true = refl
expiries_by-known moment latest false = refl

expired_by-known : (moment : ℤ) (latest : VersionedManifest) (b : Bool) (o : Objects) → catalogue_of (changed_all (expiries_by moment latest b) o) ≡ changed_all (expiries_by moment latest b) (catalogue_of o)
expired_by-known moment latest true o = refl
expired_by-known moment latest false o = refl

module _ (moment : ℤ) (latest : VersionedManifest) (o : Objects) where
  expired-known : catalogue_of (changed_all (expiries moment latest) o) ≡ changed_all (expiries moment latest) (catalogue_of o)
  expired-known = expired_by-known moment latest (has_expired moment latest) o

  -- what a sweep removes then, and leaves
  unprotected-known : map reduced (removals (without_expired moment latest) (changed_all (expiries moment latest) o)) ≡ removals (without_expired moment latest) (changed_all (expiries moment latest) (catalogue_of o))
  unprotected-known = removals-known (without_expired moment latest) (changed_all (expiries moment latest) o) ∙ ap (removals (without_expired moment latest)) expired-known

  swept-known : catalogue_of (sweeps.swept moment latest o) ≡ sweeps.swept moment latest (catalogue_of o)
  swept-known = protected-known (without_expired moment latest) (changed_all (expiries moment latest) o) ∙ ap (sweeps.protected (without_expired moment latest)) expired-known

sweep_by-known : (moment : ℤ) (o : Objects) (found : Option VersionedManifest) → map reduced (sweep_changes_by moment o found) ≡ sweep_changes_by moment (catalogue_of o) found
sweep_by-known moment o None = refl
sweep_by-known moment o (Some latest) =
    let left = removals (without_expired moment latest) (changed_all (expiries moment latest) o) in
    map-append reduced (expiries moment latest) left
    ∙ (ap (λ cs. cs ++ map reduced left) (expiries_by-known moment latest (has_expired moment latest))
    ∙ ap (λ cs. expiries moment latest ++ cs) (unprotected-known moment latest o))

-- the changes of a sweep, as they are known
pub sweep_changes-known : (moment : ℤ) (o : Objects) → map reduced (sweep_changes moment o) ≡ sweep_changes moment (catalogue_of o)
sweep_changes-known moment o = sweep_by-known moment o (latest_manifest o)

planned-known : {A : Type 0} (plan : Plan A) → map reduced (planned plan) ≡ planned plan
planned-known (Ok (Some next, answer)) = refl
planned-known (Ok (None, answer)) = refl
planned-known (Err refusal) = refl

planned_after-known : {A : Type 0} (plan : VersionedManifest → Plan A) (found : Option VersionedManifest) → map reduced (planned_after plan found) ≡ planned_after plan found
planned_after-known plan None = refl
planned_after-known plan (Some latest) = planned-known (plan latest)

-- the changes of a plan, as they are known
pub checkpoint_changes-known : {A : Type 0} (plan : VersionedManifest → Plan A) (o : Objects) → map reduced (checkpoint_changes plan o) ≡ checkpoint_changes plan (catalogue_of o)
checkpoint_changes-known plan o = planned_after-known plan (latest_manifest o)

-- as many changes are made of what is known
pub part-known : {A : Type 0} (r : Result A SlateError) (cs : List Change) (ds : List (ChangeOf Span)) (made : ℕ) → map reduced cs ≡ ds → PartMade r (length cs) made → PartMade r (length ds) made
part-known r cs ds made same part = subst (λ n. PartMade r n made) (sym (length-map cs reduced) ∙ ap length same) part

pub after-known : (cs : List Change) (ds : List (ChangeOf Span)) (made : ℕ) (o o' : Objects) → map reduced cs ≡ ds → o' ≡ after_part made cs o → catalogue_of o' ≡ after_part made ds (catalogue_of o)
after-known cs ds made o o' same after = ap catalogue_of after ∙ (catalogue-after made cs o ∙ ap (λ ds. after_part made ds (catalogue_of o)) same)

-- ---- over sound objects none stands under the id after the latest manifest's
-- what holds of all of a list holds of one of them
contained : {X : Type 0} (P : X → Type 0) (xs : List X) (x : X) → All P xs → Contains xs x → P x
contained P xs x all c = subst P c.2 (all c.0 x c.1)

abbrev IsFree : Objects → Change → Type 0
IsFree o c = is_present c o ≡ false

module _ (o : Objects) (sound : IsSound o) where
  manifest-free : (latest : VersionedManifest) (m : Manifest) → latest_manifest o ≡ Some latest → IsFree o (PutManifest (latest.id + 1) m)
  manifest-free latest m is =
      let top = all-greatest latest.id 0 (map (λ e. e.0) o.manifests) (ids-within o latest sound is) in
      rw (absent (latest.id + 1) 0 o.manifests (omega (arith, top))) refl

  planned-free : {A : Type 0} (latest : VersionedManifest) → latest_manifest o ≡ Some latest → (p : Plan A) → Recheckpoints latest p → All (IsFree o) (planned p)
  planned-free latest is (Ok (Some next, answer)) (checkpoints, same) =
      let m = (with_checkpoints checkpoints latest).manifest in
      let free = subst (λ (n : VersionedManifest). IsFree o (PutManifest n.id n.manifest)) (sym same) (manifest-free latest m is) in
      All-cons (IsFree o) (PutManifest next.id next.manifest) [] free (All-nil (IsFree o))
  planned-free latest is (Ok (None, answer)) puts = All-nil (IsFree o)
  planned-free latest is (Err refusal) puts = All-nil (IsFree o)

  after-free : {A : Type 0} (plan : VersionedManifest → Plan A) → ((latest : VersionedManifest) → Recheckpoints latest (plan latest)) → (found : Option VersionedManifest) → latest_manifest o ≡ found → All (IsFree o) (planned_after plan found)
  after-free plan puts None is = All-nil (IsFree o)
  after-free plan puts (Some latest) is = planned-free latest is (plan latest) (puts latest)

  -- what a plan puts isn't there already
  pub none-stands : {A : Type 0} (plan : VersionedManifest → Plan A) → ((latest : VersionedManifest) → Recheckpoints latest (plan latest)) → Stands (checkpoint_changes plan o) o → ⊥
  none-stands plan puts s =
      let free = contained (IsFree o) (checkpoint_changes plan o) s.0 (after-free plan puts (latest_manifest o) refl) s.1 in
      let present = s.2 in
      absurd (cc (free, present))

  module _ (lifetime : Option ℕ) (moment : ℤ) where
    cause-known : (e : SlateError) → CheckpointCause (Stands (commit_changes lifetime moment o) o) o e → CheckpointCause ⊥ (catalogue_of o) e
    cause-known errors.LatestTransactionalObjectVersionMissing c = c
    cause-known errors.InvalidDBState c = c
    cause-known (errors.TransactionalObjectTimeout tries) c = absurd (none-stands (to_write None lifetime moment) (write-recheckpoints None lifetime moment) c.1)
    cause-known (errors.ObjectStoreError Unavailable) c = tt
    cause-known errors.NoMemory c = tt
    cause-known e c = absurd c

    checkpoint_answer-known : (r : Result Checkpoint SlateError) → CheckpointAnswer (Stands (commit_changes lifetime moment o) o) lifetime moment o r → CheckpointAnswer ⊥ lifetime moment (catalogue_of o) r
    checkpoint_answer-known (Ok checkpoint) a = a
    checkpoint_answer-known (Err e) a = cause-known e a

  -- nor is a manifest missing that a checkpoint keeps
  all-kept : (latest : VersionedManifest) (checkpoint : Checkpoint) → latest_manifest o ≡ Some latest → Contains latest.manifest.checkpoints checkpoint → entry_at checkpoint.manifest_id o.manifests ≢ None
  all-kept latest checkpoint is among none =
      let pinned = contained (IsPinned o latest) latest.manifest.checkpoints checkpoint (its-objects o latest sound is).pinned among in
      let kept = pinned.kept in
      absurd (cc (kept, none))

  module _ (moment : ℤ) where
    swept-sound : (e : SlateError) → SweepFault moment o e → ⊥
    swept-sound errors.TransactionalObjectVersionExists f =
        let free = manifest-free f.0 (f.0).manifest f.1 in
        let present = f.3 in
        absurd (cc (free, present))
    swept-sound (errors.ObjectStoreError NotFound) f = all-kept f.0 f.1 f.2 f.3 f.4
    swept-sound e f = absurd f

    sweeps_cause-known : (e : SlateError) → SweepsCause (SweepFault moment o) moment o e → SweepsCause (λ e. ⊥) moment (catalogue_of o) e
    sweeps_cause-known errors.LatestTransactionalObjectVersionMissing c = c
    sweeps_cause-known errors.InvalidDBState c = c
    sweeps_cause-known errors.TransactionalObjectVersionExists c = swept-sound errors.TransactionalObjectVersionExists c
    sweeps_cause-known (errors.ObjectStoreError NotFound) c = swept-sound (errors.ObjectStoreError NotFound) c
    sweeps_cause-known (errors.ObjectStoreError Unavailable) c = tt
    sweeps_cause-known errors.NoMemory c = tt
    sweeps_cause-known e c = absurd c

    sweeps_answer-known : (r : Result ℕ SlateError) (o' : Objects) → SweepsAnswer (SweepFault moment o) moment o r o' → SweepsAnswer (λ e. ⊥) moment (catalogue_of o) r (catalogue_of o')
    sweeps_answer-known (Ok count) o' a =
        let left = removals (without_expired moment a.0) (changed_all (expiries moment a.0) o) in (
          a.0,
          a.1,
          ap catalogue_of a.2 ∙ swept-known moment a.0 o,
          a.3 ∙ (sym (length-map left reduced) ∙ ap length (unprotected-known moment a.0 o)),
        )
    sweeps_answer-known (Err e) o' a = sweeps_cause-known e a

-- a checkpoint that is committed over sound objects
pub checkpoints-reduced : (stored : Line) (made : ℕ) (lifetime : Option ℕ) (moment : ℤ) (r : Result Checkpoint SlateError) (o o' : Objects) (f f' : ℕ) → IsSound o → Checkpoints (by_objects (Some o)) made lifetime moment (holding o f) r (holding o' f') → Checkpoints (by_catalogue stored (catalogue_of o)) made lifetime moment (catalogued o f) r (catalogued o' f')
checkpoints-reduced stored made lifetime moment r o o' f f' sound s =
    let d = modelled o o' s.objects in
    let same = checkpoint_changes-known (to_write None lifetime moment) o in
    record {
      faults = s.faults;
      objects = as_modelled (catalogue_of o) (catalogue_of o') (record {
        answer = checkpoint_answer-known o sound lifetime moment r d.answer;
        part = part-known r (commit_changes lifetime moment o) (commit_changes lifetime moment (catalogue_of o)) made same d.part;
        after = after-known (commit_changes lifetime moment o) (commit_changes lifetime moment (catalogue_of o)) made o o' same d.after;
      });
    }

-- and a sweep of them
pub sweeps-reduced : (stored : Line) (made : ℕ) (moment : ℤ) (r : Result ℕ SlateError) (o o' : Objects) (f f' : ℕ) → IsSound o → Sweeps (by_objects (Some o)) made moment (holding o f) r (holding o' f') → Sweeps (by_catalogue stored (catalogue_of o)) made moment (catalogued o f) r (catalogued o' f')
sweeps-reduced stored made moment r o o' f f' sound s =
    let d = modelled o o' s.objects in
    let same = sweep_changes-known moment o in
    record {
      faults = s.faults;
      objects = as_modelled (catalogue_of o) (catalogue_of o') (record {
        answer = sweeps_answer-known o sound moment r o' d.answer;
        part = part-known r (sweep_changes moment o) (sweep_changes moment (catalogue_of o)) made same d.part;
        after = after-known (sweep_changes moment o) (sweep_changes moment (catalogue_of o)) made o o' same d.after;
      });
    }
