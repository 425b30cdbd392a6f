-- Objects stay sound, with the same content, when what isn't protected is removed.
use Rattle.slate_store.proofs.Entries.{apart, lookup-without, rising-filter, sorted-filter}
use Rattle.slate_store.proofs.Kept.{log_removal-keeps, manifest_removal-keeps, not-any, table_removal-keeps}
use Rattle.slate_store.proofs.Latest.{its-objects, last-cons, some-versioned}
use Rattle.slate_store.proofs.Spared.{Spares, Unmoved, spared, unmoved, unmoved-then}
use Rattle.slate_store.specs.Changes.{after_part}
use Rattle.slate_store.specs.Content.{IsSound}
use Rattle.slate_store.specs.Objects.{Change, Objects, PutLog, PutManifest, PutTable, RemoveLog, RemoveManifest, RemoveTable, changed, entry_at, last, latest_manifest, table_cmp, versioned}
use Rattle.slate_store.specs.Sweeps.{keeps_log, keeps_manifest, keeps_table, protecting}
use Rattle.slate_store.specs.declared.objects.Checkpoint.{Checkpoint}
use Rattle.slate_store.specs.declared.objects.Manifest.{Manifest}
use Rattle.slate_store.specs.declared.objects.TableId.{TableId}
use Rattle.slate_store.specs.declared.objects.VersionedManifest.{VersionedManifest}
use Rattle.std.proofs.Common.{◌++◌, ◌==◌, ◌∙◌, ◌∷◌, ◌≡◌, ◌≤◌, [], Bool, List, None, Option, Some, ap, arith, cond, false, not, refl, suc, sym, true, zero, ℕ}
use Rattle.std.proofs.lemmas.Bool.{eqb-false, ltb-false, ltb-true, or_parts}
use Rattle.std.proofs.lemmas.Cmp.{nat_cmp_total}
use Rattle.std.proofs.lemmas.List.Elements.{All-cons, All-filter, All-head, All-nil, All-tail, All-weaker}
use Rattle.std.specs.BTreeMap.{is_at}
use Rattle.std.specs.List.{All, filter, flat_map, list_any}
use Rattle.std.specs.Option.{option_map, option_to_list}
use Rattle.std.specs.Ordering.{eq_by_cmp, nat_cmp}
use Rattle.std.specs.Prelude.{nat_lt}

-- a filter keeps what a second one is to keep
filter-within : {X : Type 0} (p q : X → Bool) (xs : List X) → ((x : X) → p x ≡ true → q x ≡ true) → filter p (filter q xs) ≡ filter p xs
filter-within p q [] within = refl
filter-within {X} p q (x ∷ xs) within = by (q x) (p x) refl refl (filter-within p q xs within) where
  by : (s t : Bool) → q x ≡ s → p x ≡ t → filter p (filter q xs) ≡ filter p xs → filter p (cond s (x ∷ filter q xs) (filter q xs)) ≡ cond t (x ∷ filter p xs) (filter p xs)
  by true true stays passes later = rw passes (ap (λ rest. x ∷ rest) later)
  by true false stays fails later = rw fails later
  by false true goes passes later = let stays = within x passes in absurd (cc (goes, stays))
  by false false goes fails later = later

last-more : {X : Type 0} (x e : X) (xs : List X) → last xs ≡ Some e → last (x ∷ xs) ≡ Some e
last-more x e [] is = absurd (cc)
last-more x e (y ∷ xs) is = last-cons x y xs ∙ is

-- a filter that keeps the last element leaves it last
pub last-filter : {X : Type 0} (test : X → Bool) (e : X) (xs : List X) → last xs ≡ Some e → test e ≡ true → last (filter test xs) ≡ Some e
last-filter test e [] is passes = absurd (cc)
last-filter test e (x ∷ []) is passes =
    let same : x ≡ e = cc in
    let yes : test x ≡ true = ap test same ∙ passes in
    rw yes is
last-filter {X} test e (x ∷ y ∷ xs) is passes = by (test x) (last-filter test e (y ∷ xs) (sym (last-cons x y xs) ∙ is) passes) where
  by : (t : Bool) → last (filter test (y ∷ xs)) ≡ Some e → last (cond t (x ∷ filter test (y ∷ xs)) (filter test (y ∷ xs))) ≡ Some e
  by true later = last-more x e (filter test (y ∷ xs)) later
  by false later = later

-- ---- what is protected
-- a change removes nothing that is protected
abbrev pub IsSpare : VersionedManifest → Objects → Change → Type 0
IsSpare latest o (PutManifest id manifest) = ⊥
IsSpare latest o (PutLog id log) = ⊥
IsSpare latest o (PutTable id table) = ⊥
IsSpare latest o (RemoveManifest id) = keeps_manifest latest id ≡ false
IsSpare latest o (RemoveLog id) = keeps_log (protecting latest o) id ≡ false
IsSpare latest o (RemoveTable id) = keeps_table (protecting latest o) id ≡ false

-- the manifests that checkpoints keep
abbrev kept_by : Objects → List Checkpoint → List Manifest
kept_by o checkpoints = flat_map (λ checkpoint. option_to_list (entry_at checkpoint.manifest_id o.manifests)) checkpoints

-- what no protecting manifest passes, none that a checkpoint keeps passes
kept-fail : (test : Manifest → Bool) (o : Objects) (checkpoints : List Checkpoint) → list_any test (kept_by o checkpoints) ≡ false → All (λ checkpoint. (m : Manifest) → entry_at checkpoint.manifest_id o.manifests ≡ Some m → test m ≡ false) checkpoints
kept-fail test o [] fail = All-nil (λ checkpoint. (m : Manifest) → entry_at checkpoint.manifest_id o.manifests ≡ Some m → test m ≡ false)
kept-fail test o (c ∷ checkpoints) fail = by (entry_at c.manifest_id o.manifests) refl fail (kept-fail test o checkpoints) where
  by : (found : Option Manifest) → entry_at c.manifest_id o.manifests ≡ found → list_any test (option_to_list found ++ kept_by o checkpoints) ≡ false → (list_any test (kept_by o checkpoints) ≡ false → All (λ checkpoint. (m : Manifest) → entry_at checkpoint.manifest_id o.manifests ≡ Some m → test m ≡ false) checkpoints) → All (λ checkpoint. (m : Manifest) → entry_at checkpoint.manifest_id o.manifests ≡ Some m → test m ≡ false) (c ∷ checkpoints)
  by None found fail later =
      All-cons (λ checkpoint. (m : Manifest) → entry_at checkpoint.manifest_id o.manifests ≡ Some m → test m ≡ false) c checkpoints (λ m is. absurd (cc (found, is))) (later fail)
  by (Some m) found fail later =
      let both = or_parts (test m) (list_any test (kept_by o checkpoints)) fail in
      All-cons (λ checkpoint. (m : Manifest) → entry_at checkpoint.manifest_id o.manifests ≡ Some m → test m ≡ false) c checkpoints (λ n is. let same : m ≡ n = cc in ap test (sym same) ∙ both.0) (later both.1)

-- the removal of a manifest that none keeps leaves those that are kept
kept-stay : (o : Objects) (id : ℕ) (checkpoints : List Checkpoint) → list_any (λ checkpoint. checkpoint.manifest_id == id) checkpoints ≡ false → All (λ checkpoint. entry_at checkpoint.manifest_id (changed (RemoveManifest id) o).manifests ≡ entry_at checkpoint.manifest_id o.manifests) checkpoints
kept-stay o id checkpoints fail k d less =
    let other = not-any (λ checkpoint. checkpoint.manifest_id == id) checkpoints fail k d less in
    lookup-without nat_cmp_total _ id o.manifests (apart id _ (λ same. eqb-false _ id other (sym same)))

kept_by-same : (o o' : Objects) (checkpoints : List Checkpoint) → All (λ checkpoint. entry_at checkpoint.manifest_id o'.manifests ≡ entry_at checkpoint.manifest_id o.manifests) checkpoints → kept_by o' checkpoints ≡ kept_by o checkpoints
kept_by-same o o' [] all = refl
kept_by-same o o' (c ∷ checkpoints) all =
    ap (λ found. option_to_list found ++ kept_by o' checkpoints) (All-head (λ checkpoint. entry_at checkpoint.manifest_id o'.manifests ≡ entry_at checkpoint.manifest_id o.manifests) c checkpoints all)
    ∙ ap (λ ms. option_to_list (entry_at c.manifest_id o.manifests) ++ ms) (kept_by-same o o' checkpoints (All-tail (λ checkpoint. entry_at checkpoint.manifest_id o'.manifests ≡ entry_at checkpoint.manifest_id o.manifests) c checkpoints all))

-- the same manifests protect
protecting-same : (latest : VersionedManifest) (o : Objects) (c : Change) → IsSpare latest o c → protecting latest (changed c o) ≡ protecting latest o
protecting-same latest o (PutManifest id manifest) spare = absurd spare
protecting-same latest o (PutLog id log) spare = absurd spare
protecting-same latest o (PutTable id table) spare = absurd spare
protecting-same latest o (RemoveManifest id) spare =
    let both = or_parts (id == latest.id) (list_any (λ checkpoint. checkpoint.manifest_id == id) latest.manifest.checkpoints) spare in
    ap (λ ms. latest.manifest ∷ ms) (kept_by-same o (changed (RemoveManifest id) o) latest.manifest.checkpoints (kept-stay o id latest.manifest.checkpoints both.1))
protecting-same latest o (RemoveLog id) spare = refl
protecting-same latest o (RemoveTable id) spare = refl

spare-by : (latest : VersionedManifest) (o o' : Objects) (c : Change) → protecting latest o' ≡ protecting latest o → IsSpare latest o c → IsSpare latest o' c
spare-by latest o o' (PutManifest id manifest) same spare = spare
spare-by latest o o' (PutLog id log) same spare = spare
spare-by latest o o' (PutTable id table) same spare = spare
spare-by latest o o' (RemoveManifest id) same spare = spare
spare-by latest o o' (RemoveLog id) same spare = ap (λ ms. keeps_log ms id) same ∙ spare
spare-by latest o o' (RemoveTable id) same spare = ap (λ ms. keeps_table ms id) same ∙ spare

-- ---- one removal
module _ (o : Objects) (latest : VersionedManifest) (sound : IsSound o) (is : latest_manifest o ≡ Some latest) where
  abbrev checkpoints : List Checkpoint
  checkpoints = latest.manifest.checkpoints

  table-spares : (id : TableId) → keeps_table (protecting latest o) id ≡ false → Spares o latest (changed (RemoveTable id) o)
  table-spares id spare =
      let its = its-objects o latest sound is in
      let test : Manifest → Bool = λ m. list_any (eq_by_cmp table_cmp id) m.tables in
      let both = or_parts (test latest.manifest) (list_any test (kept_by o checkpoints)) spare in
      let others = kept-fail test o checkpoints both.1 in
      record {
        manifests = sound.manifests;
        logs = sound.logs;
        tables = sorted-filter (λ entry. entry.0) (λ entry. not (is_at (table_cmp id) entry.0)) table_cmp o.tables sound.tables;
        epochs = All-filter (λ entry. not (is_at (table_cmp id) entry.0)) (λ table. table.0.epoch ≤ latest.manifest.writer_epoch) o.tables its.epochs;
        latest_is = is;
        above = refl;
        keeps = table_removal-keeps o latest.manifest id both.0;
        kept = λ k d less. record { entry = refl; keeps = λ m found tables logs. table_removal-keeps o m id (others k d less m found) };
      }

  log-spares : (id : ℕ) → keeps_log (protecting latest o) id ≡ false → Spares o latest (changed (RemoveLog id) o)
  log-spares id spare =
      let its = its-objects o latest sound is in
      let test : Manifest → Bool = λ m. nat_lt m.replay_after_wal_id id in
      let both = or_parts (test latest.manifest) (list_any test (kept_by o checkpoints)) spare in
      let others = kept-fail test o checkpoints both.1 in
      let mark = latest.manifest.replay_after_wal_id in
      let low = ltb-false mark id both.0 in
      record {
        manifests = sound.manifests;
        logs = rising-filter (λ entry. entry.0) (λ entry. not (is_at (nat_cmp id) entry.0)) o.logs sound.logs;
        tables = sound.tables;
        epochs = its.epochs;
        latest_is = is;
        above = filter-within (λ log. nat_lt mark log.0) (λ log. not (is_at (nat_cmp id) log.0)) o.logs
            (λ log over. let past = ltb-true mark log.0 over in ap not (apart id log.0 (λ same. omega (arith, same))));
        keeps = log_removal-keeps o latest.manifest id low;
        kept = λ k d less. record { entry = refl; keeps = λ m found tables logs. log_removal-keeps o m id (ltb-false m.replay_after_wal_id id (others k d less m found)) };
      }

  manifest-spares : (id : ℕ) → keeps_manifest latest id ≡ false → Spares o latest (changed (RemoveManifest id) o)
  manifest-spares id spare =
      let its = its-objects o latest sound is in
      let both = or_parts (id == latest.id) (list_any (λ checkpoint. checkpoint.manifest_id == id) checkpoints) spare in
      let stay = kept-stay o id checkpoints both.1 in
      let other = eqb-false id latest.id both.0 in
      let last_is = last-filter (λ entry. not (is_at (nat_cmp id) entry.0)) (latest.id, latest.manifest) o.manifests
      (some-versioned (last o.manifests) latest is) (ap not (apart id latest.id other)) in
      record {
        manifests = rising-filter (λ entry. entry.0) (λ entry. not (is_at (nat_cmp id) entry.0)) o.manifests sound.manifests;
        logs = sound.logs;
        tables = sound.tables;
        epochs = its.epochs;
        latest_is = ap (option_map versioned) last_is;
        above = refl;
        keeps = manifest_removal-keeps o latest.manifest id;
        kept = λ k d less. record { entry = stay k d less; keeps = λ m found tables logs. manifest_removal-keeps o m id };
      }

  spare-spares : (c : Change) → IsSpare latest o c → Spares o latest (changed c o)
  spare-spares (PutManifest id manifest) spare = absurd spare
  spare-spares (PutLog id log) spare = absurd spare
  spare-spares (PutTable id table) spare = absurd spare
  spare-spares (RemoveManifest id) spare = manifest-spares id spare
  spare-spares (RemoveLog id) spare = log-spares id spare
  spare-spares (RemoveTable id) spare = table-spares id spare

  pub removed : (c : Change) → IsSpare latest o c → Unmoved o (changed c o)
  removed c spare = spared o (changed c o) latest sound is (spare-spares c spare)

-- ---- several removals, all of them or a prefix
all-spare : (latest : VersionedManifest) (o o' : Objects) (cs : List Change) → protecting latest o' ≡ protecting latest o → All (IsSpare latest o) cs → All (IsSpare latest o') cs
all-spare latest o o' cs same = All-weaker (IsSpare latest o) (IsSpare latest o') (λ c. spare-by latest o o' c same) cs

pub removed-part : (made : ℕ) (cs : List Change) (o : Objects) (latest : VersionedManifest) → IsSound o → latest_manifest o ≡ Some latest → All (IsSpare latest o) cs → Unmoved o (after_part made cs o)
removed-part zero cs o latest sound is spare = unmoved o sound
removed-part (suc made) [] o latest sound is spare = unmoved o sound
removed-part (suc made) (c ∷ cs) o latest sound is spare =
    let first = All-head (IsSpare latest o) c cs spare in
    let one = removed o latest sound is c first in
    let later = all-spare latest o (changed c o) cs (protecting-same latest o c first) (All-tail (IsSpare latest o) c cs spare) in
    unmoved-then o (changed c o) (after_part made cs (changed c o)) one (removed-part made cs (changed c o) latest one.sound (one.latest ∙ is) later)
