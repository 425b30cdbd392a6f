-- A manifest that is put under a free id below the latest one's, as a sweep leaves one free, changes nothing else.
use Rattle.std.proofs.Common.{◌≡◌, ◌≢◌, ℕ, ◌<◌, ◌≤◌, ◌∙◌, inl, inr, List, [], ◌∷◌, map, option_map, Option, Some, None, refl, sym, ap, subst, arith}
use Rattle.std.proofs.lemmas.Cmp.{nat_cmp_total}
use Rattle.std.proofs.lemmas.Bool.{cases_lt}
use Rattle.std.specs.BTreeMap.{insert_entry}
use Rattle.std.specs.Cmp.{nat_cmp_is}
use Rattle.std.specs.List.{AllByRecursion}
use Rattle.std.specs.Option.{IfSome}
use Rattle.std.specs.Ordering.{nat_cmp}
use Rattle.std.specs.declared.cmp.Ordering.TheVariants.{Less, Equal}
use Rattle.slate_types.specs.Line.{IsLine}
use Rattle.slate_store.proofs.Entries.{apart, greater, lookup-insert_other}
use Rattle.slate_store.proofs.Kept.{logs-kept, manifest-keeps, pinned-kept, prefix-same, tables-kept}
use Rattle.slate_store.proofs.Latest.{its-objects, last-cons, some-versioned}
use Rattle.slate_store.specs.Content.{IdsRise, HasItsObjects, IsPinned, IsSound, content, content_by}
use Rattle.slate_store.specs.Objects.{Objects, PutManifest, changed, entry_at, last, last_log, latest_manifest, versioned}
use Rattle.slate_store.specs.declared.objects.Checkpoint.{Checkpoint}
use Rattle.slate_store.specs.declared.objects.Manifest.{Manifest}
use Rattle.slate_store.specs.declared.objects.VersionedManifest.{VersionedManifest}
use Rattle.slate_model.proofs.Logging.{logs-are_same, logs-same, stay-go}
use Rattle.slate_model.proofs.Maintained.{Maintained}
use Rattle.slate_model.proofs.Reduced.{some-same}

-- ---- the entries
last-more : {X : Type 0} (e : X) (es : List X) (z : X) → last es ≡ Some z → last (e ∷ es) ≡ Some z
last-more e [] z is = absurd (cc)
last-more e (y ∷ es) z is = last-cons e y es ∙ is

-- the last one stays the last where the new one comes before it
stale-last : (k : ℕ) (m : Manifest) (es : List (ℕ × Manifest)) (z : ℕ × Manifest) → last es ≡ Some z → k < z.0 → entry_at k es ≡ None → last (insert_entry nat_cmp es k m) ≡ Some z
stale-last k m [] z is low free = absurd (cc)
stale-last k m (e ∷ es) z is low free = elim (cases_lt k e.0) [
  | inl less ↦ let cmp : nat_cmp k e.0 ≡ Less = sym (nat_cmp_is k e.0 Less less) in rw cmp (last-more (k, m) (e ∷ es) z is)
  | inr over ↦ elim (cases_lt e.0 k) [
    | inl above ↦
        let cmp = greater k e.0 above in
        let rest : entry_at k es ≡ None = rw cmp at free in
        rw cmp (last-more e (insert_entry nat_cmp es k m) z (stale-last k m es z (more es is above) low rest))
    | inr under ↦
        let same : k ≡ e.0 = omega (arith, over, under) in
        let cmp : nat_cmp k e.0 ≡ Equal = sym (nat_cmp_is k e.0 Equal same) in
        let found : entry_at k (e ∷ es) ≡ Some e.1 = rw cmp refl in
        absurd (cc)
  ]
] where
  more : (es : List (ℕ × Manifest)) → last (e ∷ es) ≡ Some z → e.0 < k → last es ≡ Some z
  more [] only above =
      let same : e ≡ z = cc in
      let id = ap (λ (x : ℕ × Manifest). x.0) same in
      absurd (omega (arith, above, low, id))
  more (y ∷ ys) there above = sym (last-cons e y ys) ∙ there

all-more : (a b : ℕ) (ids : List ℕ) → a < b → AllByRecursion (λ later. b < later) ids → AllByRecursion (λ later. a < later) ids
all-more a b [] less all = tt
all-more a b (x ∷ ids) less all = (let first : b < x = all.0 in omega (arith, less, first), all-more a b ids less all.1)

all-insert : (a k : ℕ) (m : Manifest) (es : List (ℕ × Manifest)) → a < k → AllByRecursion (λ later. a < later) (map (λ e. e.0) es) → AllByRecursion (λ later. a < later) (map (λ e. e.0) (insert_entry nat_cmp es k m))
all-insert a k m [] less all = (less, tt)
all-insert a k m (e ∷ es) less all = elim (cases_lt k e.0) [
  | inl below ↦ let cmp : nat_cmp k e.0 ≡ Less = sym (nat_cmp_is k e.0 Less below) in rw cmp (less, all)
  | inr over ↦ elim (cases_lt e.0 k) [
    | inl above ↦ let cmp = greater k e.0 above in rw cmp (all.0, all-insert a k m es less all.1)
    | inr under ↦ let cmp : nat_cmp k e.0 ≡ Equal = sym (nat_cmp_is k e.0 Equal (omega (arith, over, under))) in rw cmp all
  ]
]

rising-insert : (k : ℕ) (m : Manifest) (es : List (ℕ × Manifest)) → IdsRise (map (λ e. e.0) es) → IdsRise (map (λ e. e.0) (insert_entry nat_cmp es k m))
rising-insert k m [] rising = (tt, tt)
rising-insert k m (e ∷ es) rising = elim (cases_lt k e.0) [
  | inl below ↦ let cmp : nat_cmp k e.0 ≡ Less = sym (nat_cmp_is k e.0 Less below) in rw cmp ((below, all-more k e.0 (map (λ e. e.0) es) below rising.0), rising)
  | inr over ↦ elim (cases_lt e.0 k) [
    | inl above ↦ let cmp = greater k e.0 above in rw cmp (all-insert e.0 k m es above rising.0, rising-insert k m es rising.1)
    | inr under ↦ let cmp : nat_cmp k e.0 ≡ Equal = sym (nat_cmp_is k e.0 Equal (omega (arith, over, under))) in rw cmp rising
  ]
]

last-above : (a : ℕ) (es : List (ℕ × Manifest)) (z : ℕ × Manifest) → AllByRecursion (λ later. a < later) (map (λ e. e.0) es) → last es ≡ Some z → a < z.0
last-above a [] z all is = absurd (cc)
last-above a (e ∷ []) z all is = let same : e ≡ z = cc in subst (λ (x : ℕ × Manifest). a < x.0) same all.0
last-above a (e ∷ y ∷ es) z all is = last-above a (y ∷ es) z all.1 (sym (last-cons e y es) ∙ is)

-- the last one stands under its id
last-entry : (es : List (ℕ × Manifest)) (z : ℕ × Manifest) → IdsRise (map (λ e. e.0) es) → last es ≡ Some z → entry_at z.0 es ≡ Some z.1
last-entry [] z rising is = absurd (cc)
last-entry (e ∷ []) z rising is =
    let same : e ≡ z = cc in
    let cmp : nat_cmp e.0 e.0 ≡ Equal = sym (nat_cmp_is e.0 e.0 Equal refl) in
    let here : entry_at e.0 (e ∷ []) ≡ Some e.1 = rw cmp refl in
    subst (λ (x : ℕ × Manifest). entry_at x.0 (e ∷ []) ≡ Some x.1) same here
last-entry (e ∷ y ∷ es) z rising is =
    let there : last (y ∷ es) ≡ Some z = sym (last-cons e y es) ∙ is in
    let cmp = greater z.0 e.0 (last-above e.0 (y ∷ es) z rising.0 there) in
    rw cmp (last-entry (y ∷ es) z rising.1 there)

pub latest-entry : (o : Objects) (latest : VersionedManifest) → IsSound o → latest_manifest o ≡ Some latest → entry_at latest.id o.manifests ≡ Some latest.manifest
latest-entry o latest sound is = last-entry o.manifests (latest.id, latest.manifest) sound.manifests (some-versioned (last o.manifests) latest is)

-- ---- the objects
module _ (o : Objects) (sound : IsSound o) (latest : VersionedManifest) (is : latest_manifest o ≡ Some latest) (k : ℕ) (m : Manifest) (low : k < latest.id) (free : entry_at k o.manifests ≡ None) where
  abbrev o' : Objects
  o' = changed (PutManifest k m) o

  pub stale-latest : latest_manifest o' ≡ Some latest
  stale-latest = ap (option_map versioned) (stale-last k m o.manifests (latest.id, latest.manifest) (some-versioned (last o.manifests) latest is) low free)

  same-content : content o' ≡ content o
  same-content = ap (content_by o') stale-latest ∙ sym (ap (content_by o) is)

  pinned : (checkpoint : Checkpoint) → IsPinned o latest checkpoint → IsPinned o' latest checkpoint
  pinned checkpoint pin =
      let other : checkpoint.manifest_id ≢ k = λ same. (let kept = pin.kept in let none = subst (λ n. entry_at n o.manifests ≡ None) (sym same) free in absurd (cc (kept, none))) in
      pinned-kept o o' latest latest checkpoint pin (manifest-keeps o pin.manifest k m)
      (lookup-insert_other nat_cmp_total checkpoint.manifest_id k m o.manifests (apart checkpoint.manifest_id k other)) (omega arith) (prefix-same (content_by o (Some latest)) (content_by o' (Some latest)) refl)

  has : HasItsObjects o' latest
  has =
      let its = its-objects o latest sound is in
      record {
        tables = tables-kept (manifest-keeps o latest.manifest k m) its.tables;
        logs = logs-kept (manifest-keeps o latest.manifest k m) its.logs;
        gapless = its.gapless;
        epochs = its.epochs;
        differ = its.differ;
        pinned = λ i d less. pinned _ (its.pinned i d less);
      }

  pub stale-maintains : Maintained o o'
  stale-maintains = record {
    sound = record {
      manifests = rising-insert k m o.manifests sound.manifests;
      logs = sound.logs;
      tables = sound.tables;
      nothing = λ none. (let some = stale-latest in absurd (cc (some, none)));
      line = subst IsLine (sym same-content) sound.line;
      latest = subst (λ x. IfSome x (HasItsObjects o')) (sym stale-latest) has;
    };
    content = same-content;
    latest = λ found at.
        let same : found ≡ latest = some-same found latest (sym at ∙ is) in
        (latest, stale-latest, ap (λ (v : VersionedManifest). v.manifest.writer_epoch) (sym same), ap (λ (v : VersionedManifest). v.manifest.last_l0_seq) (sym same), ap (λ (v : VersionedManifest). v.manifest.replay_after_wal_id) (sym same));
    logs = λ found at. logs-same found.manifest.replay_after_wal_id (last_log found.manifest.replay_after_wal_id o) o o' refl;
    lasts = λ q there. refl;
    unput = λ q none. none;
    logs_are = logs-are_same (λ batches. ⊥) o o' refl;
    goes = λ last. stay-go last o o' (logs-same 0 last o o' refl);
  }
