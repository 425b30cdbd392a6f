-- What changes carry on of the latest manifest, and of a manifest under an id.
use Rattle.std.proofs.Common.{◌≡◌, ◌⊎◌, ◌+◌, ◌++◌, ◌∷◌, ◌<◌, ◌≤◌, ◌∙◌, [], Bool, List, None, Some, ap, arith, false, inl, inr, map, not, option_map, refl, suc, sym, subst, true, zero, ℕ}
use Rattle.std.proofs.lemmas.Cmp.{nat_cmp_total}
use Rattle.std.proofs.lemmas.List.{map-append}
use Rattle.std.proofs.lemmas.Map.Entries.{lookup-filter-keys}
use Rattle.std.specs.BTreeMap.{insert_entry, is_at}
use Rattle.std.specs.Ordering.{nat_cmp}
use Rattle.slate_store.specs.Changes.{after_part}
use Rattle.slate_store.specs.Content.{IdsRise}
use Rattle.slate_store.specs.Objects.{ChangeOf, ObjectsOf, PutLog, PutManifest, PutTable, RemoveLog, RemoveManifest, RemoveTable, changed, entry_at, last, latest_manifest, versioned}
use Rattle.slate_store.specs.declared.objects.Manifest.{Manifest}
use Rattle.slate_store.specs.declared.objects.VersionedManifest.{VersionedManifest}
use Rattle.slate_store.proofs.Entries.{apart, insert-last, last-push, lookup-insert_other, lookup-without, rising-filter, same_number, tied}
use Rattle.slate_store.proofs.Latest.{all-greatest, rising-last, rising-push, some-versioned}
use Rattle.slate_store.proofs.Removed.{last-filter}

removed-entry : {L : Type 0} (k old : ℕ) (o : ObjectsOf L) → (entry_at k (changed (RemoveManifest old) o).manifests ≡ None) ⊎ (entry_at k (changed (RemoveManifest old) o).manifests ≡ entry_at k o.manifests)
removed-entry {L} k old o = by (is_at (nat_cmp old) k) refl where
  by : (b : Bool) → is_at (nat_cmp old) k ≡ b → (entry_at k (changed (RemoveManifest old) o).manifests ≡ None) ⊎ (entry_at k (changed (RemoveManifest old) o).manifests ≡ entry_at k o.manifests)
  by true at = inl (lookup-filter-keys (is_at (nat_cmp k)) (λ key. not (is_at (nat_cmp old) key)) false
      (λ key same. ap (λ k. not (is_at (nat_cmp old) k)) (sym (same_number k key (tied (nat_cmp k key) same))) ∙ ap not at) o.manifests)
  by false other = inr (lookup-without nat_cmp_total k old o.manifests other)

module _ {L : Type 0} (P : Manifest → Type 0) where
  -- Changes that carry P on from a latest manifest with this id: each manifest that is put comes after the latest one and has
  -- it, and none that is removed is the latest.
  abbrev pub Carry : ℕ → List (ChangeOf L) → Type 0
  Carry id [] = Unit {0}
  Carry id (PutManifest next manifest ∷ changes) = (next ≡ id + 1) × P manifest × Carry next changes
  Carry id (RemoveManifest old ∷ changes) = (old < id) × Carry id changes
  Carry id (PutLog log batches ∷ changes) = Carry id changes
  Carry id (PutTable table batches ∷ changes) = Carry id changes
  Carry id (RemoveLog log ∷ changes) = Carry id changes
  Carry id (RemoveTable table ∷ changes) = Carry id changes

  -- the latest manifest has P, and an id that isn't below this one
  pub record Carried (id : ℕ) (objects : ObjectsOf L) : Type 0 where
    pub latest : VersionedManifest
    pub is : latest_manifest objects ≡ Some latest
    pub up : id ≤ latest.id
    pub holds : P latest.manifest

  -- the ids of manifests rise up to that of the latest one
  abbrev Rising : ObjectsOf L → Type 0
  Rising o = IdsRise (map (λ e. e.0) o.manifests)

  below : (id k : ℕ) (o : ObjectsOf L) → k ≤ id → Carried id o → Carried k o
  below id k o low c = let up = c.up in record { latest = c.latest; is = c.is; up = omega (arith, low, up); holds = c.holds }

  module _ (o : ObjectsOf L) (latest : VersionedManifest) (rising : Rising o) (is : latest_manifest o ≡ Some latest) where
    last_is : last o.manifests ≡ Some (latest.id, latest.manifest)
    last_is = some-versioned (last o.manifests) latest is

    pushed-is : (m : Manifest) → insert_entry nat_cmp o.manifests (latest.id + 1) m ≡ o.manifests ++ (latest.id + 1, m) ∷ []
    pushed-is m =
        let top = all-greatest latest.id 0 (map (λ e. e.0) o.manifests) (rising-last (latest.id, latest.manifest) o.manifests rising last_is) in
        insert-last (latest.id + 1) 0 m o.manifests (omega (arith, top))

    pub put-kept : (m : Manifest) → latest_manifest (changed (PutManifest (latest.id + 1) m) o) ≡ Some (record { id = latest.id + 1; manifest = m })
    put-kept m = ap (option_map versioned) (ap last (pushed-is m) ∙ last-push o.manifests (latest.id + 1, m))

    pub put-rising : (m : Manifest) → Rising (changed (PutManifest (latest.id + 1) m) o)
    put-rising m =
        subst (λ es. IdsRise (map (λ e. e.0) es)) (sym (pushed-is m))
        (subst IdsRise (sym (map-append (λ (e : ℕ × Manifest). e.0) o.manifests ((latest.id + 1, m) ∷ [])))
        (rising-push latest.id (latest.id + 1) (map (λ e. e.0) o.manifests) rising (rising-last (latest.id, latest.manifest) o.manifests rising last_is) (omega arith)))

    removed-last : (old : ℕ) → old < latest.id → latest_manifest (changed (RemoveManifest old) o) ≡ Some latest
    removed-last old low =
        ap (option_map versioned) (last-filter (λ entry. not (is_at (nat_cmp old) entry.0)) (latest.id, latest.manifest) o.manifests last_is (ap not (apart old latest.id (λ same. omega (arith, same, low)))))

    removed-rising : (old : ℕ) → Rising (changed (RemoveManifest old) o)
    removed-rising old = rising-filter (λ (e : ℕ × Manifest). e.0) (λ entry. not (is_at (nat_cmp old) entry.0)) o.manifests rising

  -- wherever such changes are broken off, the latest manifest has P
  pub carried : (made : ℕ) (changes : List (ChangeOf L)) (o : ObjectsOf L) (latest : VersionedManifest) → Rising o → latest_manifest o ≡ Some latest → P latest.manifest → Carry latest.id changes → Carried latest.id (after_part made changes o)
  carried zero changes o latest rising is holds carry = record { latest = latest; is = is; up = omega arith; holds = holds }
  carried (suc made) [] o latest rising is holds carry = record { latest = latest; is = is; up = omega arith; holds = holds }
  carried (suc made) (PutManifest next m ∷ changes) o latest rising is holds (after, has, carry) =
      subst (λ k. Carry k changes → Carried latest.id (after_part made changes (changed (PutManifest k m) o))) (sym after)
      (λ rest. below (latest.id + 1) latest.id _ (omega arith) (carried made changes (changed (PutManifest (latest.id + 1) m) o) (record { id = latest.id + 1; manifest = m }) (put-rising o latest rising is m) (put-kept o latest rising is m) has rest)) carry
  carried (suc made) (RemoveManifest old ∷ changes) o latest rising is holds (low, carry) =
      carried made changes (changed (RemoveManifest old) o) latest (removed-rising o latest rising is old) (removed-last o latest rising is old low) holds carry
  carried (suc made) (PutLog log batches ∷ changes) o latest rising is holds carry = carried made changes (changed (PutLog log batches) o) latest rising is holds carry
  carried (suc made) (PutTable table batches ∷ changes) o latest rising is holds carry = carried made changes (changed (PutTable table batches) o) latest rising is holds carry
  carried (suc made) (RemoveLog log ∷ changes) o latest rising is holds carry = carried made changes (changed (RemoveLog log) o) latest rising is holds carry
  carried (suc made) (RemoveTable table ∷ changes) o latest rising is holds carry = carried made changes (changed (RemoveTable table) o) latest rising is holds carry

  -- and a manifest under an id that isn't above the latest one's is as it was, or gone
  pub entry-carried : (k made : ℕ) (changes : List (ChangeOf L)) (o : ObjectsOf L) (id : ℕ) → k ≤ id → Carry id changes → (entry_at k (after_part made changes o).manifests ≡ None) ⊎ (entry_at k (after_part made changes o).manifests ≡ entry_at k o.manifests)
  entry-carried k zero changes o id low carry = inr refl
  entry-carried k (suc made) [] o id low carry = inr refl
  entry-carried k (suc made) (PutManifest next m ∷ changes) o id low (after, has, carry) =
      elim (entry-carried k made changes (changed (PutManifest next m) o) next (omega (arith, low, after)) carry) [
        | inl gone ↦ inl gone
        | inr same ↦ inr (same ∙ lookup-insert_other nat_cmp_total k next m o.manifests (apart k next (λ here. omega (arith, low, after, here))))
      ]
  entry-carried k (suc made) (RemoveManifest old ∷ changes) o id low (less, carry) =
      elim (entry-carried k made changes (changed (RemoveManifest old) o) id low carry) [
        | inl gone ↦ inl gone
        | inr same ↦ elim (removed-entry k old o) [
          | inl gone ↦ inl (same ∙ gone)
          | inr before ↦ inr (same ∙ before)
        ]
      ]
  entry-carried k (suc made) (PutLog log batches ∷ changes) o id low carry = entry-carried k made changes (changed (PutLog log batches) o) id low carry
  entry-carried k (suc made) (PutTable table batches ∷ changes) o id low carry = entry-carried k made changes (changed (PutTable table batches) o) id low carry
  entry-carried k (suc made) (RemoveLog log ∷ changes) o id low carry = entry-carried k made changes (changed (RemoveLog log) o) id low carry
  entry-carried k (suc made) (RemoveTable table ∷ changes) o id low carry = entry-carried k made changes (changed (RemoveTable table) o) id low carry
