-- What an opening leaves of a store: its manifest is the latest, and what it replayed is in the log files above its mark.
use Rattle.std.proofs.Common.{◌≡◌, ℕ, ◌+◌, ◌<◌, ◌≤◌, All, List, [], Option, Some, None, Ok, refl, sym, subst, ap, ◌∙◌, map, arith}
use Rattle.std.specs.List.{AllByRecursion}
use Rattle.std.specs.Option.{IfSome}
use Rattle.slate_types.specs.declared.batches.Batch.{Batch}
use Rattle.slate_store.specs.declared.objects.Manifest.{Manifest}
use Rattle.slate_store.specs.declared.objects.VersionedManifest.{VersionedManifest}
use Rattle.slate_store.specs.Calls.{WhereModelled}
use Rattle.slate_store.specs.Logs.{IsLogged}
use Rattle.slate_store.specs.Objects.{IsGreatest, Objects, PutManifest, changed, latest_manifest}
use Rattle.slate_store.proofs.Latest.{next-greatest, next-latest, none-latest}
use Rattle.slate_model.specs.Handle.{Handle}
use Rattle.slate_model.specs.Open.{next_id, next_manifest, opened_manifest}
use Rattle.slate_writer.specs.Opening.{FindsNext, IsLeftBy, PutsOpening}

next-id : (name : Option (List ℕ)) (latest : Option VersionedManifest) (last : ℕ) → (next_manifest name latest last).id ≡ next_id latest
next-id name None last = refl
next-id name (Some latest) last = refl

-- no manifest has the id of the next one, or a greater one
record Tops (o : Objects) (id : ℕ) : Type 0 where
  top : ℕ
  within : AllByRecursion (λ x. x ≤ top) (map (λ e. e.0) o.manifests)
  above : top < id

tops : (o : Objects) → IfSome (latest_manifest o) (IsGreatest o) → Tops o (next_id (latest_manifest o))
tops o = by (latest_manifest o) refl where
  by : (found : Option VersionedManifest) → latest_manifest o ≡ found → IfSome found (IsGreatest o) → Tops o (next_id found)
  by None none greatest = record {
    top = 0;
    within = subst (λ (es : List (ℕ × Manifest)). AllByRecursion (λ x. x ≤ 0) (map (λ e. e.0) es)) (sym (none-latest o none)) tt;
    above = omega arith;
  }
  by (Some latest) is greatest = record { top = latest.id; within = greatest; above = omega arith }

left : (name : Option (List ℕ)) (view : VersionedManifest) (last : ℕ) (batches : List Batch) (h : Handle) (o o1 : Objects) → FindsNext name o (view, last) → IfSome (latest_manifest o) (IsGreatest o) → PutsOpening view (last + 1) (Ok tt) o o1 → All (IsLogged view.manifest.replay_after_wal_id o1) batches → h.view ≡ view → h.line.batches ≡ batches → IsLeftBy h o1
left name view last batches h o o1 found greatest puts logged viewed is =
    let t = tops o greatest in
    let id : view.id ≡ next_id (latest_manifest o) = ap (λ (v : VersionedManifest). v.id) found.0 ∙ next-id name (latest_manifest o) _ in
    let above : t.top < view.id = subst (λ k. t.top < k) (sym id) t.above in
    record {
      latest = subst (λ (v : VersionedManifest). latest_manifest o1 ≡ Some v) (sym viewed) (ap latest_manifest puts ∙ next-latest o t.top view t.within above);
      greatest = subst (IsGreatest o1) (sym viewed)
          (subst (λ (es : List (ℕ × Manifest)). AllByRecursion (λ id. id ≤ view.id) (map (λ e. e.0) es)) (sym (ap (λ (x : Objects). x.manifests) puts)) (next-greatest o t.top view t.within above));
      logged = subst (λ (v : VersionedManifest). All (IsLogged v.manifest.replay_after_wal_id o1) h.line.batches) (sym viewed)
          (subst (All (IsLogged view.manifest.replay_after_wal_id o1)) (sym is) logged);
    }

-- the same, where the store may be modelled
pub left-by : (t t0 t1 t2 : Option Objects) (name : Option (List ℕ)) (view : VersionedManifest) (last : ℕ) (batches : List Batch) (h : Handle) →
    IfSome t (λ o. FindsNext name o (view, last)) → IfSome t (λ o. IfSome (latest_manifest o) (IsGreatest o)) → t0 ≡ t → WhereModelled (PutsOpening view (last + 1) (Ok tt)) t0 t1 → t2 ≡ t1 →
    IfSome t1 (λ o. All (IsLogged view.manifest.replay_after_wal_id o) batches) → h.view ≡ view → h.line.batches ≡ batches → IfSome t2 (IsLeftBy h)
left-by None t0 t1 t2 name view last batches h found greatest kept puts same logged viewed is = rw (same ∙ puts.none kept) tt
left-by (Some o) t0 t1 t2 name view last batches h found greatest kept puts same logged viewed is =
    let p = puts.some o kept in
    let logs = subst (λ x. IfSome x (λ o. All (IsLogged view.manifest.replay_after_wal_id o) batches)) p.1 logged in
    subst (λ x. IfSome x (IsLeftBy h)) (sym (same ∙ p.1)) (left name view last batches h o p.0 found greatest p.2 logs viewed is)
