-- A sweep keeps sound objects sound, their content, and what their checkpoints keep, wherever it is broken off.
use Rattle.slate_store.proofs.Checkpointed.{recheckpointed, some-differ, some-kept}
use Rattle.slate_store.proofs.Kept.{Stays, pins-after, pins-then, stays}
use Rattle.slate_store.proofs.Parts.{part-more, part-none}
use Rattle.slate_store.proofs.Removed.{IsSpare, removed-part}
use Rattle.slate_store.specs.Changes.{after_part}
use Rattle.slate_store.specs.Checkpoints.{is_expired, with_checkpoints}
use Rattle.slate_store.specs.Content.{IsSound, content_by}
use Rattle.slate_store.specs.Objects.{Objects, PutManifest, RemoveLog, RemoveManifest, RemoveTable, changed, changed_all, latest_manifest}
use Rattle.slate_store.specs.Refusals.{KeepsContent}
use Rattle.slate_store.specs.Sweeps.{Sweeps, has_expired, keeps_log, keeps_manifest, keeps_table, protecting, removals, sweep_changes, sweep_changes_by}
use Rattle.slate_store.specs.declared.objects.Checkpoint.{Checkpoint}
use Rattle.slate_store.specs.declared.objects.VersionedManifest.{VersionedManifest}
use Rattle.slate_store.specs.declared.refusals.StoreRefusal.{StoreRefusal}
use Rattle.std.proofs.Common.{◌++◌, ◌∙◌, ◌∷◌, ◌≡◌, [], Bool, List, None, Option, Result, Some, ap, cond, false, map, not, refl, subst, sym, true, ℕ}
use Rattle.std.proofs.lemmas.Bool.{not-true}
use Rattle.std.proofs.lemmas.List.Elements.{All-append, All-map, All-weaker, filter_passes}
use Rattle.std.specs.List.{All, filter}
use Rattle.std.specs.Prelude.{ℤ}

-- what a filter by a failed test leaves fails it
pub fails : {X : Type 0} (test : X → Bool) (xs : List X) → All (λ x. test x ≡ false) (filter (λ x. not (test x)) xs)
fails test xs = All-weaker (λ x. not (test x) ≡ true) (λ x. test x ≡ false) (λ x passes. not-true (test x) passes) (filter (λ x. not (test x)) xs) (filter_passes (λ x. not (test x)) xs)

-- the removals of a sweep remove nothing that is protected
removals-spare : (latest : VersionedManifest) (o : Objects) → All (IsSpare latest o) (removals latest o)
removals-spare latest o =
    let tables = filter (λ table. not (keeps_table (protecting latest o) table.0)) o.tables in
    let logs = filter (λ log. not (keeps_log (protecting latest o) log.0)) o.logs in
    let manifests = filter (λ entry. not (keeps_manifest latest entry.0)) o.manifests in
    All-append (IsSpare latest o) (map (λ table. RemoveTable table.0) tables) (map (λ log. RemoveLog log.0) logs ++ map (λ entry. RemoveManifest entry.0) manifests)
    (All-map (IsSpare latest o) (λ table. RemoveTable table.0) tables (fails (λ table. keeps_table (protecting latest o) table.0) o.tables))
    (All-append (IsSpare latest o) (map (λ log. RemoveLog log.0) logs) (map (λ entry. RemoveManifest entry.0) manifests)
    (All-map (IsSpare latest o) (λ log. RemoveLog log.0) logs (fails (λ log. keeps_log (protecting latest o) log.0) o.logs))
    (All-map (IsSpare latest o) (λ entry. RemoveManifest entry.0) manifests (fails (λ entry. keeps_manifest latest entry.0) o.manifests)))

-- the manifest that is left when the expired checkpoints are taken out
abbrev unexpired : ℤ → VersionedManifest → VersionedManifest
unexpired moment latest = with_checkpoints (filter (λ checkpoint. not (is_expired moment checkpoint)) latest.manifest.checkpoints) latest

module _ (moment : ℤ) (made : ℕ) (o : Objects) (latest : VersionedManifest) (sound : IsSound o) (is : latest_manifest o ≡ Some latest) where
  swept-keeps : (t : Bool) →
      let next = cond t (unexpired moment latest) latest in
      let first = cond t (PutManifest next.id next.manifest ∷ []) [] in
      let cs = first ++ removals next (changed_all first o) in
      Stays o (after_part made cs o)
  swept-keeps false =
      let end = removed-part made (removals latest o) o latest sound is (removals-spare latest o) in
      (end.sound, end.content, pins-after o (after_part made (removals latest o) o) latest (end.latest ∙ is) (end.pins latest is))
  swept-keeps true =
      let test : Checkpoint → Bool = λ checkpoint. not (is_expired moment checkpoint) in
      let next = unexpired moment latest in
      let o1 = changed (PutManifest next.id next.manifest) o in
      let put = recheckpointed o latest sound is (filter test latest.manifest.checkpoints) (some-differ o latest sound is test) (some-kept o latest sound is test) in
      part-more (Stays o) (PutManifest next.id next.manifest) (removals next o1) o made (stays o sound)
      (λ part.
      let end = removed-part part (removals next o1) o1 next put.sound put.latest (removals-spare next o1) in (
        end.sound,
        end.content ∙ (put.content ∙ sym (ap (content_by o) is)),
        pins-after o (after_part part (removals next o1) o1) next (end.latest ∙ put.latest)
            (pins-then o o1 (after_part part (removals next o1) o1) next.manifest.checkpoints (put.pins next.manifest.checkpoints) (end.pins next put.latest)),
      ))

pub sweep-keeps : (moment : ℤ) (made : ℕ) (o : Objects) → KeepsContent o (after_part made (sweep_changes moment o) o)
sweep-keeps moment made o sound = by (latest_manifest o) refl where
  by : (found : Option VersionedManifest) → latest_manifest o ≡ found → let cs = sweep_changes_by moment o found in Stays o (after_part made cs o)
  by None is = subst (Stays o) (sym (part-none made o)) (stays o sound)
  by (Some latest) is = swept-keeps moment made o latest sound is (has_expired moment latest)

pub sweeps-keep : {moment : ℤ} {made : ℕ} {o o' : Objects} {result : Result ℕ StoreRefusal} → Sweeps moment o result made o' → KeepsContent o o'
sweeps-keep {moment} {made} {o} sweeps = subst (KeepsContent o) (sym sweeps.after) (sweep-keeps moment made o)
