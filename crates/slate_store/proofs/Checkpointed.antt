-- The calls on checkpoints keep sound objects sound, their content, and what their checkpoints keep.
use Rattle.slate_store.proofs.Committed.{Committed, IsKeptOn, committed, stays-committed}
use Rattle.slate_store.proofs.Entries.{distinct-filter, filter-all}
use Rattle.slate_store.proofs.Kept.{Stays, prefix-same, stays}
use Rattle.slate_store.proofs.Latest.{its-line, its-objects}
use Rattle.slate_store.proofs.Parts.{part-none, part-one}
use Rattle.slate_store.specs.Calls.{WhereModelled}
use Rattle.slate_store.specs.Changes.{after_part}
use Rattle.slate_store.specs.Checkpoints.{Plan, found, has_id, lease_end, new_checkpoint, puts_next, refreshed, to_delete, to_end, to_refresh, to_take_out, to_write, with_checkpoints, without_id}
use Rattle.slate_store.specs.Content.{IsSound, content_by}
use Rattle.slate_store.specs.Objects.{Objects, PutManifest, changed, latest_manifest}
use Rattle.slate_store.specs.Refusals.{FollowsPlan, KeepsContent, checkpoint_changes, planned, planned_after}
use Rattle.slate_store.specs.declared.objects.Checkpoint.{Checkpoint}
use Rattle.slate_store.specs.declared.objects.VersionedManifest.{VersionedManifest}
use Rattle.slate_store.specs.declared.refusals.StoreRefusal.TheVariants.{InvalidDBState}
use Rattle.slate_store.specs.declared.refusals.StoreRefusal.{StoreRefusal}
use Rattle.slate_types.proofs.Modelled.{modelled_as}
use Rattle.std.proofs.Common.{◌++◌, ◌+◌, ◌∷◌, ◌≡◌, ◌≤◌, [], Bool, Err, List, None, Ok, Option, Result, Some, ap, arith, cond, false, inl, inr, map, not, refl, subst, sym, true, ℕ}
use Rattle.std.proofs.lemmas.Bool.{ne_eqb, or_from}
use Rattle.std.proofs.lemmas.Cmp.{nat_eq_equiv}
use Rattle.std.proofs.lemmas.List.Elements.{All-filter, All-head, All-map, All-push, All-tail, All-weaker}
use Rattle.std.proofs.lemmas.List.{map-append}
use Rattle.std.proofs.lemmas.Map.Keys.{IsDistinct-push}
use Rattle.std.specs.List.{All, IsDistinct, filter, list_any}
use Rattle.std.specs.Prelude.{nat_eq, nat_lt, ℤ}

-- the manifests that checkpoints keep
abbrev pub kept_ids : List Checkpoint → List ℕ
kept_ids checkpoints = map (λ checkpoint. checkpoint.manifest_id) checkpoints

-- ---- the next manifest with other checkpoints
module _ (o : Objects) (latest : VersionedManifest) (sound : IsSound o) (is : latest_manifest o ≡ Some latest) where
  -- where they differ and are kept on, it may be put
  pub recheckpointed : (checkpoints : List Checkpoint) → IsDistinct nat_eq (kept_ids checkpoints) → All (IsKeptOn o latest) checkpoints → Committed o (with_checkpoints checkpoints latest) (changed (PutManifest (latest.id + 1) (with_checkpoints checkpoints latest).manifest) o)
  recheckpointed checkpoints differ kept =
      let its = its-objects o latest sound is in
      committed o latest (with_checkpoints checkpoints latest).manifest sound is
      (record {
        tables = record { stored = its.tables.stored; differ = its.tables.differ; joined = its.tables.joined };
        logs = record { next = its.logs.next; stored = its.logs.stored };
        gapless = its.gapless;
        epoch = omega arith;
        line = its-line o latest sound is;
        begins = prefix-same (content_by o (Some latest)) (content_by o (Some latest)) refl;
        differ = differ;
        checkpoints = kept;
      })

  pub its-kept : All (IsKeptOn o latest) latest.manifest.checkpoints
  its-kept k d less = inl ((its-objects o latest sound is).pinned k d less)

  kept-low : (test : Checkpoint → Bool) → All (λ checkpoint. checkpoint.manifest_id ≤ latest.id) (filter test latest.manifest.checkpoints)
  kept-low test =
      let its = its-objects o latest sound is in
      All-filter test (λ checkpoint. checkpoint.manifest_id ≤ latest.id) latest.manifest.checkpoints (λ k d less. (its.pinned k d less).within)

  -- some of its checkpoints
  pub some-differ : (test : Checkpoint → Bool) → IsDistinct nat_eq (kept_ids (filter test latest.manifest.checkpoints))
  some-differ test = distinct-filter (λ checkpoint. checkpoint.manifest_id) test nat_eq latest.manifest.checkpoints (its-objects o latest sound is).differ

  pub some-kept : (test : Checkpoint → Bool) → All (IsKeptOn o latest) (filter test latest.manifest.checkpoints)
  some-kept test = All-filter test (IsKeptOn o latest) latest.manifest.checkpoints its-kept

-- no checkpoint keeps a manifest past those that they keep
none-past : (n : ℕ) (checkpoints : List Checkpoint) → All (λ checkpoint. checkpoint.manifest_id ≤ n) checkpoints → list_any (nat_eq (n + 1)) (kept_ids checkpoints) ≡ false
none-past n [] low = refl
none-past n (c ∷ checkpoints) low =
    let first = All-head (λ checkpoint. checkpoint.manifest_id ≤ n) c checkpoints low in
    or_from (nat_eq (n + 1) c.manifest_id) (list_any (nat_eq (n + 1)) (kept_ids checkpoints)) (ne_eqb (n + 1) c.manifest_id (λ same. omega arith))
    (none-past n checkpoints (All-tail (λ checkpoint. checkpoint.manifest_id ≤ n) c checkpoints low))

-- ---- plans that keep checkpoints
-- what a plan puts after the latest manifest has its checkpoints kept on, and all else of it
abbrev pub KeepsAll : {A : Type 0} → Objects → VersionedManifest → Plan A → Type 0
KeepsAll o latest (Ok (Some next, answer)) =
    (checkpoints : List Checkpoint) × (next ≡ with_checkpoints checkpoints latest) × IsDistinct nat_eq (kept_ids checkpoints) × All (IsKeptOn o latest) checkpoints
KeepsAll o latest (Ok (None, answer)) = Unit {0}
KeepsAll o latest (Err refusal) = Unit {0}

puts_next-keeps : {A : Type 0} (o : Objects) (latest : VersionedManifest) (checkpoints : List Checkpoint) (answer : A) → IsDistinct nat_eq (kept_ids checkpoints) → All (IsKeptOn o latest) checkpoints → KeepsAll o latest (puts_next latest (with_checkpoints checkpoints latest) answer)
puts_next-keeps o latest checkpoints answer differ kept = by (nat_lt latest.id 18446744073709551615) where
  by : (t : Bool) → KeepsAll o latest (cond t (Ok (Some (with_checkpoints checkpoints latest), answer)) (Err InvalidDBState))
  by true = (checkpoints, refl, differ, kept)
  by false = tt

module _ {A : Type 0} (o : Objects) (latest : VersionedManifest) (sound : IsSound o) (is : latest_manifest o ≡ Some latest) where
  planned-keeps : (plan : Plan A) (made : ℕ) → KeepsAll o latest plan → Stays o (after_part made (planned plan) o)
  planned-keeps (Ok (Some next, answer)) made keeps =
      let put = recheckpointed o latest sound is keeps.0 keeps.2 keeps.3 in
      let same : changed (PutManifest next.id next.manifest) o ≡ changed (PutManifest (latest.id + 1) (with_checkpoints keeps.0 latest).manifest) o =
      ap (λ (v : VersionedManifest). changed (PutManifest v.id v.manifest) o) keeps.1 in
      part-one (Stays o) (PutManifest next.id next.manifest) o made (stays o sound)
      (subst (Stays o) (sym same) (stays-committed o _ latest (with_checkpoints keeps.0 latest) is refl put))
  planned-keeps (Ok (None, answer)) made keeps = subst (Stays o) (sym (part-none made o)) (stays o sound)
  planned-keeps (Err refusal) made keeps = subst (Stays o) (sym (part-none made o)) (stays o sound)

-- a plan that keeps checkpoints keeps the content, wherever it is broken off
pub plan-keeps : {A : Type 0} (plan : VersionedManifest → Plan A) (made : ℕ) (o : Objects) → ((latest : VersionedManifest) → IsSound o → latest_manifest o ≡ Some latest → KeepsAll o latest (plan latest)) → KeepsContent o (after_part made (checkpoint_changes plan o) o)
plan-keeps {A} plan made o keeps sound = by (latest_manifest o) refl where
  by : (found : Option VersionedManifest) → latest_manifest o ≡ found → Stays o (after_part made (planned_after plan found) o)
  by None is = subst (Stays o) (sym (part-none made o)) (stays o sound)
  by (Some latest) is = planned-keeps o latest sound is (plan latest) made (keeps latest sound is)

-- ---- the four plans
-- another end of a lease leaves which manifest is kept
refreshed-ids : (id : List ℕ) (end : ℤ) (checkpoints : List Checkpoint) → kept_ids (map (refreshed id end) checkpoints) ≡ kept_ids checkpoints
refreshed-ids id end [] = refl
refreshed-ids id end (c ∷ checkpoints) = by (has_id id c) (refreshed-ids id end checkpoints) where
  by : (t : Bool) → kept_ids (map (refreshed id end) checkpoints) ≡ kept_ids checkpoints → (cond t (record c { expire_ms = Some end }) c).manifest_id ∷ kept_ids (map (refreshed id end) checkpoints) ≡ c.manifest_id ∷ kept_ids checkpoints
  by true later = ap (λ ids. c.manifest_id ∷ ids) later
  by false later = ap (λ ids. c.manifest_id ∷ ids) later

module _ (o : Objects) (latest : VersionedManifest) (sound : IsSound o) (is : latest_manifest o ≡ Some latest) where
  -- some of its checkpoints, and the new one at the end
  write-some : (test : Checkpoint → Bool) (lifetime : Option ℕ) (moment : ℤ) → KeepsAll o latest (puts_next latest (with_checkpoints (filter test latest.manifest.checkpoints ++ new_checkpoint latest lifetime moment ∷ []) latest) (new_checkpoint latest lifetime moment))
  write-some test lifetime moment =
      let new = new_checkpoint latest lifetime moment in
      let olds = filter test latest.manifest.checkpoints in
      let one_more = IsDistinct-push nat_eq_equiv (kept_ids olds) (latest.id + 1) (some-differ o latest sound is test) (none-past latest.id olds (kept-low o latest sound is test)) in
      puts_next-keeps o latest (olds ++ new ∷ []) new
      (subst (IsDistinct nat_eq) (sym (map-append (λ checkpoint. checkpoint.manifest_id) olds (new ∷ []))) one_more)
      (All-push (IsKeptOn o latest) olds new (some-kept o latest sound is test) (inr (refl, refl)))

  write : (replaced : Option (List ℕ)) (lifetime : Option ℕ) (moment : ℤ) → KeepsAll o latest (to_write replaced lifetime moment latest)
  write None lifetime moment =
      let new = new_checkpoint latest lifetime moment in
      subst (λ olds. KeepsAll o latest (puts_next latest (with_checkpoints (olds ++ new ∷ []) latest) new)) (filter-all latest.manifest.checkpoints) (write-some (λ _. true) lifetime moment)
  write (Some id) lifetime moment = write-some (λ checkpoint. not (has_id id checkpoint)) lifetime moment

  refreshed-kept : (id : List ℕ) (end : ℤ) (checkpoint : Checkpoint) → IsKeptOn o latest checkpoint → IsKeptOn o latest (refreshed id end checkpoint)
  refreshed-kept id end checkpoint kept = by (has_id id checkpoint) kept where
    by : (t : Bool) → IsKeptOn o latest checkpoint → IsKeptOn o latest (cond t (record checkpoint { expire_ms = Some end }) checkpoint)
    by true (inl pinned) =
        inl (record { id = pinned.id; within = pinned.within; manifest = pinned.manifest; kept = pinned.kept; tables = pinned.tables; logs = pinned.logs; begins = pinned.begins })
    by true (inr new) = inr new
    by false kept = kept

  end-at : (id : List ℕ) (end : ℤ) (found : Option Checkpoint) → KeepsAll o latest (to_end id end latest found)
  end-at id end None = tt
  end-at id end (Some checkpoint) =
      let its = its-objects o latest sound is in
      puts_next-keeps o latest (map (refreshed id end) latest.manifest.checkpoints) (record checkpoint { expire_ms = Some end })
      (subst (IsDistinct nat_eq) (sym (refreshed-ids id end latest.manifest.checkpoints)) its.differ)
      (All-map (IsKeptOn o latest) (refreshed id end) latest.manifest.checkpoints (All-weaker (IsKeptOn o latest) (λ checkpoint. IsKeptOn o latest (refreshed id end checkpoint)) (refreshed-kept id end) latest.manifest.checkpoints (its-kept o latest sound is)))

  take_out : (id : List ℕ) (found : Option Checkpoint) → KeepsAll o latest (to_take_out id latest found)
  take_out id None = tt
  take_out id (Some checkpoint) =
      puts_next-keeps o latest (without_id id latest.manifest.checkpoints) tt
      (some-differ o latest sound is (λ checkpoint. not (has_id id checkpoint))) (some-kept o latest sound is (λ checkpoint. not (has_id id checkpoint)))

pub write-keeps : (replaced : Option (List ℕ)) (lifetime : Option ℕ) (moment : ℤ) (made : ℕ) (o : Objects) → KeepsContent o (after_part made (checkpoint_changes (to_write replaced lifetime moment) o) o)
write-keeps replaced lifetime moment made o = plan-keeps (to_write replaced lifetime moment) made o (λ latest sound is. write o latest sound is replaced lifetime moment)

pub refresh-keeps : (id : List ℕ) (lifetime : ℕ) (moment : ℤ) (made : ℕ) (o : Objects) → KeepsContent o (after_part made (checkpoint_changes (to_refresh id lifetime moment) o) o)
refresh-keeps id lifetime moment made o = plan-keeps (to_refresh id lifetime moment) made o (λ latest sound is. end-at o latest sound is id (lease_end moment lifetime) (found id latest))

pub delete-keeps : (id : List ℕ) (made : ℕ) (o : Objects) → KeepsContent o (after_part made (checkpoint_changes (to_delete id) o) o)
delete-keeps id made o = plan-keeps (to_delete id) made o (λ latest sound is. take_out o latest sound is id (found id latest))

-- what a call on checkpoints left keeps them sound, over a store that is modelled
pub followed-keeps : {A : Type 0} (plan : VersionedManifest → Plan A) {r : Result A StoreRefusal} {a b : Option Objects} → ((made : ℕ) (o : Objects) → KeepsContent o (after_part made (checkpoint_changes plan o) o)) → WhereModelled (λ o o'. (made : ℕ) × FollowsPlan plan o r made o') a b → WhereModelled KeepsContent a b
followed-keeps plan keeps follows = modelled_as KeepsContent follows (λ o o' f. subst (KeepsContent o) (sym f.1.after) (keeps f.0 o))
