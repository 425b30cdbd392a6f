-- What openings, polls and closes of readers that keep a checkpoint of their own put: what it leaves of sound objects, and what
-- a world knows of it.
use Rattle.std.proofs.Common.{◌≡◌, ◌≤◌, ◌∙◌, ℕ, zero, suc, ℤ, ◌⊎◌, inl, inr, cond, Bool, true, false, List, [], length, map, Option, Some, None, Result, Ok, Err, refl, sym, subst, ap, arith}
use Rattle.std.specs.Prelude.{IfErr, IfOk}
use Rattle.slate_types.specs.Line.{Line}
use Rattle.slate_types.specs.declared.batches.Batch.{Batch}
use Rattle.slate_types.specs.declared.store_errors.StoreFault.TheVariants.{Unavailable}
use Rattle.slate_store.proofs.Checkpointed.{delete-keeps, refresh-keeps, write-keeps}
use Rattle.slate_store.proofs.Kept.{pins-kept}
use Rattle.slate_store.proofs.Parts.{part-none}
use Rattle.slate_store.specs.Checkpoints.{Plan, to_delete, to_refresh, to_write}
use Rattle.slate_store.specs.Content.{IsSound}
use Rattle.slate_store.specs.Objects.{Objects, ObjectsOf, PutManifest, changed, latest_manifest}
use Rattle.slate_store.specs.Refusals.{KeepsContent, checkpoint_changes, planned, planned_after}
use Rattle.slate_store.specs.declared.objects.Checkpoint.{Checkpoint}
use Rattle.slate_store.specs.declared.objects.VersionedManifest.{VersionedManifest}
use Rattle.slate_store.specs.declared.refusals.StoreRefusal.TheVariants as refusals
use Rattle.slate_errors.specs.declared.errors.SlateError.{SlateError}
use Rattle.slate_errors.specs.declared.errors.SlateError.TheVariants as errors
use Rattle.slate_model.specs.declared.leases.Lease.{Lease}
use Rattle.slate_model.specs.Catalogue.{Catalogue, Span, catalogue_of}
use Rattle.slate_model.specs.Changes.{after_part}
use Rattle.slate_model.specs.Lease.{is_due, leased, replaces, to_keep, to_take}
use Rattle.slate_model.specs.Managed.{KeepRefusal, PlanCause, PutsPlanned, PutsRenewal, TakeRefusal, unrefused}
use Rattle.slate_model.specs.Segments.{Extractor}
use Rattle.slate_model.specs.Stores.{Stands, by_catalogue, by_objects}
use Rattle.slate_model.proofs.Catalogued.{reduced}
use Rattle.slate_model.proofs.Maintained.{Maintained, Recheckpoints, after-known, checkpoint_changes-known, delete-recheckpoints, none-stands, part-known, planned-maintains, refresh-recheckpoints, write-recheckpoints}

-- a plan that gives a lease puts what the plan for its checkpoint does
leased-planned : (lifetime : ℕ) (p : Plan Checkpoint) → planned {L = List Batch} (leased lifetime p) ≡ planned {L = List Batch} p
leased-planned lifetime (Ok (Some next, checkpoint)) = refl
leased-planned lifetime (Ok (None, checkpoint)) = refl
leased-planned lifetime (Err refusal) = refl

leased-recheckpoints : (latest : VersionedManifest) (lifetime : ℕ) (p : Plan Checkpoint) → Recheckpoints latest p → Recheckpoints latest (leased lifetime p)
leased-recheckpoints latest lifetime (Ok (Some next, checkpoint)) puts = puts
leased-recheckpoints latest lifetime (Ok (None, checkpoint)) puts = puts
leased-recheckpoints latest lifetime (Err refusal) puts = puts

keeps-none : (made : ℕ) (o : Objects) → KeepsContent o (after_part made [] o)
keeps-none made o sound = subst (KeepsContent o) (sym (part-none made o)) (λ sound. (sound, refl, pins-kept o)) sound

-- a plan keeps the content, where it does after the latest manifest
keeps-by : {A : Type 0} (plan : VersionedManifest → Plan A) (made : ℕ) (o : Objects) → ((latest : VersionedManifest) → latest_manifest o ≡ Some latest → KeepsContent o (after_part made (planned (plan latest)) o)) → KeepsContent o (after_part made (checkpoint_changes plan o) o)
keeps-by plan made o keeps = by (latest_manifest o) refl where
  by : (latest : Option VersionedManifest) → latest_manifest o ≡ latest → KeepsContent o (after_part made (planned_after plan latest) o)
  by None is = keeps-none made o
  by (Some latest) is = keeps latest is

keeps-at : {A : Type 0} (plan : VersionedManifest → Plan A) (made : ℕ) (o : Objects) (latest : VersionedManifest) → latest_manifest o ≡ Some latest → KeepsContent o (after_part made (checkpoint_changes plan o) o) → KeepsContent o (after_part made (planned (plan latest)) o)
keeps-at plan made o latest is keeps = subst (λ x. KeepsContent o (after_part made (planned_after plan x) o)) is keeps

-- ---- an opening
module _ (lifetime : ℕ) (moment : ℤ) where
  pub take-recheckpoints : (latest : VersionedManifest) → Recheckpoints latest (to_take lifetime moment latest)
  take-recheckpoints latest = by latest.manifest.initialized where
    by : (b : Bool) → Recheckpoints latest (cond b (leased lifetime (to_write None (Some lifetime) moment latest)) (Err refusals.InvalidDBState))
    by true = leased-recheckpoints latest lifetime _ (write-recheckpoints None (Some lifetime) moment latest)
    by false = tt

  take-keeps : (made : ℕ) (o : Objects) → KeepsContent o (after_part made (checkpoint_changes (to_take lifetime moment) o) o)
  take-keeps made o = keeps-by (to_take lifetime moment) made o (λ latest is. by latest is latest.manifest.initialized) where
    by : (latest : VersionedManifest) → latest_manifest o ≡ Some latest → (b : Bool) → KeepsContent o (after_part made (planned (cond b (leased lifetime (to_write None (Some lifetime) moment latest)) (Err refusals.InvalidDBState))) o)
    by latest is true =
        subst (λ cs. KeepsContent o (after_part made cs o)) (sym (leased-planned lifetime (to_write None (Some lifetime) moment latest)))
        (keeps-at (to_write None (Some lifetime) moment) made o latest is (write-keeps None (Some lifetime) moment made o))
    by latest is false = keeps-none made o

  pub take-maintains : (made : ℕ) (o : Objects) → IsSound o → Maintained o (after_part made (checkpoint_changes (to_take lifetime moment) o) o)
  take-maintains made o = planned-maintains (to_take lifetime moment) made o take-recheckpoints (take-keeps made o)

-- ---- a poll
module _ (view : VersionedManifest) (lease : Lease) (moment : ℤ) where
  abbrev write : VersionedManifest → Plan Checkpoint
  write latest = to_write (Some lease.id) (Some lease.lifetime) moment latest

  abbrev refresh : VersionedManifest → Plan Checkpoint
  refresh latest = to_refresh lease.id lease.lifetime moment latest

  -- the plan of a poll, by whether it replaces the checkpoint, and else by whether the lease is due
  abbrev keep_by : Bool → Bool → VersionedManifest → Plan Lease
  keep_by replaced due latest = cond replaced (leased lease.lifetime (write latest)) (cond due (leased lease.lifetime (refresh latest)) (Ok (None, lease)))

  keep_by-recheckpoints : (replaced due : Bool) (latest : VersionedManifest) → Recheckpoints latest (keep_by replaced due latest)
  keep_by-recheckpoints true due latest = leased-recheckpoints latest lease.lifetime _ (write-recheckpoints (Some lease.id) (Some lease.lifetime) moment latest)
  keep_by-recheckpoints false true latest = leased-recheckpoints latest lease.lifetime _ (refresh-recheckpoints lease.id lease.lifetime moment latest)
  keep_by-recheckpoints false false latest = tt

  pub keep-recheckpoints : (latest : VersionedManifest) → Recheckpoints latest (to_keep view lease moment latest)
  keep-recheckpoints latest = keep_by-recheckpoints (replaces view lease moment latest) (is_due moment lease) latest

  keep_by-keeps : (made : ℕ) (o : Objects) (latest : VersionedManifest) → latest_manifest o ≡ Some latest → (replaced due : Bool) → KeepsContent o (after_part made (planned (keep_by replaced due latest)) o)
  keep_by-keeps made o latest is true due =
      subst (λ cs. KeepsContent o (after_part made cs o)) (sym (leased-planned lease.lifetime (write latest)))
      (keeps-at write made o latest is (write-keeps (Some lease.id) (Some lease.lifetime) moment made o))
  keep_by-keeps made o latest is false true =
      subst (λ cs. KeepsContent o (after_part made cs o)) (sym (leased-planned lease.lifetime (refresh latest)))
      (keeps-at refresh made o latest is (refresh-keeps lease.id lease.lifetime moment made o))
  keep_by-keeps made o latest is false false = keeps-none made o

  keep-keeps : (made : ℕ) (o : Objects) → KeepsContent o (after_part made (checkpoint_changes (to_keep view lease moment) o) o)
  keep-keeps made o = keeps-by (to_keep view lease moment) made o (λ latest is. keep_by-keeps made o latest is (replaces view lease moment latest) (is_due moment lease))

  pub keep-maintains : (made : ℕ) (o : Objects) → IsSound o → Maintained o (after_part made (checkpoint_changes (to_keep view lease moment) o) o)
  keep-maintains made o = planned-maintains (to_keep view lease moment) made o keep-recheckpoints (keep-keeps made o)

-- ---- a close
pub end-maintains : (id : List ℕ) (made : ℕ) (o : Objects) → IsSound o → Maintained o (after_part made (checkpoint_changes (to_delete id) o) o)
end-maintains id made o = planned-maintains (to_delete id) made o (delete-recheckpoints id) (delete-keeps id made o)

-- ---- what a world knows of them
module _ {A : Type 0} (plan : VersionedManifest → Plan A) (puts : (latest : VersionedManifest) → Recheckpoints latest (plan latest)) (o : Objects) (sound : IsSound o) where
  cause-known : (e : SlateError) → PlanCause (Stands (checkpoint_changes plan o) o) plan o e → PlanCause ⊥ plan (catalogue_of o) e
  cause-known errors.LatestTransactionalObjectVersionMissing c = c
  cause-known errors.InvalidDBState c = c
  cause-known (errors.TransactionalObjectTimeout tries) c = absurd (none-stands o sound plan puts c.1)
  cause-known (errors.ObjectStoreError Unavailable) c = tt
  cause-known errors.NoMemory c = tt
  cause-known e c = absurd c

  cause-of : {B : Type 0} (refused : Objects → SlateError → Type 0) (refused' : Catalogue → SlateError → Type 0) → ((e : SlateError) → refused o e → refused' (catalogue_of o) e) → (r : Result B SlateError) →
      IfErr r (λ e. PlanCause (Stands (checkpoint_changes plan o) o) plan o e ⊎ refused o e) → IfErr r (λ e. PlanCause ⊥ plan (catalogue_of o) e ⊎ refused' (catalogue_of o) e)
  cause-of refused refused' known (Ok x) c = tt
  cause-of refused refused' known (Err e) (inl c) = inl (cause-known e c)
  cause-of refused refused' known (Err e) (inr c) = inr (known e c)

  -- what a plan puts over sound objects
  pub puts-known : {B : Type 0} (stored : Line) (refused : Objects → SlateError → Type 0) (refused' : Catalogue → SlateError → Type 0) → ((e : SlateError) → refused o e → refused' (catalogue_of o) e) → (r : Result B SlateError) (made : ℕ) (o' : Objects) →
      PutsPlanned (by_objects (Some o)).stands refused plan o r made o' → PutsPlanned (by_catalogue stored (catalogue_of o)).stands refused' plan (catalogue_of o) r made (catalogue_of o')
  puts-known stored refused refused' known r made o' p =
      let same = checkpoint_changes-known plan o in
      record {
        cause = cause-of refused refused' known r p.cause;
        part = part-known r (checkpoint_changes plan o) (checkpoint_changes plan (catalogue_of o)) made same p.part;
        after = after-known (checkpoint_changes plan o) (checkpoint_changes plan (catalogue_of o)) made o o' same p.after;
      }

-- ---- a renewal after the manifest that was put last
-- so many changes of a plan are none, or the put of its manifest
pub planned-parts : {L A : Type 0} (p : Plan A) (made : ℕ) (o o' : ObjectsOf L) → made ≤ length (planned {L = L} p) → o' ≡ after_part made (planned p) o →
    (o' ≡ o) ⊎ ((next : VersionedManifest) × (answer : A) × (p ≡ Ok (Some next, answer)) × (o' ≡ changed (PutManifest next.id next.manifest) o))
planned-parts (Ok (Some next, answer)) zero o o' part after = inl after
planned-parts (Ok (Some next, answer)) (suc zero) o o' part after = inr (next, answer, refl, after)
planned-parts (Ok (Some next, answer)) (suc (suc n)) o o' part after = absurd (omega (arith, part))
planned-parts (Ok (None, answer)) made o o' part after = inl (after ∙ part-none made o)
planned-parts (Err refusal) made o o' part after = inl (after ∙ part-none made o)

module _ (id : List ℕ) (lifetime : ℕ) (moment : ℤ) (o : Objects) (sound : IsSound o) (view : VersionedManifest) (is : latest_manifest o ≡ Some view) where
  abbrev renewal : VersionedManifest → Plan Checkpoint
  renewal latest = to_refresh id lifetime moment latest

  its-changes : checkpoint_changes {L = List Batch} renewal o ≡ planned (renewal view)
  its-changes = ap (planned_after renewal) is

  pub renewal-maintains : (made : ℕ) → Maintained o (after_part made (planned (renewal view)) o)
  renewal-maintains made =
      subst (λ cs. Maintained o (after_part made cs o)) its-changes
      (planned-maintains renewal made o (refresh-recheckpoints id lifetime moment) (refresh-keeps id lifetime moment made o) sound)

  same-changes : map reduced (planned (renewal view)) ≡ planned (renewal view)
  same-changes = sym (ap (map reduced) its-changes) ∙ (checkpoint_changes-known renewal o ∙ ap (planned_after renewal) is)

  same-length : (p : Plan Checkpoint) → length (planned {L = List Batch} p) ≡ length (planned {L = Span} p)
  same-length (Ok (Some next, answer)) = refl
  same-length (Ok (None, answer)) = refl
  same-length (Err refusal) = refl

  unstanding : Stands (planned (renewal view)) o → ⊥
  unstanding stands = none-stands o sound renewal (refresh-recheckpoints id lifetime moment) (subst (λ cs. Stands cs o) (sym its-changes) stands)

  -- what it puts over sound objects
  pub renewal-known : {A : Type 0} (stored : Line) (r : Result A SlateError) (made : ℕ) (o' : Objects) → PutsRenewal (by_objects (Some o)).stands (renewal view) o r made o' →
      PutsRenewal (by_catalogue stored (catalogue_of o)).stands (renewal view) (catalogue_of o) r made (catalogue_of o')
  renewal-known {A} stored r made o' p = record {
    cause = p.cause;
    done = by r p.done;
    part = (let part = p.part in let same = same-length (renewal view) in omega (arith, part, same));
    after = after-known (planned (renewal view)) (planned (renewal view)) made o o' same-changes p.after;
  } where
    by : (r : Result A SlateError) → IfOk r (λ _. (made ≡ length (planned {L = List Batch} (renewal view))) ⊎ ((made ≡ 0) × Stands (planned (renewal view)) o)) → IfOk r (λ _. (made ≡ length (planned {L = Span} (renewal view))) ⊎ ((made ≡ 0) × ⊥))
    by (Err e) d = tt
    by (Ok x) (inl all) = inl (all ∙ same-length (renewal view))
    by (Ok x) (inr none) = absurd (unstanding none.1)

-- ---- what refuses an opening and a poll, but for their plans, is known by the catalogue
pub take_refusal-known : (x : Option Extractor) (o : Objects) (e : SlateError) → TakeRefusal x o e → TakeRefusal x (catalogue_of o) e
take_refusal-known x o (errors.SegmentExtractorMismatch persisted configured) c = c
take_refusal-known x o (errors.SegmentPrefixNotRecognized prefix name) c = c
take_refusal-known x o (errors.EmptySegmentPrefix key) c = c
take_refusal-known x o e c = absurd c

pub keep_refusal-known : (x : Option Extractor) (o : Objects) (e : SlateError) → KeepRefusal x o e → KeepRefusal x (catalogue_of o) e
keep_refusal-known x o errors.InvalidDBState c = c
keep_refusal-known x o e c = absurd c

pub unrefused-known : (o : Objects) (e : SlateError) → unrefused o e → unrefused (catalogue_of o) e
unrefused-known o e c = c
