-- A compaction, from what it is to put and what was put.
use Rattle.std.proofs.Common.{◌≡◌, ◌⊎◌, inl, inr, ℕ, zero, ◌+◌, ◌≤◌, List, [], ◌∷◌, length, cond, Option, Some, None, true, false, Result, Ok, Err, refl, sym, ap, subst, ◌∙◌, arith}
use Rattle.std.proofs.lemmas.Bool.{le-ltb}
use Rattle.std.specs.List.{flat_map}
use Rattle.std.specs.Option.{IfSome, is_some}
use Rattle.std.specs.Prelude.{nat_lt, IfErr}
use Rattle.slate_types.specs.declared.batches.Batch.{Batch}
use Rattle.slate_types.specs.declared.store_errors.StoreFault.TheVariants as fault
use Rattle.slate_types.specs.Modelled.{WhereModelled}
use Rattle.slate_types.proofs.Modelled.{modelled_as}
use Rattle.slate_store.specs.declared.objects.TableId.{TableId}
use Rattle.slate_store.specs.declared.objects.VersionedManifest.{VersionedManifest}
use Rattle.slate_store.specs.declared.refusals.StoreRefusal.{StoreRefusal}
use Rattle.slate_store.specs.declared.refusals.StoreRefusal.TheVariants.{ObjectStoreError, TransactionalObjectVersionExists, NoMemory}
use Rattle.slate_store.specs.Changes.{after_part}
use Rattle.slate_store.specs.Compaction.{CompactCause, Compacts, compact_changes, compact_changes_by, tables_at, with_table}
use Rattle.slate_store.specs.Content.{table_batches}
use Rattle.slate_store.specs.Objects.{Change, Objects, PutManifest, PutTable, is_present, latest_manifest, table_at}
use Rattle.slate_store.specs.Refusals.{IsOfPuts, KeepsContent, PartMade}
use Rattle.slate_store.specs.Steps.{PlansJoin, PutsBoth, WasOpened}
use Rattle.slate_store.proofs.Compacted.{compacts-keep, joined-batches}
use Rattle.slate_store.proofs.Tries.{none_made}

no_some : {X : Type 0} (x : Option X) → is_some x ≡ false → x ≡ None
no_some None h = refl
no_some (Some x) h = absurd (cc)

-- the changes of a compaction, by its join
abbrev joining : TableId → Objects → List Change
joining id o = compact_changes (flat_map (λ batches. batches)) id o

module _ (id : TableId) (o : Objects) (latest : VersionedManifest) (is : latest_manifest o ≡ Some latest) where
  joins-both : 2 ≤ length latest.manifest.tables → joining id o ≡ PutTable id (table_batches o latest.manifest.tables) ∷ PutManifest (with_table id latest).id (with_table id latest).manifest ∷ []
  joins-both many =
      let no : nat_lt (length latest.manifest.tables) 2 ≡ false = le-ltb (length latest.manifest.tables) 2 many in
      ap (compact_changes_by (flat_map (λ bs. bs)) id o) is
      ∙ (ap (λ t. cond t [] (PutTable id (flat_map (λ bs. bs) (tables_at o latest.manifest.tables)) ∷ PutManifest (with_table id latest).id (with_table id latest).manifest ∷ [])) no
      ∙ ap (λ bs. PutTable id bs ∷ PutManifest (with_table id latest).id (with_table id latest).manifest ∷ []) (joined-batches o latest.manifest.tables))

-- what a compaction answers by how its puts ended
abbrev pub ended : VersionedManifest → Result (Unit {0}) StoreRefusal → Result VersionedManifest StoreRefusal
ended manifest (Ok _) = Ok manifest
ended manifest (Err e) = Err e

module _ (id : TableId) (o : Objects) (manifest : VersionedManifest) (table : List Batch) (plan : PlansJoin id o (Ok (manifest, Some table))) where
  cause : (e : StoreRefusal) → IsOfPuts e → (e ≡ TransactionalObjectVersionExists → (is_present (PutTable id table) o ≡ true) ⊎ (is_present (PutManifest manifest.id manifest.manifest) o ≡ true)) → CompactCause id o e
  cause TransactionalObjectVersionExists of there = (
    plan.0,
    plan.1.0,
    elim (there refl) [
      | inl t ↦ inl t
      | inr m ↦ inr (subst (λ (v : VersionedManifest). is_present (PutManifest v.id v.manifest) o ≡ true) plan.3 m)
    ],
  )
  cause (ObjectStoreError fault.Unavailable) of there = tt
  cause NoMemory of there = tt
  cause e of there = absurd of

  changes-are : joining id o ≡ PutTable id table ∷ PutManifest manifest.id manifest.manifest ∷ []
  changes-are =
      joins-both id o plan.0 plan.1.0 plan.2
      ∙ (ap (λ bs. PutTable id bs ∷ PutManifest (with_table id plan.0).id (with_table id plan.0).manifest ∷ []) (sym plan.4)
      ∙ ap (λ (v : VersionedManifest). PutTable id table ∷ PutManifest v.id v.manifest ∷ []) (sym plan.3))

  two : length (joining id o) ≡ 2
  two = ap length changes-are

  joined : (r : Result (Unit {0}) StoreRefusal) (made : ℕ) (o' : Objects) → IfErr r IsOfPuts → PutsBoth (PutTable id table) (PutManifest manifest.id manifest.manifest) r made o o' → Compacts id.epoch id.index (id.index + 1) o (ended manifest r) made o'
  joined (Ok x) made o' of puts =
      let no : nat_lt (length plan.0.manifest.tables) 2 ≡ false = le-ltb (length plan.0.manifest.tables) 2 plan.2 in
      record {
        answer = (plan.0, plan.1, plan.3 ∙ sym (ap (λ t. cond t plan.0 (with_table id plan.0)) no));
        part = puts.part ∙ sym two;
        counted = inr refl;
        raised = λ up. (plan.0, plan.1, plan.2);
        used = λ some. refl;
        free = λ some. no_some (table_at id o) (puts.free some);
        after = puts.after ∙ ap (λ cs. after_part made cs o) (sym changes-are);
      }
  joined (Err e) made o' of puts =
      record {
        answer = cause e of (λ same. puts.exists (ap Err same));
        part = subst (λ n. PartMade {A = VersionedManifest} (Err e) n made) (sym two) puts.part;
        counted = inr refl;
        raised = λ up. (plan.0, plan.1, plan.2);
        used = λ some. refl;
        free = λ some. no_some (table_at id o) (puts.free some);
        after = puts.after ∙ ap (λ cs. after_part made cs o) (sym changes-are);
      }

-- as much over any store
module _ (id : TableId) (manifest : VersionedManifest) {a b : Option Objects} (kept : b ≡ a) where
  pub all-joined : {c : Option Objects} (table : List Batch) (r : Result (Unit {0}) StoreRefusal) → IfSome a (λ o. PlansJoin id o (Ok (manifest, Some table))) → IfErr r IsOfPuts → WhereModelled (λ o o'. (made : ℕ) × PutsBoth (PutTable id table) (PutManifest manifest.id manifest.manifest) r made o o') b c → WhereModelled (λ o o'. (made : ℕ) × Compacts id.epoch id.index (id.index + 1) o (ended manifest r) made o') a c
  all-joined {c} table r plans of puts =
      record {
        none = λ h. puts.none (kept ∙ h);
        some = λ o h. let p = puts.some o (kept ∙ h) in
            let plan = subst (λ x. IfSome x (λ o. PlansJoin id o (Ok (manifest, Some table)))) h plans in
            (p.0, p.1, (p.2.0, joined id o manifest table plan r p.2.0 p.0 of p.2.1));
      }

-- where it refuses before it puts anything, the count of tables stays
pub unjoined : {a b : Option Objects} (id : TableId) (e : StoreRefusal) → b ≡ a → IfSome a (λ o. PlansJoin id o (Err e)) → WhereModelled (λ o o'. (made : ℕ) × Compacts id.epoch id.index id.index o (Err e) made o') a b
unjoined id e kept plans =
    record {
      none = λ h. kept ∙ h;
      some = λ o h. (
        o,
        kept ∙ h,
        (
          zero,
          record {
            answer = subst (λ x. IfSome x (λ o. PlansJoin id o (Err e))) h plans;
            part = none_made VersionedManifest e _;
            counted = inl refl;
            raised = λ up. absurd (omega (arith, up));
            used = λ some. absurd (omega (arith, some));
            free = λ some. absurd (omega (arith, some));
            after = refl;
          },
        ),
      );
    }

-- and it keeps the content, where the writer's epoch isn't above the latest one
opened-low : (epoch : ℕ) (o : Objects) → WasOpened epoch o → (latest : VersionedManifest) → latest_manifest o ≡ Some latest → epoch ≤ latest.manifest.writer_epoch
opened-low epoch o opened found is = subst (λ x. IfSome x (λ latest. epoch ≤ latest.manifest.writer_epoch)) is opened

pub compacted-keeps : {a b : Option Objects} (epoch index index' : ℕ) (r : Result VersionedManifest StoreRefusal) → WhereModelled (λ o o'. (made : ℕ) × Compacts epoch index index' o r made o') a b → WhereModelled (λ o o'. WasOpened epoch o → KeepsContent o o') a b
compacted-keeps epoch index index' r compacts =
    modelled_as (λ o o'. WasOpened epoch o → KeepsContent o o') compacts
    (λ o o' h opened. compacts-keep h.1 (opened-low epoch o opened) h.1.free)
