-- A compaction of a store's own is what a handle's is.
use Rattle.std.proofs.Common.{◌≡◌, ℕ, zero, suc, ◌+◌, ◌≤◌, ◌⊎◌, List, [], ◌∷◌, length, take, cond, Bool, true, false, Option, Some, None, Result, Ok, Err, refl, sym, subst, ap, ◌∙◌, inl, inr, arith}
use Rattle.std.specs.List.{flat_map}
use Rattle.std.specs.Prelude.{nat_lt}
use Rattle.std.proofs.lemmas.Bool.{le-ltb}
use Rattle.slate_types.specs.declared.store_errors.StoreFault.TheVariants.{NotFound, Unavailable}
use Rattle.slate_store.specs.declared.objects.VersionedManifest.{VersionedManifest}
use Rattle.slate_store.specs.declared.refusals.StoreRefusal.{StoreRefusal}
use Rattle.slate_store.specs.declared.refusals.StoreRefusal.TheVariants as refusals
use Rattle.slate_store.specs.Compaction.{CompactAnswer as StoreAnswer, CompactCause as StoreCause, Compacts, compact_changes, compact_changes_by, tables_at, with_table}
use Rattle.slate_store.specs.Objects.{Change, Objects, PutManifest, PutTable, latest_manifest}
use Rattle.slate_store.specs.Refusals.{PartMade as StorePart}
use Rattle.slate_errors.specs.declared.errors.SlateError.{SlateError}
use Rattle.slate_model.specs.Changes.{PartMade}
use Rattle.slate_model.specs.Flush.{tables_put}
use Rattle.slate_model.specs.Handle.{Handle, next_table}
use Rattle.slate_model.specs.Refresh.{CompactAnswer, CompactCause, JoinsTables}
use Rattle.slate_model.specs.Stores.{JoinFault, by_objects}
use Rattle.slate_writer.specs.Joined.{Joins}
use Rattle.slate_model.specs.Refusal.{error_of_refusal}
use Rattle.slate_types.specs.Modelled.{WhereModelled}
use Rattle.slate_writer.proofs.Modelled.{modelled_from}
use Rattle.slate_writer.proofs.Puts.{part-tables}

cause : (h : Handle) (o : Objects) (r : StoreRefusal) → StoreCause (next_table h) o r → CompactCause (JoinFault (next_table h) o) h o (error_of_refusal r)
cause h o refusals.LatestTransactionalObjectVersionMissing c = c
cause h o refusals.Fenced c = c
cause h o refusals.InvalidDBState c =
    elim c.3 [
      | inl id ↦ inl (c.0, c.1, c.2, inl id)
      | inr other ↦ elim other [
        | inl index ↦ inl (c.0, c.1, c.2, inr index)
        | inr falls ↦ inr (c.0, c.1.0, falls)
      ]
    ]
cause h o (refusals.ObjectStoreError NotFound) c = c
cause h o (refusals.ObjectStoreError Unavailable) c = tt
cause h o refusals.TransactionalObjectVersionExists c = c
cause h o refusals.NoMemory c = tt
cause h o (refusals.CheckpointMissing id) c = absurd c
cause h o (refusals.TransactionalObjectTimeout tries) c = absurd c

-- the changes of a compaction put one table at most
abbrev changes_by : Handle → Objects → Option VersionedManifest → List Change
changes_by h o latest = compact_changes_by (flat_map (λ batches. batches)) (next_table h) o latest

one-by : (few : Bool) (c d : Change) → (tables_put (c ∷ d ∷ []) ≡ 1) → tables_put (cond few [] (c ∷ d ∷ [])) ≤ 1
one-by true c d one = omega arith
one-by false c d one = omega (arith, one)

one-most : (h : Handle) (o : Objects) (latest : Option VersionedManifest) → tables_put (changes_by h o latest) ≤ 1
one-most h o None = omega arith
one-most h o (Some latest) =
    one-by (nat_lt (length latest.manifest.tables) 2) (PutTable (next_table h) (flat_map (λ batches. batches) (tables_at o latest.manifest.tables)))
    (PutManifest (with_table (next_table h) latest).id (with_table (next_table h) latest).manifest) refl

-- where there are tables to join, they put one
one-put : (h : Handle) (o : Objects) (latest : VersionedManifest) → latest_manifest o ≡ Some latest → 2 ≤ length latest.manifest.tables → tables_put (compact_changes (flat_map (λ batches. batches)) (next_table h) o) ≡ 1
one-put h o latest is many =
    let no : nat_lt (length latest.manifest.tables) 2 ≡ false = le-ltb (length latest.manifest.tables) 2 many in
    ap (λ l. tables_put (changes_by h o l)) is
    ∙ ap (λ x. tables_put (cond x [] (PutTable (next_table h) (flat_map (λ batches. batches) (tables_at o latest.manifest.tables)) ∷ PutManifest (with_table (next_table h) latest).id (with_table (next_table h) latest).manifest ∷ []))) no

-- what a compaction answers, without the manifest
abbrev pub joined_answer : Result VersionedManifest StoreRefusal → Result (Unit {0}) SlateError
joined_answer (Ok manifest) = Ok tt
joined_answer (Err refusal) = Err (error_of_refusal refusal)

abbrev pub joined_view : Handle → Result VersionedManifest StoreRefusal → VersionedManifest
joined_view h (Ok manifest) = manifest
joined_view h (Err refusal) = h.view

part_of : (r : StoreRefusal) (all made : ℕ) → StorePart {A = VersionedManifest} (Err r) all made → PartMade {A = Unit {0}} (Err (error_of_refusal r)) all made
part_of refusals.LatestTransactionalObjectVersionMissing all made p = p
part_of refusals.Fenced all made p = p
part_of refusals.InvalidDBState all made p = omega (arith, p)
part_of (refusals.ObjectStoreError fault) all made p = p
part_of refusals.TransactionalObjectVersionExists all made p = p
part_of refusals.NoMemory all made p = p
part_of (refusals.CheckpointMissing id) all made p = p
part_of (refusals.TransactionalObjectTimeout tries) all made p = p

parts_of : (r : Result VersionedManifest StoreRefusal) (all made : ℕ) → StorePart r all made → PartMade (joined_answer r) all made
parts_of (Ok manifest) all made p = p
parts_of (Err r) all made p = part_of r all made p

answers_of : (h : Handle) (o : Objects) (r : Result VersionedManifest StoreRefusal) → StoreAnswer (next_table h) o r → CompactAnswer (JoinFault (next_table h) o) h o (joined_answer r) (joined_view h r)
answers_of h o (Ok manifest) a = a
answers_of h o (Err r) a = (cause h o r a, refl)

none-put : (made : ℕ) (cs : List Change) → made ≡ 0 → tables_put (take made cs) ≡ 0
none-put made cs none = ap (λ n. tables_put (take n cs)) none

module _ (h new : Handle) (o o' : Objects) (r : Result VersionedManifest StoreRefusal) (made index' : ℕ)
    (view : new.view ≡ joined_view h r) (counter : new.counter ≡ index') (c : Compacts h.epoch h.counter index' o r made o') where
  abbrev its_changes : List Change
  its_changes = compact_changes (flat_map (λ batches. batches)) (next_table h) o

  -- the count is raised where a table is put, and nowhere else
  counted-by : ((index' ≡ h.counter) ⊎ (index' ≡ h.counter + 1)) → (h.counter + tables_put (take made its_changes) ≤ new.counter) × (new.counter ≤ h.counter + tables_put its_changes)
  counted-by (inl same) =
      let nothing : made ≡ 0 = unused made refl in
      (let none = none-put made its_changes nothing in omega (arith, none, counter, same), omega (arith, counter, same)) where
        unused : (n : ℕ) → made ≡ n → made ≡ 0
        unused zero is = is
        unused (suc n) is = let raised = c.used (omega (arith, is)) in absurd (omega (arith, raised, same))
  counted-by (inr more) =
      let few = part-tables made its_changes in
      let most = one-most h o (latest_manifest o) in
      let several = c.raised more in
      let one = one-put h o several.0 several.1.0 several.2 in
      (omega (arith, few, most, counter, more), omega (arith, one, counter, more))

  pub joins : JoinsTables (by_objects (Some o)) h o (joined_answer r) new made o'
  joins = record {
    answer = subst (CompactAnswer (JoinFault (next_table h) o) h o (joined_answer r)) (sym view) (answers_of h o r c.answer);
    part = parts_of r (length its_changes) made c.part;
    current = λ some. let several = c.raised (c.used some) in (several.0, several.1);
    counted = counted-by c.counted;
    after = c.after;
  }

-- the same over any store
pub all-joins : (h new : Handle) (epoch index index' : ℕ) (a b : Option Objects) (r : Result VersionedManifest StoreRefusal) (answer : Result (Unit {0}) SlateError) → epoch ≡ h.epoch → index ≡ h.counter → new.counter ≡ index' → answer ≡ joined_answer r → new.view ≡ joined_view h r →
    WhereModelled (λ o o'. (made : ℕ) × Compacts epoch index index' o r made o') a b → WhereModelled (λ o o'. (made : ℕ) × Joins h answer new made o o') a b
all-joins h new epoch index index' a b r answer by at counter is view compacts =
    modelled_from {P = λ o o'. (made : ℕ) × Compacts epoch index index' o r made o'} refl compacts
    (λ o o' there k. (
      k.0,
      subst (λ answer. Joins h answer new k.0 o o') (sym is)
          (joins h new o o' r k.0 index' view counter (subst (λ e. Compacts e h.counter index' o r k.0 o') by (subst (λ i. Compacts epoch i index' o r k.0 o') at k.1))),
    ))
