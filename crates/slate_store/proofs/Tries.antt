-- One try of a call on checkpoints, from what it reads and puts.
use Rattle.std.proofs.Common.{◌≡◌, inl, inr, ℕ, zero, List, [], length, Option, Some, None, Bool, true, false, Result, Ok, Err, refl, sym, ap, subst, ◌∙◌, arith}
use Rattle.std.specs.Option.{IfSome}
use Rattle.slate_types.specs.declared.store_errors.StoreFault.TheVariants as fault
use Rattle.slate_types.specs.Modelled.{WhereModelled}
use Rattle.slate_types.proofs.Modelled.{modelled_as, modelled_then}
use Rattle.slate_store.specs.declared.objects.VersionedManifest.{VersionedManifest}
use Rattle.slate_store.specs.declared.refusals.StoreRefusal.{StoreRefusal}
use Rattle.slate_store.specs.declared.refusals.StoreRefusal.TheVariants.{CheckpointMissing, LatestTransactionalObjectVersionMissing, Fenced, InvalidDBState, ObjectStoreError, TransactionalObjectVersionExists, TransactionalObjectTimeout, NoMemory}
use Rattle.slate_store.specs.Checkpoints.{Plan}
use Rattle.slate_types.specs.declared.batches.Batch.{Batch}
use Rattle.slate_store.specs.Changes.{after_part}
use Rattle.slate_store.specs.Objects.{Objects, PutManifest, changed, is_present, latest_manifest}
use Rattle.slate_store.specs.Refusals.{CheckpointCause, FindsLatest, GivesPlan, IsDecided, IsOfPlan, IsTaken, PartMade, PutsManifest, PutsNext, Tries, checkpoint_changes, planned, planned_after, tried}

-- what a try answers by whether its manifest was put
abbrev pub given : {A : Type 0} → A → Result Bool StoreRefusal → Result (Option A) StoreRefusal
given answer (Ok true) = Ok (Some answer)
given answer (Ok false) = Ok None
given answer (Err e) = Err e

-- a refusal where no change was made
pub none_made : (A : Type 0) (e : StoreRefusal) (n : ℕ) → PartMade {A = A} (Err e) n 0
none_made A (CheckpointMissing id) n = refl
none_made A LatestTransactionalObjectVersionMissing n = refl
none_made A Fenced n = refl
none_made A InvalidDBState n = refl
none_made A (ObjectStoreError f) n = omega arith
none_made A TransactionalObjectVersionExists n = omega arith
none_made A (TransactionalObjectTimeout tries) n = refl
none_made A NoMemory n = omega arith

module _ {A : Type 0} (plan : VersionedManifest → Plan A) (o : Objects) where
  -- nothing was put
  refused : (e : StoreRefusal) → CheckpointCause plan o e → Tries plan (Err e) o o
  refused e cause = ((zero, record { answer = tt; cause = cause; part = none_made A e _; after = refl }), λ none. absurd (cc))

  unread : (e : StoreRefusal) → FindsLatest o (Err e) → CheckpointCause plan o e
  unread LatestTransactionalObjectVersionMissing h = h
  unread (ObjectStoreError fault.Unavailable) h = tt
  unread NoMemory h = tt
  unread e h = absurd h

  unplanned : (asked : Option (List ℕ)) (e : StoreRefusal) (latest : VersionedManifest) → latest_manifest o ≡ Some latest → GivesPlan (plan latest) (Err e) → IsOfPlan asked e → CheckpointCause plan o e
  unplanned asked (CheckpointMissing id) latest is gives of = (latest, is, gives)
  unplanned asked InvalidDBState latest is gives of = (latest, is, gives)
  unplanned asked NoMemory latest is gives of = tt
  unplanned asked e latest is gives of = absurd of

  -- what a plan puts, and what the call answers by whether it was put
  module _ (latest : VersionedManifest) (answer : A) (is : latest_manifest o ≡ Some latest) where
    changes-are : (next : Option VersionedManifest) → plan latest ≡ Ok (next, answer) → checkpoint_changes {L = List Batch} plan o ≡ planned (Ok (next, answer))
    changes-are next gives = ap (planned_after plan) is ∙ ap planned gives

    nothing_put : (next : Option VersionedManifest) (o' : Objects) → plan latest ≡ Ok (next, answer) → planned {L = List Batch} (Ok (next, answer)) ≡ [] → o' ≡ o → Tries plan (Ok (Some answer)) o o'
    nothing_put next o' gives none same = (
      (
        zero,
        record {
          answer = (next, (latest, is, gives));
          cause = tt;
          part = sym (ap length (changes-are next gives ∙ none));
          after = same;
        },
      ),
      λ no. absurd (cc),
    )

    module _ (next : VersionedManifest) (gives : plan latest ≡ Ok (Some next, answer)) where
      one : length (checkpoint_changes {L = List Batch} plan o) ≡ 1
      one = ap length (changes-are (Some next) gives)

      put_one : (o' : Objects) → o' ≡ changed (PutManifest next.id next.manifest) o → o' ≡ after_part 1 (checkpoint_changes plan o) o
      put_one o' is_put = is_put ∙ ap (λ cs. after_part 1 cs o) (sym (changes-are (Some next) gives))

      put_or_not : (r : Result Bool StoreRefusal) (o' : Objects) → PutsManifest next r o o' → Tries plan (given answer r) o o'
      put_or_not (Ok true) o' h = (
        (1, record { answer = (Some next, (latest, is, gives)); cause = tt; part = sym one; after = put_one o' h }),
        λ no. absurd (cc),
      )
      put_or_not (Ok false) o' h =
          ((zero, record { answer = tt; cause = (refl, next, answer, (latest, is, gives), h.0); part = refl; after = h.1 }), λ none. h.1)
      put_or_not (Err (ObjectStoreError fault.Unavailable)) o' h =
          elim h [
            | inl same ↦ ((zero, record { answer = tt; cause = tt; part = omega arith; after = same }), λ no. absurd (cc))
            | inr put ↦ ((1, record { answer = tt; cause = tt; part = omega (arith, one); after = put_one o' put.1 }), λ no. absurd (cc))
          ]
      put_or_not (Err NoMemory) o' h = ((zero, record { answer = tt; cause = tt; part = omega arith; after = h }), λ no. absurd (cc))
      put_or_not (Err e) o' h = absurd h

    put_next : (next : Option VersionedManifest) (r : Result Bool StoreRefusal) (o' : Objects) → plan latest ≡ Ok (next, answer) → PutsNext next r o o' → Tries plan (given answer r) o o'
    put_next None r o' gives h = subst (λ x. Tries plan (given answer x) o o') (sym h.0) (nothing_put None o' gives refl h.1)
    put_next (Some next) r o' gives h = put_or_not next gives r o' h

-- what is read as the latest manifest is known of the objects before and after
pub latest-known : {a b : Option Objects} (r : Result VersionedManifest StoreRefusal) → b ≡ a → IfSome a (λ o. FindsLatest o r) → WhereModelled (λ o o'. (o' ≡ o) × FindsLatest o r) a b
latest-known r kept found =
    record { none = λ h. kept ∙ h; some = λ o h. (o, kept ∙ h, (refl, subst (λ x. IfSome x (λ o. FindsLatest o r)) h found)) }

-- the three ends of a try, over any store
module _ {A : Type 0} (plan : VersionedManifest → Plan A) {a b : Option Objects} where
  pub without_latest : (e : StoreRefusal) → WhereModelled (λ o o'. (o' ≡ o) × FindsLatest o (Err e)) a b → WhereModelled (Tries plan (Err e)) a b
  without_latest e found =
      modelled_as (Tries plan (Err e)) found (λ o o' h. subst (λ x. Tries plan (Err e) o x) (sym h.0) (refused plan o e (unread plan o e h.1)))

  module _ (latest : VersionedManifest) (found : WhereModelled (λ o o'. (o' ≡ o) × FindsLatest o (Ok latest)) a b) where
    pub without_plan : (asked : Option (List ℕ)) (e : StoreRefusal) → GivesPlan (plan latest) (Err e) → IsOfPlan asked e → WhereModelled (Tries plan (Err e)) a b
    without_plan asked e gives of =
        modelled_as (Tries plan (Err e)) found
        (λ o o' h. subst (λ x. Tries plan (Err e) o x) (sym h.0) (refused plan o e (unplanned plan o asked e latest h.1 gives of)))

    pub with_plan : {c : Option Objects} (next : Option VersionedManifest) (answer : A) (r : Result Bool StoreRefusal) → plan latest ≡ Ok (next, answer) → WhereModelled (PutsNext next r) b c → WhereModelled (Tries plan (given answer r)) a c
    with_plan next answer r gives puts =
        modelled_then (Tries plan (given answer r)) found puts
        (λ o o' o2 h put. put_next plan o latest answer h.1 next r o2 gives (subst (λ x. PutsNext next r x o2) h.0 put))

-- ---- where the manifest that a try puts is there already, it decides nothing
module _ {A : Type 0} (plan : VersionedManifest → Plan A) where
  -- two plans after the latest manifest are one
  one-plan : (o : Objects) (latest latest1 : VersionedManifest) (p q : Plan A) → latest_manifest o ≡ Some latest → latest_manifest o ≡ Some latest1 → plan latest ≡ p → plan latest1 ≡ q → p ≡ q
  one-plan o latest latest1 p q is is1 by by1 = let same : latest ≡ latest1 = cc in sym by ∙ (ap plan same ∙ by1)

  -- and what they put is one
  one-next : (x y : Option VersionedManifest × A) (p q : Plan A) → p ≡ Ok x → q ≡ Ok y → p ≡ q → x.0 ≡ y.0
  one-next x y p q is is1 same = let pair : x ≡ y = cc in ap (λ (t : Option VersionedManifest × A). t.0) pair

  refused-undecided : (o : Objects) (e : StoreRefusal) → CheckpointCause plan o e → IsTaken plan o → IsDecided {A = A} (Err e) → ⊥
  refused-undecided o LatestTransactionalObjectVersionMissing cause taken decided = absurd (let is = taken.2.1 in cc)
  refused-undecided o (CheckpointMissing id) cause taken decided =
      let same = one-plan o cause.0 taken.2.0 _ _ cause.1 taken.2.1 cause.2 taken.2.2 in absurd (cc)
  refused-undecided o InvalidDBState cause taken decided =
      let same = one-plan o cause.0 taken.2.0 _ _ cause.1 taken.2.1 cause.2 taken.2.2 in absurd (cc)
  refused-undecided o e cause taken decided = decided

  module _ {a c : Option Objects} where
    pub err-undecided : (e : StoreRefusal) → WhereModelled (Tries plan (Err e)) a c → IfSome a (λ o. IsTaken plan o → IsDecided {A = A} (Err e) → ⊥)
    err-undecided e tries = go a refl where
      go : (x : Option Objects) → a ≡ x → IfSome x (λ o. IsTaken plan o → IsDecided {A = A} (Err e) → ⊥)
      go None is = tt
      go (Some o) is = refused-undecided o e (tries.some o is).2.0.1.cause

    -- and where it is put, it wasn't there
    pub put-undecided : {b : Option Objects} (latest : VersionedManifest) (next : Option VersionedManifest) (answer : A) (r : Result Bool StoreRefusal) → WhereModelled (λ o o'. (o' ≡ o) × FindsLatest o (Ok latest)) a b → plan latest ≡ Ok (next, answer) → WhereModelled (PutsNext next r) b c → (r ≡ Ok true → IfSome next (λ next. IfSome b (λ o. is_present (PutManifest next.id next.manifest) o ≡ false))) → IfSome a (λ o. IsTaken plan o → IsDecided (tried (given answer r)) → ⊥)
    put-undecided latest next answer (Err e) found gives puts free = err-undecided e (with_plan plan latest found next answer (Err e) gives puts)
    put-undecided latest next answer (Ok false) found gives puts free = go a where
      go : (x : Option Objects) → IfSome x (λ o. IsTaken plan o → ⊥ → ⊥)
      go None = tt
      go (Some o) = λ taken never. never
    put-undecided {b} latest next answer (Ok true) found gives puts free = go a refl where
      go : (x : Option Objects) → a ≡ x → IfSome x (λ o. IsTaken plan o → Unit {0} → ⊥)
      go None is = tt
      go (Some o) is = λ taken decided.
          let read = found.some o is in
          let same = one-plan o latest taken.2.0 _ _ read.2.1 taken.2.1 gives taken.2.2 in
          let puts_it : next ≡ Some taken.0 = one-next (next, answer) (Some taken.0, taken.1) _ _ refl refl same in
          let there = subst (λ x. IfSome x (λ (v : VersionedManifest). IfSome b (λ o. is_present (PutManifest v.id v.manifest) o ≡ false))) puts_it (free refl) in
          let not_there = subst (λ x. IfSome x (λ o. is_present (PutManifest taken.0.id taken.0.manifest) o ≡ false)) (read.1 ∙ ap Some read.2.0) there in
          let is_there = taken.3 in
          absurd (cc)
