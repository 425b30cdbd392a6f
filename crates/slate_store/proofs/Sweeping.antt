-- What the steps of a sweep make together.
use Rattle.std.proofs.Common.{◌≡◌, ℕ, ℤ, ◌+◌, ◌≤◌, List, [], ◌∷◌, ◌++◌, length, Option, Some, None, unwrap_or, Bool, true, false, cond, not, Result, Ok, Err, refl, sym, ap, subst, ◌∙◌, eqb-true, arith, length-append}
use Rattle.std.specs.List.{Contains, filter}
use Rattle.std.specs.Option.{IfSome, option_map_or}
use Rattle.std.specs.BTreeMap.{insert_entry, is_at}
use Rattle.std.specs.Cmp.{unsigned_ties}
use Rattle.std.proofs.lemmas.List.Elements.{All-contains, All-filter, Contains-get_or}
use Rattle.std.specs.Ordering.{nat_cmp}
use Rattle.std.proofs.lemmas.Cmp.{nat_cmp_total}
use Rattle.slate_types.specs.declared.batches.Batch.{Batch}
use Rattle.slate_types.specs.declared.store_errors.StoreFault.TheVariants as fault
use Rattle.slate_types.specs.Modelled.{WhereModelled}
use Rattle.slate_types.proofs.Modelled.{modelled_as, modelled_then}
use Rattle.slate_store.specs.declared.objects.Checkpoint.{Checkpoint}
use Rattle.slate_store.specs.declared.objects.Manifest.{Manifest}
use Rattle.slate_store.specs.declared.objects.VersionedManifest.{VersionedManifest}
use Rattle.slate_store.specs.declared.refusals.StoreRefusal.{StoreRefusal}
use Rattle.slate_store.specs.declared.refusals.StoreRefusal.TheVariants.{CheckpointMissing, LatestTransactionalObjectVersionMissing, Fenced, InvalidDBState, ObjectStoreError, TransactionalObjectVersionExists, TransactionalObjectTimeout, NoMemory}
use Rattle.slate_store.specs.Changes.{after_part}
use Rattle.slate_store.specs.Checkpoints.{is_expired, with_checkpoints}
use Rattle.slate_store.specs.Objects.{Change, Objects, PutManifest, changed_all, entry_at, latest_manifest}
use Rattle.slate_store.specs.Refusals.{FindsLatest, KeepsContent, PartMade}
use Rattle.slate_store.specs.declared.objects.Listing.{Listing}
use Rattle.slate_store.specs.Steps.{FindsUnprotected, RemovesUnprotected, TakesOut, ToSweep, UnprotectedCause}
use Rattle.slate_store.specs.Sweeps.{SweepCause, Sweeps, expiries, has_expired, removals, sweep_calls, sweep_changes, sweep_changes_by, without_expired}
use Rattle.slate_store.proofs.Entries.{lookup-insert_other, lookup-insert_same}
use Rattle.slate_store.proofs.Leaves.{removals-leave}
use Rattle.slate_store.proofs.Making.{SomeMade, all-made, all-then, part-all, some-stop, some-then}
use Rattle.slate_store.proofs.Swept.{sweep-keeps}

-- a sweep, whatever it answers, keeps sound objects sound
pub sweep-sound : {a b : Option Objects} (moment : ℤ) (r : Objects → Objects → ℕ → Type 0) → WhereModelled (λ o o'. (made : ℕ) × r o o' made) a b → ((o o' : Objects) (made : ℕ) → r o o' made → o' ≡ after_part made (sweep_changes moment o) o) → WhereModelled KeepsContent a b
sweep-sound moment r follows after =
    modelled_as KeepsContent follows (λ o o' t. subst (KeepsContent o) (sym (after o o' t.0 t.1)) (sweep-keeps moment t.0 o))

-- what isn't stored once another manifest is put wasn't stored before
absent-before : (id k : ℕ) (m : Manifest) (es : List (ℕ × Manifest)) → entry_at id (insert_entry nat_cmp es k m) ≡ None → entry_at id es ≡ None
absent-before id k m es none = by (is_at (nat_cmp id) k) refl where
  by : (t : Bool) → is_at (nat_cmp id) k ≡ t → entry_at id es ≡ None
  by true same =
      let is : id ≡ k = eqb-true id k (unsigned_ties id k ∙ same) in
      absurd (let here = ap (λ q. entry_at q (insert_entry nat_cmp es k m)) is ∙ lookup-insert_same nat_cmp_total k m es in cc)
  by false other = sym (lookup-insert_other nat_cmp_total id k m es other) ∙ none

-- an element that a filter keeps is an element
among-filtered : {X : Type 0} (test : X → Bool) (xs : List X) (x : X) → Contains (filter test xs) x → Contains xs x
among-filtered test xs x among = All-contains (Contains xs) (filter test xs) x (All-filter test (Contains xs) xs (λ k d less. Contains-get_or xs k d less)) among

-- what is known of the objects before a call, from what it makes of them
module _ {X : Type 0} {a b : Option X} {P : X → X → Type 0} (R : X → Type 0) (modelled : WhereModelled P a b) where
  known-before : ((x y : X) → P x y → R x) → IfSome a R
  known-before f = go a refl where
    go : (x : Option X) → a ≡ x → IfSome x R
    go None is = tt
    go (Some x) is = let t = modelled.some x is in f x t.0 t.2

  known-then : {Q : X → Type 0} → IfSome b Q → ((x y : X) → P x y → Q y → R x) → IfSome a R
  known-then {Q} q f = go a refl where
    go : (x : Option X) → a ≡ x → IfSome x R
    go None is = tt
    go (Some x) is = let t = modelled.some x is in f x t.0 t.2 (subst (λ o. IfSome o Q) t.1 q)

module _ (moment : ℤ) (latest : VersionedManifest) where
  abbrev first : List Change
  first = expiries moment latest

  abbrev later : Objects → List Change
  later o = removals (without_expired moment latest) (changed_all first o)

  changes-are : (o : Objects) → latest_manifest o ≡ Some latest → sweep_changes moment o ≡ first ++ later o
  changes-are o is = ap (sweep_changes_by moment o) is

  -- some of the changes were made, and the refusal has its cause
  some-swept : (e : StoreRefusal) (o o' : Objects) → latest_manifest o ≡ Some latest → SweepCause moment o e → ((n made : ℕ) → made ≤ n → PartMade {A = ℕ} (Err e) n made) → SomeMade (first ++ later o) o o' → (made : ℕ) × Sweeps moment o (Err e) made o'
  some-swept e o o' is cause part m =
      let all = changes-are o is in
      let low : m.0 ≤ length (sweep_changes moment o) = subst (λ cs. m.0 ≤ length cs) (sym all) m.1 in
      (m.0, record { answer = cause; part = part (length (sweep_changes moment o)) m.0 low; after = m.2 ∙ ap (λ cs. after_part m.0 cs o) (sym all) })

  -- ---- the first manifest wasn't put
  untaken : (e : StoreRefusal) (made : ℕ) (o o' : Objects) → latest_manifest o ≡ Some latest → TakesOut moment latest o (Err e) made o' → (made : ℕ) × Sweeps moment o (Err e) made o'
  untaken (CheckpointMissing id) made o o' is t = absurd t.answer
  untaken LatestTransactionalObjectVersionMissing made o o' is t = absurd t.answer
  untaken Fenced made o o' is t = absurd t.answer
  untaken InvalidDBState made o o' is t =
      let none : made ≡ 0 = t.part in
      (0, record { answer = (latest, is, t.answer.0, t.answer.1); part = refl; after = t.after ∙ ap (λ n. after_part n first o) none })
  untaken (ObjectStoreError fault.NotFound) made o o' is t = absurd t.answer
  untaken (ObjectStoreError fault.Unavailable) made o o' is t =
      some-swept (ObjectStoreError fault.Unavailable) o o' is tt (λ n m low. low) (some-stop first (later o) o o' (made, t.part, t.after))
  untaken TransactionalObjectVersionExists made o o' is t =
      some-swept TransactionalObjectVersionExists o o' is (latest, is, t.answer.0, t.answer.1) (λ n m low. low) (some-stop first (later o) o o' (made, t.part, t.after))
  untaken (TransactionalObjectTimeout tries) made o o' is t = absurd t.answer
  untaken NoMemory made o o' is t =
      some-swept NoMemory o o' is tt (λ n m low. low) (some-stop first (later o) o o' (made, t.part, t.after))

  pub not-taken : {a b c : Option Objects} (e : StoreRefusal) → WhereModelled (λ o o'. (o' ≡ o) × FindsLatest o (Ok latest)) a b → WhereModelled (λ o o'. (made : ℕ) × TakesOut moment latest o (Err e) made o') b c → WhereModelled (λ o o'. (made : ℕ) × Sweeps moment o (Err e) made o') a c
  not-taken e found taken =
      modelled_then (λ o o'. (made : ℕ) × Sweeps moment o (Err e) made o') found taken
      (λ x y z p q. untaken e q.0 x z p.1 (subst (λ o. TakesOut moment latest o (Err e) q.0 z) p.0 q.1))

  -- ---- it was put, where there was one to put
  pub record Begun (o o' : Objects) : Type 0 where
    pub latest_is : latest_manifest o ≡ Some latest
    pub begun : o' ≡ changed_all first o

  pub begins : {a b c : Option Objects} (next : Option VersionedManifest) → WhereModelled (λ o o'. (o' ≡ o) × FindsLatest o (Ok latest)) a b → WhereModelled (λ o o'. (made : ℕ) × TakesOut moment latest o (Ok next) made o') b c → WhereModelled (λ o o'. Begun o o' × (unwrap_or next latest ≡ without_expired moment latest)) a c
  begins next found taken =
      modelled_then (λ o o'. Begun o o' × (unwrap_or next latest ≡ without_expired moment latest)) found taken
      (λ x y z p q.
      let t = q.1 in
      let begun = t.after ∙ (ap (λ n. after_part n first y) t.part ∙ (part-all first y ∙ ap (changed_all first) p.0)) in
      (record { latest_is = p.1; begun = begun }, t.answer))

  -- what isn't stored once the first manifest is put wasn't stored before
  not-before : (t : Bool) (id : ℕ) (v : VersionedManifest) (o : Objects) → entry_at id (changed_all (cond t (PutManifest v.id v.manifest ∷ []) []) o).manifests ≡ None → entry_at id o.manifests ≡ None
  not-before false id v o none = none
  not-before true id v o none = absent-before id v.id v.manifest o.manifests none

  -- a checkpoint that is left was there before
  was-there : (t : Bool) (c : Checkpoint) → let cs = latest.manifest.checkpoints in Contains (cond t (with_checkpoints (filter (λ checkpoint. not (is_expired moment checkpoint)) cs) latest) latest).manifest.checkpoints c → Contains cs c
  was-there false c among = among
  was-there true c among = among-filtered (λ checkpoint. not (is_expired moment checkpoint)) latest.manifest.checkpoints c among

  -- or the manifest of a checkpoint isn't stored
  unprotected-refused : (e : StoreRefusal) (o o1 o2 : Objects) → Begun o o1 → UnprotectedCause (without_expired moment latest) o1 e → SomeMade (later o) o1 o2 → (made : ℕ) × Sweeps moment o (Err e) made o2
  unprotected-refused (CheckpointMissing id) o o1 o2 b r m = absurd r
  unprotected-refused LatestTransactionalObjectVersionMissing o o1 o2 b r m = absurd r
  unprotected-refused Fenced o o1 o2 b r m = absurd r
  unprotected-refused InvalidDBState o o1 o2 b r m = absurd r
  unprotected-refused (ObjectStoreError fault.NotFound) o o1 o2 b r m =
      let next = without_expired moment latest in
      let none = ap (λ (x : Objects). entry_at r.0.manifest_id x.manifests) (sym b.begun) ∙ r.2 in
      some-swept (ObjectStoreError fault.NotFound) o o2 b.latest_is
      (latest, r.0, b.latest_is, was-there (has_expired moment latest) r.0 r.1, not-before (has_expired moment latest) r.0.manifest_id next o none)
      (λ n k low. low) (some-then first (later o) o o1 o2 b.begun m)
  unprotected-refused (ObjectStoreError fault.Unavailable) o o1 o2 b r m =
      some-swept (ObjectStoreError fault.Unavailable) o o2 b.latest_is tt (λ n k low. low) (some-then first (later o) o o1 o2 b.begun m)
  unprotected-refused TransactionalObjectVersionExists o o1 o2 b r m = absurd r
  unprotected-refused (TransactionalObjectTimeout tries) o o1 o2 b r m = absurd r
  unprotected-refused NoMemory o o1 o2 b r m = some-swept NoMemory o o2 b.latest_is tt (λ n k low. low) (some-then first (later o) o o1 o2 b.begun m)

  all-swept : (count : ℕ) (o o1 o2 : Objects) → Begun o o1 → o2 ≡ changed_all (later o) o1 → count ≡ length (later o) → (made : ℕ) × Sweeps moment o (Ok count) made o2
  all-swept count o o1 o2 b gone counted =
      let all = changes-are o b.latest_is in
      let changes = first ++ later o in (
        length changes,
        record {
          answer = (latest, b.latest_is, gone ∙ (ap (changed_all (later o)) b.begun ∙ removals-leave (without_expired moment latest) (changed_all first o)), counted);
          part = ap length (sym all);
          after = all-then first (later o) o o1 o2 b.begun gone ∙ (sym (part-all changes o) ∙ ap (λ xs. after_part (length changes) xs o) (sym all));
        },
      )

  removed : (r : Result ℕ StoreRefusal) (o o1 o2 : Objects) → Begun o o1 → RemovesUnprotected (without_expired moment latest) r o1 o2 → (made : ℕ) × Sweeps moment o r made o2
  removed (Ok count) o o1 o2 b h =
      let same = ap (removals (without_expired moment latest)) b.begun in
      all-swept count o o1 o2 b (all-made (removals (without_expired moment latest) o1) o1 o2 h.0 ∙ ap (λ cs. changed_all cs o1) same) (h.1 ∙ ap length same)
  removed (Err e) o o1 o2 b h =
      unprotected-refused e o o1 o2 b h.2 (subst (λ cs. SomeMade cs o1 o2) (ap (removals (without_expired moment latest)) b.begun) h.0)

  pub swept-after : {a b c : Option Objects} (latest1 : VersionedManifest) (r : Result ℕ StoreRefusal) → WhereModelled (λ o o'. Begun o o' × (latest1 ≡ without_expired moment latest)) a b → WhereModelled (RemovesUnprotected latest1 r) b c → WhereModelled (λ o o'. (made : ℕ) × Sweeps moment o r made o') a c
  swept-after latest1 r begun removes =
      modelled_then (λ o o'. (made : ℕ) × Sweeps moment o r made o') begun removes
      (λ x y z p q. removed r x y z p.0 (subst (λ v. RemovesUnprotected v r y z) p.1 q))

  -- ---- the calls of the store that it makes
  calls-are : (o : Objects) → latest_manifest o ≡ Some latest → sweep_calls moment o ≡ 2 + (length first + length (later o)) + length (without_expired moment latest).manifest.checkpoints
  calls-are o is =
      let left = length (without_expired moment latest).manifest.checkpoints in
      ap (λ found. option_map_or (λ v. 2 + length (sweep_changes moment o) + length (without_expired moment v).manifest.checkpoints) found 1) is
      ∙ ap (λ n. 2 + n + left) (ap length (changes-are o is) ∙ length-append first (later o))

  module _ (n : ℕ) where
    -- where the first manifest wasn't put
    pub calls-before : {a b : Option Objects} (m : ℕ) → WhereModelled (λ o o'. (o' ≡ o) × FindsLatest o (Ok latest)) a b → m ≤ n + 1 + length (expiries {L = List Batch} moment latest) → IfSome a (λ o. m ≤ n + sweep_calls moment o)
    calls-before m found few =
        known-before (λ o. m ≤ n + sweep_calls moment o) found (λ x y p. let all = calls-are x p.1 in omega (arith, few, all))

    -- where it was, of those after it too
    pub calls-after : {a b : Option Objects} (latest1 : VersionedManifest) (k m : ℕ) → WhereModelled (λ o o'. Begun o o' × (latest1 ≡ without_expired moment latest)) a b → k ≤ n + 1 + length (expiries {L = List Batch} moment latest) → IfSome b (λ o. m ≤ k + 1 + length latest1.manifest.checkpoints + length (removals latest1 o)) → IfSome a (λ o. m ≤ n + sweep_calls moment o)
    calls-after latest1 k m begun few many =
        known-then (λ o. m ≤ n + sweep_calls moment o) begun many
        (λ x y p q.
        let all = calls-are x p.0.latest_is in
        let same : length (removals latest1 y) ≡ length (later x) = ap (λ v. length (removals v y)) p.1 ∙ ap (λ o. length (removals (without_expired moment latest) o)) p.0.begun in
        let left : length latest1.manifest.checkpoints ≡ length (without_expired moment latest).manifest.checkpoints = ap (λ (v : VersionedManifest). length v.manifest.checkpoints) p.1 in
        omega (arith, few, q, all, same, left))

-- which it does
pub keeps-sound : {a b : Option Objects} (moment : ℤ) (r : Result ℕ StoreRefusal) → WhereModelled (λ o o'. (made : ℕ) × Sweeps moment o r made o') a b → WhereModelled KeepsContent a b
keeps-sound moment r sweeps = sweep-sound moment (λ o o' made. Sweeps moment o r made o') sweeps (λ o o' made s. s.after)

-- why what isn't protected isn't found is why a sweep refuses
pub would-refuse : (moment : ℤ) (latest : VersionedManifest) (e : StoreRefusal) (o : Objects) → latest_manifest o ≡ Some latest → UnprotectedCause (without_expired moment latest) o e → SweepCause moment o e
would-refuse moment latest (CheckpointMissing id) o is r = absurd r
would-refuse moment latest LatestTransactionalObjectVersionMissing o is r = absurd r
would-refuse moment latest Fenced o is r = absurd r
would-refuse moment latest InvalidDBState o is r = absurd r
would-refuse moment latest (ObjectStoreError fault.NotFound) o is r = (latest, r.0, is, was-there moment latest (has_expired moment latest) r.0 r.1, r.2)
would-refuse moment latest (ObjectStoreError fault.Unavailable) o is r = tt
would-refuse moment latest TransactionalObjectVersionExists o is r = absurd r
would-refuse moment latest (TransactionalObjectTimeout tries) o is r = absurd r
would-refuse moment latest NoMemory o is r = tt

-- so what isn't protected is what a sweep would remove
pub would-sweep : {a b : Option Objects} (moment : ℤ) (latest view : VersionedManifest) (r : Result Listing StoreRefusal) → view ≡ without_expired moment latest →
    WhereModelled (λ o o'. (o' ≡ o) × FindsLatest o (Ok latest)) a b → IfSome b (λ o. FindsUnprotected view o r) → IfSome a (λ o. ToSweep moment o r)
would-sweep moment latest view r is found finds =
    known-then (λ o. ToSweep moment o r) found finds
    (λ x y p q. by x r p.1 (subst (λ v. FindsUnprotected v x r) is (subst (λ z. FindsUnprotected view z r) p.0 q)))
  where
    by : (o : Objects) (r : Result Listing StoreRefusal) → latest_manifest o ≡ Some latest → FindsUnprotected (without_expired moment latest) o r → ToSweep moment o r
    by o (Ok listing) is removes = (latest, is, removes)
    by o (Err e) is cause = would-refuse moment latest e o is cause
