-- What a call with a plan for a lease puts, from what it reads and puts.
use Rattle.std.proofs.Common.{◌≡◌, ◌+◌, ◌*◌, ◌<◌, ◌≤◌, ℕ, zero, suc, inl, inr, List, [], ◌∷◌, length, Option, Some, None, true, false, cond, Result, Ok, Err, refl, sym, ap, subst, ◌∙◌, arith}
use Rattle.std.proofs.Math.Logic.{⊎_map}
use Rattle.std.specs.Option.{IfSome}
use Rattle.std.specs.Prelude.{ℤ, ◌⊎◌}
use Rattle.std.specs.Result.{IfErr}
use Rattle.slate_types.specs.Modelled.{WhereModelled}
use Rattle.slate_types.proofs.Modelled.{modelled_as}
use Rattle.slate_types.specs.declared.batches.Batch.{Batch}
use Rattle.slate_types.specs.declared.store_errors.StoreFault.TheVariants.{Unavailable}
use Rattle.slate_store.specs.declared.objects.VersionedManifest.{VersionedManifest}
use Rattle.slate_store.specs.declared.refusals.StoreRefusal.{StoreRefusal}
use Rattle.slate_store.specs.declared.refusals.StoreRefusal.TheVariants as refusals
use Rattle.slate_store.specs.Checkpoints.{Plan, to_write}
use Rattle.slate_store.specs.Objects.{Change, Objects, PutManifest, changed, is_present, latest_manifest}
use Rattle.slate_store.specs.Refusals.{checkpoint_changes, planned, planned_after}
use Rattle.slate_errors.specs.declared.errors.SlateError.{SlateError}
use Rattle.slate_errors.specs.declared.errors.SlateError.TheVariants as errors
use Rattle.slate_model.proofs.Reduced.{some-same}
use Rattle.slate_model.specs.Changes.{PartMade, after_part}
use Rattle.slate_model.specs.Follower.{Follower}
use Rattle.slate_model.specs.Lease.{leased, to_take}
use Rattle.slate_model.specs.Managed.{KeepsOrNot, PlanCause, PutsPlanned, TakeRefusal}
use Rattle.slate_model.specs.Followed.{RefusesLatest, follow_refusal}
use Rattle.slate_model.specs.Segments.{Extractor}
use Rattle.slate_model.specs.Stores.{Stands}
use Rattle.slate_model.specs.declared.leases.Lease.{Lease}
use Rattle.slate_follow.specs.Answering.{IsOfLatest}
use Rattle.slate_follow.specs.Keeping.{CauseBy, FindsLatest, GivesLease, IsOfPolling, MayLack, MayMismatch, PutsBy, PutsManifest}
use Rattle.slate_follow.specs.Rebuilding.{IsOfFollowing, IsOfReplay}
use Rattle.slate_follow.proofs.Rebuilt.{if_some, some_at}

pub if_err : {A : Type 0} {P Q : SlateError → Type 0} (r : Result A SlateError) → ((e : SlateError) → P e → Q e) → IfErr r P → IfErr r Q
if_err (Ok x) f h = tt
if_err (Err e) f h = f e h

-- an error that comes before a put, and after one
pub none_made : (A : Type 0) (e : SlateError) (n : ℕ) → PartMade {A = A} (Err e) n 0
none_made A errors.TransactionalObjectVersionExists n = omega arith
none_made A (errors.ObjectStoreError f) n = omega arith
none_made A (errors.WalTruncated id) n = omega arith
none_made A (errors.EmptySegmentPrefix key) n = omega arith
none_made A errors.InvalidDBState n = omega arith
none_made A errors.NoMemory n = omega arith
none_made A e n = refl

one_made : (A : Type 0) (e : SlateError) → IsOfPolling e → PartMade {A = A} (Err e) 1 1
one_made A errors.InvalidDBState of = omega arith
one_made A (errors.ObjectStoreError Unavailable) of = omega arith
one_made A errors.NoMemory of = omega arith
one_made A e of = absurd of

pub replay-polling : (e : SlateError) → IsOfReplay e → IsOfPolling e
replay-polling (errors.ObjectStoreError Unavailable) of = tt
replay-polling errors.NoMemory of = tt
replay-polling e of = absurd of

pub replay-cause : (plan : Plan Lease) (o : Objects) (e : SlateError) → IsOfReplay e → CauseBy plan o e
replay-cause plan o (errors.ObjectStoreError Unavailable) of = tt
replay-cause plan o errors.NoMemory of = tt
replay-cause plan o e of = absurd of

-- where a poll isn't refused by its plan, it may be by a key without a segment
pub polling-cause : (plan : Plan Lease) (o : Objects) (e : SlateError) → IsOfPolling e → CauseBy plan o e ⊎ MayLack o e
polling-cause plan o errors.InvalidDBState of = inr tt
polling-cause plan o (errors.ObjectStoreError Unavailable) of = inl tt
polling-cause plan o errors.NoMemory of = inl tt
polling-cause plan o e of = absurd of

-- ---- a plan after the latest manifest
module _ (refused : Objects → SlateError → Type 0) (plan : VersionedManifest → Plan Lease) (o : Objects) where
  module _ (latest : VersionedManifest) (is : latest_manifest o ≡ Some latest) where
    changes-are : checkpoint_changes {L = List Batch} plan o ≡ planned (plan latest)
    changes-are = ap (planned_after plan) is

    cause-of : (e : SlateError) → CauseBy (plan latest) o e → PlanCause (Stands (checkpoint_changes plan o) o) plan o e
    cause-of errors.InvalidDBState c = (latest, is, c)
    cause-of (errors.TransactionalObjectTimeout tries) c = (c.0, subst (λ cs. Stands cs o) (sym changes-are) c.1)
    cause-of (errors.ObjectStoreError Unavailable) c = tt
    cause-of errors.NoMemory c = tt
    cause-of e c = absurd c

    pub puts-planned : {A : Type 0} (r : Result A SlateError) (old lease : Option Lease) (o' : Objects) (p : PutsBy refused (plan latest) old o r lease o') → PutsPlanned Stands refused plan o r p.made o'
    puts-planned r old lease o' p = record {
      cause = if_err r (λ e c. ⊎_map (cause-of e) (λ why. why) c) p.cause;
      part = subst (λ cs. PartMade r (length cs) p.made) (sym changes-are) p.part;
      after = p.after ∙ ap (λ cs. after_part p.made cs o) (sym changes-are);
    }

    -- and the lease that is kept at an error
    pub lease-kept : {A : Type 0} (r : Result A SlateError) (old new : Follower) (o' : Objects) (p : PutsBy refused (plan latest) old.lease o r new.lease o') → IfErr r (λ _. KeepsOrNot plan p.made old o new)
    lease-kept (Ok x) old new o' p = tt
    lease-kept (Err e) old new o' p = elim p.leased [
      | inl same ↦ inl same
      | inr given ↦ inr (given.0, given.1, given.2, (latest, is, given.3), given.4)
    ]

-- ---- a plan, whose manifest is put or not
module _ (refused : Objects → SlateError → Type 0) (plan : Plan Lease) (old : Option Lease) (o : Objects) where
  -- nothing is put at an error
  pub nothing-put : {A : Type 0} (e : SlateError) → CauseBy plan o e ⊎ refused o e → PutsBy {A = A} refused plan old o (Err e) old o
  nothing-put {A} e cause = record { made = zero; cause = cause; part = none_made A e _; after = refl; leased = inl refl }

  pub not-given : {A : Type 0} (e : SlateError) → GivesLease plan (Err e) → PutsBy {A = A} refused plan old o (Err e) old o
  not-given errors.InvalidDBState gives = nothing-put errors.InvalidDBState (inl gives)
  not-given errors.NoMemory gives = nothing-put errors.NoMemory (inl tt)
  not-given e gives = absurd gives

  module _ (next : VersionedManifest) (given : Lease) (gives : GivesLease plan (Ok (next, given))) where
    abbrev put : Change
    put = PutManifest next.id next.manifest

    changes : planned {L = List Batch} plan ≡ put ∷ []
    changes = ap planned gives

    one : length (planned {L = List Batch} plan) ≡ 1
    one = ap length changes

    put_one : (o' : Objects) → o' ≡ changed put o → o' ≡ after_part 1 (planned plan) o
    put_one o' is = is ∙ ap (λ cs. after_part 1 cs o) (sym changes)

    -- another was there already
    pub not-put : {A : Type 0} (o' : Objects) → PutsManifest next (Ok false) o o' → PutsBy {A = A} refused plan old o (Err (errors.TransactionalObjectTimeout 8)) old o'
    not-put o' h =
        let stands : Stands (put ∷ []) o = (put, (0, omega arith, refl), h.0) in
        record { made = zero; cause = inl (refl, subst (λ cs. Stands cs o) (sym changes) stands); part = refl; after = h.1; leased = inl refl }

    -- the put failed
    pub put-failed : {A : Type 0} (e : SlateError) (o' : Objects) → PutsManifest next (Err e) o o' → PutsBy {A = A} refused plan old o (Err e) old o'
    put-failed (errors.ObjectStoreError Unavailable) o' h =
        elim h [
          | inl same ↦ record { made = zero; cause = inl tt; part = omega arith; after = same; leased = inl refl }
          | inr put ↦ record { made = 1; cause = inl tt; part = omega (arith, one); after = put_one o' put.1; leased = inl refl }
        ]
    put-failed errors.NoMemory o' h = record { made = zero; cause = inl tt; part = omega arith; after = h; leased = inl refl }
    put-failed e o' h = absurd h

    -- it was put, and what follows answers so
    module _ (o' : Objects) (h : PutsManifest next (Ok true) o o') where
      pub put-then : {A : Type 0} (answer : A) → PutsBy refused plan old o (Ok answer) (Some given) o'
      put-then answer = record { made = 1; cause = tt; part = sym one; after = put_one o' h; leased = (Some next, given, gives, refl) }

      pub put-broken : {A : Type 0} (e : SlateError) → IsOfPolling e → CauseBy plan o e ⊎ refused o e → PutsBy {A = A} refused plan old o (Err e) (Some given) o'
      put-broken {A} e of cause = record {
        made = 1;
        cause = cause;
        part = subst (λ n. PartMade {A = A} (Err e) n 1) (sym one) (one_made A e of);
        after = put_one o' h;
        leased = inr (refl, Some next, given, gives, refl);
      }

-- where a plan puts a manifest under an id that is free, nothing stands there
module _ (plan : Plan Lease) (next : VersionedManifest) (given : Lease) (gives : plan ≡ Ok (Some next, given)) where
  free-one : (o : Objects) → is_present (PutManifest next.id next.manifest) o ≡ false → Stands (PutManifest next.id next.manifest ∷ []) o → ⊥
  free-one o free (change, (zero, low, is), there) = let same = subst (λ x. is_present x o ≡ true) (sym is) there in cc
  free-one o free (change, (suc k, low, is), there) = omega (arith, low)

  pub unstanding : (t : Option Objects) → IfSome t (λ o. is_present (PutManifest next.id next.manifest) o ≡ false) → IfSome t (λ o. Stands (planned plan) o → ⊥)
  unstanding t free = if_some t (λ o at stands.
      free-one o (some_at (λ o. is_present (PutManifest next.id next.manifest) o ≡ false) t o at free) (subst (λ cs. Stands cs o) (ap planned gives) stands))

-- nothing is to be put, and the lease stays
pub stays-put : {A : Type 0} (refused : Objects → SlateError → Type 0) (plan : Plan Lease) (lease : Lease) (o : Objects) (answer : A) → plan ≡ Ok (None, lease) → PutsBy refused plan (Some lease) o (Ok answer) (Some lease) o
stays-put refused plan lease o answer gives = record { made = zero; cause = tt; part = ap length (sym (ap (planned {L = List Batch}) gives)); after = refl; leased = (None, lease, gives, refl) }

-- ---- over a store that may be modelled
-- the latest manifest was found, and nothing was put
pub modelled-kept : {F : Objects → Type 0} {Q : Objects → Objects → Type 0} {a b : Option Objects} → IfSome a F → b ≡ a → ((o : Objects) → F o → Q o o) → WhereModelled Q a b
modelled-kept {F = F} {a = a} found kept f = record { none = λ no. kept ∙ no; some = λ o at. (o, kept ∙ at, f o (some_at F a o at found)) }

-- and something was put
pub modelled-put : {F : Objects → Type 0} {P Q : Objects → Objects → Type 0} {a b c : Option Objects} → IfSome a F → b ≡ a → WhereModelled P b c → ((o o' : Objects) → F o → P o o' → Q o o') → WhereModelled Q a c
modelled-put {F = F} {a = a} found kept puts f = record {
  none = λ no. puts.none (kept ∙ no);
  some = λ o at. let h = puts.some o (kept ∙ at) in (h.0, h.1, f o h.0 (some_at F a o at found) h.2);
}

-- a call with a plan, by what it found and put
module _ {A : Type 0} (refused : Objects → SlateError → Type 0) (plan : VersionedManifest → Plan Lease) {a b : Option Objects} (latest : VersionedManifest) (found : IfSome a (λ o. FindsLatest o (Ok latest))) (kept : b ≡ a) where
  abbrev Goes : Result A SlateError → Objects → Objects → Type 0
  Goes result o o' = (made : ℕ) × PutsPlanned Stands refused plan o result made o'

  goes-by : (o o' : Objects) (lease : Option Lease) (result : Result A SlateError) → latest_manifest o ≡ Some latest → PutsBy refused (plan latest) None o result lease o' → Goes result o o'
  goes-by o o' lease result is puts = (puts.made, puts-planned refused plan o latest is result None lease o' puts)

  pub planless : (e : SlateError) → GivesLease (plan latest) (Err e) → WhereModelled (Goes (Err e)) a b
  planless e gives = modelled-kept found kept (λ o is. goes-by o o None (Err e) is (not-given refused (plan latest) None o e gives))

  module _ (next : VersionedManifest) (given : Lease) (gives : GivesLease (plan latest) (Ok (next, given))) {c : Option Objects} where
    pub unput : WhereModelled (PutsManifest next (Ok false)) b c → WhereModelled (Goes (Err (errors.TransactionalObjectTimeout 8))) a c
    unput puts = modelled-put found kept puts (λ o o' is h. goes-by o o' None _ is (not-put refused (plan latest) None o next given gives o' h))

    pub failed-put : (e : SlateError) → WhereModelled (PutsManifest next (Err e)) b c → WhereModelled (Goes (Err e)) a c
    failed-put e puts = modelled-put found kept puts (λ o o' is h. goes-by o o' None _ is (put-failed refused (plan latest) None o next given gives e o' h))

    pub all-put : (answer : A) → WhereModelled (PutsManifest next (Ok true)) b c → WhereModelled (Goes (Ok answer)) a c
    all-put answer puts = modelled-put found kept puts (λ o o' is h. goes-by o o' (Some given) _ is (put-then refused (plan latest) None o next given gives o' h answer))

-- the plan of an opening
pub taken : (lifetime : ℕ) (moment : ℤ) (latest : VersionedManifest) → latest.manifest.initialized ≡ true → to_take lifetime moment latest ≡ leased lifetime (to_write None (Some lifetime) moment latest)
taken lifetime moment latest is = ap (λ b. cond b (leased lifetime (to_write None (Some lifetime) moment latest)) (Err refusals.InvalidDBState)) is

not-taken : (lifetime : ℕ) (moment : ℤ) (latest : VersionedManifest) → latest.manifest.initialized ≡ false → to_take lifetime moment latest ≡ Err refusals.InvalidDBState
not-taken lifetime moment latest is = ap (λ b. cond b (leased lifetime (to_write None (Some lifetime) moment latest)) (Err refusals.InvalidDBState)) is

-- the latest manifest refuses an opening
module _ (lifetime : ℕ) (moment : ℤ) (latest : VersionedManifest) (e : SlateError) (of : IsOfFollowing e) where
  unfollowed-cause : (e : SlateError) → IsOfFollowing e → (e ≡ errors.InvalidDBState → latest.manifest.initialized ≡ false) → (o : Objects) → latest_manifest o ≡ Some latest →
      PlanCause (Stands (checkpoint_changes (to_take lifetime moment) o) o) (to_take lifetime moment) o e ⊎ MayMismatch o e
  unfollowed-cause errors.InvalidDBState of new o is = inl (latest, is, not-taken lifetime moment latest (new refl))
  unfollowed-cause (errors.SegmentExtractorMismatch persisted configured) of new o is = inr tt
  unfollowed-cause (errors.SegmentPrefixNotRecognized prefix name) of new o is = inr tt
  unfollowed-cause e of new o is = absurd of

  pub unfollowed : {A : Type 0} {a b : Option Objects} → IfSome a (λ o. FindsLatest o (Ok latest)) → b ≡ a → (e ≡ errors.InvalidDBState → latest.manifest.initialized ≡ false) →
      WhereModelled (λ o o'. (made : ℕ) × PutsPlanned {B = A} Stands MayMismatch (to_take lifetime moment) o (Err e) made o') a b
  unfollowed {A} found kept new =
      modelled-kept found kept (λ o is. (zero, record { cause = unfollowed-cause e of new o is; part = none_made A e _; after = refl }))

  -- and its extractor, where it does
  pub mismatched : (x : Option Extractor) → follow_refusal x true latest ≡ Some e → (a : Option Objects) → IfSome a (λ o. FindsLatest o (Ok latest)) → IfSome a (λ o. MayMismatch o e → TakeRefusal x o e)
  mismatched x refused a found = by a found where
    at : (e : SlateError) → follow_refusal x true latest ≡ Some e → (o : Objects) → latest_manifest o ≡ Some latest → MayMismatch o e → TakeRefusal x o e
    at (errors.SegmentExtractorMismatch persisted configured) refused o is may = (latest, is, refused)
    at (errors.SegmentPrefixNotRecognized prefix name) refused o is may = (latest, is, refused)
    at e refused o is may = absurd may

    by : (s : Option Objects) → IfSome s (λ o. FindsLatest o (Ok latest)) → IfSome s (λ o. MayMismatch o e → TakeRefusal x o e)
    by None found = tt
    by (Some o) is = at e refused o is

-- where another was there already, all is as before
pub unput-same : (next : VersionedManifest) (b c : Option Objects) → WhereModelled (PutsManifest next (Ok false)) b c → c ≡ b
unput-same next b c puts = by b refl where
  by : (s : Option Objects) → b ≡ s → c ≡ b
  by None none = puts.none none ∙ sym none
  by (Some o) at = let h = puts.some o at in h.1 ∙ (ap Some h.2.1 ∙ sym at)

-- a put that failed isn't refused by an extractor
pub put-matches : (x : Option Extractor) (next : VersionedManifest) (e : SlateError) {a b c : Option Objects} → b ≡ a → WhereModelled (PutsManifest next (Err e)) b c → IfSome a (λ o. MayMismatch o e → TakeRefusal x o e)
put-matches x next e {a} kept puts = if_some a (λ o at may. absurd (at_put e o (puts.some o (kept ∙ at)).0 (puts.some o (kept ∙ at)).2 may)) where
  at_put : (e : SlateError) (o o' : Objects) → PutsManifest next (Err e) o o' → MayMismatch o e → ⊥
  at_put (errors.SegmentExtractorMismatch persisted configured) o o' never may = never
  at_put (errors.SegmentPrefixNotRecognized prefix name) o o' never may = never
  at_put e o o' _ may = may

-- the steps of a call whose plan puts a manifest after the latest one
module _ (refused : Objects → SlateError → Type 0) (plan : Plan Lease) (old : Option Lease) where
  module _ (next : VersionedManifest) (given : Lease) (gives : plan ≡ Ok (Some next, given)) {b c : Option Objects} where
    pub unput-by : {A : Type 0} → WhereModelled (PutsManifest next (Ok false)) b c → WhereModelled (λ o o'. PutsBy {A = A} refused plan old o (Err (errors.TransactionalObjectTimeout 8)) old o') b c
    unput-by {A} puts = modelled_as (λ o o'. PutsBy {A = A} refused plan old o (Err (errors.TransactionalObjectTimeout 8)) old o') puts (λ o o' h. not-put refused plan old o next given gives o' h)

    pub failed-by : {A : Type 0} (e : SlateError) → WhereModelled (PutsManifest next (Err e)) b c → WhereModelled (λ o o'. PutsBy {A = A} refused plan old o (Err e) old o') b c
    failed-by {A} e puts = modelled_as (λ o o'. PutsBy {A = A} refused plan old o (Err e) old o') puts (λ o o' h. put-failed refused plan old o next given gives e o' h)

    module _ {d : Option Objects} (kept : d ≡ c) (puts : WhereModelled (PutsManifest next (Ok true)) b c) where
      pub broken-by : {A : Type 0} (e : SlateError) → IsOfPolling e → ((o : Objects) → CauseBy plan o e ⊎ refused o e) → WhereModelled (λ o o'. PutsBy {A = A} refused plan old o (Err e) (Some given) o') b d
      broken-by {A} e of cause = record { none = λ no. kept ∙ puts.none no; some = λ o at. let h = puts.some o at in (h.0, kept ∙ h.1, put-broken refused plan old o next given gives h.0 h.2 e of (cause o)) }

      pub put-by : {A : Type 0} (answer : A) → WhereModelled (λ o o'. PutsBy refused plan old o (Ok answer) (Some given) o') b d
      put-by answer = record { none = λ no. kept ∙ puts.none no; some = λ o at. let h = puts.some o at in (h.0, kept ∙ h.1, put-then refused plan old o next given gives h.0 h.2 answer) }

-- ---- a refusal that the latest manifest decides comes at the first try
-- a plan that is refused puts nothing, so nothing stands in its way
none-stands : (plan : VersionedManifest → Plan Lease) (o : Objects) (latest : VersionedManifest) → latest_manifest o ≡ Some latest → (refusal : StoreRefusal) → plan latest ≡ Err refusal → Stands (checkpoint_changes plan o) o → ⊥
none-stands plan o latest is refusal refused stands = by (subst (λ cs. Stands cs o) (ap (planned_after plan) is ∙ ap planned refused) stands) where
  by : Stands {L = List Batch} [] o → ⊥
  by (change, (k, low, at), there) = omega (arith, low)

-- one manifest isn't refused and followed
one-refusal : (x : Option Extractor) (o : Objects) (e : SlateError) → RefusesLatest x true o (Some e) → RefusesLatest x true o None → ⊥
one-refusal x o e a b =
    let same : b.0 ≡ a.0 = some-same b.0 a.0 (sym b.1 ∙ a.1) in
    let never : Some e ≡ None = sym a.2 ∙ subst (λ v. follow_refusal x true v ≡ None) same b.2 in
    cc

module _ (lifetime : ℕ) (moment : ℤ) (x : Option Extractor) where
  abbrev takes : VersionedManifest → Plan Lease
  takes = to_take lifetime moment

  never-refused : (o : Objects) → Stands (checkpoint_changes takes o) o → RefusesLatest x true o None → (e : SlateError) → PlanCause (Stands (checkpoint_changes takes o) o) takes o e ⊎ MayMismatch o e → (MayMismatch o e → TakeRefusal x o e) → IsOfLatest e → ⊥
  never-refused o stands fits errors.LatestTransactionalObjectVersionMissing (inl none) mismatch first = (let is = fits.1 in cc)
  never-refused o stands fits errors.LatestTransactionalObjectVersionMissing (inr may) mismatch first = may
  never-refused o stands fits errors.InvalidDBState (inl cause) mismatch first = none-stands takes o cause.0 cause.1 refusals.InvalidDBState cause.2 stands
  never-refused o stands fits errors.InvalidDBState (inr may) mismatch first = may
  never-refused o stands fits (errors.SegmentExtractorMismatch persisted configured) cause mismatch first = one-refusal x o (errors.SegmentExtractorMismatch persisted configured) (mismatch tt) fits
  never-refused o stands fits (errors.SegmentPrefixNotRecognized prefix name) cause mismatch first = one-refusal x o (errors.SegmentPrefixNotRecognized prefix name) (mismatch tt) fits
  never-refused o stands fits (errors.CheckpointMissing id) (inl cause) mismatch first = cause
  never-refused o stands fits (errors.CheckpointMissing id) (inr may) mismatch first = may
  never-refused o stands fits e cause mismatch first = first

  pub first-try : (t t1 t' : Option Objects) → t1 ≡ t → (e : SlateError) → WhereModelled (λ o o'. (made : ℕ) × PutsPlanned {B = VersionedManifest × Lease} Stands MayMismatch takes o (Err e) made o') t1 t' → IfSome t1 (λ o. MayMismatch o e → TakeRefusal x o e) →
      (earlier n n1 n' : ℕ) → n1 ≤ n + 2 * earlier → (IsOfLatest e → n' ≤ n1 + 1) → (0 < earlier → IfSome t (λ o. PlanCause (Stands (checkpoint_changes takes o) o) takes o (errors.TransactionalObjectTimeout 8))) →
      (0 < earlier → IfSome t (λ o. RefusesLatest x true o None)) → (o : Objects) → t ≡ Some o → IsOfLatest e → n' ≤ n + 1
  first-try t t1 t' kept e puts mismatch earlier n n1 n' most one met fits o at first = by earlier refl where
    by : (k : ℕ) → earlier ≡ k → n' ≤ n + 1
    by zero none = (let last = one first in omega (arith, most, none, last))
    by (suc k) more =
        let some : 0 < earlier = omega (arith, more) in
        let stands = (some_at (λ o. PlanCause (Stands (checkpoint_changes takes o) o) takes o (errors.TransactionalObjectTimeout 8)) t o at (met some)).1 in
        absurd (never-refused o stands (some_at (λ o. RefusesLatest x true o None) t o at (fits some)) e (puts.some o (kept ∙ at)).2.1.cause (some_at (λ o. MayMismatch o e → TakeRefusal x o e) t1 o (kept ∙ at) mismatch) first)
