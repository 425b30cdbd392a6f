-- What a call of a store says whose refusal is answered as the error of its name.
use Rattle.std.proofs.Common.{◌≡◌, ℕ, inl, inr, Bool, true, false, List, Ok, Err, ap}
use Rattle.slate_types.specs.declared.store_errors.StoreFault.{StoreFault}
use Rattle.slate_types.specs.declared.store_errors.StoreFault.TheVariants.{NotFound, Unavailable}
use Rattle.slate_store.specs.Objects.{Objects}
use Rattle.slate_store.specs.Refusals as calls
use Rattle.slate_store.specs.declared.objects.VersionedManifest.{VersionedManifest}
use Rattle.slate_store.specs.declared.reader_modes.DbReaderMode.{DbReaderMode}
use Rattle.slate_store.specs.declared.refusals.StoreRefusal.{StoreRefusal}
use Rattle.slate_store.specs.declared.refusals.StoreRefusal.TheVariants as refusals
use Rattle.slate_errors.specs.declared.errors.SlateError.TheVariants as errors
use Rattle.slate_model.specs.Known.{CountsFaults}
use Rattle.slate_model.specs.Refusal.{error_of_refusal}
use Rattle.slate_follow.specs.Answering.{IsOfLatest}
use Rattle.slate_follow.specs.Keeping.{FindsLatest, PutsManifest}
use Rattle.slate_follow.specs.Stepping.{IsOfTurn}

-- ---- the count of faults
-- a fault is answered for a fault alone
fault-is : (e : StoreRefusal) (fault : StoreFault) → error_of_refusal e ≡ errors.ObjectStoreError fault → e ≡ refusals.ObjectStoreError fault
fault-is (refusals.ObjectStoreError f) fault is = cc
fault-is e fault is = absurd (cc)

pub counts-refused : {A B : Type 0} (f f' : ℕ) (e : StoreRefusal) → (e ≡ refusals.ObjectStoreError NotFound → ⊥) → calls.CountsFaults {A = A} f f' (Err e) → CountsFaults {A = B} f f' (Err (error_of_refusal e))
counts-refused f f' e found c = record {
  count = c.count;
  unavailable = λ is. let same : error_of_refusal e ≡ errors.ObjectStoreError Unavailable = cc in c.unavailable (ap Err (fault-is e Unavailable same));
  stays = elim c.stays [ inl same ↦ inl same | inr fault ↦ inr (ap error_of_refusal fault) ];
  none_missing = λ is. let same : error_of_refusal e ≡ errors.ObjectStoreError NotFound = cc in found (fault-is e NotFound same);
}

-- ---- which errors come
pub latest-found : (e : StoreRefusal) → calls.IsOfLatest e → e ≡ refusals.ObjectStoreError NotFound → ⊥
latest-found (refusals.ObjectStoreError NotFound) of is = of
latest-found e of is = cc

pub store-latest : (e : StoreRefusal) → calls.IsOfStore e → calls.IsOfLatest e
store-latest (refusals.ObjectStoreError Unavailable) of = tt
store-latest refusals.NoMemory of = tt
store-latest e of = absurd of

pub latest-turn : (e : StoreRefusal) → calls.IsOfLatest e → (mode : DbReaderMode) → IsOfTurn mode (error_of_refusal e)
latest-turn refusals.LatestTransactionalObjectVersionMissing of mode = tt
latest-turn (refusals.ObjectStoreError Unavailable) of mode = tt
latest-turn refusals.NoMemory of mode = tt
latest-turn e of mode = absurd of

-- none that the latest manifest decides comes of a put
pub store-undecided : (e : StoreRefusal) → calls.IsOfStore e → IsOfLatest (error_of_refusal e) → ⊥
store-undecided (refusals.ObjectStoreError Unavailable) of first = first
store-undecided refusals.NoMemory of first = first
store-undecided e of first = of

-- and none names a key
pub never-key : (e : StoreRefusal) (key : List ℕ) → error_of_refusal e ≡ errors.EmptySegmentPrefix key → ⊥
never-key refusals.NoMemory key is = cc
never-key e key is = cc

-- ---- what is found and put
pub latest-refused : (o : Objects) (e : StoreRefusal) → calls.FindsLatest o (Err e) → FindsLatest o (Err (error_of_refusal e))
latest-refused o refusals.LatestTransactionalObjectVersionMissing found = found
latest-refused o (refusals.ObjectStoreError Unavailable) found = tt
latest-refused o refusals.NoMemory found = tt
latest-refused o e found = absurd found

pub put-answered : (next : VersionedManifest) (b : Bool) (o o' : Objects) → calls.PutsManifest next (Ok b) o o' → PutsManifest next (Ok b) o o'
put-answered next true o o' h = h
put-answered next false o o' h = h

pub put-refused : (next : VersionedManifest) (e : StoreRefusal) (o o' : Objects) → calls.PutsManifest next (Err e) o o' → PutsManifest next (Err (error_of_refusal e)) o o'
put-refused next (refusals.ObjectStoreError Unavailable) o o' h = h
put-refused next refusals.NoMemory o o' h = h
put-refused next e o o' h = absurd h
