-- What the calls of a store may answer and change.
use Rattle.std.specs.Prelude.{◌≡◌, ℕ, ◌≤◌, ◌⊎◌, true, false, Option, Some, None, Result, Ok, Err, IsErrOf}
pub use Rattle.slate_types.specs.Counts.{count_end, one_more, HasRisen}
pub use Rattle.slate_types.specs.Modelled.{WhereModelled}
use Rattle.slate_types.specs.declared.store_errors.StoreError.{StoreError}
use Rattle.slate_types.specs.declared.store_errors.StoreError.TheVariants.{NotFound, Exists, Failed, NoMemory}
use Rattle.slate_store.specs.Objects.{Objects, Change, is_present, changed}

-- the count of faults stays as it was, but where this error is answered
abbrev pub KeepsFaults : {A E : Type 0} → E → ℕ → ℕ → Result A E → Type 0
KeepsFaults fault faults faults' (Ok _) = faults' ≡ faults
KeepsFaults fault faults faults' (Err error) = (faults' ≡ faults) ⊎ (error ≡ fault)

-- what every call says of the two counts: a failure is answered only where the count of faults has risen, and where it
-- rose a failure is answered
pub record IsCall {A : Type 0} (faults faults' calls calls' : ℕ) (result : Result A StoreError) : Type 0 where
  pub fault_count : faults ≤ faults'
  pub call_count : calls' ≡ one_more calls
  pub failed : IsErrOf result Failed → HasRisen faults faults'
  pub stays : KeepsFaults Failed faults faults' result

-- a read gives what is stored, and NotFound where nothing is
abbrev pub Finds : {A : Type 0} → Option A → Result A StoreError → Type 0
Finds stored (Ok found) = stored ≡ Some found
Finds stored (Err NotFound) = stored ≡ None
Finds stored (Err Exists) = ⊥
Finds stored (Err Failed) = Unit {0}
Finds stored (Err NoMemory) = Unit {0}

-- What a put leaves. At Ok nothing was stored under the id and now the object is; Exists says that something was;
-- Failed leaves the put done or not done.
abbrev pub Puts : Change → Result (Unit {0}) StoreError → Objects → Objects → Type 0
Puts change (Ok _) old new = (is_present change old ≡ false) × (new ≡ changed change old)
Puts change (Err Exists) old new = (is_present change old ≡ true) × (new ≡ old)
Puts change (Err Failed) old new = (new ≡ old) ⊎ ((is_present change old ≡ false) × (new ≡ changed change old))
Puts change (Err NotFound) old new = ⊥
Puts change (Err NoMemory) old new = new ≡ old

-- What a removal leaves: at Ok the object isn't stored, whether it was or not; Failed leaves the removal done or not
-- done.
abbrev pub Removes : Change → Result (Unit {0}) StoreError → Objects → Objects → Type 0
Removes change (Ok _) old new = new ≡ changed change old
Removes change (Err Failed) old new = (new ≡ old) ⊎ (new ≡ changed change old)
Removes change (Err NoMemory) old new = new ≡ old
Removes change (Err NotFound) old new = ⊥
Removes change (Err Exists) old new = ⊥

-- the refusals of a call that lists or removes
abbrev pub IsOfList : StoreError → Type 0
IsOfList NotFound = ⊥
IsOfList Exists = ⊥
IsOfList Failed = Unit {0}
IsOfList NoMemory = Unit {0}

-- the refusals of a call that reads one object
abbrev pub IsOfRead : StoreError → Type 0
IsOfRead NotFound = Unit {0}
IsOfRead Exists = ⊥
IsOfRead Failed = Unit {0}
IsOfRead NoMemory = Unit {0}

-- the refusals of a call that puts
abbrev pub IsOfPut : StoreError → Type 0
IsOfPut NotFound = ⊥
IsOfPut Exists = Unit {0}
IsOfPut Failed = Unit {0}
IsOfPut NoMemory = Unit {0}
