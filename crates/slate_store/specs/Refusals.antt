-- What the calls of a store that make several calls of it answer and leave.
use Rattle.std.specs.Prelude.{◌≡◌, ◌≢◌, ℕ, ◌≤◌, ◌+◌, ◌⊎◌, min, Bool, true, false, List, [], ◌∷◌, length, Option, Some, None, Result, Ok, Err, IfOk, IfErr, IfSome}
use Rattle.slate_types.specs.Counts.{HasRisen, count_end}
use Rattle.slate_types.specs.declared.store_errors.StoreError.{StoreError}
use Rattle.slate_types.specs.declared.store_errors.StoreError.TheVariants as errors
use Rattle.slate_types.specs.declared.store_errors.StoreFault.TheVariants as fault
use Rattle.slate_store.specs.declared.objects.VersionedManifest.{VersionedManifest}
use Rattle.slate_store.specs.declared.refusals.StoreRefusal.{StoreRefusal}
use Rattle.slate_store.specs.declared.refusals.StoreRefusal.TheVariants.{CheckpointMissing, LatestTransactionalObjectVersionMissing, Fenced, InvalidDBState, ObjectStoreError, TransactionalObjectVersionExists, TransactionalObjectTimeout, NoMemory}
use Rattle.slate_store.specs.Calls.{KeepsFaults, WhereModelled}
use Rattle.slate_store.specs.Changes.{PartMadeBy, after_part}
use Rattle.slate_store.specs.Checkpoints.{Plan}
use Rattle.slate_store.specs.Content.{IsSound, KeepsPins, content}
use Rattle.slate_store.specs.Objects.{ChangeOf, Objects, ObjectsOf, PutManifest, changed, is_present, latest_manifest}

-- the refusals after which a prefix of a call's changes may be made: a fault of the store, an object that is there
-- already, or want of memory
abbrev pub leaves_prefix : StoreRefusal → Bool
leaves_prefix (ObjectStoreError fault) = true
leaves_prefix TransactionalObjectVersionExists = true
leaves_prefix NoMemory = true
leaves_prefix refusal = false

abbrev pub PartMade : {A : Type 0} → Result A StoreRefusal → ℕ → ℕ → Type 0
PartMade result all made = PartMadeBy leaves_prefix result all made

-- over any store: a fault is answered only where the count of faults has risen, and where it rose a fault is answered
pub record CountsFaults {A : Type 0} (faults faults' : ℕ) (result : Result A StoreRefusal) : Type 0 where
  pub count : faults ≤ faults'
  pub unavailable : result ≡ Err (ObjectStoreError fault.Unavailable) → HasRisen faults faults'
  pub stays : KeepsFaults (ObjectStoreError fault.Unavailable) faults faults' result

-- what a refusal by a call of the store is to the call that made it
abbrev pub refusal_of : StoreError → StoreRefusal
refusal_of errors.NotFound = ObjectStoreError fault.NotFound
refusal_of errors.Exists = TransactionalObjectVersionExists
refusal_of errors.Failed = ObjectStoreError fault.Unavailable
refusal_of errors.NoMemory = NoMemory

-- over any store: how often a call on checkpoints calls it, twice for each of its tries. A timeout comes after all.
pub record CountsTries {A : Type 0} (calls calls' : ℕ) (result : Result A StoreRefusal) : Type 0 where
  pub most : calls' ≤ calls + 16
  pub timeout : (tries : ℕ) → result ≡ Err (TransactionalObjectTimeout tries) → (tries ≡ 8) × (calls' ≡ min (calls + 16) count_end)
  pub none_missing : result ≢ Err (ObjectStoreError fault.NotFound)

-- sound objects stay sound, their content stays, and so does what their checkpoints keep
abbrev pub KeepsContent : Objects → Objects → Type 0
KeepsContent objects objects' = IsSound objects → IsSound objects' × (content objects' ≡ content objects) × KeepsPins objects objects'

-- What a call answers that makes a plan: what it puts and answers, or why it refuses. Want of memory has no cause.
abbrev pub GivesPlan : {A : Type 0} → Plan A → Result (Option VersionedManifest × A) StoreRefusal → Type 0
GivesPlan plan (Ok given) = plan ≡ Ok given
GivesPlan plan (Err NoMemory) = Unit {0}
GivesPlan plan (Err refusal) = plan ≡ Err refusal

-- the refusals of a plan, where `asked` is the id that it asks for
abbrev pub IsOfPlan : (asked : Option (List ℕ)) → StoreRefusal → Type 0
IsOfPlan asked (CheckpointMissing id) = asked ≡ Some id
IsOfPlan asked InvalidDBState = Unit {0}
IsOfPlan asked NoMemory = Unit {0}
IsOfPlan asked refusal = ⊥

-- as much of a call that always has a manifest to put
abbrev pub GivesNext : {A : Type 0} → Plan A → Result (VersionedManifest × A) StoreRefusal → Type 0
GivesNext plan (Ok (next, answer)) = plan ≡ Ok (Some next, answer)
GivesNext plan (Err NoMemory) = Unit {0}
GivesNext plan (Err refusal) = plan ≡ Err refusal

-- and of one that answers nothing beside it
abbrev pub GivesManifest : Plan (Unit {0}) → Result VersionedManifest StoreRefusal → Type 0
GivesManifest plan (Ok next) = plan ≡ Ok (Some next, tt)
GivesManifest plan (Err NoMemory) = Unit {0}
GivesManifest plan (Err refusal) = plan ≡ Err refusal

-- the changes of a plan: the manifest that it puts, where it puts one
abbrev pub planned : {L A : Type 0} → Plan A → List (ChangeOf L)
planned (Ok (Some next, _)) = PutManifest next.id next.manifest ∷ []
planned (Ok (None, _)) = []
planned (Err refusal) = []

abbrev pub planned_after : {L A : Type 0} → (VersionedManifest → Plan A) → Option VersionedManifest → List (ChangeOf L)
planned_after plan None = []
planned_after plan (Some latest) = planned (plan latest)

-- the changes of a call on checkpoints with this plan
abbrev pub checkpoint_changes : {L A : Type 0} → (VersionedManifest → Plan A) → ObjectsOf L → List (ChangeOf L)
checkpoint_changes plan objects = planned_after plan (latest_manifest objects)

-- the plan after the latest manifest
abbrev pub PlanIs : {L A : Type 0} → (VersionedManifest → Plan A) → ObjectsOf L → Plan A → Type 0
PlanIs plan objects is = (latest : VersionedManifest) × (latest_manifest objects ≡ Some latest) × (plan latest ≡ is)

-- Why a call on checkpoints refuses, over a store that is modelled. A timeout: the manifest that it puts is there
-- already. Only want of memory, and a fault, which the count of faults shows, have no cause here.
abbrev pub CheckpointCause : {L A : Type 0} → (VersionedManifest → Plan A) → ObjectsOf L → StoreRefusal → Type 0
CheckpointCause plan objects LatestTransactionalObjectVersionMissing = latest_manifest objects ≡ None
CheckpointCause plan objects (CheckpointMissing id) = PlanIs plan objects (Err (CheckpointMissing id))
CheckpointCause plan objects InvalidDBState = PlanIs plan objects (Err InvalidDBState)
CheckpointCause {L} {A} plan objects (TransactionalObjectTimeout tries) =
    (tries ≡ 8) × (next : VersionedManifest) × (answer : A) × PlanIs plan objects (Ok (Some next, answer))
    × (is_present (PutManifest next.id next.manifest) objects ≡ true)
CheckpointCause plan objects (ObjectStoreError fault.Unavailable) = Unit {0}
CheckpointCause plan objects NoMemory = Unit {0}
CheckpointCause plan objects refusal = ⊥

-- Ok, and the refusals before a put: a call on checkpoints answers one of these at its first try or not at all
abbrev pub IsDecided : {A : Type 0} → Result A StoreRefusal → Type 0
IsDecided (Ok _) = Unit {0}
IsDecided (Err LatestTransactionalObjectVersionMissing) = Unit {0}
IsDecided (Err (CheckpointMissing id)) = Unit {0}
IsDecided (Err InvalidDBState) = Unit {0}
IsDecided (Err refusal) = ⊥

-- the manifest that a call on checkpoints with this plan puts is there already
abbrev pub IsTaken : {L A : Type 0} → (VersionedManifest → Plan A) → ObjectsOf L → Type 0
IsTaken {L} {A} plan objects =
    (next : VersionedManifest) × (answer : A) × PlanIs plan objects (Ok (Some next, answer))
    × (is_present (PutManifest next.id next.manifest) objects ≡ true)

-- the latest manifest, or why it wasn't read
abbrev pub FindsLatest : {L : Type 0} → ObjectsOf L → Result VersionedManifest StoreRefusal → Type 0
FindsLatest objects (Ok latest) = latest_manifest objects ≡ Some latest
FindsLatest objects (Err LatestTransactionalObjectVersionMissing) = latest_manifest objects ≡ None
FindsLatest objects (Err (ObjectStoreError fault.Unavailable)) = Unit {0}
FindsLatest objects (Err NoMemory) = Unit {0}
FindsLatest objects (Err refusal) = ⊥

-- What a put of a manifest answers and leaves: true where it was put, false where one is stored under its id.
abbrev pub PutsManifest : VersionedManifest → Result Bool StoreRefusal → Objects → Objects → Type 0
PutsManifest next (Ok true) objects objects' = objects' ≡ changed (PutManifest next.id next.manifest) objects
PutsManifest next (Ok false) objects objects' = (is_present (PutManifest next.id next.manifest) objects ≡ true) × (objects' ≡ objects)
PutsManifest next (Err (ObjectStoreError fault.Unavailable)) objects objects' =
    (objects' ≡ objects) ⊎ ((is_present (PutManifest next.id next.manifest) objects ≡ false) × (objects' ≡ changed (PutManifest next.id next.manifest) objects))
PutsManifest next (Err NoMemory) objects objects' = objects' ≡ objects
PutsManifest next (Err refusal) objects objects' = ⊥

-- as much where there may be none to put
abbrev pub PutsNext : Option VersionedManifest → Result Bool StoreRefusal → Objects → Objects → Type 0
PutsNext None result objects objects' = (result ≡ Ok true) × (objects' ≡ objects)
PutsNext (Some next) result objects objects' = PutsManifest next result objects objects'

-- One try of a call on checkpoints, by what the call answers: where the manifest was there already, it is as if it were
-- the last.
abbrev pub tried : {A : Type 0} → Result (Option A) StoreRefusal → Result A StoreRefusal
tried (Ok (Some answer)) = Ok answer
tried (Ok None) = Err (TransactionalObjectTimeout 8)
tried (Err refusal) = Err refusal

-- A call on checkpoints does what its plan says, or refuses: its refusal has its cause, and the manifest was put or not.
pub record FollowsPlan {L A : Type 0} (plan : VersionedManifest → Plan A) (objects : ObjectsOf L) (result : Result A StoreRefusal) (made : ℕ) (objects' : ObjectsOf L) : Type 0 where
  pub answer : IfOk result (λ answer. (next : Option VersionedManifest) × PlanIs plan objects (Ok (next, answer)))
  pub cause : IfErr result (CheckpointCause plan objects)
  pub part : PartMade result (length (checkpoint_changes plan objects)) made
  pub after : objects' ≡ after_part made (checkpoint_changes plan objects) objects

-- what one try of it answers and leaves
abbrev pub Tries : {A : Type 0} → (VersionedManifest → Plan A) → Result (Option A) StoreRefusal → Objects → Objects → Type 0
Tries plan result objects objects' =
    ((made : ℕ) × FollowsPlan plan objects (tried result) made objects') × (result ≡ Ok None → objects' ≡ objects)

-- ---- over any store, the refusals of each call

-- the faults and the want of memory that any call may answer
abbrev pub IsOfStore : StoreRefusal → Type 0
IsOfStore (ObjectStoreError fault.Unavailable) = Unit {0}
IsOfStore NoMemory = Unit {0}
IsOfStore refusal = ⊥

-- those of a put
abbrev pub IsOfPuts : StoreRefusal → Type 0
IsOfPuts TransactionalObjectVersionExists = Unit {0}
IsOfPuts refusal = IsOfStore refusal

-- of a read of the latest manifest
abbrev pub IsOfLatest : StoreRefusal → Type 0
IsOfLatest LatestTransactionalObjectVersionMissing = Unit {0}
IsOfLatest refusal = IsOfStore refusal

-- of one try of a call on checkpoints, where `asked` is the id of the checkpoint that it asks for
abbrev pub IsOfTry : (asked : Option (List ℕ)) → StoreRefusal → Type 0
IsOfTry asked (CheckpointMissing id) = asked ≡ Some id
IsOfTry asked InvalidDBState = Unit {0}
IsOfTry asked refusal = IsOfLatest refusal

-- and of all of them
abbrev pub IsOfCommit : (asked : Option (List ℕ)) → StoreRefusal → Type 0
IsOfCommit asked (TransactionalObjectTimeout tries) = tries ≡ 8
IsOfCommit asked refusal = IsOfTry asked refusal

-- of a look for what a sweep would remove
abbrev pub IsOfToSweep : StoreRefusal → Type 0
IsOfToSweep InvalidDBState = Unit {0}
IsOfToSweep (ObjectStoreError fault) = Unit {0}
IsOfToSweep refusal = IsOfLatest refusal

-- of a sweep
abbrev pub IsOfSweep : StoreRefusal → Type 0
IsOfSweep TransactionalObjectVersionExists = Unit {0}
IsOfSweep refusal = IsOfToSweep refusal

-- and of a compaction
abbrev pub IsOfCompaction : StoreRefusal → Type 0
IsOfCompaction Fenced = Unit {0}
IsOfCompaction refusal = IsOfSweep refusal

-- What a call commits that changes the checkpoints of the latest manifest by a plan, and asks for the one with this id, or for none:
-- by the objects, faults and calls of the store before and after.
pub record Commits {A : Type 0} (plan : VersionedManifest → Plan A) (asked : Option (List ℕ)) (objects objects' : Option Objects)
    (failed failed' calls calls' : ℕ) (result : Result A StoreRefusal) : Type 0 where
  pub follows : WhereModelled (λ o o'. (made : ℕ) × FollowsPlan plan o result made o') objects objects'
  pub sound : WhereModelled KeepsContent objects objects'
  pub faults : CountsFaults failed failed' result
  pub tries : CountsTries calls calls' result
  pub decided : IfSome objects (λ o. IsDecided result → calls' ≤ calls + 2)
  pub kind : IfErr result (IsOfCommit asked)
