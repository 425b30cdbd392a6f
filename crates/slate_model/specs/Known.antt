-- What is known of a store, and what operations leave of it.
use Rattle.std.specs.Prelude.{◌≡◌, ◌≢◌, ℕ, ◌≤◌, List, Option, Some, Result, Err}
use Rattle.slate_types.specs.declared.batches.Batch.{Batch}
use Rattle.slate_types.specs.Line.{Line}
use Rattle.slate_types.specs.declared.store_errors.StoreFault.TheVariants.{NotFound, Unavailable}
use Rattle.slate_store.specs.Objects.{Objects, ObjectsOf}
use Rattle.slate_store.specs.Calls.{HasRisen, KeepsFaults}
use Rattle.slate_store.specs.Content.{IsSound, content}
use Rattle.slate_errors.specs.declared.errors.SlateError.{SlateError}
use Rattle.slate_errors.specs.declared.errors.SlateError.TheVariants.{ObjectStoreError}

-- What is known of a store: the objects that it holds, where it is modelled, and how often it has failed. L is what is
-- known of a log file or a table.
pub record Known (L : Type 0) : Type 0 where
  pub objects : Option (ObjectsOf L)
  pub faults : ℕ

-- a store by what its model says of it: each log file is its batches
abbrev pub known : {S : Type 0} → (S → Option Objects) → (S → ℕ) → S → Known (List Batch)
known objects faults store = record { objects = objects store; faults = faults store }

-- none of an operation's changes was made, and the store is as before
abbrev pub Untouched : {L : Type 0} → ℕ → Known L → Known L → Type 0
Untouched made before after = (made ≡ 0) × (after ≡ before)

-- over any store: a fault is answered only where the count of faults has risen, and where it rose a fault is answered
pub record FaultsRise {A : Type 0} (faults faults' : ℕ) (result : Result A SlateError) : Type 0 where
  pub count : faults ≤ faults'
  pub unavailable : result ≡ Err (ObjectStoreError Unavailable) → HasRisen faults faults'
  pub stays : KeepsFaults (ObjectStoreError Unavailable) faults faults' result

-- the same of an operation that finds no object missing
pub record CountsFaults {A : Type 0} (faults faults' : ℕ) (result : Result A SlateError) : Type 0 where
  pub count : faults ≤ faults'
  pub unavailable : result ≡ Err (ObjectStoreError Unavailable) → HasRisen faults faults'
  pub stays : KeepsFaults (ObjectStoreError Unavailable) faults faults' result
  pub none_missing : result ≢ Err (ObjectStoreError NotFound)

-- this line is what an honest store holds
abbrev pub IsContent : Option Objects → Line → Type 0
IsContent objects line = (o : Objects) × (objects ≡ Some o) × IsSound o × (line ≡ content o)
