-- A store whose calls fail by a list, and what becomes of each.
use Rattle.std.specs.Prelude.{◌≡◌, ℕ, ◌==◌, if◌then◌else◌, Bool, List, [], ◌∷◌, ◌++◌, find, Option, Some, None, Result, Err}
use Rattle.slate_types.specs.Counts.{next_call, one_more}
use Rattle.slate_types.specs.declared.store_errors.StoreError.{StoreError}
use Rattle.slate_types.specs.declared.store_errors.StoreError.TheVariants.{Failed}
use Rattle.slate_store.specs.declared.faulty_store.FailingCall.{FailingCall}
use Rattle.slate_store.specs.declared.faulty_store.Fate.{Fate}
use Rattle.slate_store.specs.declared.faulty_store.Fate.TheVariants.{Answered, Landed, Lost}

-- A store whose calls fail as a list says: the store inside, the list, how many calls there were, and how many of them
-- failed by the list.
pub record Faulty (S : Type 0) : Type 0 where
  pub inner : S
  pub failing : List FailingCall
  pub calls : ℕ
  pub faults : ℕ

-- the store whose list also names this call, after those that it named before
abbrev pub naming : {S : Type 0} → Option ℕ → (landed : Bool) → Faulty S → Faulty S
naming None landed store = store
naming (Some number) landed store = record store { failing = store.failing ++ record { at = number; landed = landed } ∷ [] }

-- what the list says of a call
abbrev pub named : List FailingCall → Option ℕ → Option FailingCall
named failing None = None
named failing (Some number) = find (λ call. call.at == number) failing

-- what it says of the next call
abbrev pub next_named : {S : Type 0} → Faulty S → Option FailingCall
next_named store = named store.failing (next_call store.calls)

-- whether a call is answered, fails once it was made, or fails and isn't made
abbrev pub fate_of : Option FailingCall → Fate
fate_of None = Answered
fate_of (Some call) = if call.landed then Landed else Lost

abbrev pub fate : {S : Type 0} → Faulty S → Fate
fate store = fate_of (next_named store)

abbrev pub faults_after : Option FailingCall → ℕ → ℕ
faults_after None faults = faults
faults_after (Some call) faults = one_more faults

-- the store after a call was counted, and before it is made
abbrev pub called : {S : Type 0} → Faulty S → Faulty S
called store = record store { calls = one_more store.calls; faults = faults_after (next_named store) store.faults }

-- what a call answers, by its fate, where the store inside gives this answer
abbrev pub answer_of : {A : Type 0} → Fate → Result A StoreError → Result A StoreError
answer_of Answered answer = answer
answer_of Landed answer = Err Failed
answer_of Lost answer = Err Failed

-- Whether a call of the store inside was made, by the count of its calls; one that isn't answered fails.
abbrev pub ComesOf : {A : Type 0} → Fate → ℕ → ℕ → Result A StoreError → Type 0
ComesOf Answered made made' result = made' ≡ one_more made
ComesOf Landed made made' result = (made' ≡ one_more made) × (result ≡ Err Failed)
ComesOf Lost made made' result = (made' ≡ made) × (result ≡ Err Failed)

-- A call is counted and meets its fate; the two numbers are the calls of the store inside, which a lost call leaves as it
-- was.
pub record IsFated {S A : Type 0} (old new : Faulty S) (made made' : ℕ) (result : Result A StoreError) : Type 0 where
  pub counted : new ≡ record (called old) { inner = new.inner }
  pub lost : fate old ≡ Lost → new.inner ≡ old.inner
  pub fate : ComesOf (fate old) made made' result
