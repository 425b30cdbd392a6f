-- The states of the first reader of a run, of which those are published that differ from the one before them.
use Rattle.std.specs.Prelude.{◌≡◌, ◌≢◌, ◌⊎◌, ℕ, ◌<◌, ◌++◌, List, [], ◌∷◌, length, map, slice_get, Option, Some, None}
use Rattle.std.specs.Option.{option_map}
use Rattle.slate_store.specs.declared.objects.TableId.{TableId}
use Rattle.slate_published.specs.Published.{Published}
use Rattle.slate_published.specs.States.{last_of}
use Rattle.slate_model.specs.Follower.{Follower}
use Rattle.slate_model.specs.Object.{Object, Handle, Snapshot, Follower as AFollower}
use Rattle.slate_live.specs.Steps.{Step}
use Rattle.slate_live.specs.World.{World}
use Rattle.slate_live.specs.Publishing.{reader_of, seen_state}

-- the first reader among objects, the one with the least number
abbrev pub first_reader : List Object → Option Follower
first_reader [] = None
first_reader (Handle handle ∷ objects) = first_reader objects
first_reader (Snapshot snapshot ∷ objects) = first_reader objects
first_reader (AFollower reader ∷ objects) = Some reader

-- what the first reader of a world sees; None before one is opened
abbrev pub first_state : World → Option Published
first_state w = option_map (seen_state w.stored) (first_reader w.objects)

-- what it sees after each of these steps
abbrev pub states_along : List Step → List (Option Published)
states_along steps = map (λ (step : Step). first_state step.world) steps

-- Of what a reader sees one time after another, the states that aren't as before: the first one, and each that differs from the one
-- before it.
abbrev pub AreChanges : Option Published → List (Option Published) → List Published → Type 0
AreChanges before [] changes = changes ≡ []
AreChanges before (now ∷ later) changes =
    ((now ≡ before) × AreChanges now later changes)
    ⊎ ((state : Published) × (rest : List Published) × (now ≡ Some state) × (now ≢ before) × (changes ≡ state ∷ rest) × AreChanges now later rest)

-- the last of what was published is this state; where there is none, nothing was
abbrev pub IsLast : List Published → Option Published → Type 0
IsLast states (Some last) = (0 < length states) × (last_of states ≡ last)
IsLast states None = states ≡ []

-- two states with the same number, the same manifest, the same last number in its tables, and the same tables
pub record AreAlike (a b : Published) : Type 0 where
  pub number : a.number ≡ b.number
  pub manifest_id : a.manifest_id ≡ b.manifest_id
  pub last_l0_seq : a.last_l0_seq ≡ b.last_l0_seq
  pub tables : a.tables ≡ b.tables

-- a state is as the last one that was published
abbrev pub IsShown : Published → List Published → Type 0
IsShown state states = (0 < length states) × AreAlike state (last_of states)

-- what is published where the first reader sees this: it, unless it is as the last one, or has a lower number
abbrev pub ShowsFirst : Option Published → (states states' : List Published) → Type 0
ShowsFirst None states states' = states' ≡ states
ShowsFirst (Some state) states states' =
    (IsShown state states × (states' ≡ states))
    ⊎ (((state.number < (last_of states).number) × (states' ≡ states))
    ⊎ ((IsShown state states → ⊥) × (states' ≡ states ++ state ∷ [])))

-- below this number there are objects alone that aren't readers
abbrev pub NoneBelow : ℕ → List Object → Type 0
NoneBelow number objects = (n : ℕ) → n < number → (object : Object) × (slice_get objects n ≡ Some object) × (reader_of (Some object) ≡ None)
