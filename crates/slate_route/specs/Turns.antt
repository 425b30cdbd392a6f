-- What the parts of a router's calls do: a poll of one reader, those of a read, and an opening.
use Rattle.std.specs.Prelude.{◌≡◌, ◌<◌, ◌⊎◌, ℕ, ℤ, true, false, List, [], ◌∷◌, length, map, take, slice_get, slice_set, Option, Some, None, Result, Ok, Err, IfErr}
use Rattle.std.specs.List.{range_with_len}
use Rattle.std.specs.Option.{option_or}
use Rattle.std.specs.Result.{result_err}
use Rattle.slate_types.specs.declared.batches.Batch.{Batch}
use Rattle.slate_types.specs.Line.{Line, end}
use Rattle.slate_errors.specs.declared.errors.SlateError.{SlateError}
use Rattle.slate_store.specs.declared.reader_modes.DbReaderMode.TheVariants.{ManagedCheckpoint}
use Rattle.slate_model.specs.declared.answers.PollAnswer.{PollAnswer}
use Rattle.slate_model.specs.Follower.{Follower, is_managed, number}
use Rattle.slate_model.specs.Known.{FaultsRise, Known}
use Rattle.slate_model.specs.Managed.{OpensManaged, PollsManaged}
use Rattle.slate_model.specs.Stores.{by_objects}
use Rattle.slate_follow.specs.Answering.{IsOfOpening, IsOfPoll}
use Rattle.slate_live.specs.Settings.{Settings}
use Rattle.slate_live.specs.State.{Live}
use Rattle.slate_live.specs.Steps.{Step, last_world}
use Rattle.slate_live.specs.World.{World}
use Rattle.slate_route.specs.declared.answers.RouteRefusal.{RouteRefusal}
use Rattle.slate_route.specs.declared.answers.RouteRefusal.TheVariants as refusals
use Rattle.slate_route.specs.declared.routers.Covering.{Covering}
use Rattle.slate_route.specs.Reading.{FindsNone, GoesBy, Passes, is_memory, is_open, of_open, opening_refusal}
use Rattle.slate_route.specs.Standing.{CanCover, IsAnswered, PollsLead, first_error}

-- The reader at a place is polled, and no other changes. After an error it is as it was; or closed, but not for want of memory.
pub record PollsAt (place : ℕ) (moment : ℤ) (old : List Follower) (before : Known (List Batch)) (result : Result PollAnswer SlateError) (new : List Follower) (after : Known (List Batch)) : Type 0 where
  pub reader : Follower
  pub there : slice_get old place ≡ Some reader
  pub left : Follower
  pub new_is : new ≡ slice_set old place left
  pub faults : FaultsRise before.faults after.faults result
  pub failed : IfErr result (λ error. ((left ≡ reader) ⊎ (is_open left ≡ is_memory error)) × IsOfPoll ManagedCheckpoint error)
  pub polls : is_managed reader.mode ≡ true → (made : ℕ) × PollsManaged (by_objects before.objects) None made moment reader before result left after

-- the reader of a place that was polled, and what that answered
pub record Turn : Type 0 where
  pub place : ℕ
  pub result : Result PollAnswer SlateError

-- Readers are polled one after another.
abbrev pub Polled : (moment : ℤ) → List Turn → (old : List Follower) → (before : Known (List Batch)) → (new : List Follower) → (after : Known (List Batch)) → Type 0
Polled moment [] old before new after = (new ≡ old) × (after ≡ before)
Polled moment (turn ∷ turns) old before new after =
    (mid : List Follower) × (between : Known (List Batch)) × PollsAt turn.place moment old before turn.result mid between × Polled moment turns mid between new after

-- the first error that one was answered
abbrev pub first_failure : List Turn → Option SlateError
first_failure [] = None
first_failure (turn ∷ turns) = option_or (result_err turn.result) (first_failure turns)

-- what a refusal tells of the polls before it
abbrev pub Tells : {A : Type 0} → List Turn → Result A RouteRefusal → Type 0
Tells turns (Err (refusals.Poll error)) = first_failure turns ≡ Some error
Tells turns (Err (refusals.Behind asked best)) = first_failure turns ≡ None
Tells turns result = Unit {0}

-- The polls of a read, over any store: those of the open ones of the readers that it passed, in their order.
pub record PollsFor {A : Type 0} (at_least : ℕ) (moment : ℤ) (old : List Follower) (before : Known (List Batch)) (result : Result A RouteRefusal) (new : List Follower) (after : Known (List Batch)) : Type 0 where
  pub passed : ℕ
  pub passes : Passes at_least old new passed result
  pub turns : List Turn
  pub places : map (λ (turn : Turn). turn.place) turns ≡ of_open (take passed old) (range_with_len 0 (length old))
  pub polled : Polled moment turns old before new after
  pub tells : Tells turns result

-- what comes of looking for the reader that a read goes by
abbrev pub Covers : (at_least : ℕ) → (old new : List Follower) → (faults faults' : ℕ) → Result Covering RouteRefusal → Type 0
Covers at_least old new faults faults' (Ok covering) = GoesBy at_least old covering.place covering.polls new
Covers at_least old new faults faults' (Err refusal) = FindsNone at_least old new faults faults' refusal

-- by what is stored
abbrev pub CoverEnds : (at_least : ℕ) → (stored : Line) → List Step → (readers : List Follower) → Result Covering RouteRefusal → Type 0
CoverEnds at_least stored steps readers (Ok covering) = 0 < covering.polls → (reader : Follower) → slice_get readers covering.place ≡ Some reader → number reader ≡ end stored
CoverEnds at_least stored steps readers (Err (refusals.Poll error)) = first_error steps ≡ Some error
CoverEnds at_least stored steps readers (Err (refusals.Behind asked best)) = (first_error steps ≡ None) × (end stored < at_least) × (best ≡ end stored)
CoverEnds at_least stored steps readers (Err refusal) = Unit {0}

pub record CoverLeads (settings : Settings) (moment : ℤ) (at_least : ℕ) (live : Live) (places : List ℕ) (w : World) (old new : List Follower) (result : Result Covering RouteRefusal) (store : Known (List Batch)) : Type 0 where
  pub passed : ℕ
  pub passes : Passes at_least old new passed result
  pub polled : PollsLead settings moment live places w old passed new store
  pub ends : CoverEnds at_least w.stored polled.steps new result
  pub completes : CanCover moment at_least places old w (last_world w polled.steps) → IsAnswered result

-- what the opening of a reader gives a router
abbrev pub reader_of : Result (Follower × PollAnswer) SlateError → Result Follower RouteRefusal
reader_of (Ok opened) = Ok opened.0
reader_of (Err error) = Err (opening_refusal error)

pub record OpensReader (moment : ℤ) (lifetime interval : ℕ) (before : Known (List Batch)) (result : Result Follower RouteRefusal) (after : Known (List Batch)) : Type 0 where
  pub opened : Result (Follower × PollAnswer) SlateError
  pub result_is : result ≡ reader_of opened
  pub faults : FaultsRise before.faults after.faults opened
  pub kind : IfErr opened (IsOfOpening ManagedCheckpoint)
  pub opens : (made : ℕ) × OpensManaged (by_objects before.objects) None made lifetime interval false 0 moment before opened after
