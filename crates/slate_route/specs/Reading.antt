-- What a router answers, over any store: which reader a read goes by, how many are polled for it, and why it is refused.
use Rattle.std.specs.Prelude.{◌≡◌, ℕ, ◌+◌, ◌<◌, ◌≤◌, Bool, true, false, ◌&&◌, ◌⊎◌, nat_le, if◌then◌else◌, count_by, take, is_none, length, List, [], ◌∷◌, ◌++◌, position, slice_get, Option, Some, None, Result, Ok, Err}
use Rattle.std.specs.List.{list_any}
use Rattle.slate_types.specs.declared.store_errors.StoreFault.TheVariants.{Unavailable}
use Rattle.slate_types.specs.Counts.{HasRisen}
use Rattle.slate_errors.specs.declared.errors.SlateError.{SlateError}
use Rattle.slate_errors.specs.declared.errors.SlateError.TheVariants as errors
use Rattle.slate_store.specs.declared.reader_modes.DbReaderMode.TheVariants.{ManagedCheckpoint}
use Rattle.slate_model.specs.Follower.{Follower, number}
use Rattle.slate_follow.specs.Answering.{IsOfOpening, IsOfPoll}
use Rattle.slate_route.specs.declared.answers.Added.{Added}
use Rattle.slate_route.specs.declared.answers.RouteRefusal.{RouteRefusal}
use Rattle.slate_route.specs.declared.answers.RouteRefusal.TheVariants as refusals
use Rattle.slate_route.specs.declared.answers.Routed.{Routed}

-- whether a reader is open
abbrev pub is_open : Follower → Bool
is_open reader = is_none reader.result

-- as many readers have numbers
abbrev pub most_readers : ℕ
most_readers = 4294967295

-- whether a reader is open and sees the batches up to a number
abbrev pub covers : (at_least : ℕ) → Follower → Bool
covers at_least reader = is_open reader && nat_le at_least (number reader)

-- the place of the first that does
abbrev pub first_covering : (at_least : ℕ) → List Follower → Option ℕ
first_covering at_least readers = position (covers at_least) readers

-- there is an open one with this number
pub record IsOpenOne (readers : List Follower) (n : ℕ) : Type 0 where
  pub place : ℕ
  pub reader : Follower
  pub there : slice_get readers place ≡ Some reader
  pub opened : is_open reader ≡ true
  pub is : number reader ≡ n

-- the greatest number of an open one, or 0 where none is
pub record IsBest (readers : List Follower) (best : ℕ) : Type 0 where
  pub bounds : (i : ℕ) (reader : Follower) → slice_get readers i ≡ Some reader → is_open reader ≡ true → number reader ≤ best
  pub attained : (best ≡ 0) ⊎ IsOpenOne readers best

abbrev pub is_memory : SlateError → Bool
is_memory errors.NoMemory = true
is_memory error = false

-- Want of memory is a refusal of its own, and stands in no other.
abbrev pub poll_refusal : SlateError → RouteRefusal
poll_refusal errors.NoMemory = refusals.NoMemory
poll_refusal error = refusals.Poll error

abbrev pub read_refusal : SlateError → RouteRefusal
read_refusal errors.NoMemory = refusals.NoMemory
read_refusal error = refusals.Read error

abbrev pub opening_refusal : SlateError → RouteRefusal
opening_refusal errors.NoMemory = refusals.NoMemory
opening_refusal error = refusals.Open error

-- what stands in another refusal: no want of memory, and a fault of the store only where that has failed
abbrev pub StandsInRefusal : SlateError → (faults faults' : ℕ) → Type 0
StandsInRefusal errors.NoMemory faults faults' = ⊥
StandsInRefusal (errors.ObjectStoreError Unavailable) faults faults' = HasRisen faults faults'
StandsInRefusal error faults faults' = Unit {0}

-- Readers from before a read to after its polls: there are as many, and a closed one is as it was.
pub record Stay (old new : List Follower) : Type 0 where
  pub count : length new ≡ length old
  pub closed : (i : ℕ) (reader : Follower) → slice_get old i ≡ Some reader → is_open reader ≡ false → slice_get new i ≡ Some reader

-- A read goes by the first reader that covers. Where one did before, none is polled, and none has changed; else the open ones were polled
-- up to that one, and those behind it are as they were.
pub record GoesBy (at_least : ℕ) (old : List Follower) (place polls : ℕ) (new : List Follower) : Type 0 where
  pub first : first_covering at_least new ≡ Some place
  pub at_once : (n : ℕ) → first_covering at_least old ≡ Some n → (polls ≡ 0) × (new ≡ old)
  pub polled : first_covering at_least old ≡ None → (0 < polls) × (polls ≡ count_by is_open (take (place + 1) old)) × ((i : ℕ) → place < i → slice_get new i ≡ slice_get old i)
  pub stay : Stay old new

-- of things that belong to readers, one to each, those of the open ones, in their order
abbrev pub of_open : {X : Type 0} → List Follower → List X → List X
of_open [] xs = []
of_open (reader ∷ readers) [] = []
of_open (reader ∷ readers) (x ∷ xs) = if is_open reader then x ∷ of_open readers xs else of_open readers xs

-- how many readers a read passes, by the first that covers before its polls and the first that does after them
abbrev pub passed_by : (before after : Option ℕ) → (all : ℕ) → ℕ
passed_by (Some place) after all = 0
passed_by None (Some place) all = place + 1
passed_by None None all = all

-- A read passes so many readers, from the first on, and polls each that is open: none where one covers, else up to the first that covers
-- then, or all. Where none is open, it passes none; want of memory may end it anywhere.
abbrev pub Passes : {A : Type 0} → (at_least : ℕ) → (old new : List Follower) → (passed : ℕ) → Result A RouteRefusal → Type 0
Passes at_least old new passed (Err refusals.NoFollower) = passed ≡ 0
Passes at_least old new passed (Err refusals.NoMemory) = Unit {0}
Passes at_least old new passed result = passed ≡ passed_by (first_covering at_least old) (first_covering at_least new) (length old)

-- No reader covered, and none does after all open ones were polled; there is one.
pub record NoneCovers (at_least : ℕ) (old new : List Follower) : Type 0 where
  pub some : list_any is_open old ≡ true
  pub before : first_covering at_least old ≡ None
  pub after : first_covering at_least new ≡ None
  pub stay : Stay old new

-- Why the polls of a read left no reader to read. That no reader is open is looked at first, and nothing changes then.
abbrev pub FindsNone : (at_least : ℕ) → (old new : List Follower) → (faults faults' : ℕ) → RouteRefusal → Type 0
FindsNone at_least old new faults faults' refusals.NoFollower = (list_any is_open old ≡ false) × (new ≡ old) × (faults' ≡ faults)
FindsNone at_least old new faults faults' (refusals.Poll error) = NoneCovers at_least old new × IsOfPoll ManagedCheckpoint error × StandsInRefusal error faults faults'
FindsNone at_least old new faults faults' (refusals.Behind asked best) = (asked ≡ at_least) × NoneCovers at_least old new × IsBest new best
FindsNone at_least old new faults faults' refusals.NoMemory = Stay old new
FindsNone at_least old new faults faults' refusal = ⊥

-- the reader at a place has this number
abbrev pub IsNumberAt : List Follower → (place n : ℕ) → Type 0
IsNumberAt readers place n = (reader : Follower) × (slice_get readers place ≡ Some reader) × (number reader ≡ n)

-- What a read answers, and what it leaves of the readers: it goes by the first that covers, which it reads; or there is none.
abbrev pub Answers : (at_least : ℕ) → (old new : List Follower) → (faults faults' : ℕ) → Result Routed RouteRefusal → Type 0
Answers at_least old new faults faults' (Ok routed) = GoesBy at_least old routed.follower routed.polls new × IsNumberAt new routed.follower routed.number
Answers at_least old new faults faults' (Err (refusals.Read error)) = (place : ℕ) × (polls : ℕ) × GoesBy at_least old place polls new × StandsInRefusal error faults faults'
Answers at_least old new faults faults' (Err refusal) = FindsNone at_least old new faults faults' refusal

-- What an opening answers, and what it leaves of the readers. That there are as many as have numbers is looked at first, and nothing
-- changes then.
abbrev pub AddsReader : (old new : List Follower) → (faults faults' : ℕ) → Result Added RouteRefusal → Type 0
AddsReader old new faults faults' (Ok added) =
    (added.follower ≡ length old) × (reader : Follower) × (new ≡ old ++ reader ∷ []) × (is_open reader ≡ true) × (number reader ≡ added.at) × (faults' ≡ faults)
AddsReader old new faults faults' (Err refusals.Full) = (length old ≡ most_readers) × (new ≡ old) × (faults' ≡ faults)
AddsReader old new faults faults' (Err (refusals.Open error)) = (length old < most_readers) × (new ≡ old) × IsOfOpening ManagedCheckpoint error × StandsInRefusal error faults faults'
AddsReader old new faults faults' (Err refusals.NoMemory) = (length old < most_readers) × (new ≡ old)
AddsReader old new faults faults' (Err refusal) = ⊥
