-- What a router's calls lead to over an honest store: its readers are objects of a world, and each call of one is a command's step.
use Rattle.std.specs.Prelude.{◌≡◌, ◌<◌, ◌≤◌, ◌⊎◌, ℕ, ℤ, true, false, List, [], ◌∷◌, ◌++◌, length, map, take, slice_get, Option, Some, None, Result, Ok, Err}
use Rattle.std.specs.List.{list_any}
use Rattle.std.specs.Option.{option_or}
use Rattle.slate_types.specs.declared.batches.Batch.{Batch}
use Rattle.slate_types.specs.declared.batches.KeyValue.{KeyValue}
use Rattle.slate_types.specs.declared.read_faults.ReadFault.TheVariants as reads
use Rattle.slate_types.specs.declared.store_errors.StoreFault.TheVariants.{NotFound, Unavailable}
use Rattle.slate_types.specs.Counts.{HasRisen}
use Rattle.slate_types.specs.Line.{Line, end}
use Rattle.slate_types.specs.Operator.{Merge}
use Rattle.slate_reads.specs.Read.{read_at}
use Rattle.slate_store.specs.declared.reader_modes.DbReaderMode.TheVariants.{ManagedCheckpoint}
use Rattle.slate_errors.specs.declared.errors.SlateError.{SlateError}
use Rattle.slate_errors.specs.declared.errors.SlateError.TheVariants as errors
use Rattle.slate_model.specs.Begun.{Begun}
use Rattle.slate_model.specs.Follower.{Follower, is_managed, number}
use Rattle.slate_model.specs.Known.{Known}
use Rattle.slate_model.specs.Object.{Object, Follower as AFollower}
use Rattle.slate_model.specs.Tables.{AreStored}
use Rattle.slate_script.specs.declared.commands.Action.{Action}
use Rattle.slate_script.specs.declared.commands.Action.TheVariants as actions
use Rattle.slate_script.specs.declared.commands.Command.{Command}
use Rattle.slate_script.specs.declared.replies.Reply.{Reply}
use Rattle.slate_script.specs.declared.replies.Reply.TheVariants as replies
use Rattle.slate_live.specs.Replies.{found_reply, refusal}
use Rattle.slate_live.specs.Represents.{AllInSegments, Represents}
use Rattle.slate_live.specs.Settings.{Settings}
use Rattle.slate_live.specs.State.{IsBegunAt, Live}
use Rattle.slate_live.specs.Steps.{Chain, Step, last_world}
use Rattle.slate_live.specs.Valid.{CanPoll, Link}
use Rattle.slate_live.specs.World.{World}
use Rattle.slate_live.specs.Worlds.{IsFollowerAt}
use Rattle.slate_route.specs.declared.answers.Added.{Added}
use Rattle.slate_route.specs.declared.answers.RouteRefusal.{RouteRefusal}
use Rattle.slate_route.specs.declared.answers.RouteRefusal.TheVariants as refusals
use Rattle.slate_route.specs.declared.answers.Routed.{Routed}
use Rattle.slate_route.specs.Reading.{Passes, first_covering, is_open, of_open}

-- ---- a router beside the objects of a program
-- a reader keeps a checkpoint of its own, reads log files, and may not lag
abbrev pub IsRouted : Follower → Type 0
IsRouted reader = (is_managed reader.mode ≡ true) × (reader.skips ≡ false) × (reader.lag ≡ 0)

-- A router's readers are the objects with these numbers, each with one of its own.
pub record AreAt (objects : List Object) (places : List ℕ) (readers : List Follower) : Type 0 where
  pub count : length places ≡ length readers
  pub there : (i n : ℕ) (reader : Follower) → slice_get places i ≡ Some n → slice_get readers i ≡ Some reader → slice_get objects n ≡ Some (AFollower reader)
  pub distinct : (i j n : ℕ) → slice_get places i ≡ Some n → slice_get places j ≡ Some n → i ≡ j
  pub managed : (i : ℕ) (reader : Follower) → slice_get readers i ≡ Some reader → IsRouted reader

-- Live objects, the router's readers among them, and an honest store represent a world. No poll of one of them by single calls is begun.
pub record RoutesOver (live : Live) (store : Known (List Batch)) (places : List ℕ) (readers : List Follower) (w : World) : Type 0 where
  pub represents : Represents live store w
  pub segments : AllInSegments None w
  pub are_at : AreAt live.objects places readers
  pub unbegun : (i n : ℕ) (begun : Begun) → slice_get places i ≡ Some n → IsBegunAt live.polls n begun → ⊥

-- the other objects are as before
pub record LeavesOthers (places : List ℕ) (live live' : Live) : Type 0 where
  pub options : live'.options ≡ live.options
  pub writes : live'.writes ≡ live.writes
  pub polls : live'.polls ≡ live.polls
  pub count : length live'.objects ≡ length live.objects
  pub objects : (n : ℕ) → ((i : ℕ) → slice_get places i ≡ Some n → ⊥) → slice_get live'.objects n ≡ slice_get live.objects n

-- ---- its calls as commands
-- with what they are run
abbrev pub routing : Option Merge → Live → Settings
routing merge live = record { merge = merge; extractor = None; options = live.options }

abbrev pub command_at : ℤ → Action → Command
command_at moment action = record { moment = moment; second = None; action = action }

abbrev pub poll_command : ℤ → ℕ → Command
poll_command moment n = command_at moment (actions.Poll n)

-- the first error that steps were answered, where one was
abbrev pub refused : Reply → Option SlateError
refused (replies.Refused error) = Some error
refused reply = None

abbrev pub first_error : List Step → Option SlateError
first_error [] = None
first_error (step ∷ steps) = option_or (refused step.reply) (first_error steps)

-- steps are the polls of the open ones of readers, one for each, in the order of the readers
abbrev pub PollEach : ℤ → (places : List ℕ) → List Follower → List Step → Type 0
PollEach moment places readers steps = map (λ (step : Step). step.command) steps ≡ map (poll_command moment) (of_open readers places)

-- The polls of a read that passed so many readers, each a step of the world: what is stored stays the same.
pub record PollsLead (settings : Settings) (moment : ℤ) (live : Live) (places : List ℕ) (w : World) (old : List Follower) (passed : ℕ) (new : List Follower) (store : Known (List Batch)) : Type 0 where
  pub steps : List Step
  pub chain : Chain settings w steps
  pub polls : PollEach moment places (take passed old) steps
  pub next : Live
  pub over : RoutesOver next store places new (last_world w steps)
  pub stored : (last_world w steps).stored ≡ w.stored
  pub others : LeavesOthers places live next

-- ---- a read
-- why the plain read at a number gives no answer, or the tables of the reader aren't all stored
abbrev pub ReadFails : Option Merge → Line → World → Follower → (key : List ℕ) → SlateError → Type 0
ReadFails merge stored w reader key errors.MergeOperatorMissing = read_at merge stored.batches (Some (number reader)) key ≡ Err reads.MergeOperatorMissing
ReadFails merge stored w reader key errors.MergeOperatorError = read_at merge stored.batches (Some (number reader)) key ≡ Err reads.MergeOperatorError
ReadFails merge stored w reader key (errors.ObjectStoreError NotFound) = AreStored w.catalogue reader.view.manifest.tables → ⊥
ReadFails merge stored w reader key (errors.ObjectStoreError Unavailable) = Unit {0}
ReadFails merge stored w reader key error = ⊥

-- The reader at a place is read, by a command's step that is answered so.
pub record IsReadAt (settings : Settings) (moment : ℤ) (key : List ℕ) (places : List ℕ) (place : ℕ) (readers : List Follower) (w : World) (reply : Reply) (w' : World) : Type 0 where
  pub n : ℕ
  pub named : slice_get places place ≡ Some n
  pub reader : Follower
  pub there : slice_get readers place ≡ Some reader
  pub link : Link settings w (command_at moment (actions.Get n key false)) reply w'

-- What a read answers by what is stored: a row is the plain read at the reader's number, which is the end of what is stored where it was
-- polled; that no reader is as new as asked comes only where the end is below that.
abbrev pub ReadEnds : (settings : Settings) (moment : ℤ) (key : List ℕ) (at_least : ℕ) (places : List ℕ) (stored : Line) → List Step → (readers : List Follower) → World → Result Routed RouteRefusal → World → Type 0
ReadEnds settings moment key at_least places stored steps readers w (Ok routed) w' =
    IsReadAt settings moment key places routed.follower readers w (found_reply routed.row) w'
    × (read_at settings.merge stored.batches (Some routed.number) key ≡ Ok routed.row)
    × (0 < routed.polls → routed.number ≡ end stored)
ReadEnds settings moment key at_least places stored steps readers w (Err (refusals.Read error)) w' =
    (place : ℕ) × (read : IsReadAt settings moment key places place readers w (refusal error) w') × ReadFails settings.merge stored w read.reader key error
ReadEnds settings moment key at_least places stored steps readers w (Err (refusals.Poll error)) w' = (first_error steps ≡ Some error) × (w' ≡ w)
ReadEnds settings moment key at_least places stored steps readers w (Err (refusals.Behind asked best)) w' = (first_error steps ≡ None) × (end stored < at_least) × (best ≡ end stored) × (w' ≡ w)
ReadEnds settings moment key at_least places stored steps readers w (Err refusal) w' = Unit {0}

-- What stands against no cover: a reader is open, the end of what is stored reaches what is asked for, each open reader may be polled
-- (`CanPoll`: an id for the next manifest is left), and the store didn't fail.
pub record CanCover (moment : ℤ) (at_least : ℕ) (places : List ℕ) (old : List Follower) (w w' : World) : Type 0 where
  pub some : list_any is_open old ≡ true
  pub reaches : at_least ≤ end w.stored
  pub polls : (i n : ℕ) (f : Follower) → slice_get places i ≡ Some n → IsFollowerAt w.objects n f → f.result ≡ None → CanPoll w moment f
  pub faults : HasRisen w.faults w'.faults → ⊥

-- and no read: the tables of the one that is read are stored, and the plain read of the key at its number gives an answer
pub record CanRead (settings : Settings) (moment : ℤ) (key : List ℕ) (at_least : ℕ) (places : List ℕ) (old new : List Follower) (w w' : World) : Type 0 where
  pub covers : CanCover moment at_least places old w w'
  pub tables : (i : ℕ) (f : Follower) → first_covering at_least new ≡ Some i → slice_get new i ≡ Some f → AreStored w'.catalogue f.view.manifest.tables
  pub found : (i : ℕ) (f : Follower) → first_covering at_least new ≡ Some i → slice_get new i ≡ Some f → (row : Option KeyValue) × (read_at settings.merge w.stored.batches (Some (number f)) key ≡ Ok row)

-- answered, or memory ran out
abbrev pub IsAnswered : {A : Type 0} → Result A RouteRefusal → Type 0
IsAnswered (Ok answer) = Unit {0}
IsAnswered (Err refusals.NoMemory) = Unit {0}
IsAnswered (Err refusal) = ⊥

-- A read of a router beside a world leads to another one: its polls, and then the read of one reader.
pub record ReadLeads (settings : Settings) (moment : ℤ) (key : List ℕ) (at_least : ℕ) (live : Live) (places : List ℕ) (w : World) (old new : List Follower) (result : Result Routed RouteRefusal) (store : Known (List Batch)) : Type 0 where
  pub passed : ℕ
  pub passes : Passes at_least old new passed result
  pub between : Known (List Batch)
  pub polled : PollsLead settings moment live places w old passed new between
  pub last : World
  pub over : RoutesOver polled.next store places new last
  pub stored : last.stored ≡ w.stored
  pub ends : ReadEnds settings moment key at_least places w.stored polled.steps new (last_world w polled.steps) result last
  pub completes : CanRead settings moment key at_least places old new w last → IsAnswered result

-- ---- an opening
abbrev pub opens_at : ℤ → (lifetime interval : ℕ) → Command
opens_at moment lifetime interval = command_at moment (actions.Follow ManagedCheckpoint (Some (lifetime, interval)) false None)

-- the places of a router's readers after that, where this is the next object's number
abbrev pub places_after : List ℕ → (n : ℕ) → Result Added RouteRefusal → List ℕ
places_after places n (Ok added) = places ++ n ∷ []
places_after places n (Err refusal) = places

-- The reader is opened by a command's step, and sees all that is stored; or the step answers why not; or, where the router is full or
-- has no room, nothing is done.
abbrev pub AddEnds : Settings → Command → (n : ℕ) → World → Result Added RouteRefusal → World → Type 0
AddEnds settings command n w (Ok added) w' = Link settings w command (replies.Follower n true added.at) w' × (added.at ≡ end w.stored)
AddEnds settings command n w (Err (refusals.Open error)) w' = Link settings w command (refusal error) w'
AddEnds settings command n w (Err refusals.NoMemory) w' = (w' ≡ w) ⊎ Link settings w command replies.NoMemory w'
AddEnds settings command n w (Err refusal) w' = w' ≡ w

-- objects are added, and those that are there stay
pub record Grows (live live' : Live) : Type 0 where
  pub options : live'.options ≡ live.options
  pub writes : live'.writes ≡ live.writes
  pub polls : live'.polls ≡ live.polls
  pub objects : (n : ℕ) (object : Object) → slice_get live.objects n ≡ Some object → slice_get live'.objects n ≡ Some object

pub record AddLeads (settings : Settings) (moment : ℤ) (lifetime interval : ℕ) (live : Live) (places : List ℕ) (w : World) (new : List Follower) (result : Result Added RouteRefusal) (store : Known (List Batch)) : Type 0 where
  pub next : Live
  pub grows : Grows live next
  pub last : World
  pub over : RoutesOver next store (places_after places (length live.objects) result) new last
  pub stored : last.stored ≡ w.stored
  pub ends : AddEnds settings (opens_at moment lifetime interval) (length live.objects) w result last
