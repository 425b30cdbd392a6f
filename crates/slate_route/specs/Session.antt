-- What a session with a router does.
use Rattle.std.specs.Prelude.{◌≡◌, ◌⊎◌, ℕ, ℤ, true, List, [], ◌∷◌, length, map, take, slice_get, Option, Some, None, Result, Ok, Err}
use Rattle.slate_types.specs.declared.batches.Batch.{Batch}
use Rattle.slate_types.specs.declared.options.FlushType.TheVariants.{Wal}
use Rattle.slate_store.specs.Content.{IsSound}
use Rattle.slate_store.specs.Objects.{Objects}
use Rattle.slate_model.specs.Follower.{Follower}
use Rattle.slate_model.specs.Handle.{Handle}
use Rattle.slate_model.specs.Known.{Known}
use Rattle.slate_model.specs.Object.{Handle as AHandle, kept}
use Rattle.slate_script.specs.declared.commands.Action.TheVariants as actions
use Rattle.slate_script.specs.declared.commands.Command.{Command}
use Rattle.slate_script.specs.declared.replies.Reply.{Reply}
use Rattle.slate_script.specs.declared.replies.Reply.TheVariants as replies
use Rattle.slate_script.specs.Options.{nothing_given, run_options}
use Rattle.slate_live.specs.Session.{settings_of}
use Rattle.slate_live.specs.Settings.{Settings}
use Rattle.slate_live.specs.State.{Live}
use Rattle.slate_live.specs.Steps.{Chain, Step, last_world}
use Rattle.slate_live.specs.Valid.{Link}
use Rattle.slate_live.specs.World.{World, start}
use Rattle.slate_live.specs.Worlds.{Holds, IsReached}
use Rattle.slate_route.specs.declared.answers.Added.{Added}
use Rattle.slate_route.specs.declared.answers.RouteRefusal.{RouteRefusal}
use Rattle.slate_route.specs.declared.answers.Routed.{Routed}
use Rattle.slate_route.specs.declared.commands.RouteAction.{RouteAction}
use Rattle.slate_route.specs.declared.commands.RouteAction.TheVariants as asked
use Rattle.slate_route.specs.declared.commands.RouteAnswer.{RouteAnswer}
use Rattle.slate_route.specs.declared.commands.RouteAnswer.TheVariants as answers
use Rattle.slate_route.specs.declared.commands.RouteCommand.{RouteCommand}
use Rattle.slate_route.specs.Reading.{AddsReader, Answers, Passes}
use Rattle.slate_route.specs.Standing.{AddEnds, AreAt, CanRead, IsAnswered, PollEach, ReadEnds, RoutesOver, command_at, opens_at, places_after}
use Rattle.slate_route.specs.Texts.{answers_text}

-- what commands are run with: no operator, no extractor, and the options where no word says one
abbrev pub route_settings : Settings
route_settings = settings_of (run_options nothing_given)

-- the command that opens the handle, and those of its puts and flushes
abbrev pub opening : Command
opening = command_at (ℤ.pos 0) (actions.Open true)

abbrev pub put_command : ℤ → Option ℤ → (key value : List ℕ) → Command
put_command moment second key value = record { moment = moment; second = second; action = actions.Put 0 key value None }

abbrev pub flush_command : ℤ → Option ℤ → Command
flush_command moment second = record { moment = moment; second = second; action = actions.Flush 0 (Some Wal) }

-- a world, the router's readers, and which of its objects they are
pub record Route : Type 0 where
  pub world : World
  pub places : List ℕ
  pub readers : List Follower

-- a command of the handle: the readers stay
pub record Runs (command : Command) (reply : Reply) (a b : Route) : Type 0 where
  pub link : Link route_settings a.world command reply b.world
  pub places : b.places ≡ a.places
  pub readers : b.readers ≡ a.readers

-- an opening of a reader
pub record AddsTo (moment : ℤ) (lifetime interval : ℕ) (result : Result Added RouteRefusal) (a b : Route) : Type 0 where
  pub adds : AddsReader a.readers b.readers a.world.faults b.world.faults result
  pub ends : AddEnds route_settings (opens_at moment lifetime interval) (length a.world.objects) a.world result b.world
  pub places : b.places ≡ places_after a.places (length a.world.objects) result
  pub stored : b.world.stored ≡ a.world.stored

-- and a read
pub record ReadsTo (moment : ℤ) (at_least : ℕ) (key : List ℕ) (result : Result Routed RouteRefusal) (a b : Route) : Type 0 where
  pub steps : List Step
  pub chain : Chain route_settings a.world steps
  pub passed : ℕ
  pub passes : Passes at_least a.readers b.readers passed result
  pub polls : PollEach moment a.places (take passed a.readers) steps
  pub answers : Answers at_least a.readers b.readers a.world.faults b.world.faults result
  pub ends : ReadEnds route_settings moment key at_least a.places a.world.stored steps b.readers (last_world a.world steps) result b.world
  pub completes : CanRead route_settings moment key at_least a.places a.readers b.readers a.world b.world → IsAnswered result
  pub places : b.places ≡ a.places
  pub stored : b.world.stored ≡ a.world.stored

-- What an action with these moments may be answered, and what it leads to.
abbrev pub RouteLinks : RouteAction → ℤ → Option ℤ → RouteAnswer → Route → Route → Type 0
RouteLinks (asked.Put key value) moment second (answers.Replied reply) a b = Runs (put_command moment second key value) reply a b
RouteLinks asked.Flush moment second (answers.Replied reply) a b = Runs (flush_command moment second) reply a b
RouteLinks (asked.Add lifetime interval) moment second (answers.Added added) a b = AddsTo moment lifetime interval (Ok added) a b
RouteLinks (asked.Add lifetime interval) moment second (answers.Refused refusal) a b = AddsTo moment lifetime interval (Err refusal) a b
RouteLinks (asked.Read at_least key) moment second (answers.Routed routed) a b = ReadsTo moment at_least key (Ok routed) a b
RouteLinks (asked.Read at_least key) moment second (answers.Refused refusal) a b = ReadsTo moment at_least key (Err refusal) a b
RouteLinks action moment second answer a b = ⊥

abbrev pub RouteLink : RouteCommand → RouteAnswer → Route → Route → Type 0
RouteLink command answer a b = RouteLinks command.action command.moment command.second answer a b

-- the world is valid, and the readers are objects of it
pub record IsReachedRoute (a : Route) : Type 0 where
  pub reached : IsReached a.world
  pub readers : AreAt (map kept a.world.objects) a.places a.readers

-- a command, its answer, and what is so after it
pub record RouteStep : Type 0 where
  pub command : RouteCommand
  pub answer : RouteAnswer
  pub route : Route

-- steps, one link each
abbrev pub RouteChain : Route → List RouteStep → Type 0
RouteChain route [] = Unit {0}
RouteChain route (step ∷ steps) = RouteLink step.command step.answer route step.route × IsReachedRoute step.route × RouteChain step.route steps

abbrev pub last_route : Route → List RouteStep → Route
last_route route [] = route
last_route route (step ∷ steps) = last_route step.route steps

-- a world without a router's reader
abbrev pub none_routed : World → Route
none_routed w = record { world = w; places = []; readers = [] }

-- a store holds a world
pub record HoldsWorld (store : Known (List Batch)) (w : World) : Type 0 where
  pub after : Objects
  pub modelled : store.objects ≡ Some after
  pub sound : IsSound after
  pub holds : Holds after w
  pub fault_count : store.faults ≡ w.faults

-- The commands lead on from there, by one step each with its answer, to a world that the store holds afterwards.
pub record RoutesOn (commands : List RouteCommand) (routed : List RouteAnswer) (first : Route) (store : Known (List Batch)) : Type 0 where
  pub steps : List RouteStep
  pub commands_are : map (λ step. step.command) steps ≡ commands
  pub answers_are : map (λ step. step.answer) steps ≡ routed
  pub chain : RouteChain first steps
  pub left : HoldsWorld store (last_route first steps).world

-- The handle is opened, and the commands are run.
pub record RoutesAll (commands : List RouteCommand) (routed : List RouteAnswer) (before : Objects) (faults : ℕ) (store : Known (List Batch)) : Type 0 where
  pub first : World
  pub opens : Link route_settings (start before faults) opening (replies.Handle 0) first
  pub runs : RoutesOn commands routed (none_routed first) store

-- a reply that isn't a handle
abbrev pub IsNoHandle : Reply → Type 0
IsNoHandle reply = (object : ℕ) → reply ≡ replies.Handle object → ⊥

-- It isn't opened, which is the one answer.
pub record OpensNone (routed : List RouteAnswer) (before : Objects) (faults : ℕ) (store : Known (List Batch)) : Type 0 where
  pub reply : Reply
  pub answers_are : routed ≡ answers.Replied reply ∷ []
  pub refused : IsNoHandle reply
  pub last : World
  pub opens : Link route_settings (start before faults) opening reply last
  pub left : HoldsWorld store last

-- Over any store there is one answer to each command, or the one by which the opening is refused; over an honest one they lead through worlds.
pub record RunsAnswers (commands : List RouteCommand) (routed : List RouteAnswer) (before after : Known (List Batch)) : Type 0 where
  pub each : (length routed ≡ length commands) ⊎ ((reply : Reply) × (routed ≡ answers.Replied reply ∷ []) × IsNoHandle reply)
  pub honest : (objects : Objects) → before.objects ≡ Some objects → IsSound objects → RoutesAll commands routed objects before.faults after ⊎ OpensNone routed objects before.faults after

-- and the text is that of the answers
abbrev pub RunsRoutes : List RouteCommand → (text : List ℕ) → Known (List Batch) → Known (List Batch) → Type 0
RunsRoutes commands text before after = (routed : List RouteAnswer) × (text ≡ answers_text routed) × RunsAnswers commands routed before after

-- ---- between two lines
-- A session's live state, its router and the store stand for a route: the handle is object 0 of the world, and the readers are others.
pub record StandFor (live : Live) (store : Known (List Batch)) (readers : List Follower) (route : Route) : Type 0 where
  pub joined : Live
  pub over : RoutesOver joined store route.places route.readers route.world
  pub same : readers ≡ route.readers
  pub options : joined.options ≡ route_settings.options
  pub writes : joined.writes ≡ live.writes
  pub handle : Handle
  pub there : slice_get live.objects 0 ≡ Some (AHandle handle)
  pub joined_there : slice_get joined.objects 0 ≡ Some (AHandle handle)
  pub apart : (i : ℕ) → slice_get route.places i ≡ Some 0 → ⊥

-- and a command leads them, with its answer, to others
abbrev pub Leads : RouteCommand → RouteAnswer → Live → Known (List Batch) → List Follower → Live → Known (List Batch) → List Follower → Type 0
Leads command answer live store readers live' store' readers' =
    (route : Route) → StandFor live store readers route → (route' : Route) × RouteLink command answer route route' × StandFor live' store' readers' route'
