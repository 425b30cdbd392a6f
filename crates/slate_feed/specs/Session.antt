-- What a session with feeds does.
use Rattle.std.specs.Prelude.{◌≡◌, ◌==◌, ◌+◌, ◌≤◌, ℕ, if◌then◌else◌, List, [], ◌∷◌, ◌++◌, length, map, slice_get, slice_set, Option, Some, None, Result, Ok, Err}
use Rattle.slate_types.specs.Counts.{HasRisen}
use Rattle.slate_types.specs.Line.{AreNumberedFrom, Line}
use Rattle.slate_types.specs.declared.batches.Batch.{Batch}
use Rattle.slate_store.specs.Content.{IsSound}
use Rattle.slate_store.specs.Objects.{Objects}
use Rattle.slate_model.specs.Known.{Known}
use Rattle.slate_script.specs.Options.{nothing_given, run_options}
use Rattle.slate_live.specs.Represents.{AllInSegments, Represents}
use Rattle.slate_live.specs.Session.{settings_of}
use Rattle.slate_live.specs.Settings.{Settings}
use Rattle.slate_live.specs.State.{Live}
use Rattle.slate_live.specs.Valid.{Link}
use Rattle.slate_live.specs.World.{World, start}
use Rattle.slate_live.specs.Worlds.{Holds, IsReached}
use Rattle.slate_feed.specs.declared.commands.FeedAnswer.{FeedAnswer}
use Rattle.slate_feed.specs.declared.commands.FeedAnswer.TheVariants.{Replied, Opened, Delivered, Refused, Unknown}
use Rattle.slate_feed.specs.declared.commands.FeedCommand.{FeedCommand}
use Rattle.slate_feed.specs.declared.commands.FeedCommand.TheVariants.{Run, Open, Next}
use Rattle.slate_feed.specs.declared.refusals.FeedRefusal.{FeedRefusal}
use Rattle.slate_feed.specs.declared.refusals.FeedRefusal.TheVariants as refusals
use Rattle.slate_feed.specs.Answer.{Delivers, OpensWithin}
use Rattle.slate_feed.specs.Delivered.{AreDeliveries, Delivery}
use Rattle.slate_feed.specs.Texts.{answers_text}

-- what the commands that aren't a feed's are run with: no operator, no extractor, and the options where no word says one
abbrev pub feed_settings : Settings
feed_settings = settings_of (run_options nothing_given)

-- a world, and the cursors of the feeds by their numbers
pub record Fed : Type 0 where
  pub world : World
  pub cursors : List ℕ

-- a world is as another but for how often the store has failed, which only rises
pub record Rests (w w' : World) : Type 0 where
  pub same : w' ≡ record w { faults = w'.faults }
  pub faults : w.faults ≤ w'.faults

-- a refusal by a failure comes where the store has failed
abbrev pub HasFailed : FeedRefusal → (faults faults' : ℕ) → Type 0
HasFailed refusals.ObjectStoreError faults faults' = HasRisen faults faults'
HasFailed refusal faults faults' = Unit {0}

-- what an opening of a feed answers over sound objects, and the feeds' cursors then
abbrev pub OpensBy : Objects → (after : ℕ) → FeedAnswer → (faults faults' : ℕ) → (cursors cursors' : List ℕ) → Type 0
OpensBy objects after (Opened feed at) faults faults' cursors cursors' =
    OpensWithin objects after (Ok at) × (feed ≡ length cursors) × (cursors' ≡ cursors ++ at ∷ [])
OpensBy objects after (Refused refusal) faults faults' cursors cursors' =
    OpensWithin objects after (Err refusal) × HasFailed refusal faults faults' × (cursors' ≡ cursors)
OpensBy objects after answer faults faults' cursors cursors' = ⊥

-- and a call of the feed with a number and a cursor
abbrev pub CallsBy : Objects → (feed limit cursor : ℕ) → FeedAnswer → (faults faults' : ℕ) → (cursors cursors' : List ℕ) → Type 0
CallsBy objects feed limit cursor (Delivered at batches) faults faults' cursors cursors' =
    Delivers objects cursor limit (Ok batches) × AreNumberedFrom cursor batches × (at ≡ cursor + length batches) × (cursors' ≡ slice_set cursors feed at)
CallsBy objects feed limit cursor (Refused refusal) faults faults' cursors cursors' =
    Delivers objects cursor limit (Err refusal) × HasFailed refusal faults faults' × (cursors' ≡ cursors)
CallsBy objects feed limit cursor answer faults faults' cursors cursors' = ⊥

-- where there is one
abbrev pub AsksBy : Objects → (feed limit : ℕ) → Option ℕ → FeedAnswer → (faults faults' : ℕ) → (cursors cursors' : List ℕ) → Type 0
AsksBy objects feed limit (Some cursor) answer faults faults' cursors cursors' = CallsBy objects feed limit cursor answer faults faults' cursors cursors'
AsksBy objects feed limit None answer faults faults' cursors cursors' = (answer ≡ Unknown) × (faults' ≡ faults) × (cursors' ≡ cursors)

-- a feed's call leaves a world as it is, and means what `Means` says over sound objects that the world holds
pub record AsksStore (Means : Objects → Type 0) (w w' : World) : Type 0 where
  pub rests : Rests w w'
  pub objects : Objects
  pub sound : IsSound objects
  pub holds : Holds objects w
  pub means : Means objects

-- From a world and cursors, a command may be answered so, and leave the others.
abbrev pub FeedLink : FeedCommand → FeedAnswer → Fed → Fed → Type 0
FeedLink (Run command) (Replied reply) a b = Link feed_settings a.world command reply b.world × (b.cursors ≡ a.cursors)
FeedLink (Open after) answer a b =
    AsksStore (λ objects. OpensBy objects after answer a.world.faults b.world.faults a.cursors b.cursors) a.world b.world
FeedLink (Next feed limit) answer a b =
    AsksStore (λ objects. AsksBy objects feed limit (slice_get a.cursors feed) answer a.world.faults b.world.faults a.cursors b.cursors) a.world b.world
FeedLink command answer a b = ⊥

-- live objects, a store and the cursors of feeds stand for a world and its cursors
pub record StandFor (live : Live) (store : Known (List Batch)) (cursors : List ℕ) (fed : Fed) : Type 0 where
  pub represents : Represents live store fed.world
  pub segments : AllInSegments feed_settings.extractor fed.world
  pub same : cursors ≡ fed.cursors

-- and a command leads them, with its answer, to others
abbrev pub Leads : FeedCommand → FeedAnswer → Live → Known (List Batch) → List ℕ → Live → Known (List Batch) → List ℕ → Type 0
Leads command answer live store cursors live' store' cursors' =
    (fed : Fed) → StandFor live store cursors fed → (fed' : Fed) × FeedLink command answer fed fed' × StandFor live' store' cursors' fed'

-- a command, its answer, and what is so after it
pub record FeedStep : Type 0 where
  pub command : FeedCommand
  pub answer : FeedAnswer
  pub fed : Fed

-- steps, one link each
abbrev pub FeedChain : Fed → List FeedStep → Type 0
FeedChain fed [] = Unit {0}
FeedChain fed (step ∷ steps) = FeedLink step.command step.answer fed step.fed × IsReached step.fed.world × FeedChain step.fed steps

abbrev pub last_fed : Fed → List FeedStep → Fed
last_fed fed [] = fed
last_fed fed (step ∷ steps) = last_fed step.fed steps

-- the batches that the feed with a number was handed by an answer
abbrev pub given_by : (feed : ℕ) → FeedCommand → FeedAnswer → List Batch
given_by feed (Next number limit) (Delivered at batches) = if number == feed then batches else []
given_by feed command answer = []

-- each step as a call of that feed: the line that is stored then, and what the feed delivered by it
abbrev pub deliveries_of : (feed : ℕ) → List FeedStep → List Delivery
deliveries_of feed steps = map (λ step. record { line = step.fed.world.stored; batches = given_by feed step.command step.answer }) steps

-- after a feed was opened, what it delivers is what is stored above that number, each batch once, while the stored line only grows
abbrev pub DeliversFrom : FeedAnswer → Line → List FeedStep → Type 0
DeliversFrom (Opened feed after) stored steps = AreDeliveries after stored (deliveries_of feed steps)
DeliversFrom answer stored steps = Unit {0}

abbrev pub FeedsDeliver : List FeedStep → Type 0
FeedsDeliver [] = Unit {0}
FeedsDeliver (step ∷ steps) = DeliversFrom step.answer step.fed.world.stored steps × FeedsDeliver steps

-- no feed yet, in the world of these objects
abbrev pub start_fed : Objects → ℕ → Fed
start_fed objects faults = record { world = start objects faults; cursors = [] }

-- The commands lead from the world of these objects, by one step each with its answer, to one that the store holds afterwards; and each
-- feed delivers the line that is stored.
pub record FeedsOver (commands : List FeedCommand) (answers : List FeedAnswer) (before : Objects) (faults : ℕ) (store : Known (List Batch)) : Type 0 where
  pub steps : List FeedStep
  pub commands_are : map (λ step. step.command) steps ≡ commands
  pub answers_are : map (λ step. step.answer) steps ≡ answers
  pub chain : FeedChain (start_fed before faults) steps
  pub delivers : FeedsDeliver steps
  pub last : Fed
  pub is_last : last ≡ last_fed (start_fed before faults) steps
  pub after : Objects
  pub modelled : store.objects ≡ Some after
  pub sound : IsSound after
  pub holds : Holds after last.world
  pub fault_count : store.faults ≡ last.world.faults

-- over any store there is one answer to each command; over an honest one they lead through worlds
pub record RunsFeeds (commands : List FeedCommand) (text : List ℕ) (before after : Known (List Batch)) : Type 0 where
  pub answers : List FeedAnswer
  pub text_is : text ≡ answers_text answers
  pub each : length answers ≡ length commands
  pub honest : (objects : Objects) → before.objects ≡ Some objects → IsSound objects → FeedsOver commands answers objects before.faults after
