-- What commands come to that a program does on a live state of its own, one after another.
use Rattle.std.specs.Prelude.{◌≡◌, ℕ, List, [], ◌∷◌, ◌++◌, map, Some}
use Rattle.std.specs.List.{All}
use Rattle.slate_types.specs.declared.batches.Batch.{Batch}
use Rattle.slate_store.specs.Content.{IsSound}
use Rattle.slate_store.specs.Objects.{Objects}
use Rattle.slate_model.specs.Known.{Known}
use Rattle.slate_script.specs.declared.commands.Command.{Command}
use Rattle.slate_script.specs.declared.replies.Reply.{Reply}
use Rattle.slate_live.specs.Represents.{AreInSegments, IsReached, Represents}
use Rattle.slate_live.specs.Run.{DoAll, LeadsTo, none_live}
use Rattle.slate_live.specs.Settings.{Settings}
use Rattle.slate_live.specs.State.{Live}
use Rattle.slate_live.specs.Stepping.{IsDone}
use Rattle.slate_live.specs.Steps.{Chain, Step, last_world}
use Rattle.slate_live.specs.Valid.{Link}
use Rattle.slate_live.specs.World.{World, start}

-- the step of a command with its reply, to this world
abbrev pub step_to : Command → Reply → World → Step
step_to command reply world = record { command = command; reply = reply; world = world }

-- Over a store that held these sound objects and had failed so often, these commands were done with these replies, from no object on:
-- by these steps, one link each, from the world of the start to one that the live state and the store represent.
pub record HaveLed (settings : Settings) (before : Objects) (faults : ℕ) (commands : List Command) (replies : List Reply) (steps : List Step) (live : Live) (store : Known (List Batch)) : Type 0 where
  pub was_sound : IsSound before
  pub commands_are : map (λ step. step.command) steps ≡ commands
  pub replies_are : map (λ step. step.reply) steps ≡ replies
  pub chain : Chain settings (start before faults) steps
  pub reached : All (λ step. IsReached step.world) steps
  pub represents : Represents live store (last_world (start before faults) steps)
  pub segments : AreInSegments settings.extractor (last_world (start before faults) steps)

-- no command was done
abbrev pub NoneHasLed : Type 0
NoneHasLed =
    (settings : Settings) (before : Objects) (store : Known (List Batch)) → store.objects ≡ Some before → IsSound before →
    HaveLed settings before store.faults [] [] [] (none_live settings.options) store

-- one more was done: it led from the last world to another
abbrev pub EachLeadsOn : Type 0
EachLeadsOn =
    (settings : Settings) (before : Objects) (faults : ℕ) (commands : List Command) (replies : List Reply) (steps : List Step) (live : Live) (store : Known (List Batch)) →
    HaveLed settings before faults commands replies steps live store →
    (command : Command) (reply : Reply) (w : World) (live' : Live) (store' : Known (List Batch)) →
    Link settings (last_world (start before faults) steps) command reply w → Represents live' store' w → AreInSegments settings.extractor w →
    HaveLed settings before faults (commands ++ command ∷ []) (replies ++ reply ∷ []) (steps ++ step_to command reply w ∷ []) live' store' × (last_world (start before faults) (steps ++ step_to command reply w ∷ []) ≡ w)

-- so they lead as the commands of a run do
abbrev pub TheyLead : Type 0
TheyLead =
    (settings : Settings) (before : Objects) (faults : ℕ) (commands : List Command) (replies : List Reply) (steps : List Step) (live : Live) (store : Known (List Batch)) →
    HaveLed settings before faults commands replies steps live store → (led : LeadsTo settings commands replies before faults store) × (led.steps ≡ steps)

-- over any store, one more is done after others
abbrev pub EachIsDone : Type 0
EachIsDone =
    (settings : Settings) (first live live' : Live) (before store store' : Known (List Batch)) (commands : List Command) (replies : List Reply) (command : Command) (reply : Reply) →
    DoAll settings first before commands replies live store → IsDone settings live store command reply live' store' →
    DoAll settings first before (commands ++ command ∷ []) (replies ++ reply ∷ []) live' store'
