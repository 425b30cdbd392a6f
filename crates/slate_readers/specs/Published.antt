-- What a run publishes of its first reader.
use Rattle.std.specs.Prelude.{◌≡◌, ℕ, Bool, true, List, Option, Some, None}
use Rattle.std.specs.Option.{option_map_or}
use Rattle.slate_types.specs.declared.batches.Batch.{Batch}
use Rattle.slate_store.specs.Content.{IsSound}
use Rattle.slate_store.specs.Objects.{Objects}
use Rattle.slate_published.specs.Published.{Published}
use Rattle.slate_published.specs.States.{last_of}
use Rattle.slate_model.specs.Follower.{number}
use Rattle.slate_model.specs.Known.{Known}
use Rattle.slate_script.specs.declared.commands.Command.{Command}
use Rattle.slate_script.specs.declared.replies.Reply.{Reply}
use Rattle.slate_live.specs.Run.{DidAll, LeadsTo}
use Rattle.slate_live.specs.Settings.{Settings}
use Rattle.slate_live.specs.World.{World}
use Rattle.slate_readers.specs.Aired.{Aired}
use Rattle.slate_readers.specs.Changes.{AreChanges, first_reader, states_along}

-- the number of the first reader of a world; 0 before one is opened
abbrev pub first_number : World → ℕ
first_number w = option_map_or number (first_reader w.objects) 0

-- The commands led from these objects as those of a run do, and what was published is what the first reader saw after each command,
-- where that wasn't what it saw before: the first state after its opening, and one after each later command that changed it.
pub record LeadsPublished (settings : Settings) (commands : List Command) (replies : List Reply) (before : Objects) (faults : ℕ) (store : Known (List Batch)) (whole : Bool) (states : List Published) : Type 0 where
  pub led : LeadsTo settings commands replies before faults store
  pub published : whole ≡ true → AreChanges None (states_along led.steps) states
  pub number : whole ≡ true → (last_of states).number ≡ first_number led.last

-- What a run with these replies did to a store, and what it published: over an honest store, where no publication found too little
-- memory, what its first reader saw.
pub record IsPublishedRun (settings : Settings) (commands : List Command) (replies : List Reply) (store store' : Known (List Batch)) (whole : Bool) (states : List Published) : Type 0 where
  pub honest : (before : Objects) → store.objects ≡ Some before → IsSound before → LeadsPublished settings commands replies before store.faults store' whole states

-- the commands were done so, over any store, and over an honest one this was aired
pub record Airs (settings : Settings) (commands : List Command) (replies : List Reply) (store store' : Known (List Batch)) (aired : Aired) : Type 0 where
  pub done : DidAll settings commands replies store store'
  pub run : IsPublishedRun settings commands replies store store' aired.whole aired.list.states
