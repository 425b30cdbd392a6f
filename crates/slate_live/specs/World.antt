-- The world: what a run over an honest store leads through.
use Rattle.std.specs.Prelude.{◌≡◌, ℕ, List, [], Option, Some}
use Rattle.slate_types.specs.Line.{Line}
use Rattle.slate_store.specs.Objects.{Objects}
use Rattle.slate_store.specs.Content.{content}
use Rattle.slate_model.specs.Begun.{Begun}
use Rattle.slate_model.specs.Catalogue.{Catalogue, Span, catalogue_of}
use Rattle.slate_model.specs.Flush.{grown}
use Rattle.slate_model.specs.Object.{Object, Handle}
use Rattle.slate_model.specs.Stores.{by_catalogue}
use Rattle.slate_script.specs.declared.commands.Action.{Action}
use Rattle.slate_script.specs.declared.commands.Command.{Command}
use Rattle.slate_script.specs.declared.replies.Reply.{Reply}
use Rattle.slate_live.specs.declared.states.Write.{Write}
use Rattle.slate_live.specs.Calls.{ArePolls, Call, Flush, Close, call_of, named, target_of}
use Rattle.slate_live.specs.Commands.{Does}
use Rattle.slate_live.specs.Settings.{Settings}
use Rattle.slate_live.specs.State.{State}

-- What commands change: the line that is stored, what is known of the store's objects, the objects, the begun polls, what a reader
-- was owed at the first step of its begun poll, and the accepted writes, by their numbers, and how often the store has failed.
pub record World : Type 0 where
  pub stored : Line
  pub catalogue : Catalogue
  pub objects : List Object
  pub polls : List (Option Begun)
  pub owed : ℕ → ℕ
  pub writes : List Write
  pub faults : ℕ

-- the world of a store before any command
abbrev pub start : Objects → ℕ → World
start objects faults =
    record {
      stored = content objects;
      catalogue = catalogue_of objects;
      objects = [];
      polls = [];
      owed = λ n. 0;
      writes = [];
      faults = faults;
    }

-- what a command may read and change of it
abbrev pub state_of : World → State Span
state_of w =
    record { objects = w.objects; writes = w.writes; store = record { objects = Some w.catalogue; faults = w.faults } }

-- the stored line after so many changes of a call: a flush and a close of a handle store its batches
abbrev pub grown_by : Call → ℕ → Line → Option Object → Line
grown_by (Flush flush_type) made stored (Some (Handle handle)) = grown made stored handle
grown_by (Close flush_type) made stored (Some (Handle handle)) = grown made stored handle
grown_by call made stored object = stored

abbrev pub stored_after : ℕ → World → Action → Line
stored_after made w action = grown_by (call_of action) made w.stored (named w.objects (target_of action))

-- From a world, a command that makes a call whole and is run with these settings may be answered so, and leave the other world.
pub record NextWhole (settings : Settings) (w : World) (command : Command) (reply : Reply) (w' : World) : Type 0 where
  pub made : ℕ  -- how many of its changes were made
  pub does : Does (by_catalogue w.stored w.catalogue) settings made (state_of w) command reply (state_of w')
  pub stored : w'.stored ≡ stored_after made w command.action
  pub polls : ArePolls command.action w.polls w'.polls
  pub owed : w'.owed ≡ w.owed
