-- Readers and begun polls beside a world stand from call to call.
use Rattle.std.specs.Prelude.{◌≡◌, ℕ, ℤ, List, Option, Some, None, is_some, Result, Ok, Err, false}
use Rattle.slate_types.specs.declared.batches.Batch.{Batch}
use Rattle.slate_store.specs.Objects.{Objects}
use Rattle.slate_errors.specs.declared.errors.SlateError.{SlateError}
use Rattle.slate_model.specs.Begun.{Begun, begun_at, no_step}
use Rattle.slate_model.specs.declared.answers.PollAnswer.{PollAnswer}
use Rattle.slate_model.specs.Follower.{Follower, is_managed, is_pinned, kept_follower, unsegmented}
use Rattle.slate_model.specs.Known.{Known}
use Rattle.slate_model.specs.Stores.{by_objects}
use Rattle.slate_follow.specs.Stepping.{Steps}
use Rattle.slate_script.specs.declared.commands.Command.{Command}
use Rattle.slate_script.specs.declared.replies.Reply.{Reply}
use Rattle.slate_live.specs.Commands.{Does}
use Rattle.slate_live.specs.Represents.{IsFollowerAt, RepresentsObjects}
use Rattle.slate_live.specs.Rising.{FollowerRises}
use Rattle.slate_live.specs.Settings.{Settings}
use Rattle.slate_live.specs.Standing.{PollStands, StandsBeside}
use Rattle.slate_live.specs.State.{Live, running}
use Rattle.slate_live.specs.World.{NextWhole, World}

-- what stands beside a world after a step that answered so: the begun poll while there is another call, and else the reader
abbrev pub StandsAfter : Objects → World → (reader : Follower) → Result (Option PollAnswer) SlateError → Follower → Begun → Type 0
StandsAfter objects w reader (Ok None) reader' begun' = PollStands objects w reader begun'
StandsAfter objects w reader (Ok (Some answer)) reader' begun' =
    (whole : Follower) × (unsegmented reader' ≡ kept_follower whole) × StandsBeside objects w whole × FollowerRises reader whole
StandsAfter objects w reader (Err error) reader' begun' = StandsBeside objects w reader

-- ---- what keeps them
-- A call of others is a step of the world, and each reader that stood beside it does, and each begun poll.
abbrev pub OthersLeaveThem : Type 0
OthersLeaveThem =
    (settings : Settings) (live live' : Live) (store store' : Known (List Batch)) (w : World) (command : Command) (made : ℕ) (reply : Reply) →
    RepresentsObjects live store w → Does (by_objects store.objects) settings made (running live store) command reply (running live' store') →
    (w' : World) × NextWhole settings w command reply w' × RepresentsObjects live' store' w'
    × ((o o' : Objects) → store.objects ≡ Some o → store'.objects ≡ Some o' →
    ((reader : Follower) → StandsBeside o w reader → StandsBeside o' w' reader)
    × ((reader : Follower) (begun : Begun) → PollStands o w reader begun → PollStands o' w' reader begun))

-- a reader of the world itself stands so, as beside another one
abbrev pub ReadersStand : Type 0
ReadersStand =
    (live : Live) (store : Known (List Batch)) (w : World) (o : Objects) (n : ℕ) (reader : Follower) →
    RepresentsObjects live store w → store.objects ≡ Some o → IsFollowerAt w.objects n reader → StandsBeside o w reader

-- an open one that stands beside a world may begin a poll
abbrev pub PollsBegin : Type 0
PollsBegin =
    (live : Live) (store : Known (List Batch)) (w : World) (o : Objects) (reader : Follower) (moment : ℤ) →
    RepresentsObjects live store w → store.objects ≡ Some o → StandsBeside o w reader → is_pinned reader.mode ≡ false → is_some reader.lease ≡ is_managed reader.mode →
    (kept_follower reader).line.floor ≡ reader.view.manifest.last_l0_seq →
    PollStands o w reader (begun_at moment 0 no_step (kept_follower reader))

-- A step of it leads to a world with the same line and the same objects, in which what it left stands.
abbrev pub StepsStand : Type 0
StepsStand =
    (live : Live) (store store' : Known (List Batch)) (w : World) (o o' : Objects) (reader reader' : Follower) (begun begun' : Begun) (result : Result (Option PollAnswer) SlateError) →
    RepresentsObjects live store w → store.objects ≡ Some o → store'.objects ≡ Some o' → reader.result ≡ None → is_pinned reader.mode ≡ false →
    PollStands o w reader begun → Steps (kept_follower reader) begun result o reader' begun' o' →
    (w' : World) × RepresentsObjects live store' w' × (w'.stored ≡ w.stored) × (w'.objects ≡ w.objects) × StandsAfter o' w' reader result reader' begun'
