-- What a run of commands does to a store, and to the world that it holds.
use Rattle.std.specs.Prelude.{◌≡◌, ℕ, List, [], ◌∷◌, map, Some}
use Rattle.std.specs.List.{All}
use Rattle.slate_store.specs.Objects.{Objects}
use Rattle.slate_types.specs.declared.batches.Batch.{Batch}
use Rattle.slate_types.specs.Line.{IsPrefix}
use Rattle.slate_store.specs.Content.{IsSound, content}
use Rattle.slate_model.specs.Known.{Known}
use Rattle.slate_script.specs.declared.commands.Command.{Command}
use Rattle.slate_script.specs.declared.options.Options.{Options}
use Rattle.slate_script.specs.declared.replies.Reply.{Reply}
use Rattle.slate_live.specs.Closings.{ListTasks, RepeatErrors}
use Rattle.slate_live.specs.State.{Live}
use Rattle.slate_live.specs.Stepping.{IsDone}
use Rattle.slate_live.specs.Steps.{Chain, PollsSee, StayConfirmed, Step, last_world}
use Rattle.slate_live.specs.Represents.{Holds, IsReached}
use Rattle.slate_live.specs.Settings.{Settings}
use Rattle.slate_live.specs.Leases.{LeasesHold}
use Rattle.slate_live.specs.Snapshots.{SnapshotsStay}
use Rattle.slate_live.specs.Statuses.{PollsFit, StatusesName}
use Rattle.slate_live.specs.Trackers.{TrackersStay}
use Rattle.slate_live.specs.World.{World, start}

-- Over any store: the commands are done one after another, each with its reply, from live objects to others.
abbrev pub DoAll : Settings → Live → Known (List Batch) → List Command → List Reply → Live → Known (List Batch) → Type 0
DoAll settings live store [] [] last store' = (last ≡ live) × (store' ≡ store)
DoAll settings live store (command ∷ commands) (reply ∷ replies) last store' =
    (next : Live) × (between : Known (List Batch)) × IsDone settings live store command reply next between × DoAll settings next between commands replies last store'
DoAll settings live store commands replies last store' = ⊥

-- no object is live yet
abbrev pub none_live : Options → Live
none_live options = record { options = options; objects = []; polls = []; writes = [] }

-- They are done so on this store, which is as this one then, from no object on.
abbrev pub DidAll : Settings → List Command → List Reply → Known (List Batch) → Known (List Batch) → Type 0
DidAll settings commands replies store store' = (last : Live) × DoAll settings (none_live settings.options) store commands replies last store'

-- The commands lead from the world of these objects, by one step each with its reply and each to a valid world, to one that the store
-- holds afterwards. What was stored before is stored afterwards, a write that is reported durable is confirmed for good, what is stored
-- when a poll is begun by single calls is seen at its end, what a snapshot gives stays, the first close of a handle or a reader lists the
-- tasks that its opening registered, a close of a reader that an error closed answers that, a handle that is opened has the tracker of the
-- one that flushed to a table before, a status names the segments above the view, a reader that is polled by whole calls keeps its
-- checkpoint while sweeps come in time, and no poll finds a key without a segment.
pub record LeadsTo (settings : Settings) (commands : List Command) (replies : List Reply) (before : Objects) (faults : ℕ) (store : Known (List Batch)) : Type 0 where
  pub steps : List Step
  pub commands_are : map (λ step. step.command) steps ≡ commands
  pub replies_are : map (λ step. step.reply) steps ≡ replies
  pub chain : Chain settings (start before faults) steps
  pub reached : All (λ step. IsReached step.world) steps
  pub last : World
  pub is_last : last ≡ last_world (start before faults) steps
  pub grows : IsPrefix (content before) last.stored
  pub confirmed : StayConfirmed steps
  pub seen : PollsSee steps
  pub snapshots : SnapshotsStay steps
  pub closings : ListTasks settings.options steps
  pub repeated : RepeatErrors steps
  pub trackers : TrackersStay (start before faults) steps
  pub statuses : StatusesName settings.extractor steps
  pub leases : LeasesHold steps
  pub polls : PollsFit steps
  pub after : Objects
  pub modelled : store.objects ≡ Some after
  pub sound : IsSound after
  pub holds : Holds after last
  pub fault_count : store.faults ≡ last.faults

-- what a run of commands with these replies did to a store: over an honest one, the commands lead to what it holds
abbrev pub IsRun : Settings → List Command → List Reply → Known (List Batch) → Known (List Batch) → Type 0
IsRun settings commands replies store store' =
    (before : Objects) → store.objects ≡ Some before → IsSound before → LeadsTo settings commands replies before store.faults store'
