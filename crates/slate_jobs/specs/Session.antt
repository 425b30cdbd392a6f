-- What a session over a job store does.
use Rattle.std.specs.Prelude.{◌≡◌, ◌≤◌, ◌⊎◌, ℕ, ℤ, List, [], ◌∷◌, Option, Some, None, Result, Ok, Err, IfErr, IsSome}
use Rattle.slate_types.specs.declared.batches.Batch.{Batch}
use Rattle.slate_store.specs.Calls.{HasRisen}
use Rattle.slate_store.specs.Content.{IsSound}
use Rattle.slate_store.specs.Objects.{Objects}
use Rattle.slate_model.specs.Known.{Known}
use Rattle.slate_jobs.specs.declared.commands.JobAction.{JobAction}
use Rattle.slate_jobs.specs.declared.commands.JobAction.TheVariants.{Ask, Reopen}
use Rattle.slate_jobs.specs.declared.commands.JobAnswer.{JobAnswer}
use Rattle.slate_jobs.specs.declared.commands.JobAnswer.TheVariants.{Replied, Reopened, Refused}
use Rattle.slate_jobs.specs.declared.commands.JobCommand.{JobCommand}
use Rattle.slate_jobs.specs.declared.jobs.JobRefusal.{JobRefusal}
use Rattle.slate_jobs.specs.Causes.{IsCallRefusal, IsReady, OpensFor}
use Rattle.slate_jobs.specs.Histories.{AreEvents, Event, Standing, IsEvent, Asked, Reopened as Opened, Unopened}
use Rattle.slate_jobs.specs.Queue.{IsHeld, Opens, Queue}
use Rattle.slate_jobs.specs.Texts.{answers_text}

-- the event of a command and its answer, where they fit
abbrev pub event_by : JobAction → (moment : ℤ) → JobAnswer → Option Event
event_by (Ask request op) moment (Replied reply) = Some (Asked request op moment (Ok reply))
event_by (Ask request op) moment (Refused refusal) = Some (Asked request op moment (Err refusal))
event_by Reopen moment Reopened = Some Opened
event_by Reopen moment (Refused refusal) = Some (Unopened refusal)
event_by action moment answer = None

abbrev pub event_of : JobCommand → JobAnswer → Option Event
event_of command answer = event_by command.action command.moment answer

-- the events of commands and their answers, one of each
abbrev pub AreOf : List JobCommand → List JobAnswer → List Event → Type 0
AreOf [] [] [] = Unit {0}
AreOf (command ∷ commands) (answer ∷ answers) (event ∷ events) = (event_of command answer ≡ Some event) × AreOf commands answers events
AreOf commands answers events = ⊥

-- what an honest store holds, how often it has failed, and a job store that writes to it
pub record Running : Type 0 where
  pub objects : Objects
  pub faults : ℕ
  pub queue : Queue

abbrev pub running : Objects → ℕ → Queue → Running
running objects faults queue = record { objects = objects; faults = faults; queue = queue }

abbrev pub standing : Running → Standing
standing running = record { objects = running.objects; queue = running.queue }

-- a refusal has a cause; of a job store that was ended it is the error that ended it
abbrev pub HasCause : Event → Running → Running → Type 0
HasCause (Asked request op moment result) a b =
    a.queue.failure ≡ None → IfErr result (IsCallRefusal (HasRisen a.faults b.faults) a.objects a.queue op moment)
HasCause Opened a b = OpensFor (HasRisen a.faults b.faults) a.objects (let r : Result Queue JobRefusal = Ok b.queue in r)
HasCause (Unopened refusal) a b = OpensFor (HasRisen a.faults b.faults) a.objects (let r : Result Queue JobRefusal = Err refusal in r)

-- an event that happens for its cause
pub record Happens (event : Event) (a b : Running) : Type 0 where
  pub is : IsEvent event (standing a) (standing b)
  pub cause : HasCause event a b
  pub faults : a.faults ≤ b.faults

-- events, one after the other
abbrev pub AreRun : List Event → Running → Running → Type 0
AreRun [] a b = b ≡ a
AreRun (event ∷ events) a b = (mid : Running) × Happens event a mid × AreRun events mid b

-- an honest store holds the job store, or that was ended
pub record IsAlive (a : Running) : Type 0 where
  pub sound : IsSound a.objects
  pub held : IsHeld a.objects a.queue ⊎ IsSome a.queue.failure
  pub ready : a.queue.failure ≡ None → IsReady a.queue

-- a command and its answer are an event
pub record RunsTo (command : JobCommand) (answer : JobAnswer) (a b : Running) : Type 0 where
  pub event : Event
  pub is_event : event_of command answer ≡ Some event
  pub happens : Happens event a b
  pub alive : IsAlive b

-- Commands with these answers are events, from a store and a job store that stand so to what is known of them then.
pub record RunsOn (commands : List JobCommand) (answers : List JobAnswer) (first : Running) (after : Known (List Batch)) : Type 0 where
  pub events : List Event
  pub are_of : AreOf commands answers events
  pub last : Running
  pub run : AreRun events first last
  pub modelled : after.objects ≡ Some last.objects
  pub sound : IsSound last.objects
  pub fault_count : after.faults ≡ last.faults

-- The job store is opened, and the commands are run, with these answers.
pub record RunsAll (commands : List JobCommand) (answers : List JobAnswer) (objects : Objects) (faults : ℕ) (after : Known (List Batch)) : Type 0 where
  pub first : Running
  pub opens : Opens objects first.objects (Ok first.queue)
  pub fits : OpensFor (HasRisen faults first.faults) objects (let r : Result Queue JobRefusal = Ok first.queue in r)
  pub ready : IsReady first.queue
  pub run : RunsOn commands answers first after

-- It isn't opened, which is the one answer.
pub record OpensNone (answers : List JobAnswer) (objects : Objects) (faults : ℕ) (after : Known (List Batch)) : Type 0 where
  pub refusal : JobRefusal
  pub answers_are : answers ≡ Refused refusal ∷ []
  pub left : Objects
  pub modelled : after.objects ≡ Some left
  pub opens : Opens objects left (let r : Result Queue JobRefusal = Err refusal in r)
  pub cause : OpensFor (HasRisen faults after.faults) objects (let r : Result Queue JobRefusal = Err refusal in r)

-- Over any store there is an answer of its own to each command, or the one to the opening; over an honest one the job store is
-- opened and the commands are run, or it isn't opened.
pub record Answers (commands : List JobCommand) (answers : List JobAnswer) (before after : Known (List Batch)) : Type 0 where
  pub each : ((events : List Event) × AreOf commands answers events) ⊎ ((refusal : JobRefusal) × (answers ≡ Refused refusal ∷ []))
  pub honest : (objects : Objects) → before.objects ≡ Some objects → IsSound objects →
      RunsAll commands answers objects before.faults after ⊎ OpensNone answers objects before.faults after

-- the commands are run, and the text is that of the answers
abbrev pub RunsJobs : List JobCommand → (text : List ℕ) → Known (List Batch) → Known (List Batch) → Type 0
RunsJobs commands text before after = (answers : List JobAnswer) × (text ≡ answers_text answers) × Answers commands answers before after

-- the events of a session are events of its store and its job store: what holds of such lists holds of sessions
abbrev pub RunsAreEvents : Type 0
RunsAreEvents = (events : List Event) (a b : Running) → AreRun events a b → AreEvents events (standing a) (standing b)
