-- The tasks that closes end, and the errors that they answer again.
use Rattle.std.specs.Prelude.{◌≡◌, ◌++◌, ◌==◌, if◌then◌else◌, ℕ, Bool, true, false, List, [], ◌∷◌, Option, Some, Err}
use Rattle.std.specs.List.{list_any}
use Rattle.slate_errors.specs.Errors.{error_of_fault}
use Rattle.slate_errors.specs.declared.closing.CloseFault.{CloseFault}
use Rattle.slate_errors.specs.declared.endings.TaskName.{TaskName}
use Rattle.slate_errors.specs.declared.errors.SlateError.{SlateError}
use Rattle.slate_model.specs.Follower.{Follower, follower_tasks}
use Rattle.slate_script.specs.declared.commands.Action.{Action}
use Rattle.slate_script.specs.declared.commands.Action.TheVariants as actions
use Rattle.slate_script.specs.declared.options.Options.{Options}
use Rattle.slate_script.specs.declared.replies.Reply.{Reply}
use Rattle.slate_script.specs.declared.replies.Reply.TheVariants as replies
use Rattle.slate_live.specs.Leases.{closes}
use Rattle.slate_live.specs.Represents.{IsFollowerAt}
use Rattle.slate_live.specs.Settings.{option_tasks}
use Rattle.slate_live.specs.Steps.{Step}
use Rattle.slate_live.specs.World.{World}

-- whether a command opened a handle or a reader, and was answered this number of it
abbrev pub opens : ℕ → Action → Reply → Bool
opens n (actions.Open wal) (replies.Handle m) = m == n
opens n (actions.Follow mode managed skips lag) (replies.Follower m whole at) = m == n
opens n action reply = false

-- the tasks that are registered by an opening
abbrev pub registered : Options → Action → List TaskName
registered options (actions.Open wal) = option_tasks options
registered options (actions.Follow mode managed skips lag) = follower_tasks mode
registered options action = []

-- The first close of a handle or a reader lists the tasks that its opening registered, in their order, and each later one lists
-- none.
abbrev pub ListTasks : Options → List Step → Type 0
ListTasks options steps =
    (before later rest : List Step) (opened closing : Step) (n : ℕ) (fault : Option SlateError) (tasks : List TaskName) → steps ≡ before ++ opened ∷ (later ++ closing ∷ rest) →
    opens n opened.command.action opened.reply ≡ true → closes n closing.command.action ≡ true → closing.reply ≡ replies.Ended fault tasks →
    tasks ≡ (if list_any (λ (step : Step). closes n step.command.action) later then [] else registered options opened.command.action)

-- a reader that this error closed
abbrev pub IsClosedBy : World → ℕ → CloseFault → Type 0
IsClosedBy w n fault = (follower : Follower) × IsFollowerAt w.objects n follower × (follower.result ≡ Some (Err fault))

-- Each close of a reader that an error closed answers that error.
abbrev pub RepeatErrors : List Step → Type 0
RepeatErrors steps =
    (before later rest : List Step) (failed closing : Step) (n : ℕ) (fault : CloseFault) → steps ≡ before ++ failed ∷ (later ++ closing ∷ rest) →
    IsClosedBy failed.world n fault → closes n closing.command.action ≡ true → closing.reply ≡ replies.Refused (error_of_fault fault)
