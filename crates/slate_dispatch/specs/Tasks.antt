-- The calls of a task, and the turns that end it.
use Rattle.std.specs.Prelude.{ℕ, ℤ, Option, Some, None, Result, Ok, Err}
use Rattle.slate_errors.specs.declared.closing.CloseFault.{CloseFault}
use Rattle.slate_dispatch.specs.declared.tasks.TurnAnswer.{TurnAnswer}
use Rattle.slate_dispatch.specs.declared.tasks.TurnAnswer.TheVariants.{Cancelled, Handled, Idle, Failed}

-- a call of a task
pub data TaskCall : Type 0 where
  -- a turn at a moment, with a random word, and its answer
  Turn : ℤ → ℕ → TurnAnswer → TaskCall
  Cancel : TaskCall
  Finish : Result (Unit {0}) CloseFault → TaskCall

-- the result of a task that a turn with this answer ended; a cancelled one ended well
abbrev pub ending_of : TurnAnswer → Option (Result (Unit {0}) CloseFault)
ending_of Cancelled = Some (Ok tt)
ending_of Handled = None
ending_of Idle = None
ending_of (Failed fault) = Some (Err fault)

-- the last turn ended the task
abbrev pub HasEnded : Option TurnAnswer → Type 0
HasEnded None = ⊥
HasEnded (Some Cancelled) = Unit {0}
HasEnded (Some Handled) = ⊥
HasEnded (Some Idle) = ⊥
HasEnded (Some (Failed fault)) = Unit {0}
