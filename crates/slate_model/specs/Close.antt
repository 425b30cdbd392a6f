-- What a close does to a handle or a follower, and what it answers.
use Rattle.std.specs.Prelude.{◌≡◌, ℕ, false, List, [], Option, Some, None, unwrap_or, Result, Ok, Err, IfSome}
use Rattle.slate_types.specs.declared.options.FlushType.{FlushType}
use Rattle.slate_errors.specs.declared.closing.CloseFault.{CloseFault}
use Rattle.slate_errors.specs.declared.endings.Ended.{Ended}
use Rattle.slate_errors.specs.declared.endings.TaskName.{TaskName}
use Rattle.slate_errors.specs.declared.errors.SlateError.{SlateError}
use Rattle.slate_errors.specs.declared.errors.SlateError.TheVariants.{Closed, WalDisabled}
use Rattle.slate_errors.specs.Errors.{error_of_fault}
use Rattle.slate_model.specs.Flush.{CanFlush, IsFlushed, Stores, has_log_for}
use Rattle.slate_model.specs.Follower.{Follower}
use Rattle.slate_model.specs.Handle.{CloseResult, Handle}
use Rattle.slate_model.specs.Knowledge.{Knowledge}
use Rattle.slate_model.specs.Known.{Known, Untouched}

-- the handle once its tasks are ended
abbrev pub without_tasks : Handle → Handle
without_tasks handle = record handle { tasks = [] }

-- the handle after its close
abbrev pub closed : Handle → Handle
closed handle = record (without_tasks handle) { result = Some (Ok tt) }

-- what a close answers that ended these tasks
abbrev pub ended : List TaskName → Option SlateError → Ended
ended tasks fault = record { fault = fault; tasks = tasks }

-- what a close of something that is closed finds: an error where it closed cleanly
abbrev pub fault_again : Result (Unit {0}) CloseFault → Option SlateError
fault_again (Ok _) = Some Closed
fault_again (Err fault) = None

-- the error that a close answers, by how its flush ended
abbrev pub fault_of : Result (Unit {0}) SlateError → Option SlateError
fault_of (Ok _) = None
fault_of (Err error) = Some error

-- how the closing flush ended, by the error that the close answers
abbrev pub closing_flush : Option SlateError → Result (Unit {0}) SlateError
closing_flush None = Ok tt
closing_flush (Some error) = Err error

-- A close of a handle, with a flush of this type or none. It ends the tasks that run, and lists them; none is left for another
-- close. Of a closed handle it changes nothing else. An open one is closed, and then flushes, where it is to; the error of that
-- is answered beside the tasks.
pub record Closes {L : Type 0} (k : Knowledge L) (made : ℕ) (flush_type : Option FlushType) (old : Handle) (before : Known L) (answer : Ended) (new : Handle) (after : Known L) : Type 0 where
  pub again : IfSome old.result (λ r. (answer ≡ ended old.tasks (fault_again r)) × (new ≡ without_tasks old) × Untouched made before after)
  pub unflushed : old.result ≡ None → flush_type ≡ None → (answer ≡ ended old.tasks None) × (new ≡ closed old) × Untouched made before after
  pub disabled : (t : FlushType) → flush_type ≡ Some t → old.result ≡ None → has_log_for t old ≡ false →
      (answer ≡ ended old.tasks (Some WalDisabled)) × (new ≡ closed old) × Untouched made before after
  pub flushed : (t : FlushType) → flush_type ≡ Some t → CanFlush t old →
      (answer ≡ ended old.tasks answer.fault) × IsFlushed k.keep made (closing_flush answer.fault) (Some (Ok tt)) [] old new
  pub stored : (t : FlushType) → flush_type ≡ Some t → CanFlush t old → Stores k made t old before (closing_flush answer.fault) new after

-- the error that was recorded, where one was
abbrev pub recorded_fault : CloseResult → Option SlateError
recorded_fault None = None
recorded_fault (Some (Ok _)) = None
recorded_fault (Some (Err fault)) = Some (error_of_fault fault)

-- the follower after its close: what was recorded first stays, and its task is ended
abbrev pub closed_follower : Follower → Follower
closed_follower follower = record follower { result = Some (unwrap_or follower.result (Ok tt)); tasks = [] }
