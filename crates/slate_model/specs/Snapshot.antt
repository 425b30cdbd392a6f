-- The number up to which a snapshot of a handle reads.
use Rattle.std.specs.Prelude.{ℕ, Some, None, Result, Ok, Err}
use Rattle.slate_errors.specs.Errors.{closed_error}
use Rattle.slate_errors.specs.declared.errors.SlateError.{SlateError}
use Rattle.slate_model.specs.Handle.{CloseResult, Handle, accepted}

-- what a checked call answers: this, while nothing closed, else the error of what closed it
abbrev pub unless_closed : {A : Type 0} → CloseResult → A → Result A SlateError
unless_closed None answer = Ok answer
unless_closed (Some result) answer = Err (closed_error result)

-- the number of a snapshot that is taken now: that of the last batch that the handle accepted
abbrev pub snapshot_number : Handle → Result ℕ SlateError
snapshot_number handle = unless_closed handle.result (accepted handle)
