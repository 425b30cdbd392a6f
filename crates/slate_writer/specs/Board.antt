-- The words of a handle that other threads read.
use Rattle.std.specs.Prelude.{ℕ, negsuc, ◌-◌, ◌^◌, true, Some, None, Result}
use Rattle.atomic_table.specs.Seated.{TableId}
use Rattle.slate_board.specs.Seat.{SeatState}
use Rattle.slate_board.specs.declared.views.BoardView.{BoardView}
use Rattle.slate_errors.specs.declared.closing.CloseFault.{CloseFault}
use Rattle.slate_errors.specs.declared.closing.CloseReason.{CloseReason}
use Rattle.slate_errors.specs.declared.closing.CloseReason.TheVariants.{Clean, Fenced, Panic}
use Rattle.slate_status.specs.Records.{reason_for}
use Rattle.slate_model.specs.Handle.{CloseResult, Handle}

-- the code of why something closed
abbrev pub code_for : CloseReason → ℕ
code_for Clean = 1
code_for Fenced = 2
code_for Panic = 3

-- of the result with which it closed
abbrev pub code_of : Result (Unit {0}) CloseFault → ℕ
code_of outcome = code_for (reason_for outcome)

-- and 0 while it is open
abbrev pub close_code : CloseResult → ℕ
close_code None = 0
close_code (Some outcome) = code_of outcome

-- the words of a handle: its tick, its durable number and its close code
abbrev pub words_of : Handle → BoardView
words_of handle = record { tick = handle.tick; durable = handle.durable; close = close_code handle.result }

-- the lead of a board, which has seen these words
abbrev pub lead_at : TableId → BoardView → SeatState
lead_at board words = record { board = board; lead = true; seen = words }

-- the words of a handle that nothing is known of yet
abbrev pub first_words : BoardView
first_words = record { tick = negsuc (2 ^ 63 - 1); durable = 0; close = 0 }
