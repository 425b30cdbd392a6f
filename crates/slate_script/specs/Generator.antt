-- The commands that the generator makes, and the summary of the replies to them.
use Rattle.std.specs.Prelude.{ℕ, zero, suc, pos, ◌+◌, ◌*◌, ◌%◌, Bool, true, false, nat_eq, if◌then◌else◌, List, [], ◌∷◌, ◌++◌, count_by, length, reverse, Some, None, codes, decimal}
use Rattle.slate_types.specs.declared.options.FlushType.TheVariants.{Wal, MemTable}
use Rattle.slate_types.specs.declared.scan_options.IterationOrder.TheVariants.{Ascending}
use Rattle.slate_types.specs.declared.ranges.KeyBound.TheVariants.{Unbounded}
use Rattle.slate_store.specs.declared.reader_modes.DbReaderMode.TheVariants.{FollowLatest}
use Rattle.slate_script.specs.declared.commands.Action.{Action}
use Rattle.slate_script.specs.declared.commands.Action.TheVariants as actions
use Rattle.slate_script.specs.declared.commands.Command.{Command}
use Rattle.slate_script.specs.declared.replies.Reply.{Reply}
use Rattle.slate_script.specs.declared.replies.Reply.TheVariants as replies

-- a command at a moment
abbrev pub timed : ℕ → Action → Command
timed moment action = record { moment = pos moment; second = None; action = action }

-- the key of the put of this number, one of 101, and its value
abbrev pub generated_key : ℕ → ℕ → List ℕ
generated_key seed number = codes "k" ++ decimal ((seed % 101 + 37 * number) % 101)

abbrev pub generated_value : ℕ → List ℕ
generated_value number = codes "v" ++ decimal number

-- commands that come where a divisor divides the number of the put
abbrev pub each : ℕ → ℕ → List Command → List Command
each divisor number commands = if nat_eq (number % divisor) 0 then commands else []

abbrev pub log_flush : ℕ → List Command
log_flush number = timed number (actions.Flush 0 (Some Wal)) ∷ []

abbrev pub table_flush : ℕ → List Command
table_flush number = timed number (actions.Flush 0 (Some MemTable)) ∷ timed number (actions.Poll 1) ∷ []

abbrev pub compaction : ℕ → List Command
compaction number = timed number (actions.Compact 0) ∷ timed number actions.Sweep ∷ []

-- the put of this number, and what follows it
abbrev pub turn : ℕ → ℕ → List Command
turn seed number =
    (timed number (actions.Put 0 (generated_key seed number) (generated_value number) None) ∷ [])
    ++ (each 16 number (log_flush number) ++ (each 64 number (table_flush number) ++ each 256 number (compaction number)))

abbrev pub turns : ℕ → ℕ → List Command
turns seed zero = []
turns seed (suc number) = turns seed number ++ turn seed (number + 1)

-- a handle, and a reader of the latest state
abbrev pub openings : List Command
openings = timed 0 (actions.Open true) ∷ timed 0 (actions.Follow FollowLatest None false None) ∷ []

-- the last flush, and what is read then
abbrev pub ending : ℕ → List Command
ending count =
    timed count (actions.Flush 0 (Some Wal)) ∷ timed count (actions.Poll 1) ∷ timed count (actions.Scan 0 (record { low = Unbounded; high = Unbounded }) Ascending false) ∷ []

-- the commands of so many puts
abbrev pub generated : ℕ → ℕ → List Command
generated seed count = (openings ++ turns seed count) ++ ending count

-- ---- the summary
-- whether the text of a reply begins with `error`
abbrev pub is_error : Reply → Bool
is_error (replies.Ended (Some fault) tasks) = true
is_error (replies.Backpressure unflushed limit) = true
is_error (replies.Refused error) = true
is_error replies.Unknown = true
is_error replies.NoMemory = true
is_error reply = false

-- the number of a poll's answer, and how many rows a scan gave; 0 where it was refused
abbrev pub polled_at : Reply → ℕ
polled_at (replies.Polled whole number) = number
polled_at reply = 0

abbrev pub row_count : Reply → ℕ
row_count (replies.Rows rows) = length rows
row_count reply = 0

-- the number of the last poll, and the count of rows of the scan behind it, by the replies, the last one first
abbrev pub end_of : List Reply → ℕ × ℕ
end_of (scan ∷ poll ∷ replies) = (polled_at poll, row_count scan)
end_of replies = (0, 0)

abbrev pub summary_text : ℕ → List Reply → List ℕ
summary_text commands replies =
    (codes "commands " ++ decimal commands)
    ++ ((codes "\nerrors " ++ decimal (count_by is_error replies))
    ++ ((codes "\nend " ++ decimal (end_of (reverse replies)).0)
    ++ ((codes "\nrows " ++ decimal (end_of (reverse replies)).1) ++ 10 ∷ [])))
