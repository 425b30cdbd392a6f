-- The forms of a script's commands, and what a line is.
use Rattle.std.specs.Prelude.{ℕ, Bool, true, false, List, [], ◌∷◌, Option, Some, None, codes, if◌then◌else◌}
use Rattle.std.specs.Option.{option_map, option_or}
use Rattle.std.specs.Str.{bytes_eq}
use Rattle.slate_types.specs.declared.options.CloseOptions.{CloseOptions}
use Rattle.slate_types.specs.declared.options.FlushType.{FlushType}
use Rattle.slate_types.specs.declared.options.FlushType.TheVariants.{Wal, MemTable}
use Rattle.slate_store.specs.Checkpoints.{checkpoint_id}
use Rattle.slate_store.specs.declared.reader_modes.DbReaderMode.TheVariants.{Checkpoint, FollowLatest, ManagedCheckpoint}
use Rattle.slate_text.specs.Numbers.{number_of, moment_of}
use Rattle.slate_script.specs.Lines.{line_by}
use Rattle.slate_script.specs.declared.commands.Action.{Action}
use Rattle.slate_script.specs.declared.commands.Action.TheVariants as actions
use Rattle.slate_script.specs.declared.commands.Command.{Command}
use Rattle.slate_script.specs.declared.commands.LineAnswer.{LineAnswer}
use Rattle.slate_script.specs.Lookups.{lookup_of}
use Rattle.slate_script.specs.Queries.{query_of}
use Rattle.slate_script.specs.Values.{◌>>=◌}
use Rattle.slate_script.specs.Writes.{write_of}

-- whether a handle keeps a log
abbrev pub wal_of : List ℕ → Option Bool
wal_of word = if bytes_eq word (codes "log") then Some true else (if bytes_eq word (codes "nolog") then Some false else None)

-- open, open log, open nolog
abbrev pub open_form : List (List ℕ) → Option Action
open_form [] = Some (actions.Open true)
open_form (t ∷ []) = do
  wal ← wal_of t
  Some (actions.Open wal)
open_form fields = None

-- the type of a flush
abbrev pub flush_type_of : List ℕ → Option FlushType
flush_type_of word =
    if bytes_eq word (codes "wal") then Some Wal else (if bytes_eq word (codes "memtable") then Some MemTable else None)

-- flush H, flush H wal, flush H memtable
abbrev pub flush_form : List (List ℕ) → Option Action
flush_form (h ∷ []) = do
  handle ← number_of h
  Some (actions.Flush handle None)
flush_form (h ∷ t ∷ []) = do
  handle ← number_of h
  flush_type ← flush_type_of t
  Some (actions.Flush handle (Some flush_type))
flush_form fields = None

-- what a close flushes
abbrev pub close_options_of : List ℕ → Option CloseOptions
close_options_of word = if bytes_eq word (codes "none") then Some (record { flush_type = None }) else (do
  flush_type ← flush_type_of word
  Some (record { flush_type = Some flush_type }))

-- one number and no other field, as in refresh H, compact H, snapshot H, poll F, begin F, step F, await W and status O
abbrev pub one_number : List (List ℕ) → Option ℕ
one_number (n ∷ []) = number_of n
one_number fields = None

-- checkpoint, checkpoint LIFETIME
abbrev pub checkpoint_form : List (List ℕ) → Option Action
checkpoint_form [] = Some (actions.Checkpoint None)
checkpoint_form (l ∷ []) = do
  lifetime ← number_of l
  Some (actions.Checkpoint (Some lifetime))
checkpoint_form fields = None

-- sweep
abbrev pub sweep_form : List (List ℕ) → Option Action
sweep_form [] = Some actions.Sweep
sweep_form fields = None

-- close O, close O none, close O wal, close O memtable
abbrev pub close_form : List (List ℕ) → Option Action
close_form (o ∷ []) = do
  object ← number_of o
  Some (actions.Close object None)
close_form (o ∷ t ∷ []) = do
  object ← number_of o
  options ← close_options_of t
  Some (actions.Close object (Some options))
close_form fields = None

-- `lag N` as the last fields, or nothing
abbrev pub lag_of : List (List ℕ) → Option (Option ℕ)
lag_of [] = Some None
lag_of (word ∷ n ∷ []) = if bytes_eq word (codes "lag") then option_map (λ lag. Some lag) (number_of n) else None
lag_of fields = None

-- `skip` and then `lag N`, either or neither: whether a reader skips log files, and by how many numbers it may lag
abbrev pub reading_of : List (List ℕ) → Option (Bool × Option ℕ)
reading_of [] = Some (false, None)
reading_of (word ∷ fields) =
    if bytes_eq word (codes "skip") then option_map (λ lag. (true, lag)) (lag_of fields) else option_map (λ lag. (false, lag)) (lag_of (word ∷ fields))

-- follow pinned ID, with those behind it: the checkpoint that the manifest with this id commits
abbrev pub pinned_form : List (List ℕ) → Option Action
pinned_form [] = None
pinned_form (i ∷ fields) = do
  id ← number_of i
  reading ← reading_of fields
  Some (actions.Follow (Checkpoint (checkpoint_id id)) None reading.0 reading.1)

-- follow managed LIFETIME INTERVAL, with those behind it: of a checkpoint of its own, in milliseconds
abbrev pub managed_form : List (List ℕ) → Option Action
managed_form (l ∷ i ∷ fields) = do
  lifetime ← number_of l
  interval ← number_of i
  reading ← reading_of fields
  Some (actions.Follow ManagedCheckpoint (Some (lifetime, interval)) reading.0 reading.1)
managed_form fields = None

-- follow latest, with those behind it, or one of the forms of a pinned reader and of one that keeps a checkpoint of its own
abbrev pub follow_form : List (List ℕ) → Option Action
follow_form [] = None
follow_form (m ∷ fields) =
    if bytes_eq m (codes "latest") then option_map (λ reading. actions.Follow FollowLatest None reading.0 reading.1) (reading_of fields)
    else (if bytes_eq m (codes "pinned") then pinned_form fields
    else (if bytes_eq m (codes "managed") then managed_form fields else None))

-- the command of a name and the fields behind it, where that follows, polls, or asks for a write, a status, a time or a number
abbrev pub reader_of : List ℕ → List (List ℕ) → Option Action
reader_of name fields =
    if bytes_eq name (codes "follow") then follow_form fields
    else (if bytes_eq name (codes "poll") then option_map (λ follower. actions.Poll follower) (one_number fields)
    else (if bytes_eq name (codes "begin") then option_map (λ follower. actions.Begin follower) (one_number fields)
    else (if bytes_eq name (codes "step") then option_map (λ follower. actions.Step follower) (one_number fields)
    else (if bytes_eq name (codes "await") then option_map (λ write. actions.Await write) (one_number fields)
    else (if bytes_eq name (codes "status") then option_map (λ object. actions.Status object) (one_number fields)
    else lookup_of name fields)))))

-- the command of a name and the fields behind it, where that neither writes nor reads keys
abbrev pub other_of : List ℕ → List (List ℕ) → Option Action
other_of name fields =
    if bytes_eq name (codes "open") then open_form fields
    else (if bytes_eq name (codes "flush") then flush_form fields
    else (if bytes_eq name (codes "refresh") then option_map (λ handle. actions.Refresh handle) (one_number fields)
    else (if bytes_eq name (codes "compact") then option_map (λ handle. actions.Compact handle) (one_number fields)
    else (if bytes_eq name (codes "snapshot") then option_map (λ handle. actions.Snapshot handle) (one_number fields)
    else (if bytes_eq name (codes "checkpoint") then checkpoint_form fields
    else (if bytes_eq name (codes "sweep") then sweep_form fields
    else (if bytes_eq name (codes "close") then close_form fields
    else reader_of name fields)))))))

-- the action that a name and the fields after it spell
abbrev pub action_of : List ℕ → List (List ℕ) → Option Action
action_of name fields = option_or (write_of name fields) (option_or (query_of name fields) (other_of name fields))

-- the command that the fields of a line spell: a moment, the name, and the fields of its form
abbrev pub command_of : List (List ℕ) → Option Command
command_of [] = None
command_of (m ∷ []) = None
command_of (m ∷ name ∷ fields) = do
  moment ← moment_of m
  action ← action_of name fields
  Some (record { moment = moment.0; second = moment.1; action = action })

-- what a line is
abbrev pub line_of : List ℕ → LineAnswer Command
line_of line = line_by command_of line
