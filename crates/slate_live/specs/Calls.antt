-- Where a command goes, what it asks of the object that it names, and how often it may call the store.
use Rattle.std.specs.Prelude.{◌≡◌, ℕ, ℤ, ◌+◌, ◌*◌, ◌==◌, ◌&&◌, ◌||◌, is_none, Bool, true, false, List, [], ◌∷◌, length, slice_get, Option, Some, None}
use Rattle.std.specs.List.{list_any}
use Rattle.slate_types.specs.declared.batches.KeyOp.{KeyOp}
use Rattle.slate_types.specs.declared.batches.Op.TheVariants.{Put, Delete, Merge as MergeOperand}
use Rattle.slate_types.specs.declared.options.CloseOptions.{CloseOptions}
use Rattle.slate_types.specs.declared.options.FlushType.{FlushType}
use Rattle.slate_types.specs.declared.options.FlushType.TheVariants.{MemTable}
use Rattle.slate_types.specs.declared.ranges.ByteRange.{ByteRange}
use Rattle.slate_types.specs.declared.scan_options.IterationOrder.{IterationOrder}
use Rattle.slate_seqtrack.specs.declared.pairs.FindOption.{FindOption}
use Rattle.slate_store.specs.Compaction.{compact_calls}
use Rattle.slate_store.specs.Objects.{Objects}
use Rattle.slate_store.specs.declared.reader_modes.DbReaderMode.{DbReaderMode}
use Rattle.slate_store.specs.declared.reader_modes.DbReaderMode.TheVariants.{ManagedCheckpoint}
use Rattle.slate_store.specs.Sweeps.{sweep_calls}
use Rattle.slate_model.specs.Begun.{Begun}
use Rattle.slate_model.specs.Followed.{followed_logs}
use Rattle.slate_model.specs.Follower.{is_managed}
use Rattle.slate_model.specs.Object.{Object, Handle, Snapshot, Follower, tables_of}
use Rattle.slate_model.specs.Open.{replayed_logs}
use Rattle.slate_follow.specs.Lagging.{readings}
use Rattle.slate_script.specs.declared.commands.Action.{Action}
use Rattle.slate_script.specs.declared.commands.Action.TheVariants as actions
use Rattle.slate_script.specs.declared.commands.Command.{Command}
use Rattle.slate_live.specs.State.{IsBegunAt}
use Rattle.slate_live.specs.declared.targets.Target.{Target}
use Rattle.slate_live.specs.declared.targets.Target.TheVariants.{NewHandle, NewSnapshot, NewFollower, NewCheckpoint, WholeStore, OfWrite, OfObject}

-- where a command goes
abbrev pub target_of : Action → Target
target_of (actions.Open wal) = NewHandle wal
target_of (actions.Snapshot n) = NewSnapshot n
target_of (actions.Follow mode managed skip lag) = NewFollower mode managed skip lag
target_of (actions.Checkpoint lifetime) = NewCheckpoint lifetime
target_of actions.Sweep = WholeStore
target_of (actions.Await n) = OfWrite n
target_of (actions.Put n key value expire) = OfObject n
target_of (actions.Merge n key value expire) = OfObject n
target_of (actions.Delete n key) = OfObject n
target_of (actions.Batch n batch) = OfObject n
target_of (actions.Flush n flush_type) = OfObject n
target_of (actions.Refresh n) = OfObject n
target_of (actions.Compact n) = OfObject n
target_of (actions.Get n key remote) = OfObject n
target_of (actions.Scan n range order remote) = OfObject n
target_of (actions.Seek n range take key order remote) = OfObject n
target_of (actions.Close n options) = OfObject n
target_of (actions.Poll n) = OfObject n
target_of (actions.Status n) = OfObject n
target_of (actions.Ts n number find) = OfObject n
target_of (actions.Seq n seconds find) = OfObject n
target_of (actions.Begin n) = OfObject n
target_of (actions.Step n) = OfObject n

-- Whether a command begins a poll of the reader with a number, makes the next call of one, or makes a call whole.
pub data Kind : Type 0 where
  Begins : (n : ℕ) → Kind
  Steps : (n : ℕ) → Kind
  Whole : Kind

abbrev pub kind_of : Action → Kind
kind_of (actions.Begin n) = Begins n
kind_of (actions.Step n) = Steps n
kind_of action = Whole

-- whether a command that names a reader ends its begun poll: it polls or closes it
abbrev pub ends_poll : Action → Bool
ends_poll (actions.Poll n) = true
ends_poll (actions.Close n options) = true
ends_poll action = false

-- whether a command that makes a call whole drops the begun poll of the object with this number: it polls or closes it
abbrev pub drops : ℕ → Action → Bool
drops n (actions.Poll m) = m == n
drops n (actions.Close m options) = m == n
drops n action = false

-- the same polls are begun
abbrev pub HaveSamePolls : (before after : List (Option Begun)) → Type 0
HaveSamePolls before after = (n : ℕ) (begun : Begun) → (IsBegunAt after n begun → IsBegunAt before n begun) × (IsBegunAt before n begun → IsBegunAt after n begun)

-- after it a poll is begun exactly where that was so before and it isn't dropped
abbrev pub ArePolls : Action → (before after : List (Option Begun)) → Type 0
ArePolls action before after =
    (n : ℕ) (begun : Begun) → (IsBegunAt after n begun → IsBegunAt before n begun × (drops n action ≡ false))
    × (IsBegunAt before n begun → drops n action ≡ false → IsBegunAt after n begun)

abbrev pub put_op : List ℕ → List ℕ → Option ℤ → KeyOp
put_op key value expire = record { key = key; op = Put value expire }

abbrev pub merge_op : List ℕ → List ℕ → Option ℤ → KeyOp
merge_op key operand expire = record { key = key; op = MergeOperand operand expire }

abbrev pub delete_op : List ℕ → KeyOp
delete_op key = record { key = key; op = Delete }

-- the operations that a command writes
abbrev pub ops_of : Action → List KeyOp
ops_of (actions.Put n key value expire) = put_op key value expire ∷ []
ops_of (actions.Merge n key value expire) = merge_op key value expire ∷ []
ops_of (actions.Delete n key) = delete_op key ∷ []
ops_of (actions.Batch n batch) = batch.ops
ops_of action = []

-- the flush that a close asks for: without options, to a table
abbrev pub flush_of_close : Option CloseOptions → Option FlushType
flush_of_close None = Some MemTable
flush_of_close (Some options) = options.flush_type

-- what a command asks of the object that it names
pub data Call : Type 0 where
  Write : (ops : List KeyOp) → Call  -- these operations, as one batch
  Merge : (op : KeyOp) → Call  -- one operand to merge, which wants an operator
  Flush : (flush_type : Option FlushType) → Call  -- without a type, to where the handle stores its batches first
  Refresh : Call
  Compact : Call
  Get : (key : List ℕ) → (remote : Bool) → (snapshot : Option ℕ) → Call  -- of a handle, up to the number of a snapshot
  Scan : (range : ByteRange) → (order : IterationOrder) → (remote : Bool) → (snapshot : Option ℕ) → Call
  Seek : (range : ByteRange) → (take : ℕ) → (key : List ℕ) → (order : IterationOrder) → (remote : Bool) → (snapshot : Option ℕ) → Call
  Close : (flush_type : Option FlushType) → Call
  Poll : Call
  Status : Call
  FindTime : (number : ℕ) → (find : FindOption) → Call  -- when the batch with this number was written
  FindNumber : (seconds : ℤ) → (find : FindOption) → Call  -- the number of the batch that was written then
  Nothing : Call

abbrev pub call_of : Action → Call
call_of (actions.Put n key value expire) = Write (put_op key value expire ∷ [])
call_of (actions.Merge n key value expire) = Merge (merge_op key value expire)
call_of (actions.Delete n key) = Write (delete_op key ∷ [])
call_of (actions.Batch n batch) = Write batch.ops
call_of (actions.Flush n flush_type) = Flush flush_type
call_of (actions.Refresh n) = Refresh
call_of (actions.Compact n) = Compact
call_of (actions.Get n key remote) = Get key remote None
call_of (actions.Scan n range order remote) = Scan range order remote None
call_of (actions.Seek n range take key order remote) = Seek range take key order remote None
call_of (actions.Close n options) = Close (flush_of_close options)
call_of (actions.Poll n) = Poll
call_of (actions.Status n) = Status
call_of (actions.Ts n number find) = FindTime number find
call_of (actions.Seq n seconds find) = FindNumber seconds find
call_of action = Nothing

-- whether a command goes by the merge operator: it reads rows, or wants an operator
abbrev pub goes_by_operator : Action → Bool
goes_by_operator (actions.Merge n key value expire) = true
goes_by_operator (actions.Get n key remote) = true
goes_by_operator (actions.Scan n range order remote) = true
goes_by_operator (actions.Seek n range take key order remote) = true
goes_by_operator action = false

-- whether it goes by the prefix extractor: it opens a handle or a reader, writes, or polls
abbrev pub goes_by_extractor : Action → Bool
goes_by_extractor (actions.Open wal) = true
goes_by_extractor (actions.Follow mode managed skip lag) = true
goes_by_extractor (actions.Put n key value expire) = true
goes_by_extractor (actions.Merge n key value expire) = true
goes_by_extractor (actions.Delete n key) = true
goes_by_extractor (actions.Batch n batch) = true
goes_by_extractor (actions.Poll n) = true
goes_by_extractor (actions.Step n) = true
goes_by_extractor action = false

-- whether one of these commands goes by the one, or by the other
abbrev pub one_goes_by_operator : List Command → Bool
one_goes_by_operator commands = list_any (λ (command : Command). goes_by_operator command.action) commands

abbrev pub one_goes_by_extractor : List Command → Bool
one_goes_by_extractor commands = list_any (λ (command : Command). goes_by_extractor command.action) commands

-- what of a call reads a handle, up to the number of a snapshot, where one is given
abbrev pub read_of : Option ℕ → Call → Call
read_of number (Get key remote snapshot) = Get key remote number
read_of number (Scan range order remote snapshot) = Scan range order remote number
read_of number (Seek range take key order remote snapshot) = Seek range take key order remote number
read_of number call = Nothing

-- what a snapshot of a handle asks the handle: to read up to the snapshot's number
abbrev pub at_snapshot : ℕ → Call → Call
at_snapshot number call = read_of (Some number) call

-- the object whose tables are read: the one that is named, or the handle of a snapshot
abbrev pub read_by : List Object → Option Object → Option Object
read_by objects None = None
read_by objects (Some (Handle handle)) = Some (Handle handle)
read_by objects (Some (Snapshot snapshot)) = slice_get objects snapshot.handle
read_by objects (Some (Follower follower)) = Some (Follower follower)

-- whether it is no handle and no reader that is closed
abbrev pub is_open : Option Object → Bool
is_open (Some (Handle handle)) = is_none handle.result
is_open (Some (Follower follower)) = is_none follower.result
is_open object = true

abbrev pub merges : Action → Bool
merges (actions.Merge n key value expire) = true
merges action = false

-- whether a command asks the merge operator, where this object is read by it: what is closed answers that, but for a merge that has none
abbrev pub asks_operator : Option Object → Action → Bool
asks_operator object action = goes_by_operator action && (merges action || is_open object)

abbrev pub makes_step : Action → Bool
makes_step (actions.Step n) = true
makes_step action = false

-- and whether it asks the extractor
abbrev pub asks_extractor : Option Object → Action → Bool
asks_extractor object action = goes_by_extractor action && (makes_step action || is_open object)

-- how many tables a read of an object reads: those of its view
abbrev pub table_count : Option Object → ℕ
table_count None = 0
table_count (Some object) = length (tables_of object)

-- how often a poll of a reader calls a store at most that holds these objects: one that may lag reads log files twice, and one that keeps a
-- checkpoint puts a manifest, too, in eight tries at most, of which the last one may do so twice
abbrev pub poll_calls : (managed : Bool) → (lag : ℕ) → Objects → ℕ
poll_calls true lag objects = 9 * (readings lag (replayed_logs objects) + 3)
poll_calls false lag objects = readings lag (replayed_logs objects) + 2

-- and a close: that of a handle flushes, and that of a reader takes out the checkpoint that it keeps, in eight tries at most
abbrev pub end_calls : (managed : Bool) → ℕ
end_calls true = 16
end_calls false = 0

abbrev pub polled_calls : Objects → Option Object → ℕ
polled_calls objects (Some (Follower follower)) = poll_calls (is_managed follower.mode) follower.lag objects
polled_calls objects object = 0

abbrev pub closed_calls : Option Object → ℕ
closed_calls (Some (Handle handle)) = 5
closed_calls (Some (Follower follower)) = end_calls (is_managed follower.mode)
closed_calls object = 0

-- how often what is asked calls a store at most that holds these objects, where this is the object whose tables are read
abbrev pub most_asked : Objects → Option Object → Call → ℕ
most_asked objects object (Flush flush_type) = 5
most_asked objects object Refresh = 1
most_asked objects object Compact = compact_calls objects
most_asked objects object (Get key remote snapshot) = table_count object
most_asked objects object (Scan range order remote snapshot) = table_count object
most_asked objects object (Seek range take key order remote snapshot) = table_count object
most_asked objects object (Close flush_type) = closed_calls object
most_asked objects object Poll = polled_calls objects object
most_asked objects object call = 0

-- how often an opening of a reader calls it at most: one that keeps a checkpoint puts that, in eight tries at most
abbrev pub follow_calls : DbReaderMode → (skips : Bool) → Objects → ℕ
follow_calls ManagedCheckpoint skips objects = followed_logs ManagedCheckpoint skips objects + 17
follow_calls mode skips objects = followed_logs mode skips objects + 2

-- and how often a command at a moment does; an opening calls it once more where its replay ends early
abbrev pub most_made : Objects → Option Object → ℤ → Target → Call → ℕ
most_made objects object moment (NewHandle keeps_log) call = replayed_logs objects + 5
most_made objects object moment (NewSnapshot n) call = 0
most_made objects object moment (NewFollower mode managed skips lag) call = follow_calls mode skips objects
most_made objects object moment (NewCheckpoint lifetime) call = 16
most_made objects object moment WholeStore call = sweep_calls moment objects
most_made objects object moment (OfWrite n) call = 0
most_made objects object moment (OfObject n) call = most_asked objects object call

-- the object that a command names, where it names one
abbrev pub named : List Object → Target → Option Object
named objects (OfObject n) = slice_get objects n
named objects target = None

abbrev pub most_by : Kind → Objects → List Object → Command → ℕ
most_by (Begins n) objects live command = 0
most_by (Steps n) objects live command = 1
most_by Whole objects live command =
    most_made objects (read_by live (named live (target_of command.action))) command.moment (target_of command.action) (call_of command.action)

-- how often a command calls a store at most that holds these objects, in a run with these live ones
abbrev pub most_calls : Objects → List Object → Command → ℕ
most_calls objects live command = most_by (kind_of command.action) objects live command
