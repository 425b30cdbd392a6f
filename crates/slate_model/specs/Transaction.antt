-- A transaction on a handle: what it knows, what it reads, and what its beginning and its commit leave.
use Rattle.std.specs.Prelude.{◌≡◌, ◌≢◌, ℕ, ℤ, ◌⊎◌, Bool, true, false, List, [], ◌∷◌, ◌++◌, Option, Some, None, unwrap_or, IfSome, Result, Ok, Err}
use Rattle.slate_types.specs.declared.batches.Batch.{Batch}
use Rattle.slate_types.specs.declared.options.DurabilityLevel.{DurabilityLevel}
use Rattle.slate_types.specs.declared.ranges.ByteRange.{ByteRange}
use Rattle.slate_reads.specs.Bound.{read_bound}
use Rattle.slate_transactions.specs.Own.{own_batch, seen_with}
use Rattle.slate_transactions.specs.Transaction.{conflicts}
use Rattle.slate_transactions.specs.Writes.{LastWrites, with_key}
use Rattle.slate_transactions.specs.declared.levels.IsolationLevel.{IsolationLevel}
use Rattle.slate_transactions.specs.declared.levels.IsolationLevel.TheVariants.{Snapshot, SerializableSnapshot}
use Rattle.slate_errors.specs.Errors.{closed_error}
use Rattle.slate_errors.specs.declared.errors.SlateError.{SlateError}
use Rattle.slate_errors.specs.declared.errors.SlateError.TheVariants.{TransactionConflict, NoMemory}
use Rattle.slate_model.specs.declared.answers.Written.{Written}
use Rattle.slate_model.specs.Handle.{CloseResult, Handle, accepted}
use Rattle.slate_model.specs.Segments.{Extractor}
use Rattle.slate_model.specs.Write.{WritesBut, WritesByAny, write_refusal}

-- a transaction
pub record Transaction : Type 0 where
  pub id : List ℕ
  pub level : IsolationLevel
  pub own : Batch  -- its own operations, with the number of the last batch when it began
  pub unmarked : List (List ℕ)  -- the keys whose writes are to be no one's conflict
  pub read : List (List ℕ)  -- the keys that it marked as read, and at SerializableSnapshot those that it got
  pub scanned : List ByteRange  -- the ranges that it scanned at SerializableSnapshot

-- the number with which it began
abbrev pub start_of : Transaction → ℕ
start_of t = t.own.number

-- one that begins on a handle
abbrev pub begun : Handle → IsolationLevel → List ℕ → Transaction
begun handle level id = record { id = id; level = level; own = own_batch (accepted handle) []; unmarked = []; read = []; scanned = [] }

-- the last writes that a handle tracks; none before its first transaction
abbrev pub writes_of : Handle → LastWrites
writes_of handle = unwrap_or handle.writes []

-- a handle on which a transaction began, where nothing closed it
abbrev pub tracking_if : CloseResult → Handle → Handle
tracking_if None handle = record handle { writes = Some (writes_of handle) }
tracking_if (Some result) handle = handle

-- up to which number a transaction reads the batches of a handle
abbrev pub start_bound : Transaction → Handle → DurabilityLevel → Bool → Option ℕ
start_bound t handle level dirty = read_bound (Some (start_of t)) handle.durable (accepted handle) level dirty

-- what it reads of batches: those up to a bound, and then its own operations
abbrev pub seen_by : Transaction → Option ℕ → List Batch → List Batch
seen_by t bound batches = seen_with bound batches t.own

-- a transaction after it got a key, and after it scanned a range
abbrev pub having_got : IsolationLevel → List ℕ → Transaction → Transaction
having_got Snapshot key t = t
having_got SerializableSnapshot key t = record t { read = with_key t.read key }

abbrev pub having_scanned : IsolationLevel → ByteRange → Transaction → Transaction
having_scanned Snapshot range t = t
having_scanned SerializableSnapshot range t = record t { scanned = t.scanned ++ range ∷ [] }

-- whether a batch after its start has a tracked write of a key that it writes and didn't unmark, that it read, or that is
-- in a range that it scanned
abbrev pub is_in_conflict : Transaction → LastWrites → Bool
is_in_conflict t writes = conflicts (start_of t) writes t.own.ops t.unmarked t.read t.scanned

-- why a commit is refused, by the error: what closed the handle, a conflict, what refuses the write, or want of memory
abbrev pub CommitRefusal : Option Extractor → Transaction → Handle → ℤ → Option ℤ → SlateError → Type 0
CommitRefusal extractor t old moment second TransactionConflict =
    (old.result ≡ None) × (t.own.ops ≢ []) × (is_in_conflict t (writes_of old) ≡ true)
CommitRefusal extractor t old moment second error =
    IfSome old.result (λ r. error ≡ closed_error r)
    × (old.result ≡ None → (t.own.ops ≢ []) × (is_in_conflict t (writes_of old) ≡ false)
    × ((error ≡ NoMemory) ⊎ (write_refusal extractor old t.own.ops moment second ≡ Some error)))

-- What a commit leaves of a handle: nothing changes where the transaction has no operation, or where it is refused; else it
-- is a write of the operations, of a transaction without a conflict.
abbrev pub Commits : Option Extractor → Transaction → Handle → ℤ → Option ℤ → Result (Option Written) SlateError → Handle → Type 0
Commits extractor t old moment second (Ok None) new = (old.result ≡ None) × (t.own.ops ≡ []) × (new ≡ old)
Commits extractor t old moment second (Ok (Some written)) new =
    (old.result ≡ None) × (t.own.ops ≢ []) × (is_in_conflict t (writes_of old) ≡ false)
    × WritesBut t.unmarked extractor old t.own.ops moment second (Ok written) new
Commits extractor t old moment second (Err error) new = CommitRefusal extractor t old moment second error × (new ≡ old)

-- What a commit says whatever the extractor answers: all but what a write says by its extractor.
abbrev pub CommitsByAny : Transaction → Handle → ℤ → Option ℤ → Result (Option Written) SlateError → Handle → Type 0
CommitsByAny t old moment second (Ok None) new = (old.result ≡ None) × (t.own.ops ≡ []) × (new ≡ old)
CommitsByAny t old moment second (Ok (Some written)) new =
    (old.result ≡ None) × (t.own.ops ≢ []) × (is_in_conflict t (writes_of old) ≡ false)
    × WritesByAny t.unmarked old t.own.ops moment second (Ok written) new
CommitsByAny t old moment second (Err TransactionConflict) new =
    (old.result ≡ None) × (t.own.ops ≢ []) × (is_in_conflict t (writes_of old) ≡ true) × (new ≡ old)
CommitsByAny t old moment second (Err error) new =
    IfSome old.result (λ r. error ≡ closed_error r)
    × (old.result ≡ None → (t.own.ops ≢ []) × (is_in_conflict t (writes_of old) ≡ false) × WritesByAny t.unmarked old t.own.ops moment second (Err error) new)
    × (new ≡ old)
