-- What commands do to a handle.
use Rattle.std.specs.Prelude.{◌≡◌, ◌⊎◌, ℕ, ℤ, Bool, true, false, if◌then◌else◌, nat_le, List, [], ◌∷◌, ◌++◌, length, Option, Some, None, Result, Ok, Err}
use Rattle.slate_types.specs.declared.batches.Batch.{Batch}
use Rattle.slate_types.specs.declared.batches.KeyOp.{KeyOp}
use Rattle.slate_types.specs.declared.batches.KeyValue.{KeyValue}
use Rattle.slate_types.specs.declared.read_faults.ReadFault.{ReadFault}
use Rattle.slate_types.specs.declared.options.DurabilityLevel.{DurabilityLevel}
use Rattle.slate_types.specs.declared.options.DurabilityLevel.TheVariants.{Memory, Remote}
use Rattle.slate_types.specs.declared.options.FlushType.{FlushType}
use Rattle.slate_types.specs.declared.options.FlushType.TheVariants.{MemTable, Wal}
use Rattle.slate_types.specs.declared.ranges.ByteRange.{ByteRange}
use Rattle.slate_types.specs.declared.scan_options.IterationOrder.{IterationOrder}
use Rattle.std.specs.Ordering.{int_cmp, nat_cmp}
use Rattle.slate_types.specs.Operator.{Merge as MergeFunction}
use Rattle.slate_reads.specs.Bound.{read_bound}
use Rattle.slate_reads.specs.Read.{read_at}
use Rattle.slate_rows.specs.Iteration.{Iteration}
use Rattle.slate_rows.specs.Scan.{BeginsScan}
use Rattle.slate_seqtrack.specs.Lookup.{IsPartner}
use Rattle.slate_seqtrack.specs.Tracker.{Tracker, numbers_of, times_of}
use Rattle.slate_seqtrack.specs.declared.pairs.FindOption.{FindOption}
use Rattle.slate_errors.specs.declared.endings.Ended.{Ended}
use Rattle.slate_errors.specs.declared.errors.SlateError.{SlateError}
use Rattle.slate_errors.specs.declared.errors.SlateError.TheVariants.{MergeOperatorMissing, NoMemory}
use Rattle.slate_errors.specs.Errors.{closed_error}
use Rattle.slate_model.specs.Close.{Closes}
use Rattle.slate_model.specs.declared.answers.Written.{Written}
use Rattle.slate_model.specs.Flush.{Flushes}
use Rattle.slate_model.specs.Segments.{Extractor}
use Rattle.slate_model.specs.Status.{handle_status}
use Rattle.slate_live.specs.Settings.{Settings}
use Rattle.slate_model.specs.Handle.{CloseResult, Handle, accepted}
use Rattle.slate_model.specs.Snapshot.{snapshot_number}
use Rattle.slate_model.specs.Knowledge.{Knowledge}
use Rattle.slate_model.specs.Known.{Known, Untouched}
use Rattle.slate_model.specs.Object.{Handle as AHandle}
use Rattle.slate_model.specs.Refresh.{Compacts, Refreshes}
use Rattle.slate_model.specs.Write.{Writes}
use Rattle.slate_script.specs.declared.replies.Reply.{Reply}
use Rattle.slate_script.specs.declared.replies.Reply.TheVariants as replies
use Rattle.slate_live.specs.declared.states.Write.{Write}
use Rattle.slate_live.specs.Calls.{Call, Write as WriteCall, Merge as MergeCall, Flush, Refresh, Compact, Get, Scan, Seek, Close, Status, FindTime, FindNumber}
use Rattle.slate_live.specs.Scans.{IsTaken, scanned, sought}
use Rattle.slate_live.specs.Replies.{AnswersStatus, IsRead, ended_reply, found_reply, reply_to}

abbrev pub level_of : Bool → DurabilityLevel
level_of true = Remote
level_of false = Memory

-- up to which number a read sees the handle's line: what it accepted, or what is durable, too; and what a snapshot sees
abbrev pub cut : Handle → Bool → (snapshot : Option ℕ) → Option ℕ
cut handle remote snapshot = read_bound snapshot handle.durable (accepted handle) (level_of remote) false

-- a write that was accepted is noted with its handle
abbrev pub noted : ℕ → Result Written SlateError → List Write
noted handle (Ok written) = record { handle = handle; number = written.number } ∷ []
noted handle (Err error) = []

-- a write of operations to the handle n: one that is accepted is noted
pub record WritesTo (extractor : Option Extractor) (n : ℕ) (ops : List KeyOp) (moment : ℤ) (second : Option ℤ) (old : Handle) (writes : List Write) (reply : Reply) (new : Handle) (writes' : List Write) : Type 0 where
  pub result : Result Written SlateError
  pub replied : reply ≡ reply_to (λ written. replies.Written (length writes) written.number) result
  pub does : Writes extractor old ops moment second result new
  pub noted : writes' ≡ writes ++ noted n result

-- the type of a flush: without one, to the log where the handle keeps one, and else to a table
abbrev pub flush_type_by : Option FlushType → Handle → FlushType
flush_type_by None handle = if handle.keeps_log then Wal else MemTable
flush_type_by (Some flush_type) handle = flush_type

pub record FlushesHandle {L : Type 0} (k : Knowledge L) (made : ℕ) (flush_type : FlushType) (old : Handle) (before : Known L) (reply : Reply) (new : Handle) (after : Known L) : Type 0 where
  pub result : Result (Unit {0}) SlateError
  pub replied : reply ≡ reply_to (λ _. replies.Flushed) result
  pub does : Flushes k made flush_type old before result new after

pub record RefreshesHandle {L : Type 0} (k : Knowledge L) (old : Handle) (before : Known L) (reply : Reply) (new : Handle) (after : Known L) : Type 0 where
  pub result : Result (Unit {0}) SlateError
  pub replied : reply ≡ reply_to (λ _. replies.Refreshed) result
  pub does : Refreshes k old before result new after

pub record CompactsHandle {L : Type 0} (k : Knowledge L) (made : ℕ) (old : Handle) (before : Known L) (reply : Reply) (new : Handle) (after : Known L) : Type 0 where
  pub result : Result (Unit {0}) SlateError
  pub replied : reply ≡ reply_to (λ _. replies.Compacted) result
  pub does : Compacts k made old before result new after

pub record ClosesHandle {L : Type 0} (k : Knowledge L) (made : ℕ) (flush_type : Option FlushType) (old : Handle)
    (before : Known L) (reply : Reply) (new : Handle) (after : Known L) : Type 0 where
  pub ended : Ended
  pub replied : reply ≡ ended_reply ended
  pub does : Closes k made flush_type old before ended new after

-- a read of a key: the plain read of what the handle reads, at its cut
abbrev pub IsPlainRead : Option MergeFunction → List ℕ → Bool → Option ℕ → Handle → List Batch → Result (Option KeyValue) ReadFault → Type 0
IsPlainRead merge key remote snapshot handle rows answer = answer ≡ read_at merge rows (cut handle remote snapshot) key

-- a scan of a range and a seek in one: the plain scan of what the handle reads, at its cut
abbrev pub IsPlainScan : Option MergeFunction → ByteRange → IterationOrder → Bool → Option ℕ → Handle → List Batch → Iteration → Type 0
IsPlainScan merge range order remote snapshot handle rows it = BeginsScan merge rows (cut handle remote snapshot) range order it

module _ {L : Type 0} (k : Knowledge L) (merge : Option MergeFunction) where
  abbrev pub GetsFrom : List ℕ → Bool → Option ℕ → Handle → Known L → Reply → Known L → Type 0
  GetsFrom key remote snapshot handle =
      IsRead found_reply handle.result handle.view.manifest.tables (k.rows (AHandle handle)) (IsPlainRead merge key remote snapshot handle)

  abbrev pub TakesFrom : ByteRange → IterationOrder → Bool → Option ℕ → (Iteration → Result (List KeyValue) SlateError) → Handle → Known L → Reply → Known L → Type 0
  TakesFrom range order remote snapshot taken handle =
      IsTaken handle.result handle.view.manifest.tables (k.rows (AHandle handle)) (IsPlainScan merge range order remote snapshot handle) taken

-- when a batch was written, by the tracker: the time of the tracked one with this number, or with the next one up or down
abbrev pub FindsTime : Tracker → (number : ℕ) → FindOption → Reply → Type 0
FindsTime tracker number find reply =
    (time : Option ℤ) × IsPartner nat_cmp find number (numbers_of tracker) (times_of tracker) time × (reply ≡ replies.Time time)

-- which batch was written at a time, by the tracker: the number of the tracked one with this time, or with the next one up
-- or down
abbrev pub FindsNumber : Tracker → (seconds : ℤ) → FindOption → Reply → Type 0
FindsNumber tracker seconds find reply =
    (number : Option ℕ) × IsPartner int_cmp find seconds (times_of tracker) (numbers_of tracker) number × (reply ≡ replies.Number number)

-- a merge of one operand: without an operator it is refused before all else
abbrev pub MergesTo : Option MergeFunction → Option Extractor → ℕ → KeyOp → ℤ → Option ℤ → Handle → List Write → Reply → Handle → List Write → Type 0
MergesTo None extractor n op moment second old writes reply new writes' =
    (reply ≡ replies.Refused MergeOperatorMissing) × (new ≡ old) × (writes' ≡ writes)
MergesTo (Some merge) extractor n op moment second old writes reply new writes' = WritesTo extractor n (op ∷ []) moment second old writes reply new writes'

-- a snapshot of a handle sees the batches that it accepted, unless memory runs out or the handle is closed
abbrev pub TakesSnapshot : {L : Type 0} → Handle → Known L → Result ℕ SlateError → Known L → Type 0
TakesSnapshot handle before result after = ((result ≡ Err NoMemory) ⊎ (result ≡ snapshot_number handle)) × (after ≡ before)

-- What a command that asks this does to the handle with number n, of which so many changes were made. What isn't for a
-- handle is answered that it is unknown.
module _ {L : Type 0} (k : Knowledge L) (settings : Settings) (n : ℕ) (moment : ℤ) (second : Option ℤ) where
  abbrev pub HandleActs : Call → ℕ → Handle → Known L → List Write → Reply → Handle → Known L → List Write → Type 0
  HandleActs (WriteCall ops) made old before writes reply new after writes' =
      WritesTo settings.extractor n ops moment second old writes reply new writes' × Untouched made before after
  HandleActs (MergeCall op) made old before writes reply new after writes' =
      MergesTo settings.merge settings.extractor n op moment second old writes reply new writes' × Untouched made before after
  HandleActs (Flush flush_type) made old before writes reply new after writes' =
      FlushesHandle k made (flush_type_by flush_type old) old before reply new after × (writes' ≡ writes)
  HandleActs Refresh made old before writes reply new after writes' =
      RefreshesHandle k old before reply new after × (made ≡ 0) × (writes' ≡ writes)
  HandleActs Compact made old before writes reply new after writes' =
      CompactsHandle k made old before reply new after × (writes' ≡ writes)
  HandleActs (Get key remote snapshot) made old before writes reply new after writes' =
      GetsFrom k settings.merge key remote snapshot old before reply after × (new ≡ old) × (made ≡ 0) × (writes' ≡ writes)
  HandleActs (Scan range order remote snapshot) made old before writes reply new after writes' =
      TakesFrom k settings.merge range order remote snapshot scanned old before reply after × (new ≡ old) × (made ≡ 0) × (writes' ≡ writes)
  HandleActs (Seek range take key order remote snapshot) made old before writes reply new after writes' =
      TakesFrom k settings.merge range order remote snapshot (sought range take key) old before reply after × (new ≡ old) × (made ≡ 0) × (writes' ≡ writes)
  HandleActs (Close flush_type) made old before writes reply new after writes' =
      ClosesHandle k made flush_type old before reply new after × (writes' ≡ writes)
  HandleActs Status made old before writes reply new after writes' =
      AnswersStatus (handle_status old) reply × (new ≡ old) × Untouched made before after × (writes' ≡ writes)
  HandleActs (FindTime number find) made old before writes reply new after writes' =
      FindsTime old.tracker number find reply × (new ≡ old) × Untouched made before after × (writes' ≡ writes)
  HandleActs (FindNumber seconds find) made old before writes reply new after writes' =
      FindsNumber old.tracker seconds find reply × (new ≡ old) × Untouched made before after × (writes' ≡ writes)
  HandleActs call made old before writes reply new after writes' =
      (reply ≡ replies.Unknown) × (new ≡ old) × Untouched made before after × (writes' ≡ writes)

-- the reply where a write isn't durable
abbrev pub pending_reply : CloseResult → Reply
pending_reply None = replies.Pending
pending_reply (Some result) = replies.Refused (closed_error result)

-- whether a write with this number is durable: it is up to the durable number, and else pending while the handle is open
abbrev pub durable_reply : Handle → ℕ → Reply
durable_reply handle number = if nat_le number handle.durable then replies.Durable else pending_reply handle.result
