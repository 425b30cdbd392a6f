-- Scans and seeks: what is taken of a plain scan, and the reply to it.
use Rattle.std.specs.Prelude.{◌≡◌, ℕ, ◌⊎◌, List, Result, Ok, Err}
use Rattle.slate_types.specs.declared.batches.Batch.{Batch}
use Rattle.slate_types.specs.declared.batches.KeyValue.{KeyValue}
use Rattle.slate_types.specs.declared.ranges.ByteRange.{ByteRange}
use Rattle.slate_store.specs.declared.objects.TableId.{TableId}
use Rattle.slate_rows.specs.Iteration.{Iteration}
use Rattle.slate_rows.specs.Taken.{all_rows, seek_at}
use Rattle.slate_rows.specs.declared.seeks.SeekFault.{SeekFault}
use Rattle.slate_rows.specs.declared.seeks.SeekFault.TheVariants.{OutOfRange, LessThanLastReturned, Stored}
use Rattle.slate_errors.specs.declared.errors.SlateError.{SlateError}
use Rattle.slate_errors.specs.declared.errors.SlateError.TheVariants.{SeekKeyOutOfRange, SeekKeyLessThanLastReturnedKey, NoMemory}
use Rattle.slate_errors.specs.Errors.{error_of_read}
use Rattle.slate_model.specs.Handle.{CloseResult}
use Rattle.slate_model.specs.Known.{Known}
use Rattle.slate_model.specs.Read.{Gives, ReadsUnlessClosed}
use Rattle.slate_script.specs.declared.replies.Reply.{Reply}
use Rattle.slate_script.specs.declared.replies.Reply.TheVariants as replies
use Rattle.slate_live.specs.Replies.{reply_to}

-- rows, or the error of a fault
abbrev pub with_error : {E : Type 0} → (E → SlateError) → Result (List KeyValue) E → Result (List KeyValue) SlateError
with_error error_of (Ok rows) = Ok rows
with_error error_of (Err fault) = Err (error_of fault)

-- why a seek of a key in a range is refused
abbrev pub error_of_seek : ByteRange → List ℕ → SeekFault → SlateError
error_of_seek range key OutOfRange = SeekKeyOutOfRange key range
error_of_seek range key LessThanLastReturned = SeekKeyLessThanLastReturnedKey
error_of_seek range key (Stored fault) = error_of_read fault

-- all rows of a scan, or the fault that ends them
abbrev pub scanned : Iteration → Result (List KeyValue) SlateError
scanned it = with_error error_of_read (all_rows it.rows it.fault)

-- so many rows of a scan of a range, and then those from a key on, or why they aren't given
abbrev pub sought : ByteRange → ℕ → List ℕ → Iteration → Result (List KeyValue) SlateError
sought range count key it = with_error (error_of_seek range key) (seek_at count key it)

-- this is taken of a scan, unless memory ran out; what refuses the scan refuses it
abbrev pub AnswersTaken : (Iteration → Result (List KeyValue) SlateError) → Result Iteration SlateError → Result (List KeyValue) SlateError → Type 0
AnswersTaken taken (Ok it) result = (result ≡ Err NoMemory) ⊎ (result ≡ taken it)
AnswersTaken taken (Err error) result = result ≡ Err error

-- The reply where this is taken of a scan of something that closed with this result, or is open, and reads these tables.
-- `has_rows` says which batches it reads, and `is_scan` which iteration is over the plain scan of some.
pub record IsTaken {L : Type 0} (closed : CloseResult) (tables : List TableId) (has_rows : List Batch → Type 0) (is_scan : List Batch → Iteration → Type 0)
    (taken : Iteration → Result (List KeyValue) SlateError) (before : Known L) (reply : Reply) (after : Known L) : Type 0 where
  pub scan : Result Iteration SlateError
  pub result : Result (List KeyValue) SlateError
  pub scans : ReadsUnlessClosed closed tables has_rows (Gives is_scan) before scan after
  pub takes : AnswersTaken taken scan result
  pub replied : reply ≡ reply_to replies.Rows result
