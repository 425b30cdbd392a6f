-- What a read and a scan answer, of an open object and of a closed one.
use Rattle.std.specs.Prelude.{◌≡◌, List, [], None, Result, Ok, Err, IfSome}
use Rattle.slate_types.specs.declared.batches.Batch.{Batch}
use Rattle.slate_store.specs.declared.objects.TableId.{TableId}
use Rattle.slate_types.specs.declared.store_errors.StoreFault.TheVariants.{NotFound}
use Rattle.slate_types.specs.declared.read_faults.ReadFault.{ReadFault}
use Rattle.slate_types.specs.declared.read_faults.ReadFault.TheVariants as reads
use Rattle.slate_errors.specs.Errors.{closed_error}
use Rattle.slate_errors.specs.declared.errors.SlateError.{SlateError}
use Rattle.slate_errors.specs.declared.errors.SlateError.TheVariants as errors
use Rattle.slate_model.specs.Handle.{CloseResult}
use Rattle.slate_model.specs.Known.{FaultsRise, Known}
use Rattle.slate_model.specs.Tables.{AreStored}

-- something plain is given, and no fault: a scan ends with its fault
abbrev pub Gives : {A : Type 0} → (List Batch → A → Type 0) → List Batch → Result A ReadFault → Type 0
Gives is_plain rows (Ok given) = is_plain rows given
Gives is_plain rows (Err fault) = ⊥

-- A read of something open answers what `is_plain` says is a plain answer over the batches that it reads; `has_rows` says
-- which these are. Else memory ran out, or a table wasn't read.
abbrev pub AnswersRead : {A : Type 0} → (List Batch → Type 0) → (List Batch → Result A ReadFault → Type 0) → Result A SlateError → Type 0
AnswersRead has_rows is_plain (Ok found) = (rows : List Batch) × has_rows rows × is_plain rows (Ok found)
AnswersRead has_rows is_plain (Err errors.MergeOperatorMissing) = (rows : List Batch) × has_rows rows × is_plain rows (Err reads.MergeOperatorMissing)
AnswersRead has_rows is_plain (Err errors.MergeOperatorError) = (rows : List Batch) × has_rows rows × is_plain rows (Err reads.MergeOperatorError)
AnswersRead has_rows is_plain (Err errors.ChecksumMismatch) = (rows : List Batch) × has_rows rows × is_plain rows (Err reads.ChecksumMismatch)
AnswersRead has_rows is_plain (Err (errors.ObjectStoreError fault)) = Unit {0}
AnswersRead has_rows is_plain (Err errors.NoMemory) = Unit {0}
AnswersRead has_rows is_plain (Err error) = ⊥

-- A read of something open that reads these tables. It leaves the store's objects; a fault is answered only where the
-- count of faults has risen, and that a table is missing only where one is. Without a table the store isn't called.
pub record ReadsTables {L A : Type 0} (tables : List TableId) (has_rows : List Batch → Type 0) (is_plain : List Batch → Result A ReadFault → Type 0)
    (before : Known L) (answer : Result A SlateError) (after : Known L) : Type 0 where
  pub faults : FaultsRise before.faults after.faults answer
  pub kept : after.objects ≡ before.objects
  pub missing : answer ≡ Err (errors.ObjectStoreError NotFound) → IfSome before.objects (λ o. AreStored o tables → ⊥)
  pub alone : tables ≡ [] → (after ≡ before) × (answer ≡ Err (errors.ObjectStoreError NotFound) → ⊥)
  pub plain : AnswersRead has_rows is_plain answer

-- A read of something that closed with this result, or is open: what closed it is answered, else it is read.
pub record ReadsUnlessClosed {L A : Type 0} (result : CloseResult) (tables : List TableId) (has_rows : List Batch → Type 0) (is_plain : List Batch → Result A ReadFault → Type 0)
    (before : Known L) (answer : Result A SlateError) (after : Known L) : Type 0 where
  pub closed : IfSome result (λ r. (answer ≡ Err (closed_error r)) × (after ≡ before))
  pub read : result ≡ None → ReadsTables tables has_rows is_plain before answer after

-- what a read says whatever its operator answers: all but what it finds
abbrev pub ReadsByAny : {L A : Type 0} → CloseResult → List TableId → Known L → Result A SlateError → Known L → Type 0
ReadsByAny result tables before answer after = ReadsUnlessClosed result tables (λ rows. Unit {0}) (λ rows found. Unit {0}) before answer after
