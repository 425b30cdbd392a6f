-- The error that each fault of a read, a store or a close is answered with.
use Rattle.std.specs.Prelude.{Result, Ok, Err}
use Rattle.slate_types.specs.declared.read_faults.ReadFault.{ReadFault}
use Rattle.slate_types.specs.declared.read_faults.ReadFault.TheVariants as reads
use Rattle.slate_types.specs.declared.store_errors.StoreError.{StoreError}
use Rattle.slate_types.specs.declared.store_errors.StoreError.TheVariants.{NotFound, Exists, Failed, NoMemory}
use Rattle.slate_types.specs.declared.store_errors.StoreFault.TheVariants.{NotFound as Missing, Unavailable}
use Rattle.slate_errors.specs.declared.closing.CloseFault.{CloseFault}
use Rattle.slate_errors.specs.declared.closing.CloseFault.TheVariants as faults
use Rattle.slate_errors.specs.declared.errors.SlateError.{SlateError}
use Rattle.slate_errors.specs.declared.errors.SlateError.TheVariants as errors

-- the error that a fault of a read is answered with
abbrev pub error_of_read : ReadFault → SlateError
error_of_read reads.MergeOperatorMissing = errors.MergeOperatorMissing
error_of_read reads.MergeOperatorError = errors.MergeOperatorError
error_of_read reads.ChecksumMismatch = errors.ChecksumMismatch
error_of_read reads.NoMemory = errors.NoMemory

-- the error that a refusal of a store's call is answered with
abbrev pub error_of_store : StoreError → SlateError
error_of_store NotFound = errors.ObjectStoreError Missing
error_of_store Exists = errors.TransactionalObjectVersionExists
error_of_store Failed = errors.ObjectStoreError Unavailable
error_of_store NoMemory = errors.NoMemory

-- the error that a recorded result is answered with
abbrev pub error_of_fault : CloseFault → SlateError
error_of_fault faults.Fenced = errors.Fenced
error_of_fault faults.InvalidDBState = errors.InvalidDBState
error_of_fault (faults.ObjectStoreError fault) = errors.ObjectStoreError fault
error_of_fault faults.TransactionalObjectVersionExists = errors.TransactionalObjectVersionExists
error_of_fault faults.LatestTransactionalObjectVersionMissing = errors.LatestTransactionalObjectVersionMissing
error_of_fault (faults.TransactionalObjectTimeout tries) = errors.TransactionalObjectTimeout tries
error_of_fault (faults.Custom number) = errors.Custom number

-- what a checked call on something that closed with this result answers
abbrev pub closed_error : Result (Unit {0}) CloseFault → SlateError
closed_error (Ok _) = errors.Closed
closed_error (Err fault) = error_of_fault fault
