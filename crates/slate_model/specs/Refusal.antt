-- The errors that the refusals of a store's calls are answered with.
use Rattle.slate_store.specs.declared.refusals.StoreRefusal.{StoreRefusal}
use Rattle.slate_store.specs.declared.refusals.StoreRefusal.TheVariants as refusals
use Rattle.slate_errors.specs.declared.errors.SlateError.{SlateError}
use Rattle.slate_errors.specs.declared.errors.SlateError.TheVariants as errors

-- the error of a refusal: that of its name
abbrev pub error_of_refusal : StoreRefusal → SlateError
error_of_refusal (refusals.CheckpointMissing id) = errors.CheckpointMissing id
error_of_refusal refusals.LatestTransactionalObjectVersionMissing = errors.LatestTransactionalObjectVersionMissing
error_of_refusal refusals.Fenced = errors.Fenced
error_of_refusal refusals.InvalidDBState = errors.InvalidDBState
error_of_refusal (refusals.ObjectStoreError fault) = errors.ObjectStoreError fault
error_of_refusal refusals.TransactionalObjectVersionExists = errors.TransactionalObjectVersionExists
error_of_refusal (refusals.TransactionalObjectTimeout tries) = errors.TransactionalObjectTimeout tries
error_of_refusal refusals.NoMemory = errors.NoMemory
