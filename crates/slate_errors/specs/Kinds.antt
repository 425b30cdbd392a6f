-- The kind of each error, the words of a kind, and the reason for closing that it names.
use Rattle.std.specs.Prelude.{ℕ, List, Option, Some, None, codes}
use Rattle.slate_types.specs.declared.store_errors.StoreFault.TheVariants.{NotFound, Unavailable}
use Rattle.slate_errors.specs.declared.closing.CloseReason.{CloseReason}
use Rattle.slate_errors.specs.declared.closing.CloseReason.TheVariants as reasons
use Rattle.slate_errors.specs.declared.kinds.ErrorKind.{ErrorKind}
use Rattle.slate_errors.specs.declared.kinds.ErrorKind.TheVariants as kinds
use Rattle.slate_errors.specs.declared.errors.SlateError.{SlateError}
use Rattle.slate_errors.specs.declared.errors.SlateError.TheVariants as errors
use Rattle.slate_errors.specs.declared.errors.RetryReason.{RetryReason}
use Rattle.slate_errors.specs.declared.errors.RetryReason.TheVariants as retries

-- the kind of an error
abbrev pub kind_of : SlateError → ErrorKind
kind_of errors.EmptyKey = kinds.Data
kind_of errors.EmptyBatch = kinds.Invalid
kind_of (errors.ObjectStoreError NotFound) = kinds.Data
kind_of (errors.ObjectStoreError Unavailable) = kinds.Unavailable
kind_of errors.TransactionalObjectVersionExists = kinds.Data
kind_of errors.LatestTransactionalObjectVersionMissing = kinds.Data
kind_of (errors.TransactionalObjectTimeout tries) = kinds.Unavailable
kind_of errors.InvalidDBState = kinds.Data
kind_of (errors.WalTruncated id) = kinds.Data
kind_of (errors.InvalidSegmentPrefix prefix conflict) = kinds.Invalid
kind_of errors.RecencyScanPrefixSpansMultipleSegments = kinds.Invalid
kind_of (errors.SegmentExtractorMismatch persisted configured) = kinds.Invalid
kind_of (errors.SegmentPrefixNotRecognized prefix extractor) = kinds.Invalid
kind_of (errors.EmptySegmentPrefix key) = kinds.Invalid
kind_of (errors.InvalidClockTick last next) = kinds.Invalid
kind_of errors.Fenced = kinds.Closed reasons.Fenced
kind_of errors.ChecksumMismatch = kinds.Data
kind_of errors.EmptyBlock = kinds.Data
kind_of errors.EmptyBlockMeta = kinds.Data
kind_of errors.InvalidFilterBlock = kinds.Data
kind_of (errors.BackgroundTaskExists name) = kinds.Internal
kind_of errors.BackgroundTaskExecutorStarted = kinds.Internal
kind_of errors.Closed = kinds.Closed reasons.Clean
kind_of errors.MergeOperatorError = kinds.Invalid
kind_of errors.MergeOperatorMissing = kinds.Invalid
kind_of (errors.IncompatibleMergeTtls key previous current) = kinds.Invalid
kind_of (errors.CheckpointMissing id) = kinds.Data
kind_of (errors.SeekKeyOutOfRange key range) = kinds.Invalid
kind_of errors.SeekKeyLessThanLastReturnedKey = kinds.Invalid
kind_of (errors.InvalidCheckpointLifetime lifetime) = kinds.Invalid
kind_of (errors.InvalidManifestPollInterval interval) = kinds.Invalid
kind_of (errors.CheckpointLifetimeTooShort lifetime interval) = kinds.Invalid
kind_of errors.WalDisabled = kinds.Invalid
kind_of errors.TransactionConflict = kinds.Transaction
kind_of (errors.Custom number) = kinds.Closed reasons.Panic
kind_of (errors.Backpressure unflushed limit) = kinds.Unavailable
kind_of errors.NoMemory = kinds.Memory

-- the reason for closing that a kind of error names
abbrev pub reason_of : ErrorKind → CloseReason
reason_of (kinds.Closed reason) = reason
reason_of other = reasons.Panic

-- why reading again may help, after an error
abbrev pub retry_reason : SlateError → Option RetryReason
retry_reason errors.ChecksumMismatch = Some retries.CrcMismatch
retry_reason errors.EmptyBlock = Some retries.BlockDecodeError
retry_reason errors.EmptyBlockMeta = Some retries.BlockDecodeError
retry_reason errors.InvalidFilterBlock = Some retries.BlockDecodeError
retry_reason other = None

-- the words of a kind
abbrev pub kind_words : ErrorKind → List ℕ
kind_words kinds.Transaction = codes "Transaction error"
kind_words (kinds.Closed reason) = codes "Closed error"
kind_words kinds.Unavailable = codes "Unavailable error"
kind_words kinds.Invalid = codes "Invalid error"
kind_words kinds.Data = codes "Data error"
kind_words kinds.Internal = codes "Internal error"
kind_words kinds.Memory = codes "Memory error"
