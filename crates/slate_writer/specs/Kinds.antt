-- Which errors the calls of a handle may answer, whatever the store says.
use Rattle.slate_types.specs.declared.store_errors.StoreFault.TheVariants.{Unavailable}
use Rattle.slate_errors.specs.declared.errors.SlateError.{SlateError}
use Rattle.slate_errors.specs.declared.errors.SlateError.TheVariants as errors

-- the errors of looking for the latest manifest, by which a handle may go on
abbrev pub IsOfLooking : SlateError → Type 0
IsOfLooking errors.LatestTransactionalObjectVersionMissing = Unit {0}
IsOfLooking errors.Fenced = Unit {0}
IsOfLooking (errors.ObjectStoreError Unavailable) = Unit {0}
IsOfLooking errors.NoMemory = Unit {0}
IsOfLooking error = ⊥

-- the errors of a flush that goes to the store
abbrev pub IsOfFlush : SlateError → Type 0
IsOfFlush errors.LatestTransactionalObjectVersionMissing = Unit {0}
IsOfFlush errors.Fenced = Unit {0}
IsOfFlush errors.InvalidDBState = Unit {0}
IsOfFlush errors.TransactionalObjectVersionExists = Unit {0}
IsOfFlush (errors.ObjectStoreError Unavailable) = Unit {0}
IsOfFlush errors.NoMemory = Unit {0}
IsOfFlush error = ⊥

-- the errors of a compaction
abbrev pub IsOfCompacting : SlateError → Type 0
IsOfCompacting errors.TransactionalObjectVersionExists = Unit {0}
IsOfCompacting errors.InvalidDBState = Unit {0}
IsOfCompacting (errors.ObjectStoreError fault) = Unit {0}
IsOfCompacting error = IsOfLooking error

-- the errors of an opening
abbrev pub IsOfOpening : SlateError → Type 0
IsOfOpening errors.InvalidDBState = Unit {0}
IsOfOpening (errors.SegmentExtractorMismatch persisted configured) = Unit {0}
IsOfOpening (errors.SegmentPrefixNotRecognized prefix name) = Unit {0}
IsOfOpening (errors.EmptySegmentPrefix key) = Unit {0}
IsOfOpening errors.TransactionalObjectVersionExists = Unit {0}
IsOfOpening (errors.WalTruncated id) = Unit {0}
IsOfOpening errors.Fenced = Unit {0}
IsOfOpening (errors.ObjectStoreError Unavailable) = Unit {0}
IsOfOpening errors.NoMemory = Unit {0}
IsOfOpening error = ⊥
