-- Which errors a reader answers, over any store.
use Rattle.std.specs.Prelude.{◌≡◌, true}
use Rattle.slate_types.specs.declared.store_errors.StoreFault.TheVariants.{NotFound, Unavailable}
use Rattle.slate_store.specs.declared.reader_modes.DbReaderMode.{DbReaderMode}
use Rattle.slate_store.specs.declared.reader_modes.DbReaderMode.TheVariants.{Checkpoint}
use Rattle.slate_errors.specs.declared.errors.SlateError.{SlateError}
use Rattle.slate_errors.specs.declared.errors.SlateError.TheVariants as errors
use Rattle.slate_model.specs.Follower.{is_managed, is_pinned}

-- the errors that the latest manifest decides alone, where no other one is put
abbrev pub IsOfLatest : SlateError → Type 0
IsOfLatest errors.LatestTransactionalObjectVersionMissing = Unit {0}
IsOfLatest errors.InvalidDBState = Unit {0}
IsOfLatest (errors.SegmentExtractorMismatch persisted configured) = Unit {0}
IsOfLatest (errors.SegmentPrefixNotRecognized prefix name) = Unit {0}
IsOfLatest (errors.CheckpointMissing id) = Unit {0}
IsOfLatest error = ⊥

-- the errors of finding the manifest that a reader goes by that is opened, and its last log file
abbrev pub IsOfFinding : DbReaderMode → SlateError → Type 0
IsOfFinding mode errors.LatestTransactionalObjectVersionMissing = Unit {0}
IsOfFinding mode errors.InvalidDBState = Unit {0}
IsOfFinding mode (errors.SegmentExtractorMismatch persisted configured) = Unit {0}
IsOfFinding mode (errors.SegmentPrefixNotRecognized prefix name) = Unit {0}
IsOfFinding mode (errors.CheckpointMissing id) = mode ≡ Checkpoint id
IsOfFinding mode (errors.ObjectStoreError NotFound) = is_pinned mode ≡ true
IsOfFinding mode (errors.ObjectStoreError Unavailable) = Unit {0}
IsOfFinding mode errors.NoMemory = Unit {0}
IsOfFinding mode error = ⊥

-- the refusals of options of a reader that is to keep a checkpoint
abbrev pub IsOfOptions : SlateError → Type 0
IsOfOptions (errors.InvalidCheckpointLifetime lifetime) = Unit {0}
IsOfOptions (errors.InvalidManifestPollInterval interval) = Unit {0}
IsOfOptions (errors.CheckpointLifetimeTooShort lifetime interval) = Unit {0}
IsOfOptions error = ⊥

-- the errors of an opening
abbrev pub IsOfOpening : DbReaderMode → SlateError → Type 0
IsOfOpening mode (errors.EmptySegmentPrefix key) = Unit {0}
IsOfOpening mode (errors.TransactionalObjectTimeout tries) = (is_managed mode ≡ true) × (tries ≡ 8)
IsOfOpening mode (errors.InvalidCheckpointLifetime lifetime) = is_managed mode ≡ true
IsOfOpening mode (errors.InvalidManifestPollInterval interval) = is_managed mode ≡ true
IsOfOpening mode (errors.CheckpointLifetimeTooShort lifetime interval) = is_managed mode ≡ true
IsOfOpening mode error = IsOfFinding mode error

-- the errors of a poll of an open reader, and, of one that keeps a checkpoint, of a close
abbrev pub IsOfPoll : DbReaderMode → SlateError → Type 0
IsOfPoll mode errors.LatestTransactionalObjectVersionMissing = Unit {0}
IsOfPoll mode errors.InvalidDBState = Unit {0}
IsOfPoll mode (errors.TransactionalObjectTimeout tries) = (is_managed mode ≡ true) × (tries ≡ 8)
IsOfPoll mode (errors.ObjectStoreError Unavailable) = Unit {0}
IsOfPoll mode errors.NoMemory = Unit {0}
IsOfPoll mode error = ⊥

-- those of a poll that follows the latest manifest, before a key without a segment is answered as an invalid state
abbrev pub IsOfTaking : SlateError → Type 0
IsOfTaking errors.LatestTransactionalObjectVersionMissing = Unit {0}
IsOfTaking (errors.EmptySegmentPrefix key) = Unit {0}
IsOfTaking (errors.ObjectStoreError Unavailable) = Unit {0}
IsOfTaking errors.NoMemory = Unit {0}
IsOfTaking error = ⊥
