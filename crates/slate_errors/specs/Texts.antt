-- The public text of each error.
use Rattle.std.specs.Prelude.{ℕ, ℤ, List, [], ◌++◌, Option, Some, None, codes, decimal}
use Rattle.std.specs.Fmt.{signed_decimal}
use Rattle.uuid.specs.Text.{hyphenated_text, lower}
use Rattle.slate_types.specs.declared.ranges.ByteRange.{ByteRange}
use Rattle.slate_types.specs.declared.ranges.KeyBound.{KeyBound}
use Rattle.slate_types.specs.declared.ranges.KeyBound.TheVariants.{Unbounded, Included, Excluded}
use Rattle.slate_types.specs.declared.store_errors.StoreFault.{StoreFault}
use Rattle.slate_types.specs.declared.store_errors.StoreFault.TheVariants.{NotFound, Unavailable}
use Rattle.slate_text.specs.Words.{word_text}
use Rattle.slate_errors.specs.declared.errors.SlateError.{SlateError}
use Rattle.slate_errors.specs.declared.errors.SlateError.TheVariants as errors
use Rattle.slate_errors.specs.Kinds.{kind_of, kind_words}

-- a number that may be missing
abbrev pub optional_text : Option ℤ → List ℕ
optional_text None = codes "None"
optional_text (Some number) = codes "Some(" ++ signed_decimal number ++ codes ")"

-- a name that may be missing
abbrev pub name_text : Option (List ℕ) → List ℕ
name_text None = codes "None"
name_text (Some name) = name

-- a bound of keys, as a script writes it
abbrev pub bound_text : KeyBound → List ℕ
bound_text Unbounded = codes "*"
bound_text (Included key) = codes "[" ++ word_text key
bound_text (Excluded key) = codes "(" ++ word_text key

-- a range of keys: its two bounds
abbrev pub range_text : ByteRange → List ℕ
range_text range = bound_text range.low ++ codes " " ++ bound_text range.high

-- the message of an error that shows no value, and nothing for the others
abbrev pub fixed_message : SlateError → List ℕ
fixed_message errors.EmptyKey = codes "empty RowEntry key"
fixed_message errors.EmptyBatch = codes "empty write batch not allowed"
fixed_message (errors.ObjectStoreError fault) = codes "object store error"
fixed_message errors.TransactionalObjectVersionExists = codes "transactional object (e.g. manifest) version already exists"
fixed_message errors.LatestTransactionalObjectVersionMissing = codes "failed to find latest transactional object (e.g. manifest) version"
fixed_message errors.InvalidDBState = codes "invalid DB state error"
fixed_message errors.RecencyScanPrefixSpansMultipleSegments = codes "recency scan prefix spans multiple segments, which is unsupported"
fixed_message errors.Fenced = codes "detected newer DB client"
fixed_message errors.ChecksumMismatch = codes "checksum mismatch"
fixed_message errors.EmptyBlock = codes "empty block"
fixed_message errors.EmptyBlockMeta = codes "empty block metadata"
fixed_message errors.InvalidFilterBlock = codes "invalid composite filter block"
fixed_message errors.BackgroundTaskExecutorStarted = codes "background task executor already started"
fixed_message errors.Closed = codes "db is closed"
fixed_message errors.MergeOperatorError = codes "merge operator error"
fixed_message errors.MergeOperatorMissing = codes "merge operator missing. A merge operator is required to read merge operands"
fixed_message errors.SeekKeyLessThanLastReturnedKey = codes "cannot seek to a key less than the last returned key"
fixed_message errors.WalDisabled = codes "attempted a WAL operation when the WAL is disabled"
fixed_message errors.TransactionConflict = codes "transaction conflict"
fixed_message errors.NoMemory = codes "no memory"
fixed_message other = []

-- the message of an error that shows values, and nothing for the others; bytes are shown as a byte word
abbrev pub shown_message : SlateError → List ℕ
shown_message (errors.TransactionalObjectTimeout tries) =
    codes "transactional object (e.g. manifest) op timeout after " ++ decimal tries ++ codes " tries"
shown_message (errors.WalTruncated id) = codes "wal truncated at wal file `" ++ decimal id ++ codes "`"
shown_message (errors.InvalidSegmentPrefix prefix conflict) =
    codes "segment prefix " ++ word_text prefix ++ codes " would nest with existing segment " ++ word_text conflict
shown_message (errors.SegmentExtractorMismatch persisted configured) =
    codes "segment extractor configuration mismatch (persisted: " ++ name_text persisted ++ codes ", configured: " ++ name_text configured ++ codes ")"
shown_message (errors.SegmentPrefixNotRecognized prefix extractor) =
    codes "segment prefix " ++ word_text prefix ++ codes " is not recognized by the configured extractor `" ++ extractor ++ codes "`"
shown_message (errors.EmptySegmentPrefix key) = codes "segment extractor produced an empty prefix for key " ++ word_text key
shown_message (errors.InvalidClockTick last next) =
    codes "invalid clock tick, must be monotonic. last_tick=`" ++ signed_decimal last ++ codes "`, next_tick=`" ++ signed_decimal next ++ codes "`"
shown_message (errors.BackgroundTaskExists name) = codes "background task exists. name=`" ++ name ++ codes "`"
shown_message (errors.IncompatibleMergeTtls key previous current) =
    codes "only one merge TTL per-key allowed in a batch. key=" ++ word_text key
    ++ codes ", previous=`" ++ optional_text previous ++ codes "`, current=`" ++ optional_text current ++ codes "`"
shown_message (errors.CheckpointMissing id) = codes "checkpoint missing. checkpoint_id=`" ++ hyphenated_text lower id ++ codes "`"
shown_message (errors.SeekKeyOutOfRange key range) =
    codes "cannot seek to a key outside the iterator range. key=`" ++ word_text key ++ codes "`, range=`" ++ range_text range ++ codes "`"
shown_message (errors.InvalidCheckpointLifetime lifetime) = codes "invalid checkpoint lifetime. lifetime=`" ++ decimal lifetime ++ codes "ms`"
shown_message (errors.InvalidManifestPollInterval interval) = codes "invalid manifest poll interval. interval=`" ++ decimal interval ++ codes "ms`"
shown_message (errors.CheckpointLifetimeTooShort lifetime interval) =
    codes "checkpoint lifetime must be at least double the manifest poll interval. lifetime=`" ++ decimal lifetime ++ codes "ms`, interval=`" ++ decimal interval ++ codes "ms`"
shown_message (errors.Custom number) = codes "task fault " ++ decimal number
shown_message (errors.Backpressure unflushed limit) = codes "backpressure " ++ decimal unflushed ++ codes " of " ++ decimal limit
shown_message other = []

-- the message of an error
abbrev pub message_of : SlateError → List ℕ
message_of error = fixed_message error ++ shown_message error

-- the words of a store's fault
abbrev pub fault_words : StoreFault → List ℕ
fault_words NotFound = codes "not found"
fault_words Unavailable = codes "unavailable"

-- the source of an error, where it has one
abbrev pub source_of : SlateError → Option (List ℕ)
source_of (errors.ObjectStoreError fault) = Some (fault_words fault)
source_of other = None

-- a source behind a message, in parentheses
abbrev pub source_text : Option (List ℕ) → List ℕ
source_text None = []
source_text (Some source) = codes " (" ++ source ++ codes ")"

-- the public text of an error: the words of its kind, its message, and its source where it has one
abbrev pub error_text : SlateError → List ℕ
error_text error = kind_words (kind_of error) ++ codes ": " ++ message_of error ++ source_text (source_of error)
