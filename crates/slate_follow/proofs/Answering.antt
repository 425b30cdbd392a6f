-- Errors of a reader's steps among those of the whole.
use Rattle.std.proofs.Common.{◌≡◌, List, ℕ, Option, Some, None, refl}
use Rattle.std.specs.Prelude.{IsSome}
use Rattle.slate_types.specs.declared.batches.KeyOp.{KeyOp}
use Rattle.slate_types.specs.declared.store_errors.StoreFault.TheVariants.{NotFound, Unavailable}
use Rattle.slate_store.specs.declared.reader_modes.DbReaderMode.{DbReaderMode}
use Rattle.slate_store.specs.declared.reader_modes.DbReaderMode.TheVariants as modes
use Rattle.slate_store.specs.Refusals.{IsOfCommit}
use Rattle.slate_store.specs.declared.refusals.StoreRefusal.{StoreRefusal}
use Rattle.slate_store.specs.declared.refusals.StoreRefusal.TheVariants as refusals
use Rattle.slate_errors.specs.declared.errors.SlateError.{SlateError}
use Rattle.slate_errors.specs.declared.errors.SlateError.TheVariants as errors
use Rattle.slate_model.specs.Refusal.{error_of_refusal}
use Rattle.slate_model.specs.Segments.{Extractor, unsegmented_refusal}
use Rattle.slate_follow.specs.Answering.{IsOfFinding, IsOfLatest, IsOfOpening, IsOfOptions, IsOfPoll, IsOfTaking}
use Rattle.slate_follow.specs.Keeping.{IsOfPolling}
use Rattle.slate_follow.specs.Stepping.{IsOfTurn}
use Rattle.slate_follow.specs.Rebuilding.{IsOfFollowing, IsOfRebuilding, IsOfReplay, IsOfView, poll_error}

-- ---- what the latest manifest decides isn't found later
pub replay-later : (e : SlateError) → IsOfReplay e → IsOfLatest e → ⊥
replay-later (errors.ObjectStoreError Unavailable) is first = first
replay-later errors.NoMemory is first = first
replay-later e is first = is

pub rebuilding-later : (e : SlateError) → IsOfRebuilding e → IsOfLatest e → ⊥
rebuilding-later (errors.ObjectStoreError Unavailable) is first = first
rebuilding-later (errors.EmptySegmentPrefix key) is first = first
rebuilding-later errors.NoMemory is first = first
rebuilding-later e is first = is

pub options-later : (e : SlateError) → IsOfOptions e → IsOfLatest e → ⊥
options-later (errors.InvalidCheckpointLifetime lifetime) is first = first
options-later (errors.InvalidManifestPollInterval interval) is first = first
options-later (errors.CheckpointLifetimeTooShort lifetime interval) is first = first
options-later e is first = is

-- ---- of finding a view
pub following-finding : (mode : DbReaderMode) (e : SlateError) → IsOfFollowing e → IsOfFinding mode e
following-finding mode errors.InvalidDBState is = tt
following-finding mode (errors.SegmentExtractorMismatch persisted configured) is = tt
following-finding mode (errors.SegmentPrefixNotRecognized prefix name) is = tt
following-finding mode e is = absurd is

pub view-finding : (mode : DbReaderMode) (e : SlateError) → IsOfView mode e → IsOfFinding mode e
view-finding mode (errors.CheckpointMissing id) is = is
view-finding mode (errors.ObjectStoreError NotFound) is = is
view-finding mode (errors.ObjectStoreError Unavailable) is = tt
view-finding mode errors.NoMemory is = tt
view-finding mode e is = absurd is

pub replay-finding : (mode : DbReaderMode) (e : SlateError) → IsOfReplay e → IsOfFinding mode e
replay-finding mode (errors.ObjectStoreError Unavailable) is = tt
replay-finding mode errors.NoMemory is = tt
replay-finding mode e is = absurd is

-- ---- of an opening
pub finding-opening : (mode : DbReaderMode) (e : SlateError) → IsOfFinding mode e → IsOfOpening mode e
finding-opening mode errors.LatestTransactionalObjectVersionMissing is = is
finding-opening mode errors.InvalidDBState is = is
finding-opening mode (errors.SegmentExtractorMismatch persisted configured) is = is
finding-opening mode (errors.SegmentPrefixNotRecognized prefix name) is = is
finding-opening mode (errors.CheckpointMissing id) is = is
finding-opening mode (errors.ObjectStoreError NotFound) is = is
finding-opening mode (errors.ObjectStoreError Unavailable) is = is
finding-opening mode errors.NoMemory is = is
finding-opening mode e is = absurd is

pub rebuilding-opening : (mode : DbReaderMode) (e : SlateError) → IsOfRebuilding e → IsOfOpening mode e
rebuilding-opening mode (errors.ObjectStoreError Unavailable) is = tt
rebuilding-opening mode (errors.EmptySegmentPrefix key) is = tt
rebuilding-opening mode errors.NoMemory is = tt
rebuilding-opening mode e is = absurd is

-- ---- of a poll
-- of reading the latest manifest, whatever the mode
pub latest-taking : (e : SlateError) → ((mode : DbReaderMode) → IsOfTurn mode e) → IsOfTaking e
latest-taking errors.LatestTransactionalObjectVersionMissing of = tt
latest-taking errors.InvalidDBState of = absurd (let never = of modes.FollowLatest in cc)
latest-taking (errors.TransactionalObjectTimeout tries) of = absurd (let never = (of modes.FollowLatest).0 in cc)
latest-taking (errors.ObjectStoreError Unavailable) of = tt
latest-taking errors.NoMemory of = tt
latest-taking e of = absurd (of modes.FollowLatest)

-- of a call of the latest manifest or of a put, whatever the mode
pub turn-polling : (e : SlateError) → ((mode : DbReaderMode) → IsOfTurn mode e) → IsOfPoll modes.ManagedCheckpoint e
turn-polling errors.LatestTransactionalObjectVersionMissing of = tt
turn-polling errors.InvalidDBState of = tt
turn-polling (errors.TransactionalObjectTimeout tries) of = of modes.ManagedCheckpoint
turn-polling (errors.ObjectStoreError Unavailable) of = tt
turn-polling errors.NoMemory of = tt
turn-polling e of = absurd (of modes.ManagedCheckpoint)

-- and of what a poll takes then
pub rebuilding-polling : (e : SlateError) → IsOfRebuilding e → IsOfPoll modes.ManagedCheckpoint (poll_error e)
rebuilding-polling (errors.ObjectStoreError Unavailable) of = tt
rebuilding-polling (errors.EmptySegmentPrefix key) of = tt
rebuilding-polling errors.NoMemory of = tt
rebuilding-polling e of = absurd of

pub polling-poll : (e : SlateError) → IsOfPolling e → IsOfPoll modes.ManagedCheckpoint e
polling-poll errors.InvalidDBState of = tt
polling-poll (errors.ObjectStoreError Unavailable) of = tt
polling-poll errors.NoMemory of = tt
polling-poll e of = absurd of

-- of an opening that commits a checkpoint
pub latest-opening : (e : SlateError) → ((mode : DbReaderMode) → IsOfTurn mode e) → IsOfOpening modes.ManagedCheckpoint e
latest-opening errors.LatestTransactionalObjectVersionMissing of = tt
latest-opening errors.InvalidDBState of = tt
latest-opening (errors.TransactionalObjectTimeout tries) of = of modes.ManagedCheckpoint
latest-opening (errors.ObjectStoreError Unavailable) of = tt
latest-opening errors.NoMemory of = tt
latest-opening e of = absurd (of modes.ManagedCheckpoint)

pub options-opening : (e : SlateError) → IsOfOptions e → IsOfOpening modes.ManagedCheckpoint e
options-opening (errors.InvalidCheckpointLifetime lifetime) of = refl
options-opening (errors.InvalidManifestPollInterval interval) of = refl
options-opening (errors.CheckpointLifetimeTooShort lifetime interval) of = refl
options-opening e of = absurd of

pub options-valid : (e : SlateError) → IsOfOptions e → e ≡ errors.InvalidDBState → ⊥
options-valid errors.InvalidDBState of is = of
options-valid e of is = cc

pub rebuilding-valid : (e : SlateError) → IsOfRebuilding e → e ≡ errors.InvalidDBState → ⊥
rebuilding-valid errors.InvalidDBState of is = of
rebuilding-valid e of is = cc

-- ---- of a close
pub deleting-closing : (refusal : StoreRefusal) → IsOfCommit None refusal → IsOfPoll modes.ManagedCheckpoint (error_of_refusal refusal)
deleting-closing refusals.LatestTransactionalObjectVersionMissing of = tt
deleting-closing refusals.InvalidDBState of = tt
deleting-closing (refusals.TransactionalObjectTimeout tries) of = (refl, of)
deleting-closing (refusals.ObjectStoreError Unavailable) of = tt
deleting-closing refusals.NoMemory of = tt
deleting-closing (refusals.CheckpointMissing id) of = absurd (cc)
deleting-closing refusal of = absurd of

pub latest-valid : (e : SlateError) → ((mode : DbReaderMode) → IsOfTurn mode e) → e ≡ errors.InvalidDBState → ⊥
latest-valid errors.InvalidDBState of is = let never = of modes.FollowLatest in cc
latest-valid e of is = cc

pub rebuilding-taking : (e : SlateError) → IsOfRebuilding e → IsOfTaking e
rebuilding-taking (errors.ObjectStoreError Unavailable) is = tt
rebuilding-taking (errors.EmptySegmentPrefix key) is = tt
rebuilding-taking errors.NoMemory is = tt
rebuilding-taking e is = absurd is

pub taking-poll : (mode : DbReaderMode) (e : SlateError) → IsOfTaking e → IsOfPoll mode (poll_error e)
taking-poll mode errors.LatestTransactionalObjectVersionMissing is = tt
taking-poll mode (errors.EmptySegmentPrefix key) is = tt
taking-poll mode (errors.ObjectStoreError Unavailable) is = tt
taking-poll mode errors.NoMemory is = tt
taking-poll mode e is = absurd is

-- one that is answered as an invalid state names a key
pub taking-key : (e : SlateError) → IsOfTaking e → poll_error e ≡ errors.InvalidDBState → (key : List ℕ) × (e ≡ errors.EmptySegmentPrefix key)
taking-key errors.LatestTransactionalObjectVersionMissing is invalid = absurd (cc)
taking-key (errors.EmptySegmentPrefix key) is invalid = (key, refl)
taking-key (errors.ObjectStoreError Unavailable) is invalid = absurd (cc)
taking-key errors.NoMemory is invalid = absurd (cc)
taking-key e is invalid = absurd is

-- a key lacks a segment only where there is an extractor
pub refused-some : (x : Option Extractor) (ops : List KeyOp) (e : SlateError) → unsegmented_refusal x ops ≡ Some e → IsSome x
refused-some None ops e is = absurd (cc)
refused-some (Some x) ops e is = refl
