-- The steps of an opening: what it finds, what it puts, and what it replays.
use Rattle.std.specs.Prelude.{◌≡◌, ℕ, ◌+◌, ◌-◌, ◌≤◌, ◌<◌, ◌⊎◌, All, List, [], ◌∷◌, true, Option, Some, None, Result, Ok, Err}
use Rattle.slate_types.specs.declared.batches.Batch.{Batch}
use Rattle.slate_store.specs.declared.objects.VersionedManifest.{VersionedManifest}
use Rattle.slate_types.specs.declared.store_errors.StoreFault.TheVariants.{Unavailable}
use Rattle.slate_store.specs.Objects.{IsGreatest, Objects, Change, PutManifest, PutLog, is_present, last_log, latest_manifest}
use Rattle.slate_store.specs.Logs.{AreTruncatedAt, IsLogged}
use Rattle.slate_replay.specs.Replay.{Replays, calls_after}
use Rattle.slate_replay.specs.declared.replays.Replayed.TheVariants.{Whole}
use Rattle.slate_errors.specs.declared.errors.SlateError.{SlateError}
use Rattle.slate_errors.specs.declared.errors.SlateError.TheVariants as errors
use Rattle.slate_model.specs.Changes.{after_part}
use Rattle.slate_model.specs.Handle.{Handle}
use Rattle.slate_model.specs.Open.{OpenCause, found_log, mark_of, number_of, open_refusal, opened_manifest, replayed_logs}
use Rattle.slate_model.specs.Segments.{Extractor}
use Rattle.slate_model.specs.Write.{last_number}

-- the last log file after a replay mark, which isn't the last one that there can be; or why there is none
abbrev pub FindsLog : (mark : ℕ) → Objects → Result ℕ SlateError → Type 0
FindsLog mark objects (Ok last) = last ≡ last_log mark objects
FindsLog mark objects (Err errors.InvalidDBState) = last_number ≤ last_log mark objects
FindsLog mark objects (Err (errors.ObjectStoreError Unavailable)) = Unit {0}
FindsLog mark objects (Err errors.NoMemory) = Unit {0}
FindsLog mark objects (Err error) = ⊥

-- the manifest that an opening with an extractor of this name commits, and the last log file
abbrev pub FindsNext : Option (List ℕ) → Objects → VersionedManifest × ℕ → Type 0
FindsNext name objects found = (found.0 ≡ opened_manifest name objects) × (found.1 ≡ found_log objects)

-- nothing stands against an opening with an extractor, or this does
abbrev pub Fits : {A : Type 0} → Option Extractor → Objects → Result A SlateError → Type 0
Fits extractor objects (Ok _) = open_refusal extractor objects ≡ None
Fits extractor objects (Err error) = OpenCause extractor (λ _. ⊥) objects error

-- the refusals of an opening by the latest manifest
abbrev pub IsOfManifest : SlateError → Type 0
IsOfManifest errors.InvalidDBState = Unit {0}
IsOfManifest (errors.SegmentExtractorMismatch persisted configured) = Unit {0}
IsOfManifest (errors.SegmentPrefixNotRecognized prefix name) = Unit {0}
IsOfManifest error = ⊥

-- the errors of looking for what an opening commits
abbrev pub IsOfFinding : SlateError → Type 0
IsOfFinding errors.InvalidDBState = Unit {0}
IsOfFinding (errors.SegmentExtractorMismatch persisted configured) = Unit {0}
IsOfFinding (errors.SegmentPrefixNotRecognized prefix name) = Unit {0}
IsOfFinding (errors.ObjectStoreError Unavailable) = Unit {0}
IsOfFinding errors.NoMemory = Unit {0}
IsOfFinding error = ⊥

-- a manifest, and then an empty log file
abbrev pub opening_puts : VersionedManifest → ℕ → List Change
opening_puts view fence = PutManifest view.id view.manifest ∷ PutLog fence [] ∷ []

-- what putting the two leaves: so many of them
abbrev pub PutsOpening : VersionedManifest → ℕ → Result (Unit {0}) SlateError → Objects → Objects → Type 0
PutsOpening view fence (Ok _) old new = new ≡ after_part 2 (opening_puts view fence) old
PutsOpening view fence (Err errors.TransactionalObjectVersionExists) old new =
    ((is_present (PutManifest view.id view.manifest) old ≡ true) × (new ≡ old))
    ⊎ ((is_present (PutLog fence []) old ≡ true) × (new ≡ after_part 1 (opening_puts view fence) old))
PutsOpening view fence (Err (errors.ObjectStoreError Unavailable)) old new =
    (made : ℕ) × (made ≤ 2) × (new ≡ after_part made (opening_puts view fence) old)
PutsOpening view fence (Err errors.NoMemory) old new =
    (made : ℕ) × (made ≤ 2) × (new ≡ after_part made (opening_puts view fence) old)
PutsOpening view fence (Err error) old new = ⊥

-- The batches that the log files of a manifest have, up to one of them, or why they give none: they are truncated at
-- this one, or the manifest isn't the latest any more.
abbrev pub Recovers : VersionedManifest → ℕ → Objects → Result (List Batch) SlateError → Type 0
Recovers view last objects (Ok batches) =
    let m = view.manifest in
    Replays m.replay_after_wal_id last m.last_l0_seq [] batches objects (Ok Whole)
Recovers view last objects (Err (errors.WalTruncated id)) =
    let m = view.manifest in
    (end : ℕ) × AreTruncatedAt id m.replay_after_wal_id last m.last_l0_seq end objects
Recovers view last objects (Err errors.Fenced) =
    (latest : VersionedManifest) × (latest_manifest objects ≡ Some latest) × (view.manifest.writer_epoch < latest.manifest.writer_epoch)
Recovers view last objects (Err (errors.ObjectStoreError Unavailable)) = Unit {0}
Recovers view last objects (Err errors.NoMemory) = Unit {0}
Recovers view last objects (Err error) = ⊥

-- what a handle that was opened sees is what a replay of the log files gives, sound or not
abbrev pub HasLogs : Objects → Handle → Type 0
HasLogs objects handle =
    let latest = latest_manifest objects in
    Replays (mark_of latest) (found_log objects) (number_of latest) [] handle.line.batches objects (Ok Whole)

-- The manifest that a handle was opened by is the latest, and each batch that it replayed is in a log file above its mark.
pub record IsLeftBy (handle : Handle) (objects : Objects) : Type 0 where
  pub latest : latest_manifest objects ≡ Some handle.view
  pub greatest : IsGreatest objects handle.view
  pub logged : All (IsLogged handle.view.manifest.replay_after_wal_id objects) handle.line.batches

-- how often a recovery of the log files of a manifest, up to one of them, calls a store at most
abbrev pub recovery_calls : {A : Type 0} → VersionedManifest → ℕ → Result A SlateError → ℕ
recovery_calls view last (Ok _) = last - view.manifest.replay_after_wal_id
recovery_calls view last (Err error) = last - view.manifest.replay_after_wal_id + 1

-- How often an opening calls a store: it asks for the latest manifest and the last log file, puts two objects, and
-- reads the log files that it replays. Where these are truncated, it reads them up to that one, and asks for the latest
-- manifest again.
abbrev pub CallsOpening : {A : Type 0} → Objects → (calls calls' : ℕ) → Result A SlateError → Type 0
CallsOpening objects calls calls' (Ok _) = calls' ≤ calls + 4 + replayed_logs objects
CallsOpening objects calls calls' (Err (errors.WalTruncated id)) =
    (calls' ≡ calls_after (5 + (id - mark_of (latest_manifest objects))) calls) × (calls' ≤ calls + 5 + replayed_logs objects)
CallsOpening objects calls calls' (Err error) = calls' ≤ calls + 5 + replayed_logs objects
