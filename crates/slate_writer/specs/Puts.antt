-- What the puts of a flush leave of a store, by what they answer.
use Rattle.std.specs.Prelude.{◌≡◌, ℕ, ◌<◌, ◌≤◌, ◌+◌, ◌⊎◌, ◌&&◌, if◌then◌else◌, List, [], ◌∷◌, ◌++◌, length, take, nat_le, nat_lt, Bool, false, Result, Ok, Err, IfErr, IfSome}
use Rattle.slate_types.specs.declared.batches.Batch.{Batch}
use Rattle.slate_types.specs.declared.options.FlushType.{FlushType}
use Rattle.slate_types.specs.declared.options.FlushType.TheVariants.{Wal, MemTable}
use Rattle.slate_types.specs.declared.store_errors.StoreError.{StoreError}
use Rattle.slate_types.specs.declared.store_errors.StoreFault.TheVariants.{Unavailable}
use Rattle.slate_store.specs.declared.objects.TableId.{TableId}
use Rattle.slate_store.specs.declared.objects.VersionedManifest.{VersionedManifest}
use Rattle.slate_store.specs.Calls.{Puts}
use Rattle.slate_store.specs.Objects.{Change, Objects, PutLog, PutManifest, PutTable, changed, latest_manifest}
use Rattle.slate_errors.specs.Errors.{error_of_store}
use Rattle.slate_errors.specs.declared.errors.SlateError.{SlateError}
use Rattle.slate_errors.specs.declared.errors.SlateError.TheVariants as errors
use Rattle.slate_model.specs.Changes.{PartMade, after_part}
use Rattle.slate_model.specs.Flush.{DurableAfter, FlushesOnly, IsFlushed, Stores, grows, log_after, log_changes, table_changes, tables_put}
use Rattle.slate_model.specs.Handle.{Handle, accepted, to_log}
use Rattle.slate_model.specs.Knowledge.{Knowledge}
use Rattle.slate_model.specs.Known.{Known}
use Rattle.slate_model.specs.Stores.{Stands}
use Rattle.slate_model.specs.Write.{last_number}

-- how often a flush calls a store at most: it looks for the latest manifest and the last log file, and puts the log file,
-- and then the table and the manifest
abbrev pub flush_calls : FlushType → ℕ
flush_calls Wal = 3
flush_calls MemTable = 5

-- how often it calls it to find the last log file and to put these batches as the next one, where there are any
abbrev pub log_calls : List Batch → ℕ
log_calls [] = 0
log_calls (batch ∷ batches) = 2

-- and to put them alone
abbrev pub put_calls : List Batch → ℕ
put_calls [] = 0
put_calls (batch ∷ batches) = 1

-- How often a flush of a handle calls a store at most, by what it has to put. Where it answers Ok it makes all of these
-- calls, unless the first one decides.
abbrev pub calls_of : FlushType → Handle → ℕ
calls_of Wal handle = 1 + log_calls (to_log handle)
calls_of MemTable handle = 4 + put_calls (to_log handle)

-- The look at the latest manifest decides a flush: there is none, its epoch is above the handle's, or its tables have all
-- batches that are to go to one.
abbrev pub IsDecided : FlushType → Handle → Objects → Type 0
IsDecided flush_type handle objects =
    IfSome (latest_manifest objects)
    (λ latest. (handle.epoch < latest.manifest.writer_epoch) ⊎ ((flush_type ≡ MemTable) × (accepted handle ≤ latest.manifest.last_l0_seq)))

-- the put of these batches as a log file, where there are any
abbrev pub log_put : ℕ → List Batch → List Change
log_put id [] = []
log_put id (batch ∷ batches) = PutLog id (batch ∷ batches) ∷ []

-- the puts of a flush to a table: the log file, the table, and the manifest that names it
abbrev pub table_puts : ℕ → List Batch → TableId → List Batch → VersionedManifest → List Change
table_puts log batches id table next = log_put log batches ++ PutTable id table ∷ PutManifest next.id next.manifest ∷ []

-- a put of one of these changes, whose refusal is answered as an error
abbrev pub PutsOne : Change → Result (Unit {0}) SlateError → Objects → Objects → Type 0
PutsOne change (Ok _) objects objects' = objects' ≡ changed change objects
PutsOne change (Err error) objects objects' = (refusal : StoreError) × (error ≡ error_of_store refusal) × Puts change (Err refusal) objects objects'

-- and that of batches as a log file, where there are any
abbrev pub PutsLog : ℕ → List Batch → Result (Unit {0}) SlateError → Objects → Objects → Type 0
PutsLog id [] result objects objects' = (result ≡ Ok tt) × (objects' ≡ objects)
PutsLog id (batch ∷ batches) result objects objects' = PutsOne (PutLog id (batch ∷ batches)) result objects objects'

-- Why the changes of a flush aren't all made: an id is used up, or an object stands where one of them puts it. A fault
-- and want of memory have no cause here.
abbrev pub PutsCause : (ids : Bool) → List Change → Objects → SlateError → Type 0
PutsCause ids changes objects errors.InvalidDBState = ids ≡ false
PutsCause ids changes objects errors.TransactionalObjectVersionExists = Stands changes objects
PutsCause ids changes objects (errors.ObjectStoreError Unavailable) = Unit {0}
PutsCause ids changes objects errors.NoMemory = Unit {0}
PutsCause ids changes objects error = ⊥

-- So many of these changes were made, by what is answered, and the count of tables rose from one number to another. `ids`
-- says whether the ids are left that they use.
pub record MakesPart (ids : Bool) (changes : List Change) (result : Result (Unit {0}) SlateError) (counter counter' : ℕ) (made : ℕ) (objects objects' : Objects) : Type 0 where
  pub cause : IfErr result (PutsCause ids changes objects)
  pub part : PartMade result (length changes) made
  pub only : FlushesOnly result (length changes) made
  pub counted : (counter + tables_put (take made changes) ≤ counter') × (counter' ≤ counter + tables_put changes)
  pub after : objects' ≡ after_part made changes objects

-- the changes of a flush to a table of a handle that has batches for one, and whether the ids are left that it uses
abbrev pub all_changes : Handle → VersionedManifest → ℕ → List Change
all_changes handle latest last = log_changes (λ batches. batches) (to_log handle) last ++ table_changes (λ batches. batches) handle latest last

abbrev pub has_all_ids : Handle → VersionedManifest → ℕ → Bool
has_all_ids handle latest last =
    nat_lt (log_after (to_log handle) last) last_number && nat_lt handle.counter last_number && nat_lt latest.id last_number

-- what an answer says, without its value
abbrev pub plain : {A : Type 0} → Result A SlateError → Result (Unit {0}) SlateError
plain (Ok _) = Ok tt
plain (Err error) = Err error

-- the durable number after puts that didn't all answer Ok
abbrev pub DurableThen : ℕ → Handle → Result (Unit {0}) SlateError → Handle → Type 0
DurableThen made old (Ok _) new = Unit {0}
DurableThen made old (Err error) new = DurableAfter (nat_le (grows old) made) old (Err error) new.durable

-- the durable number once the batches of a handle that keeps a log are in it
abbrev pub logged_durable : Handle → ℕ
logged_durable handle = if handle.keeps_log then accepted handle else handle.durable

-- and after their put, which puts none where there are none
abbrev pub durable_by : List Batch → Handle → Result (Unit {0}) SlateError → ℕ
durable_by batches handle (Err error) = handle.durable
durable_by [] handle (Ok _) = handle.durable
durable_by (batch ∷ batches) handle (Ok _) = logged_durable handle

-- A flush of a handle, by the handle after it, of which `keep` gives what is kept.
pub record StoresBy (keep : Handle → Handle) (k : Knowledge (List Batch)) (flush_type : FlushType) (old : Handle)
    (before : Known (List Batch)) (result : Result (Unit {0}) SlateError) (new : Handle) (after : Known (List Batch)) (made : ℕ) : Type 0 where
  pub flushed : IsFlushed keep made result old.result old.tasks old new
  pub stored : Stores k made flush_type old before result new after
