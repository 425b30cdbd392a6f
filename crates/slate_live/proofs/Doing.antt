-- What the live state's calls do, by what the calls of its objects do.
use Rattle.slate_errors.specs.declared.endings.TaskName.{TaskName}
use Rattle.slate_model.specs.Segments.{Extractor}
use Rattle.std.proofs.Common.{◌≡◌, ◌∙◌, inl, inr, ℕ, ℤ, Bool, List, [], ◌∷◌, ◌++◌, length, set, true, false, Option, Some, None, Result, Ok, Err, refl, sym, subst, ap, arith}
use Rattle.std.specs.Option.{IfSome, UnwrapsOrElse}
use Rattle.slate_types.specs.declared.batches.Batch.{Batch}
use Rattle.slate_types.specs.declared.options.CloseOptions.{CloseOptions}
use Rattle.slate_types.specs.declared.options.FlushType.TheVariants.{MemTable}
use Rattle.slate_types.specs.Modelled.{WhereModelled}
use Rattle.slate_types.specs.declared.store_errors.StoreFault.TheVariants.{NotFound, Unavailable}
use Rattle.slate_store.specs.declared.objects.Checkpoint.{Checkpoint}
use Rattle.slate_store.specs.declared.refusals.StoreRefusal.{StoreRefusal}
use Rattle.slate_store.specs.declared.refusals.StoreRefusal.TheVariants as refusals
use Rattle.slate_store.specs.Calls.{KeepsFaults}
use Rattle.slate_store.specs.Checkpoints.{to_write}
use Rattle.slate_store.specs.Objects.{Objects, ObjectsOf}
use Rattle.slate_store.specs.Refusals.{CountsFaults as StoreFaults, CountsTries, FollowsPlan}
use Rattle.slate_store.specs.Sweeps.{Sweeps}
use Rattle.slate_model.specs.Maintain.{CommitsCheckpoint, SweepsObjects}
use Rattle.slate_model.specs.Refusal.{error_of_refusal}
use Rattle.slate_model.specs.Stores.{by_objects}
use Rattle.slate_model.proofs.Maintained.{answered, commits-by, sweeps-by}
use Rattle.slate_live.specs.Maintenance.{CommitsTo, SweepsTo}
use Rattle.slate_live.specs.Followers.{PollsAs, PollsFollower}
use Rattle.slate_live.specs.Replies.{followed_reply, polled_reply, refusal, reply_to}
use Rattle.slate_script.specs.declared.replies.Reply.TheVariants as replies
use Rattle.slate_store.specs.declared.reader_modes.DbReaderMode.{DbReaderMode}
use Rattle.slate_store.specs.declared.reader_modes.DbReaderMode.TheVariants as modes
use Rattle.slate_errors.specs.declared.errors.SlateError.TheVariants as errors
use Rattle.slate_model.specs.Follow.{FollowCause, Polls, Rebuilds, SeesOwed, unseen}
use Rattle.slate_model.specs.Begun.{Begun}
use Rattle.slate_model.specs.Follower.{Follower, is_managed, is_pinned, number}
use Rattle.slate_model.specs.Lease.{lease_refusal, to_take}
use Rattle.slate_model.specs.Managed.{OpensManaged, PollsManaged, PutsPlanned, TakeRefusal, TakesLease}
use Rattle.slate_model.specs.declared.answers.PollAnswer.{PollAnswer}
use Rattle.slate_model.specs.declared.answers.PollAnswer.TheVariants.{Whole as AllRead}
use Rattle.slate_model.specs.Knowledge.{Knowledge}
use Rattle.slate_model.specs.Known.{Known, Untouched}
use Rattle.slate_model.specs.Object.{Object, Handle as AHandle, Snapshot as ASnapshot, Follower as AFollower}
use Rattle.slate_model.specs.Open.{OpensHandle}
use Rattle.slate_script.specs.declared.commands.Command.{Command}
use Rattle.slate_script.specs.declared.replies.Reply.{Reply}
use Rattle.slate_live.specs.Calls.{Call, at_snapshot, flush_of_close, read_by}
use Rattle.slate_live.specs.Commands.{Acts, ActsOn, OpensFollowerIn, OpensSnapshot, ReadsSnapshot, added, interval_of, lifetime_of}
use Rattle.slate_live.specs.Settings.{Settings}
use Rattle.slate_live.specs.Sampling.{ActsAsOf, Pushes, snapshot_of, taken_of}
use Rattle.slate_live.specs.declared.states.Write.{Write}
use Rattle.slate_live.proofs.Places.{set-same}
use Rattle.slate_errors.specs.declared.errors.SlateError.{SlateError}
use Rattle.slate_model.specs.declared.snapshots.HandleSnapshot.{HandleSnapshot}
use Rattle.slate_model.specs.Snapshot.{snapshot_number}
use Rattle.std.specs.List.{slice_get}
use Rattle.std.proofs.lemmas.List.{append-nil}
use Rattle.slate_live.specs.State.{Live, State}
use Rattle.slate_live.specs.Stepping.{BeginsOf, BeginsOn, BeginsPoll, MakesCall, StepsObject, StepsOf, StepsOn, StepsPoll, StepsReader, poll_left, stepped_reply}

-- an opening that finds no room touches no store
pub opens-nothing : {L : Type 0} (k : Knowledge L) (extractor : Option Extractor) (keeps_log : Bool) (limit : ℕ) (tasks : List TaskName) (store : Known L) → OpensHandle k extractor 0 keeps_log limit tasks store (Err errors.NoMemory) store
opens-nothing k extractor keeps_log limit tasks store = record {
  opens = record {
    none = λ h. h;
    some = λ o is. (o, is, record { answer = tt; part = omega arith; only = tt; can = λ h. absurd (omega (arith, h)); after = refl });
  };
  faults = record { count = omega arith; unavailable = λ h. absurd (cc); stays = inl refl; none_missing = λ h. absurd (cc) };
  fresh = tt;
  view = tt;
  segmented = λ o line is stored. tt;
  handle = tt;
}

caused : (ext : Option Extractor) (k : Knowledge (List Batch)) (mode : DbReaderMode) (objects : Option Objects) → IfSome objects (λ o. FollowCause ext mode true (k.unpinned mode o) o errors.NoMemory)
caused ext k mode None = tt
caused ext k mode (Some o) = tt

-- an opening of a reader that was opened and finds no room
pub follows-in_vain : (ext : Option Extractor) (k : Knowledge (List Batch)) (mode : DbReaderMode) (skips : Bool) (lag : ℕ) (b : Follower × PollAnswer) (before after : Known (List Batch)) → Rebuilds k ext mode skips true lag (SeesOwed k mode skips lag) unseen before (Ok b) after → Rebuilds k ext mode skips true lag (SeesOwed k mode skips lag) unseen before (Err errors.NoMemory) after
follows-in_vain ext k mode skips lag b before after did = record {
  kept = did.kept;
  faults = record { count = did.faults.count; unavailable = λ h. absurd (cc); stays = inl did.faults.stays };
  missing = λ h. absurd (cc);
  cause = caused ext k mode before.objects;
  answer = tt;
  can = tt;
  logs = tt;
  fits = tt;
  sees = tt;
  segmented = λ o line is stored seen. tt;
  segments = tt;
}

-- and of one that keeps a checkpoint, which is left to lapse
module _ {L : Type 0} (ext : Option Extractor) (k : Knowledge L) (made lifetime interval : ℕ) (skips : Bool) (lag : ℕ) (moment : ℤ) (b : Follower × PollAnswer) (before after : Known L) where
  refused-not : (refusal : Option SlateError) → IfSome refusal (λ error. (◌≡◌ {A = Result (Follower × PollAnswer) SlateError} (Ok b) (Err error)) × Untouched made before after) → IfSome refusal (λ error. (◌≡◌ {A = Result (Follower × PollAnswer) SlateError} (Err errors.NoMemory) (Err error)) × Untouched made before after)
  refused-not None is = tt
  refused-not (Some error) is = absurd (let e = is.0 in cc)

  puts-in_vain : (o o' : ObjectsOf L) → PutsPlanned k.stands (TakeRefusal ext) (to_take lifetime moment) o (Ok b) made o' → PutsPlanned {B = Follower × PollAnswer} k.stands (TakeRefusal ext) (to_take lifetime moment) o (Err errors.NoMemory) made o'
  puts-in_vain o o' puts = record { cause = inl tt; part = let whole = puts.part in omega (arith, whole); after = puts.after }

  takes-in_vain : TakesLease k ext made lifetime skips lag moment before (Ok b) after → TakesLease k ext made lifetime skips lag moment before (Err errors.NoMemory) after
  takes-in_vain takes = record {
    faults = record { count = takes.faults.count; unavailable = λ h. absurd (cc); stays = inl takes.faults.stays; none_missing = λ h. absurd (cc) };
    puts = record { none = takes.puts.none; some = λ o is. let t = takes.puts.some o is in (t.0, t.1, puts-in_vain o t.0 t.2) };
    answers = tt;
    takes = tt;
    fits = tt;
    segmented = λ o line is stored. tt;
    segments = tt;
    whole = λ key is. absurd (cc);
  }

  pub opens-in_vain : OpensManaged k ext made lifetime interval skips lag moment before (Ok b) after → OpensManaged k ext made lifetime interval skips lag moment before (Err errors.NoMemory) after
  opens-in_vain did = record { refused = refused-not (lease_refusal lifetime interval) did.refused; takes = λ passes. takes-in_vain (did.takes passes) }

-- An opening of a reader that answered this, over the options that a command gives: what it did, by its mode, is what the command does.
module _ {L : Type 0} (k : Knowledge L) (settings : Settings) where
  opens-by : (mode : DbReaderMode) (managed : Option (ℕ × ℕ)) (skips : Bool) (lag : ℕ) (moment : ℤ) (r : Result (Follower × PollAnswer) SlateError) (s : State L) (reply : Reply) (s' : State L) →
      reply ≡ reply_to (λ b. followed_reply (length s.objects) b.1) r → s'.objects ≡ s.objects ++ added (λ b. AFollower b.0) r → s'.writes ≡ s.writes → (lifetime interval : ℕ) → lifetime ≡ lifetime_of managed → interval ≡ interval_of managed →
      (is_managed mode ≡ false → Rebuilds k settings.extractor mode skips true lag (SeesOwed k mode skips lag) unseen s.store r s'.store) → (is_managed mode ≡ true → (made : ℕ) × OpensManaged k settings.extractor made lifetime interval skips lag moment s.store r s'.store) →
      (made : ℕ) × OpensFollowerIn k settings mode managed skips lag moment made s reply s'
  opens-by (modes.Checkpoint id) managed skips lag moment r s reply s' replied objects writes lifetime interval is is' other keeps = (0, (record { result = r; replied = replied; does = other refl; objects = objects; writes = writes }, refl))
  opens-by modes.FollowLatest managed skips lag moment r s reply s' replied objects writes lifetime interval is is' other keeps = (0, (record { result = r; replied = replied; does = other refl; objects = objects; writes = writes }, refl))
  opens-by modes.ManagedCheckpoint managed skips lag moment r s reply s' replied objects writes lifetime interval is is' other keeps =
      let d = keeps refl in
      let did : OpensManaged k settings.extractor d.0 (lifetime_of managed) (interval_of managed) skips lag moment s.store r s'.store =
      subst (λ i. OpensManaged k settings.extractor d.0 (lifetime_of managed) i skips lag moment s.store r s'.store) is' (subst (λ l. OpensManaged k settings.extractor d.0 l interval skips lag moment s.store r s'.store) is d.1) in
      (d.0, record { result = r; replied = replied; does = did; objects = objects; writes = writes })

module _ (k : Knowledge (List Batch)) (settings : Settings) (mode : DbReaderMode) (managed : Option (ℕ × ℕ)) (skips : Bool) (lag : ℕ) (moment : ℤ) where
  -- it is added
  pub opens-follower : (b : Follower × PollAnswer) (objects objects' : List Object) (writes : List Write) (before after : Known (List Batch)) (reply : Reply) → reply ≡ followed_reply (length objects) b.1 → objects' ≡ objects ++ AFollower b.0 ∷ [] →
      (lifetime interval : ℕ) → lifetime ≡ lifetime_of managed → interval ≡ interval_of managed → (at : ℤ) → at ≡ moment →
      (is_managed mode ≡ false → Rebuilds k settings.extractor mode skips true lag (SeesOwed k mode skips lag) unseen before (Ok b) after) → (is_managed mode ≡ true → (made : ℕ) × OpensManaged k settings.extractor made lifetime interval skips lag at before (Ok b) after) →
      (made : ℕ) × OpensFollowerIn k settings mode managed skips lag moment made (record { objects = objects; writes = writes; store = before }) reply (record { objects = objects'; writes = writes; store = after })
  opens-follower b objects objects' writes before after reply replied added lifetime interval is is' at same_at other keeps =
      opens-by k settings mode managed skips lag moment (Ok b) (record { objects = objects; writes = writes; store = before }) reply (record { objects = objects'; writes = writes; store = after }) replied added refl lifetime interval is is' other (λ keep. let d = keeps keep in (d.0, subst (λ m. OpensManaged k settings.extractor d.0 lifetime interval skips lag m before (Ok b) after) same_at d.1))

  -- no room is left for it
  pub follower-in_vain : (b : Follower × PollAnswer) (objects objects' : List Object) (writes : List Write) (before after : Known (List Batch)) → objects' ≡ objects →
      (lifetime interval : ℕ) → lifetime ≡ lifetime_of managed → interval ≡ interval_of managed → (at : ℤ) → at ≡ moment →
      (is_managed mode ≡ false → Rebuilds k settings.extractor mode skips true lag (SeesOwed k mode skips lag) unseen before (Ok b) after) → (is_managed mode ≡ true → (made : ℕ) × OpensManaged k settings.extractor made lifetime interval skips lag at before (Ok b) after) →
      (made : ℕ) × OpensFollowerIn k settings mode managed skips lag moment made (record { objects = objects; writes = writes; store = before }) replies.NoMemory (record { objects = objects'; writes = writes; store = after })
  follower-in_vain b objects objects' writes before after same lifetime interval is is' at same_at other keeps =
      opens-by k settings mode managed skips lag moment (Err errors.NoMemory) (record { objects = objects; writes = writes; store = before }) replies.NoMemory (record { objects = objects'; writes = writes; store = after }) refl (same ∙ sym (append-nil objects)) refl
      lifetime interval is is' (λ free. follows-in_vain settings.extractor k mode skips lag b before after (other free)) (λ keep. let d = keeps keep in (d.0, opens-in_vain settings.extractor k d.0 lifetime interval skips lag moment b before after (subst (λ m. OpensManaged k settings.extractor d.0 lifetime interval skips lag m before (Ok b) after) same_at d.1)))

  -- or it was refused
  pub refuses-follower : (error : SlateError) (objects : List Object) (writes : List Write) (before after : Known (List Batch)) (reply : Reply) → reply ≡ refusal error →
      (lifetime interval : ℕ) → lifetime ≡ lifetime_of managed → interval ≡ interval_of managed → (at : ℤ) → at ≡ moment →
      (is_managed mode ≡ false → Rebuilds k settings.extractor mode skips true lag (SeesOwed k mode skips lag) unseen before (Err error) after) → (is_managed mode ≡ true → (made : ℕ) × OpensManaged k settings.extractor made lifetime interval skips lag at before (Err error) after) →
      (made : ℕ) × OpensFollowerIn k settings mode managed skips lag moment made (record { objects = objects; writes = writes; store = before }) reply (record { objects = objects; writes = writes; store = after })
  refuses-follower error objects writes before after reply replied lifetime interval is is' at same_at other keeps =
      opens-by k settings mode managed skips lag moment (Err error) (record { objects = objects; writes = writes; store = before }) reply (record { objects = objects; writes = writes; store = after }) replied (sym (append-nil objects)) refl lifetime interval is is' other (λ keep. let d = keeps keep in (d.0, subst (λ m. OpensManaged k settings.extractor d.0 lifetime interval skips lag m before (Err error) after) same_at d.1))

-- a poll, by whether the reader keeps a checkpoint
polls-as : (ext : Option Extractor) {L : Type 0} (k : Knowledge L) (keeps : Bool) (moment : ℤ) (old new : Follower) (before after : Known L) (result : Result PollAnswer SlateError) → (keeps ≡ false → Polls k ext old before result new after) →
    (keeps ≡ true → (made : ℕ) × PollsManaged k ext made moment old before result new after) → (made : ℕ) × PollsAs k ext keeps made moment old before result new after
polls-as ext k true moment old new before after result other managed = managed refl
polls-as ext k false moment old new before after result other managed = (0, (other refl, refl))

pub polls-follower : (ext : Option Extractor) {L : Type 0} (k : Knowledge L) (moment : ℤ) (old new : Follower) (before after : Known L) (result : Result PollAnswer SlateError) (reply : Reply) → reply ≡ reply_to polled_reply result → (at : ℤ) → at ≡ moment →
    (is_managed old.mode ≡ false → Polls k ext old before result new after) → (is_managed old.mode ≡ true → (made : ℕ) × PollsManaged k ext made at old before result new after) → (made : ℕ) × PollsFollower k ext made moment old before reply new after
polls-follower ext k moment old new before after result reply replied at same other managed =
    let d = subst (λ m. (made : ℕ) × PollsAs k ext (is_managed old.mode) made m old before result new after) same (polls-as ext k (is_managed old.mode) at old new before after result other managed) in
    (d.0, record { result = result; replied = replied; does = d.1 })

-- a close without options flushes to a table
pub close-type : (options : Option CloseOptions) (found : CloseOptions) → UnwrapsOrElse options (λ o. o ≡ record { flush_type = Some MemTable }) found → found.flush_type ≡ flush_of_close options
close-type None found is = ap (λ (o : CloseOptions). o.flush_type) is
close-type (Some options) found is = ap (λ (o : CloseOptions). o.flush_type) is

-- the object at a place does what is asked of it
acts-at : {L : Type 0} (k : Knowledge L) (settings : Settings) (n : ℕ) (command : Command) (call : Call) (made : ℕ) (s : State L) (reply : Reply) (s' : State L) (old new : Object) → Acts k settings n command call made old s.store s.writes reply new s'.store s'.writes → s'.objects ≡ set s.objects n new → ActsOn k settings n command call made (Some old) s reply s'
acts-at k settings n command call made s reply s' (AHandle h) new acts objects = record { new = new; acts = acts; objects = objects }
acts-at k settings n command call made s reply s' (ASnapshot x) (AHandle h) acts objects = absurd acts
acts-at k settings n command call made s reply s' (ASnapshot x) (ASnapshot y) acts objects = absurd acts
acts-at k settings n command call made s reply s' (ASnapshot x) (AFollower f) acts objects = absurd acts
acts-at k settings n command call made s reply s' (AFollower f) new acts objects = record { new = new; acts = acts; objects = objects }

pub acts_on : {L : Type 0} (k : Knowledge L) (settings : Settings) (n : ℕ) (command : Command) (call : Call) (made : ℕ) (found : Option Object) (s : State L) (reply : Reply) (s' : State L) (old new : Object) → found ≡ Some old → Acts k settings n command call made old s.store s.writes reply new s'.store s'.writes → s'.objects ≡ set s.objects n new → ActsOn k settings n command call made found s reply s'
acts_on k settings n command call made found s reply s' old new is acts objects =
    subst (λ x. ActsOn k settings n command call made x s reply s') (sym is) (acts-at k settings n command call made s reply s' old new acts objects)

-- ---- checkpoints and sweeps
-- so many changes were made, whether the store is modelled or not
made_once : {P : ℕ → Objects → Objects → Type 0} (a b : Option Objects) → WhereModelled (λ o o'. (made : ℕ) × P made o o') a b → (made : ℕ) × WhereModelled (P made) a b
made_once None b call = (0, record { none = call.none; some = λ o is. absurd (cc) })
made_once {P} (Some o) b call =
    let t = call.some o refl in
    (t.2.0, record { none = λ h. absurd (cc); some = λ x is. let same : o ≡ x = cc in (t.0, t.1, subst (λ y. P t.2.0 y t.0) same t.2.1) })

modelled_by : {P Q : Objects → Objects → Type 0} {a b : Option Objects} → WhereModelled P a b → ((o o' : Objects) → a ≡ Some o → P o o' → Q o o') → WhereModelled Q a b
modelled_by call f = record { none = call.none; some = λ o is. let t = call.some o is in (t.0, t.1, f o t.0 is t.2) }

-- an error of a refusal is that of its name
unavailable-was : {A : Type 0} (r : Result A StoreRefusal) → answered r ≡ Err (errors.ObjectStoreError Unavailable) → r ≡ Err (refusals.ObjectStoreError Unavailable)
unavailable-was (Ok x) is = absurd (cc)
unavailable-was (Err (refusals.ObjectStoreError fault)) is = let same : fault ≡ Unavailable = cc in ap (λ f. Err (refusals.ObjectStoreError f)) same
unavailable-was (Err (refusals.CheckpointMissing id)) is = absurd (cc)
unavailable-was (Err refusals.LatestTransactionalObjectVersionMissing) is = absurd (cc)
unavailable-was (Err refusals.Fenced) is = absurd (cc)
unavailable-was (Err refusals.InvalidDBState) is = absurd (cc)
unavailable-was (Err refusals.TransactionalObjectVersionExists) is = absurd (cc)
unavailable-was (Err (refusals.TransactionalObjectTimeout tries)) is = absurd (cc)
unavailable-was (Err refusals.NoMemory) is = absurd (cc)

stays-answered : {A : Type 0} (faults faults' : ℕ) (r : Result A StoreRefusal) → KeepsFaults (refusals.ObjectStoreError Unavailable) faults faults' r → KeepsFaults (errors.ObjectStoreError Unavailable) faults faults' (answered r)
stays-answered faults faults' (Ok x) stays = stays
stays-answered faults faults' (Err e) stays = elim stays [ inl same ↦ inl same | inr fault ↦ inr (ap error_of_refusal fault) ]

missing-was : {A : Type 0} (r : Result A StoreRefusal) → answered r ≡ Err (errors.ObjectStoreError NotFound) → r ≡ Err (refusals.ObjectStoreError NotFound)
missing-was (Ok x) is = absurd (cc)
missing-was (Err (refusals.ObjectStoreError fault)) is = let same : fault ≡ NotFound = cc in ap (λ f. Err (refusals.ObjectStoreError f)) same
missing-was (Err (refusals.CheckpointMissing id)) is = absurd (cc)
missing-was (Err refusals.LatestTransactionalObjectVersionMissing) is = absurd (cc)
missing-was (Err refusals.Fenced) is = absurd (cc)
missing-was (Err refusals.InvalidDBState) is = absurd (cc)
missing-was (Err refusals.TransactionalObjectVersionExists) is = absurd (cc)
missing-was (Err (refusals.TransactionalObjectTimeout tries)) is = absurd (cc)
missing-was (Err refusals.NoMemory) is = absurd (cc)

-- a checkpoint that a call of the store committed, or refused
pub commits : (lifetime : Option ℕ) (moment given : ℤ) → given ≡ moment → (a b : Option Objects) (faults faults' calls calls' : ℕ) (r : Result Checkpoint StoreRefusal) (reply : Reply) →
    WhereModelled (λ o o'. (made : ℕ) × FollowsPlan (to_write None lifetime given) o r made o') a b → StoreFaults faults faults' r → CountsTries calls calls' r → reply ≡ reply_to (λ (c : Checkpoint). replies.Checkpointed c.manifest_id) (answered r) →
    (made : ℕ) × CommitsTo (by_objects a) made lifetime moment (record { objects = a; faults = faults }) reply (record { objects = b; faults = faults' })
commits lifetime moment given same a b faults faults' calls calls' r reply follows counts tries replied =
    let once = made_once {P = λ made o o'. FollowsPlan (to_write None lifetime moment) o r made o'} a b (subst (λ m. WhereModelled (λ o o'. (made : ℕ) × FollowsPlan (to_write None lifetime m) o r made o') a b) same follows) in (
      once.0,
      record {
        result = answered r;
        replied = replied;
        does = record {
          faults = record { count = counts.count; unavailable = λ is. counts.unavailable (unavailable-was r is); stays = stays-answered faults faults' r counts.stays; none_missing = λ is. tries.none_missing (missing-was r is) };
          objects = modelled_by once.1 (λ o o' there f. subst (λ x. CommitsCheckpoint (by_objects x) lifetime moment o (answered r) once.0 o') (sym there) (commits-by lifetime moment o o' once.0 r f));
        };
      },
    )

-- a sweep that a call of the store made, or refused
pub sweeps : (moment given : ℤ) → given ≡ moment → (a b : Option Objects) (faults faults' : ℕ) (r : Result ℕ StoreRefusal) (reply : Reply) →
    WhereModelled (λ o o'. (made : ℕ) × Sweeps given o r made o') a b → StoreFaults faults faults' r → reply ≡ reply_to (λ _. replies.Swept) (answered r) →
    (made : ℕ) × SweepsTo (by_objects a) made moment (record { objects = a; faults = faults }) reply (record { objects = b; faults = faults' })
sweeps moment given same a b faults faults' r reply swept counts replied =
    let once = made_once {P = λ made o o'. Sweeps moment o r made o'} a b (subst (λ m. WhereModelled (λ o o'. (made : ℕ) × Sweeps m o r made o') a b) same swept) in (
      once.0,
      record {
        result = answered r;
        replied = replied;
        does = record {
          faults = record { count = counts.count; unavailable = λ is. counts.unavailable (unavailable-was r is); stays = stays-answered faults faults' r counts.stays };
          objects = modelled_by once.1 (λ o o' there f. subst (λ x. SweepsObjects (by_objects x) moment o (answered r) once.0 o') (sym there) (sweeps-by moment o o' once.0 r f));
        };
      },
    )

-- ---- snapshots
-- an object that is no snapshot is read by itself
pub read-itself : (objects : List Object) (found : Option Object) (old : Object) → found ≡ Some old → snapshot_of old ≡ None → read_by objects found ≡ Some old
read-itself objects found old is itself = ap (read_by objects) is ∙ by old itself where
  by : (old : Object) → snapshot_of old ≡ None → read_by objects (Some old) ≡ Some old
  by (AHandle h) itself = refl
  by (ASnapshot x) itself = absurd (cc)
  by (AFollower f) itself = refl

-- a snapshot is read by what its handle does
pub reads-snapshot : {L : Type 0} (k : Knowledge L) (settings : Settings) (x : HandleSnapshot) (command : Command) (call : Call) (s : State L) (reply : Reply) (after : Known L) (old : Object) → slice_get s.objects x.handle ≡ Some old →
    ActsAsOf k settings x.handle command (at_snapshot x.number call) old s.store s.writes reply after → ReadsSnapshot k settings x command call 0 (slice_get s.objects x.handle) s reply (record { objects = s.objects; writes = s.writes; store = after })
reads-snapshot k settings x command call s reply after old is acts =
    subst (λ found. ReadsSnapshot k settings x command call 0 found s reply (record { objects = s.objects; writes = s.writes; store = after })) (sym is) (by old is acts) where
      by : (old : Object) → slice_get s.objects x.handle ≡ Some old → ActsAsOf k settings x.handle command (at_snapshot x.number call) old s.store s.writes reply after → ReadsSnapshot k settings x command call 0 (Some old) s reply (record { objects = s.objects; writes = s.writes; store = after })
      by (AHandle h) is acts = record { new = AHandle h; acts = acts; objects = sym (set-same s.objects x.handle (AHandle h) is) }
      by (ASnapshot y) is acts = (refl, acts.0, ap (λ store. record { objects = s.objects; writes = s.writes; store = store }) acts.1)
      by (AFollower f) is acts = (refl, acts.0, ap (λ store. record { objects = s.objects; writes = s.writes; store = store }) acts.1)

-- what a command does that names a snapshot
pub on-snapshot : {L : Type 0} (k : Knowledge L) (settings : Settings) (n : ℕ) (command : Command) (call : Call) (made : ℕ) (found : Option Object) (s : State L) (reply : Reply) (s' : State L) (old : Object) (x : HandleSnapshot) → found ≡ Some old → snapshot_of old ≡ Some x →
    ReadsSnapshot k settings x command call made (slice_get s.objects x.handle) s reply s' → ActsOn k settings n command call made found s reply s'
on-snapshot k settings n command call made found s reply s' old x is it reads = subst (λ found. ActsOn k settings n command call made found s reply s') (sym is) (by old it) where
  by : (old : Object) → snapshot_of old ≡ Some x → ActsOn k settings n command call made (Some old) s reply s'
  by (AHandle h) it = absurd (cc)
  by (ASnapshot y) it = let same : y ≡ x = cc in subst (λ z. ReadsSnapshot k settings z command call made (slice_get s.objects z.handle) s reply s') (sym same) reads
  by (AFollower f) it = absurd (cc)

-- a snapshot that is taken of a handle and added
pub takes-snapshot : {L : Type 0} (n : ℕ) (s : State L) (old : Object) (number : ℕ) (reply : Reply) (objects' : List Object) (writes' : List Write) → slice_get s.objects n ≡ Some old → taken_of old ≡ Some (Ok number) → Pushes s.objects (record { handle = n; number = number }) reply objects' → writes' ≡ s.writes →
    OpensSnapshot n 0 (slice_get s.objects n) s reply (record { objects = objects'; writes = writes'; store = s.store })
takes-snapshot n s old number reply objects' writes' is taken pushes same = subst (λ found. OpensSnapshot n 0 found s reply (record { objects = objects'; writes = writes'; store = s.store })) (sym is) (by old taken pushes) where
  by : (old : Object) → taken_of old ≡ Some (Ok number) → Pushes s.objects (record { handle = n; number = number }) reply objects' → OpensSnapshot n 0 (Some old) s reply (record { objects = objects'; writes = writes'; store = s.store })
  by (AHandle h) taken (inl added) =
      let number_is : ◌≡◌ {A = Result ℕ SlateError} (snapshot_number h) (Ok number) = cc in
      (record { result = Ok number; replied = added.0; does = (inr (sym number_is), refl); objects = added.1; writes = same }, refl)
  by (AHandle h) taken (inr none) = (record { result = Err errors.NoMemory; replied = none.0; does = (inl refl, refl); objects = none.1 ∙ sym (append-nil s.objects); writes = same }, refl)
  by (ASnapshot y) taken pushes = absurd (cc)
  by (AFollower f) taken pushes = absurd (cc)

-- and one that is refused
pub refuses-snapshot : {L : Type 0} (n : ℕ) (s : State L) (old : Object) (error : SlateError) (reply : Reply) → slice_get s.objects n ≡ Some old → taken_of old ≡ Some (Err error) → reply ≡ refusal error → OpensSnapshot n 0 (slice_get s.objects n) s reply s
refuses-snapshot n s old error reply is taken replied = subst (λ found. OpensSnapshot n 0 found s reply s) (sym is) (by old taken) where
  by : (old : Object) → taken_of old ≡ Some (Err error) → OpensSnapshot n 0 (Some old) s reply s
  by (AHandle h) taken =
      let number_is : ◌≡◌ {A = Result ℕ SlateError} (snapshot_number h) (Err error) = cc in
      (record { result = Err error; replied = replied; does = (inr (sym number_is), refl); objects = sym (append-nil s.objects); writes = refl }, refl)
  by (ASnapshot y) taken = absurd (cc)
  by (AFollower f) taken = absurd (cc)

-- ---- polls by single calls
pub some-if : {A : Type 0} (P : A → Type 0) (o : Option A) (a : A) → o ≡ Some a → P a → IfSome o P
some-if P o a is have = subst (λ x. IfSome x P) (sym is) have

-- a step, by what the call of the poll did
pub steps-of : (x : Option Extractor) (reader : Follower) (begun : Begun) (before : Known (List Batch)) (result : Result (Option PollAnswer) SlateError) (new : Follower) (left : Begun) (after : Known (List Batch)) (reply : Reply) (poll' : Option Begun) →
    reply ≡ reply_to stepped_reply result → poll' ≡ poll_left result left →
    (is_pinned reader.mode ≡ true → (result ≡ Ok (Some (AllRead (number reader)))) × (new ≡ reader) × (after ≡ before)) → (is_pinned reader.mode ≡ false → MakesCall x reader begun before result new left after) → StepsOf x reader begun before reply new poll' after
steps-of x reader begun before result new left after reply poll' replied leaves pinned makes = record {
  result = result;
  replied = replied;
  left = left;
  steps = by (is_pinned reader.mode) refl;
  leaves = leaves;
}
  where
    by : (stays : Bool) → is_pinned reader.mode ≡ stays → StepsReader stays x reader begun before result new left after
    by true stays = pinned stays
    by false stays = makes stays

-- live states are one where their parts are
live-same : (a : Live) (b : Live) → a.options ≡ b.options → a.objects ≡ b.objects → a.polls ≡ b.polls → a.writes ≡ b.writes → a ≡ b
live-same a b options objects polls writes =
    ap (λ x. record { options = x; objects = a.objects; polls = a.polls; writes = a.writes }) options
    ∙ (ap (λ (x : List Object). record { options = b.options; objects = x; polls = a.polls; writes = a.writes }) objects
    ∙ (ap (λ (x : List (Option Begun)). record { options = b.options; objects = b.objects; polls = x; writes = a.writes }) polls
    ∙ ap (λ (x : List Write). record { options = b.options; objects = b.objects; polls = b.polls; writes = x }) writes))

-- the object at a place begins a poll
pub begins-poll : (n : ℕ) (moment : ℤ) (old new : Object) (poll poll' : Option Begun) (live live' : Live) (reply : Reply) → slice_get live.objects n ≡ Some old → slice_get live.polls n ≡ Some poll → new ≡ old → BeginsOf moment old poll reply poll' →
    live'.objects ≡ set live.objects n new → live'.polls ≡ set live.polls n poll' → live'.options ≡ live.options → live'.writes ≡ live.writes → BeginsPoll n moment live reply live'
begins-poll n moment old new poll poll' live live' reply at there same begins objects polls options writes =
    subst (λ found. BeginsOn n moment found live reply live') (sym at) (record {
      poll = poll;
      poll' = poll';
      there = there;
      begins = begins;
      same = live-same live' (record live { polls = set live.polls n poll' }) options (objects ∙ (ap (set live.objects n) same ∙ set-same live.objects n old at)) polls writes;
    })

-- or makes a step of its own
pub steps-poll : (x : Option Extractor) (n : ℕ) (old new : Object) (poll poll' : Option Begun) (live live' : Live) (before after : Known (List Batch)) (reply : Reply) → slice_get live.objects n ≡ Some old → slice_get live.polls n ≡ Some poll → StepsObject x old poll before reply new poll' after →
    live'.objects ≡ set live.objects n new → live'.polls ≡ set live.polls n poll' → live'.options ≡ live.options → live'.writes ≡ live.writes → StepsPoll x n live before reply live' after
steps-poll x n old new poll poll' live live' before after reply at there does objects polls options writes =
    subst (λ found. StepsOn x n found live before reply live' after) (sym at) (record {
      poll = poll;
      object' = new;
      poll' = poll';
      there = there;
      does = does;
      same = live-same live' (record live { objects = set live.objects n new; polls = set live.polls n poll' }) options objects polls writes;
    })
