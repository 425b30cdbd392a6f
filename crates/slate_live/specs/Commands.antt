-- What a command does: it opens an object, or it names one, which does what is asked, or it goes to the store alone, or
-- it asks for a write.
use Rattle.std.specs.Prelude.{◌≡◌, ℕ, ℤ, Bool, List, [], ◌∷◌, ◌++◌, length, slice_get, slice_set, Option, Some, None, Result, Ok, Err, true}
use Rattle.slate_store.specs.declared.reader_modes.DbReaderMode.{DbReaderMode}
use Rattle.slate_errors.specs.declared.errors.SlateError.{SlateError}
use Rattle.slate_model.specs.Follow.{Rebuilds, SeesOwed, unseen}
use Rattle.slate_model.specs.Knowledge.{Knowledge}
use Rattle.slate_model.specs.Managed.{OpensManaged}
use Rattle.slate_store.specs.declared.reader_modes.DbReaderMode.TheVariants.{ManagedCheckpoint}
use Rattle.slate_model.specs.Known.{Known}
use Rattle.slate_model.specs.declared.snapshots.HandleSnapshot.{HandleSnapshot}
use Rattle.slate_model.specs.Object.{Object, Handle, Snapshot, Follower}
use Rattle.slate_model.specs.Open.{OpensHandle}
use Rattle.slate_script.specs.declared.commands.Command.{Command}
use Rattle.slate_script.specs.declared.replies.Reply.{Reply}
use Rattle.slate_script.specs.declared.replies.Reply.TheVariants as replies
use Rattle.slate_live.specs.declared.states.Write.{Write}
use Rattle.slate_live.specs.Calls.{Call, at_snapshot, call_of, target_of}
use Rattle.slate_live.specs.declared.targets.Target.{Target}
use Rattle.slate_live.specs.declared.targets.Target.TheVariants.{NewHandle, NewSnapshot, NewFollower, NewCheckpoint, WholeStore, OfWrite, OfObject}
use Rattle.slate_live.specs.Followers.{FollowerActs}
use Rattle.slate_live.specs.Handles.{HandleActs, TakesSnapshot, durable_reply}
use Rattle.slate_live.specs.Maintenance.{CommitsTo, SweepsTo}
use Rattle.slate_live.specs.Replies.{followed_reply, reply_to}
use Rattle.slate_live.specs.Settings.{Settings, option_tasks}
use Rattle.slate_live.specs.State.{State}

-- a command is answered so, and changes nothing
abbrev pub OnlyAnswers : {L : Type 0} → Reply → ℕ → State L → Reply → State L → Type 0
OnlyAnswers answer made s reply s' = (made ≡ 0) × (reply ≡ answer) × (s' ≡ s)

-- the objects that an opening adds
abbrev pub added : {A : Type 0} → (A → Object) → Result A SlateError → List Object
added object (Ok opened) = object opened ∷ []
added object (Err error) = []

-- An opening did this to the store, and adds the object that it answered. All others are as before.
pub record AddsObject {L A : Type 0} (did : Known L → Result A SlateError → Known L → Type 0) (object : A → Object) (done : ℕ → A → Reply)
    (s : State L) (reply : Reply) (s' : State L) : Type 0 where
  pub result : Result A SlateError
  pub replied : reply ≡ reply_to (done (length s.objects)) result
  pub does : did s.store result s'.store
  pub objects : s'.objects ≡ s.objects ++ added object result
  pub writes : s'.writes ≡ s.writes

-- A command that goes to the store alone did this to it. All objects and writes are as before.
pub record DoesToStore {L : Type 0} (did : Known L → Reply → Known L → Type 0) (s : State L) (reply : Reply) (s' : State L) : Type 0 where
  pub does : did s.store reply s'.store
  pub objects : s'.objects ≡ s.objects
  pub writes : s'.writes ≡ s.writes

-- what an object does that a command asks this, by its kind
abbrev pub Acts : {L : Type 0} → Knowledge L → Settings → ℕ → Command → Call → ℕ → Object → Known L → List Write → Reply → Object → Known L → List Write → Type 0
Acts k settings n command call made (Handle old) before writes reply (Handle new) after writes' =
    HandleActs k settings n command.moment command.second call made old before writes reply new after writes'
Acts k settings n command call made (Follower old) before writes reply (Follower new) after writes' =
    FollowerActs k settings command.moment call made old before writes reply new after writes'
Acts k settings n command call made old before writes reply new after writes' = ⊥

-- The object with number n does what is asked of it. All others are as before.
pub record ActsAt {L : Type 0} (k : Knowledge L) (settings : Settings) (n : ℕ) (command : Command) (call : Call) (made : ℕ) (old : Object) (s : State L) (reply : Reply) (s' : State L) : Type 0 where
  pub new : Object
  pub acts : Acts k settings n command call made old s.store s.writes reply new s'.store s'.writes
  pub objects : s'.objects ≡ slice_set s.objects n new

-- a snapshot is read by its handle, up to the snapshot's number
abbrev pub ReadsSnapshot : {L : Type 0} → Knowledge L → Settings → HandleSnapshot → Command → Call → ℕ → Option Object → State L → Reply → State L → Type 0
ReadsSnapshot k settings snapshot command call made (Some (Handle handle)) s reply s' =
    ActsAt k settings snapshot.handle command (at_snapshot snapshot.number call) made (Handle handle) s reply s'
ReadsSnapshot k settings snapshot command call made found s reply s' = OnlyAnswers replies.Unknown made s reply s'

-- what a command does that names the object with a number and asks this; one that isn't there is unknown
abbrev pub ActsOn : {L : Type 0} → Knowledge L → Settings → ℕ → Command → Call → ℕ → Option Object → State L → Reply → State L → Type 0
ActsOn k settings n command call made None s reply s' = OnlyAnswers replies.Unknown made s reply s'
ActsOn k settings n command call made (Some (Snapshot snapshot)) s reply s' =
    ReadsSnapshot k settings snapshot command call made (slice_get s.objects snapshot.handle) s reply s'
ActsOn k settings n command call made (Some old) s reply s' = ActsAt k settings n command call made old s reply s'

-- a snapshot of the object with number n, where that is a handle
abbrev pub OpensSnapshot : {L : Type 0} → (n : ℕ) → (made : ℕ) → Option Object → State L → Reply → State L → Type 0
OpensSnapshot n made (Some (Handle handle)) s reply s' =
    AddsObject (TakesSnapshot handle) (λ number. Snapshot (record { handle = n; number = number })) (λ object number. replies.Snapshot object number) s reply s' × (made ≡ 0)
OpensSnapshot n made found s reply s' = OnlyAnswers replies.Unknown made s reply s'

-- the reply where a write with this number is asked for, by the object that it was written to
abbrev pub asked_reply : Option Object → ℕ → Reply
asked_reply (Some (Handle handle)) number = durable_reply handle number
asked_reply object number = replies.Unknown

abbrev pub write_reply : List Object → Option Write → Reply
write_reply objects None = replies.Unknown
write_reply objects (Some write) = asked_reply (slice_get objects write.handle) write.number

-- the lifetime of a checkpoint that a reader keeps and the interval of its polls, in milliseconds, where a command names none
abbrev pub lifetime_of : Option (ℕ × ℕ) → ℕ
lifetime_of None = 600000
lifetime_of (Some given) = given.0

abbrev pub interval_of : Option (ℕ × ℕ) → ℕ
interval_of None = 10000
interval_of (Some given) = given.1

-- by how many numbers the polls of a reader may leave it behind what is stored: by none, where a command names none
abbrev pub lag_of : Option ℕ → ℕ
lag_of None = 0
lag_of (Some lag) = lag

module _ {L : Type 0} (k : Knowledge L) (settings : Settings) where
  abbrev pub OpensHandleIn : Bool → ℕ → State L → Reply → State L → Type 0
  OpensHandleIn keeps_log made s reply s' =
      AddsObject (OpensHandle k settings.extractor made keeps_log settings.options.max_unflushed_bytes (option_tasks settings.options)) Handle (λ n _. replies.Handle n) s reply s'

  abbrev pub OpensFollowerIn : DbReaderMode → (managed : Option (ℕ × ℕ)) → (skips : Bool) → (lag : ℕ) → ℤ → ℕ → State L → Reply → State L → Type 0
  OpensFollowerIn ManagedCheckpoint managed skips lag moment made s reply s' =
      AddsObject (OpensManaged k settings.extractor made (lifetime_of managed) (interval_of managed) skips lag moment) (λ b. Follower b.0) (λ n b. followed_reply n b.1) s reply s'
  OpensFollowerIn mode managed skips lag moment made s reply s' =
      AddsObject (Rebuilds k settings.extractor mode skips true lag (SeesOwed k mode skips lag) unseen) (λ b. Follower b.0) (λ n b. followed_reply n b.1) s reply s' × (made ≡ 0)

  -- what a command does, by where it goes; so many of its changes were made
  abbrev pub DoesBy : Command → Target → ℕ → State L → Reply → State L → Type 0
  DoesBy command (NewHandle keeps_log) made s reply s' = OpensHandleIn keeps_log made s reply s'
  DoesBy command (NewSnapshot n) made s reply s' = OpensSnapshot n made (slice_get s.objects n) s reply s'
  DoesBy command (NewFollower mode managed skips lag) made s reply s' = OpensFollowerIn mode managed skips (lag_of lag) command.moment made s reply s'
  DoesBy command (NewCheckpoint lifetime) made s reply s' = DoesToStore (CommitsTo k made lifetime command.moment) s reply s'
  DoesBy command WholeStore made s reply s' = DoesToStore (SweepsTo k made command.moment) s reply s'
  DoesBy command (OfWrite n) made s reply s' = OnlyAnswers (write_reply s.objects (slice_get s.writes n)) made s reply s'
  DoesBy command (OfObject n) made s reply s' = ActsOn k settings n command (call_of command.action) made (slice_get s.objects n) s reply s'

  abbrev pub Does : ℕ → State L → Command → Reply → State L → Type 0
  Does made s command reply s' = DoesBy command (target_of command.action) made s reply s'
