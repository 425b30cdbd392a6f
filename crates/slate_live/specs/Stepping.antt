-- What commands do that begin a poll of a reader by single calls of the store, or make its next call.
use Rattle.std.specs.Prelude.{◌≡◌, ℕ, ℤ, Bool, true, false, List, slice_get, slice_set, Option, Some, None, Result, Ok, Err, IfErr, IfSome}
use Rattle.slate_types.specs.declared.batches.Batch.{Batch}
use Rattle.slate_store.specs.Calls.{WhereModelled}
use Rattle.slate_errors.specs.declared.errors.SlateError.{SlateError}
use Rattle.slate_errors.specs.declared.errors.SlateError.TheVariants as errors
use Rattle.slate_errors.specs.Errors.{closed_error}
use Rattle.slate_model.specs.Begun.{Begun, begun_at, no_step}
use Rattle.slate_model.specs.Follower.{Follower, HasSegments, is_pinned, number}
use Rattle.slate_model.specs.Handle.{CloseResult}
use Rattle.slate_model.specs.Known.{CountsFaults, Known}
use Rattle.slate_model.specs.Object.{Object, Follower as AFollower}
use Rattle.slate_model.specs.Segments.{Extractor}
use Rattle.slate_model.specs.Stores.{by_objects}
use Rattle.slate_model.specs.declared.answers.PollAnswer.{PollAnswer}
use Rattle.slate_model.specs.declared.answers.PollAnswer.TheVariants.{Whole as AllRead}
use Rattle.slate_follow.specs.Answering.{IsOfPoll}
use Rattle.slate_follow.specs.Stepping.{StepLacks, Steps, failed_by}
use Rattle.slate_script.specs.declared.commands.Command.{Command}
use Rattle.slate_script.specs.declared.replies.Reply.{Reply}
use Rattle.slate_script.specs.declared.replies.Reply.TheVariants as replies
use Rattle.slate_live.specs.Calls.{ArePolls, Begins, Kind, Steps as StepsKind, Whole, kind_of}
use Rattle.slate_live.specs.Commands.{Does}
use Rattle.slate_live.specs.Replies.{polled_reply, refusal, reply_to}
use Rattle.slate_live.specs.Settings.{Settings}
use Rattle.slate_live.specs.State.{Live, running}

-- ---- begin
-- a poll of a reader is begun at a moment, in place of one that was begun; a closed reader answers its result
abbrev pub BeginsReader : CloseResult → ℤ → Follower → Reply → Option Begun → Type 0
BeginsReader None moment reader reply poll = (reply ≡ replies.Begun) × (poll ≡ Some (begun_at moment 0 no_step reader))
BeginsReader (Some result) moment reader reply poll = (reply ≡ refusal (closed_error result)) × (poll ≡ None)

-- only a reader's poll is begun
abbrev pub BeginsOf : ℤ → Object → (poll : Option Begun) → Reply → (poll' : Option Begun) → Type 0
BeginsOf moment (AFollower reader) poll reply poll' = BeginsReader reader.result moment reader reply poll'
BeginsOf moment object poll reply poll' = (reply ≡ replies.Unknown) × (poll' ≡ poll)

pub record BeginsAt (n : ℕ) (moment : ℤ) (object : Object) (live : Live) (reply : Reply) (live' : Live) : Type 0 where
  pub poll : Option Begun
  pub poll' : Option Begun
  pub there : slice_get live.polls n ≡ Some poll
  pub begins : BeginsOf moment object poll reply poll'
  pub same : live' ≡ record live { polls = slice_set live.polls n poll' }

-- the object with number n
abbrev pub BeginsOn : ℕ → ℤ → Option Object → Live → Reply → Live → Type 0
BeginsOn n moment (Some object) live reply live' = BeginsAt n moment object live reply live'
BeginsOn n moment None live reply live' = (reply ≡ replies.Unknown) × (live' ≡ live)

abbrev pub BeginsPoll : ℕ → ℤ → Live → Reply → Live → Type 0
BeginsPoll n moment live reply live' = BeginsOn n moment (slice_get live.objects n) live reply live'

-- ---- step
-- the reply to a step, and the begun poll that it leaves while there is another call to make
abbrev pub stepped_reply : Option PollAnswer → Reply
stepped_reply None = replies.Stepped
stepped_reply (Some answer) = polled_reply answer

abbrev pub poll_left : Result (Option PollAnswer) SlateError → Begun → Option Begun
poll_left (Ok None) begun = Some begun
poll_left result begun = None

-- A step makes one call of the store, and its answer, the reader and the poll are as that leads to; an error leaves the reader as it
-- was, or, where it keeps a checkpoint, closed by that.
pub record MakesCall (extractor : Option Extractor) (reader : Follower) (begun : Begun) (before : Known (List Batch)) (result : Result (Option PollAnswer) SlateError) (reader' : Follower) (begun' : Begun) (after : Known (List Batch)) : Type 0 where
  pub faults : CountsFaults before.faults after.faults result
  pub kinds : IfErr result (IsOfPoll reader.mode)
  pub steps : WhereModelled (λ o o'. Steps reader begun result o reader' begun' o') before.objects after.objects
  pub failed : IfErr result (λ error. reader' ≡ failed_by error reader)
  pub lacks : result ≡ Err errors.InvalidDBState → IfSome before.objects (λ o. StepLacks extractor reader begun o)
  pub segments : HasSegments extractor reader → HasSegments extractor reader'

-- one of a reader that stays at a checkpoint makes none, and answers at once
abbrev pub StepsReader : (pinned : Bool) → Option Extractor → Follower → Begun → Known (List Batch) → Result (Option PollAnswer) SlateError → Follower → Begun → Known (List Batch) → Type 0
StepsReader true extractor reader begun before result reader' begun' after = (result ≡ Ok (Some (AllRead (number reader)))) × (reader' ≡ reader) × (after ≡ before)
StepsReader false extractor reader begun before result reader' begun' after = MakesCall extractor reader begun before result reader' begun' after

-- It is answered so, and leaves this poll of the reader.
pub record StepsOf (extractor : Option Extractor) (reader : Follower) (begun : Begun) (before : Known (List Batch)) (reply : Reply) (reader' : Follower) (poll' : Option Begun) (after : Known (List Batch)) : Type 0 where
  pub result : Result (Option PollAnswer) SlateError
  pub replied : reply ≡ reply_to stepped_reply result
  pub left : Begun
  pub steps : StepsReader (is_pinned reader.mode) extractor reader begun before result reader' left after
  pub leaves : poll' ≡ poll_left result left

-- only a reader with a begun poll makes a step of it
abbrev pub StepsObject : Option Extractor → Object → (poll : Option Begun) → Known (List Batch) → Reply → Object → (poll' : Option Begun) → Known (List Batch) → Type 0
StepsObject extractor (AFollower reader) (Some begun) before reply (AFollower reader') poll' after = StepsOf extractor reader begun before reply reader' poll' after
StepsObject extractor object poll before reply object' poll' after = (reply ≡ replies.Unknown) × (object' ≡ object) × (poll' ≡ poll) × (after ≡ before)

pub record StepsAt (extractor : Option Extractor) (n : ℕ) (object : Object) (live : Live) (store : Known (List Batch)) (reply : Reply) (live' : Live) (store' : Known (List Batch)) : Type 0 where
  pub poll : Option Begun
  pub object' : Object
  pub poll' : Option Begun
  pub there : slice_get live.polls n ≡ Some poll
  pub does : StepsObject extractor object poll store reply object' poll' store'
  pub same : live' ≡ record live { objects = slice_set live.objects n object'; polls = slice_set live.polls n poll' }

-- the object with number n
abbrev pub StepsOn : Option Extractor → ℕ → Option Object → Live → Known (List Batch) → Reply → Live → Known (List Batch) → Type 0
StepsOn extractor n (Some object) live store reply live' store' = StepsAt extractor n object live store reply live' store'
StepsOn extractor n None live store reply live' store' = (reply ≡ replies.Unknown) × (live' ≡ live) × (store' ≡ store)

abbrev pub StepsPoll : Option Extractor → ℕ → Live → Known (List Batch) → Reply → Live → Known (List Batch) → Type 0
StepsPoll extractor n live store reply live' store' = StepsOn extractor n (slice_get live.objects n) live store reply live' store'

-- ---- any command, by its kind, over a store and the live objects
abbrev pub DoesKind : Kind → Settings → Live → Known (List Batch) → Command → Reply → Live → Known (List Batch) → Type 0
DoesKind Whole settings live store command reply live' store' =
    ((made : ℕ) × Does (by_objects store.objects) settings made (running live store) command reply (running live' store')) × ArePolls command.action live.polls live'.polls
DoesKind (Begins n) settings live store command reply live' store' = BeginsPoll n command.moment live reply live' × (store' ≡ store)
DoesKind (StepsKind n) settings live store command reply live' store' = StepsPoll settings.extractor n live store reply live' store'

abbrev pub IsDone : Settings → Live → Known (List Batch) → Command → Reply → Live → Known (List Batch) → Type 0
IsDone settings live store command reply live' store' = DoesKind (kind_of command.action) settings live store command reply live' store'
