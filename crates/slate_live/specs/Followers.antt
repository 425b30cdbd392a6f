-- What commands do to a follower.
use Rattle.std.specs.Prelude.{◌≡◌, ℕ, ℤ, Bool, true, false, List, Option, Some, Result}
use Rattle.slate_types.specs.declared.batches.Batch.{Batch}
use Rattle.slate_types.specs.declared.batches.KeyValue.{KeyValue}
use Rattle.slate_types.specs.declared.read_faults.ReadFault.{ReadFault}
use Rattle.slate_types.specs.declared.ranges.ByteRange.{ByteRange}
use Rattle.slate_types.specs.declared.scan_options.IterationOrder.{IterationOrder}
use Rattle.slate_types.specs.Operator.{Merge}
use Rattle.slate_reads.specs.Read.{read_at}
use Rattle.slate_rows.specs.Iteration.{Iteration}
use Rattle.slate_rows.specs.Scan.{BeginsScan}
use Rattle.slate_errors.specs.declared.endings.Ended.{Ended}
use Rattle.slate_errors.specs.declared.errors.SlateError.{SlateError}
use Rattle.slate_model.specs.Close.{closed_follower, ended, recorded_fault}
use Rattle.slate_model.specs.declared.answers.PollAnswer.{PollAnswer}
use Rattle.slate_model.specs.Follow.{Polls}
use Rattle.slate_model.specs.Follower.{Follower, is_managed, number}
use Rattle.slate_model.specs.Managed.{ClosesManaged, PollsManaged}
use Rattle.slate_model.specs.Knowledge.{Knowledge}
use Rattle.slate_model.specs.Segments.{Extractor}
use Rattle.slate_model.specs.Status.{follower_status}
use Rattle.slate_model.specs.Known.{Known, Untouched}
use Rattle.slate_model.specs.Object.{Follower as AFollower}
use Rattle.slate_script.specs.declared.replies.Reply.{Reply}
use Rattle.slate_script.specs.declared.replies.Reply.TheVariants as replies
use Rattle.slate_live.specs.declared.states.Write.{Write}
use Rattle.slate_live.specs.Calls.{Call, Get, Scan, Seek, Close, Poll, Status}
use Rattle.slate_live.specs.Settings.{Settings}
use Rattle.slate_live.specs.Scans.{IsTaken, scanned, sought}
use Rattle.slate_live.specs.Replies.{AnswersStatus, IsRead, follower_ended_reply, found_reply, polled_reply, reply_to}

-- a read of a key: the plain read of what the follower reads, at its number
abbrev pub IsPlainReadAt : Option Merge → List ℕ → Follower → List Batch → Result (Option KeyValue) ReadFault → Type 0
IsPlainReadAt merge key follower rows answer = answer ≡ read_at merge rows (Some (number follower)) key

-- a scan of a range and a seek in one: the plain scan of what the follower reads, at its number
abbrev pub IsPlainScanAt : Option Merge → ByteRange → IterationOrder → Follower → List Batch → Iteration → Type 0
IsPlainScanAt merge range order follower rows it = BeginsScan merge rows (Some (number follower)) range order it

module _ {L : Type 0} (k : Knowledge L) (merge : Option Merge) where
  abbrev pub GetsFromFollower : List ℕ → Follower → Known L → Reply → Known L → Type 0
  GetsFromFollower key follower =
      IsRead found_reply follower.result follower.view.manifest.tables (k.rows (AFollower follower)) (IsPlainReadAt merge key follower)

  abbrev pub TakesFromFollower : ByteRange → IterationOrder → (Iteration → Result (List KeyValue) SlateError) → Follower → Known L → Reply → Known L → Type 0
  TakesFromFollower range order taken follower =
      IsTaken follower.result follower.view.manifest.tables (k.rows (AFollower follower)) (IsPlainScanAt merge range order follower) taken

-- a poll at a moment, by whether the follower keeps a checkpoint of its own
abbrev pub PollsAs : {L : Type 0} → Knowledge L → Option Extractor → (managed : Bool) → ℕ → ℤ → Follower → Known L → Result PollAnswer SlateError → Follower → Known L → Type 0
PollsAs k extractor true made moment old before result new after = PollsManaged k extractor made moment old before result new after
PollsAs k extractor false made moment old before result new after = Polls k extractor old before result new after × (made ≡ 0)

pub record PollsFollower {L : Type 0} (k : Knowledge L) (extractor : Option Extractor) (made : ℕ) (moment : ℤ) (old : Follower) (before : Known L) (reply : Reply) (new : Follower) (after : Known L) : Type 0 where
  pub result : Result PollAnswer SlateError
  pub replied : reply ≡ reply_to polled_reply result
  pub does : PollsAs k extractor (is_managed old.mode) made moment old before result new after

-- and a close
abbrev pub ClosesAs : {L : Type 0} → Knowledge L → (managed : Bool) → ℕ → Follower → Known L → Ended → Follower → Known L → Type 0
ClosesAs k true made old before answer new after = ClosesManaged k made old before answer new after
ClosesAs k false made old before answer new after =
    (answer ≡ ended old.tasks (recorded_fault old.result)) × (new ≡ closed_follower old) × Untouched made before after

pub record ClosesFollower {L : Type 0} (k : Knowledge L) (made : ℕ) (old : Follower) (before : Known L) (reply : Reply) (new : Follower) (after : Known L) : Type 0 where
  pub answer : Ended
  pub replied : reply ≡ follower_ended_reply old.result answer
  pub does : ClosesAs k (is_managed old.mode) made old before answer new after

-- What a command that asks this at a moment does to a follower; one that keeps no checkpoint makes no change to the store. What isn't for a follower is answered
-- that it is unknown.
module _ {L : Type 0} (k : Knowledge L) (settings : Settings) (moment : ℤ) where
  abbrev pub FollowerActs : Call → ℕ → Follower → Known L → List Write → Reply → Follower → Known L → List Write → Type 0
  FollowerActs (Get key remote snapshot) made old before writes reply new after writes' =
      GetsFromFollower k settings.merge key old before reply after × (new ≡ old) × (made ≡ 0) × (writes' ≡ writes)
  FollowerActs (Scan range order remote snapshot) made old before writes reply new after writes' =
      TakesFromFollower k settings.merge range order scanned old before reply after × (new ≡ old) × (made ≡ 0) × (writes' ≡ writes)
  FollowerActs (Seek range take key order remote snapshot) made old before writes reply new after writes' =
      TakesFromFollower k settings.merge range order (sought range take key) old before reply after × (new ≡ old) × (made ≡ 0) × (writes' ≡ writes)
  FollowerActs (Close flush_type) made old before writes reply new after writes' =
      ClosesFollower k made old before reply new after × (writes' ≡ writes)
  FollowerActs Poll made old before writes reply new after writes' =
      PollsFollower k settings.extractor made moment old before reply new after × (writes' ≡ writes)
  FollowerActs Status made old before writes reply new after writes' =
      AnswersStatus (follower_status old) reply × (new ≡ old) × Untouched made before after × (writes' ≡ writes)
  FollowerActs call made old before writes reply new after writes' =
      (reply ≡ replies.Unknown) × (new ≡ old) × Untouched made before after × (writes' ≡ writes)
