-- The replies to what operations answer.
use Rattle.std.specs.Prelude.{◌≡◌, ◌⊎◌, ℕ, List, true, false, Option, Some, None, Result, Ok, Err}
use Rattle.slate_types.specs.declared.batches.Batch.{Batch}
use Rattle.slate_types.specs.declared.batches.KeyValue.{KeyValue}
use Rattle.slate_store.specs.declared.objects.TableId.{TableId}
use Rattle.slate_types.specs.declared.read_faults.ReadFault.{ReadFault}
use Rattle.slate_errors.specs.declared.endings.Ended.{Ended}
use Rattle.slate_errors.specs.declared.endings.TaskName.{TaskName}
use Rattle.slate_errors.specs.declared.errors.SlateError.{SlateError}
use Rattle.slate_errors.specs.declared.errors.SlateError.TheVariants as errors
use Rattle.slate_model.specs.declared.answers.PollAnswer.{PollAnswer}
use Rattle.slate_model.specs.declared.answers.PollAnswer.TheVariants.{Whole, Truncated}
use Rattle.slate_model.specs.Handle.{CloseResult}
use Rattle.slate_model.specs.Known.{Known}
use Rattle.slate_model.specs.Read.{ReadsUnlessClosed}
use Rattle.slate_status.specs.declared.statuses.DbStatus.{DbStatus}
use Rattle.slate_script.specs.declared.replies.Reply.{Reply}
use Rattle.slate_script.specs.declared.replies.Reply.TheVariants as replies

-- the reply to a command that answers an error
abbrev pub refusal : SlateError → Reply
refusal errors.NoMemory = replies.NoMemory
refusal (errors.Backpressure unflushed limit) = replies.Backpressure unflushed limit
refusal error = replies.Refused error

-- the reply to what is answered Ok, or with an error
abbrev pub reply_to : {A : Type 0} → (A → Reply) → Result A SlateError → Reply
reply_to done (Ok answer) = done answer
reply_to done (Err error) = refusal error

-- The reply to a read of something that closed with this result, or is open, and reads these tables. `has_rows` says
-- which batches it reads, and `is_plain` what a plain read of some answers.
pub record IsRead {L A : Type 0} (done : A → Reply) (closed : CloseResult) (tables : List TableId) (has_rows : List Batch → Type 0)
    (is_plain : List Batch → Result A ReadFault → Type 0) (before : Known L) (reply : Reply) (after : Known L) : Type 0 where
  pub result : Result A SlateError
  pub replied : reply ≡ reply_to done result
  pub does : ReadsUnlessClosed closed tables has_rows is_plain before result after

abbrev pub found_reply : Option KeyValue → Reply
found_reply None = replies.Absent
found_reply (Some row) = replies.Found row

abbrev pub followed_reply : ℕ → PollAnswer → Reply
followed_reply object (Whole at) = replies.Follower object true at
followed_reply object (Truncated at) = replies.Follower object false at

abbrev pub polled_reply : PollAnswer → Reply
polled_reply (Whole at) = replies.Polled true at
polled_reply (Truncated at) = replies.Polled false at

-- this status is answered, unless memory ran out
abbrev pub AnswersStatus : DbStatus → Reply → Type 0
AnswersStatus status reply = (reply ≡ replies.Status status) ⊎ (reply ≡ replies.NoMemory)

-- the reply to a close that finds this error and ends these tasks: one of a handle that closed cleanly is refused
abbrev pub closed_reply : Option SlateError → List TaskName → Reply
closed_reply (Some errors.Closed) tasks = replies.Refused errors.Closed
closed_reply fault tasks = replies.Ended fault tasks

abbrev pub ended_reply : Ended → Reply
ended_reply ended = closed_reply ended.fault ended.tasks

-- the reply to a close of a follower that was closed before: an error that was recorded is answered again
abbrev pub follower_closed_reply : Option SlateError → List TaskName → Reply
follower_closed_reply None tasks = replies.Ended None tasks
follower_closed_reply (Some error) tasks = replies.Refused error

-- and of one that was open, or closed with this result
abbrev pub follower_ended_reply : CloseResult → Ended → Reply
follower_ended_reply None ended = replies.Ended ended.fault ended.tasks
follower_ended_reply (Some result) ended = follower_closed_reply ended.fault ended.tasks
