-- The text of each reply.
use Rattle.std.specs.Prelude.{ℕ, ℤ, Bool, if◌then◌else◌, List, [], ◌∷◌, ◌++◌, length, Option, Some, None, codes, decimal}
use Rattle.std.specs.Fmt.{signed_decimal}
use Rattle.std.specs.List.{flat_map}
use Rattle.slate_types.specs.declared.batches.KeyValue.{KeyValue}
use Rattle.slate_text.specs.Words.{word_text}
use Rattle.slate_errors.specs.Tasks.{task_text}
use Rattle.slate_errors.specs.Texts.{error_text}
use Rattle.slate_errors.specs.declared.closing.CloseReason.{CloseReason}
use Rattle.slate_errors.specs.declared.closing.CloseReason.TheVariants as reasons
use Rattle.slate_errors.specs.declared.endings.TaskName.{TaskName}
use Rattle.slate_errors.specs.declared.errors.SlateError.{SlateError}
use Rattle.slate_status.specs.declared.statuses.DbStatus.{DbStatus}
use Rattle.slate_status.specs.Segments.{segments_of}
use Rattle.slate_script.specs.declared.replies.Reply.{Reply}
use Rattle.slate_script.specs.declared.replies.Reply.TheVariants as replies

-- a time of expiry, where there is one
abbrev pub expiry_text : Option ℤ → List ℕ
expiry_text None = []
expiry_text (Some time) = codes " expires " ++ signed_decimal time

-- the number of a row's write, its creation time and its time of expiry
abbrev pub stamp_text : KeyValue → List ℕ
stamp_text row = codes " number " ++ decimal row.seq ++ codes " created " ++ signed_decimal row.create_ts ++ expiry_text row.expire_ts

-- a row of a scan, on a line of its own behind the others
abbrev pub row_text : KeyValue → List ℕ
row_text row = codes "\nrow " ++ word_text row.key ++ codes " " ++ word_text row.value ++ stamp_text row

-- the rows of a scan: how many there are, and each of them
abbrev pub rows_text : List KeyValue → List ℕ
rows_text rows = codes "rows " ++ decimal (length rows) ++ flat_map row_text rows

-- the names of tasks, each after a space
abbrev pub tasks_text : List TaskName → List ℕ
tasks_text names = flat_map (λ name. 32 ∷ task_text name) names

-- the error of a close, where there is one
abbrev pub fault_text : Option SlateError → List ℕ
fault_text None = []
fault_text (Some error) = codes "error " ++ error_text error ++ codes "; "

-- what a reader took, and up to which number it sees batches
abbrev pub poll_text : Bool → ℕ → List ℕ
poll_text whole at = (if whole then codes "whole at " else codes "truncated at ") ++ decimal at

-- why something closed, or that it is open
abbrev pub reason_text : Option CloseReason → List ℕ
reason_text None = codes "none"
reason_text (Some reasons.Clean) = codes "clean"
reason_text (Some reasons.Fenced) = codes "fenced"
reason_text (Some reasons.Panic) = codes "panic"

-- the reason of a status, before the prefixes of its segments
abbrev pub because_text : Option CloseReason → List ℕ
because_text reason = codes " reason " ++ reason_text reason ++ codes " segments"

-- what stands before those prefixes: the durable number, the id of the manifest, and the reason
abbrev pub standing_text : DbStatus → List ℕ
standing_text status =
    codes "status durable " ++ decimal status.durable_seq
    ++ codes " manifest " ++ decimal status.current_manifest.id
    ++ because_text status.close_reason

-- prefixes as byte words, each after a space
abbrev pub prefixes_text : List (List ℕ) → List ℕ
prefixes_text prefixes = flat_map (λ prefix. codes " " ++ word_text prefix) prefixes

abbrev pub status_text : DbStatus → List ℕ
status_text status = standing_text status ++ prefixes_text (segments_of status)

-- the time of a number in whole seconds, where one was found
abbrev pub time_text : Option ℤ → List ℕ
time_text None = codes "time none"
time_text (Some seconds) = codes "time " ++ signed_decimal seconds

-- the number at a time, where one was found
abbrev pub number_text : Option ℕ → List ℕ
number_text None = codes "number none"
number_text (Some number) = codes "number " ++ decimal number

-- a reply without the newline at its end
abbrev pub reply_words : Reply → List ℕ
reply_words (replies.Handle object) = codes "handle " ++ decimal object
reply_words (replies.Snapshot object at) = codes "snapshot " ++ decimal object ++ codes " at " ++ decimal at
reply_words (replies.Written write number) = codes "write " ++ decimal write ++ codes " number " ++ decimal number
reply_words (replies.Found row) = codes "value " ++ word_text row.value ++ stamp_text row
reply_words replies.Absent = codes "none"
reply_words (replies.Rows rows) = rows_text rows
reply_words replies.Flushed = codes "flushed"
reply_words replies.Refreshed = codes "refreshed"
reply_words replies.Compacted = codes "compacted"
reply_words (replies.Checkpointed id) = codes "checkpoint " ++ decimal id
reply_words replies.Swept = codes "swept"
reply_words (replies.Follower object whole at) = codes "follower " ++ decimal object ++ codes " " ++ poll_text whole at
reply_words replies.Durable = codes "durable"
reply_words replies.Pending = codes "pending"
reply_words (replies.Polled whole at) = poll_text whole at
reply_words replies.Begun = codes "begun"
reply_words replies.Stepped = codes "stepped"
reply_words (replies.Ended fault tasks) = fault_text fault ++ codes "ended" ++ tasks_text tasks
reply_words (replies.Status status) = status_text status
reply_words (replies.Time time) = time_text time
reply_words (replies.Number number) = number_text number
reply_words (replies.Backpressure unflushed limit) = codes "error backpressure " ++ decimal unflushed ++ codes " of " ++ decimal limit
reply_words (replies.Refused error) = codes "error " ++ error_text error
reply_words replies.Unknown = codes "error unknown object"
reply_words replies.NoMemory = codes "error no memory"

-- the text of a reply
abbrev pub reply_text : Reply → List ℕ
reply_text reply = reply_words reply ++ 10 ∷ []

-- the text of replies, in order
abbrev pub replies_text : List Reply → List ℕ
replies_text replies = flat_map reply_text replies
