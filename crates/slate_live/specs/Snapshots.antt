-- What the reads of a snapshot give.
use Rattle.std.specs.Prelude.{◌≡◌, ℕ, ◌<◌, Bool, true, false, List, slice_get, Option, Some, None}
use Rattle.slate_model.specs.declared.snapshots.HandleSnapshot.{HandleSnapshot}
use Rattle.slate_model.specs.Object.{Snapshot}
use Rattle.slate_script.specs.declared.commands.Action.{Action}
use Rattle.slate_script.specs.declared.commands.Action.TheVariants as actions
use Rattle.slate_script.specs.declared.replies.Reply.{Reply}
use Rattle.slate_script.specs.declared.replies.Reply.TheVariants as replies
use Rattle.slate_live.specs.Steps.{Step}
use Rattle.slate_live.specs.World.{World}

-- the object that a get, a scan or a seek reads which doesn't ask for what is durable alone
abbrev pub reads_all : Action → Option ℕ
reads_all (actions.Get n key false) = Some n
reads_all (actions.Scan n range order false) = Some n
reads_all (actions.Seek n range take key order false) = Some n
reads_all action = None

-- whether a read was answered: with a row or none, or with rows
abbrev pub is_answer : Reply → Bool
is_answer (replies.Found row) = true
is_answer replies.Absent = true
is_answer (replies.Rows rows) = true
is_answer reply = false

abbrev pub IsSnapshotIn : World → ℕ → Type 0
IsSnapshotIn w n = (snapshot : HandleSnapshot) × (slice_get w.objects n ≡ Some (Snapshot snapshot))

-- Of two reads of a snapshot that ask the same and are answered, the later one gives what the earlier one gave, whatever was
-- written, flushed or compacted in between.
abbrev pub SnapshotsStay : List Step → Type 0
SnapshotsStay steps =
    (i j n : ℕ) (earlier later : Step) → i < j → slice_get steps i ≡ Some earlier → slice_get steps j ≡ Some later →
    later.command.action ≡ earlier.command.action → reads_all earlier.command.action ≡ Some n → IsSnapshotIn earlier.world n →
    is_answer earlier.reply ≡ true → is_answer later.reply ≡ true → later.reply ≡ earlier.reply
