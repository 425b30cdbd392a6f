-- What a live session has before its commands are run, and after.
use Rattle.std.specs.Prelude.{◌≡◌, ◌≤◌, ℕ, ◌++◌, true, List, [], Option, length, vec_capacity}
use Rattle.slate_types.specs.declared.batches.Batch.{Batch}
use Rattle.slate_model.specs.Known.{Known}
use Rattle.slate_script.specs.Replies.{replies_text}
use Rattle.slate_script.specs.Sessions.{EndsWriting}
use Rattle.slate_script.specs.declared.commands.Command.{Command}
use Rattle.slate_script.specs.declared.sessions.Outcome.{Outcome}
use Rattle.slate_readers.specs.Session.{Handed, HandsOver, RunsPublished, is_written, readers_text}
use Rattle.slate_readers.specs.Watching.{AreOf}
use Rattle.slate_readers.specs.declared.sessions.Live.{Live}
use Rattle.slate_readers.specs.declared.sessions.Opened.{Opened}
use Rattle.slate_readers.specs.declared.words.LiveWords.{LiveWords}

-- what is handed back
abbrev pub handed : Live → Handed
handed live = record { replies = live.finished.replies; publisher = live.publisher; readers = live.readers }

-- the words, room for the replies to so many commands and for the readers, the extractor that the words ask for, a publisher that has published
-- nothing, and as many readers as the words ask for, which were made with it
pub record IsOpened (words : LiveWords) (commands : ℕ) (opened : Opened) : Type 0 where
  pub asked : opened.words ≡ words
  pub replies : (opened.replies.items ≡ []) × (commands ≤ vec_capacity opened.replies)
  pub extractor : opened.extractor ≡ words.options.segments
  pub publisher : opened.publisher.states ≡ []
  pub count : length opened.watchers.items ≡ words.readers
  pub watchers : AreOf opened.publisher opened.watchers.items
  pub readers : (opened.readers.items ≡ []) × (words.readers ≤ vec_capacity opened.readers)

-- the commands were run, and what they came to was written, or a part of it, or nothing for want of memory
pub record HasRun (words : LiveWords) (handed : Handed) (ending : Outcome) (commands : List Command) (store store' : Known (List Batch)) (written written' : Option (List ℕ)) (faults faults' : ℕ) : Type 0 where
  pub runs : RunsPublished words.options handed ending commands (replies_text handed.replies ++ readers_text 0 handed.readers) store store'
  pub writing : EndsWriting ending (replies_text handed.replies ++ readers_text 0 handed.readers) written written' faults faults'
  pub hands : is_written ending ≡ true → HandsOver words.readers handed
