-- What a live session did, by how it ended.
use Rattle.std.specs.Prelude.{◌≡◌, ◌⊎◌, ℕ, ◌+◌, Bool, true, false, List, [], ◌∷◌, ◌++◌, codes, length, Option, Some, None}
use Rattle.std.specs.Fmt.{decimal}
use Rattle.std.specs.List.{All}
use Rattle.std.specs.Option.{option_map_or}
use Rattle.slate_types.specs.declared.batches.Batch.{Batch}
use Rattle.slate_published.specs.Beginnings.{Beginning}
use Rattle.slate_published.specs.Published.{Published}
use Rattle.slate_published.specs.States.{last_of}
use Rattle.slate_model.specs.Known.{Known}
use Rattle.slate_script.specs.Replies.{replies_text}
use Rattle.slate_script.specs.Scripts.{script_of}
use Rattle.slate_script.specs.Sessions.{HasScript, RunsNone, RunsWhole}
use Rattle.slate_script.specs.declared.commands.Command.{Command}
use Rattle.slate_script.specs.declared.options.RunOptions.{RunOptions}
use Rattle.slate_script.specs.declared.replies.Reply.{Reply}
use Rattle.slate_script.specs.declared.sessions.Outcome.{Outcome}
use Rattle.slate_script.specs.declared.sessions.Outcome.TheVariants.{Done, WriteFault, WordsRefused}
use Rattle.slate_live.specs.Run.{DidAll}
use Rattle.slate_live.specs.Session.{StoreSides, settings_of}
use Rattle.slate_readers.specs.Published.{IsPublishedRun}
use Rattle.slate_readers.specs.declared.words.LiveWords.{LiveWords}

-- the line of a reader that has last seen a state with this number
abbrev pub reader_text : ℕ → ℕ → List ℕ
reader_text place number = codes "reader " ++ (decimal place ++ (codes " at " ++ (decimal number ++ codes "\n")))

-- a line for each reader, with the number of the last state that it has seen; 0 where it has seen none
abbrev pub readers_text : ℕ → List Beginning → List ℕ
readers_text place [] = []
readers_text place (reader ∷ readers) = reader_text place (last_of reader.states).number ++ readers_text (place + 1) readers

-- what a live session hands back: the replies, the publisher and the readers, each with what it has published or seen
pub record Handed : Type 0 where
  pub replies : List Reply
  pub publisher : Option Beginning
  pub readers : List Beginning

-- what the publisher published, where there is one
abbrev pub published_by : Option Beginning → List Published
published_by publisher = option_map_or (λ (published : Beginning). published.states) publisher []

-- whether the whole text of a session was written, or a part of it
abbrev pub is_written : Outcome → Bool
is_written Done = true
is_written WriteFault = true
is_written ending = false

-- a publisher, and so many readers that were made with it and have seen all that it published
pub record HandsOver (count : ℕ) (handed : Handed) : Type 0 where
  pub published : Beginning
  pub publisher : handed.publisher ≡ Some published
  pub count_is : length handed.readers ≡ count
  pub seen : All (λ reader. reader ≡ published) handed.readers

-- The commands were run and came to this text: the replies, and then the lines of the readers. Where that is written, what was
-- published is, over an honest store, what the first reader of the run saw, each time that it saw something else.
pub record RunsPublished (options : RunOptions) (handed : Handed) (ending : Outcome) (commands : List Command) (text : List ℕ) (store store' : Known (List Batch)) : Type 0 where
  pub text_is : text ≡ replies_text handed.replies ++ readers_text 0 handed.readers
  pub done : DidAll (settings_of options) commands handed.replies store store'
  pub run : IsPublishedRun (settings_of options) commands handed.replies store store' (is_written ending) (published_by handed.publisher)

-- The words were refused: nothing was read, run or written.
pub record RefusesWords (words : Option LiveWords) (handed : Handed) (ending : Outcome) (s s' : StoreSides) : Type 0 where
  pub refused : words ≡ None
  pub ending_is : ending ≡ WordsRefused
  pub nothing : s' ≡ s
  pub handed_is : handed ≡ record { replies = []; publisher = None; readers = [] }

-- Nothing was run or written.
pub record RunsNothing (words : Option LiveWords) (handed : Handed) (ending : Outcome) (s s' : StoreSides) : Type 0 where
  pub asked : LiveWords
  pub accepted : words ≡ Some asked
  pub none : RunsNone script_of ending s s'
  pub handed_is : handed ≡ record { replies = []; publisher = None; readers = [] }

-- The script was read whole and run, and the text of the replies and of the readers was written, or writing it ended.
pub record RunsLive (words : Option LiveWords) (handed : Handed) (ending : Outcome) (s s' : StoreSides) : Type 0 where
  pub asked : LiveWords
  pub accepted : words ≡ Some asked
  pub whole : RunsWhole script_of (RunsPublished asked.options handed ending) ending s s'
  pub hands : is_written ending ≡ true → HandsOver asked.readers handed

abbrev pub EndsLive : Option LiveWords → Handed → Outcome → StoreSides → StoreSides → Type 0
EndsLive words handed ending s s' = RefusesWords words handed ending s s' ⊎ (RunsNothing words handed ending s s' ⊎ RunsLive words handed ending s s')

-- what a live session that meets no fault needs
abbrev pub IsGivenLive : Option LiveWords → StoreSides → StoreSides → Type 0
IsGivenLive None s s' = ⊥
IsGivenLive (Some asked) s s' = HasScript script_of s s'
