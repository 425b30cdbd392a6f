-- What a session did, by how it ended.
use Rattle.std.specs.Prelude.{◌≡◌, ℕ, ◌⊎◌, List, [], ◌++◌, codes, length, Option, Some, None, option_map}
use Rattle.slate_types.specs.Counts.{HasRisen}
use Rattle.std.specs.Fmt.{decimal}
use Rattle.slate_types.specs.Operator.{concat}
use Rattle.slate_types.specs.Prefix.{fixed_prefix}
use Rattle.slate_types.specs.declared.batches.Batch.{Batch}
use Rattle.slate_model.specs.Known.{Known}
use Rattle.slate_model.specs.Segments.{Extractor}
use Rattle.slate_script.specs.Generator.{generated, summary_text}
use Rattle.slate_script.specs.Options.{nothing_given, run_options}
use Rattle.slate_script.specs.Replies.{replies_text}
use Rattle.slate_script.specs.Scripts.{script_of}
use Rattle.slate_script.specs.Sessions.{EndsWriting, HasScript, KeepsOutput, KeepsSource, RunsWhole, Sides, StopsReading}
use Rattle.slate_script.specs.declared.commands.Command.{Command}
use Rattle.slate_script.specs.declared.options.RunOptions.{RunOptions}
use Rattle.slate_script.specs.declared.options.SessionWords.{SessionWords}
use Rattle.slate_script.specs.declared.options.SessionWords.TheVariants.{Script, Generator}
use Rattle.slate_script.specs.declared.replies.Reply.{Reply}
use Rattle.slate_script.specs.declared.sessions.Outcome.{Outcome}
use Rattle.slate_script.specs.declared.sessions.Outcome.TheVariants.{NoMemory, WordsRefused}
use Rattle.slate_live.specs.Run.{DidAll, IsRun}
use Rattle.slate_live.specs.Settings.{Settings}

-- the sides of a session, with what is known of its store
abbrev pub StoreSides : Type 0
StoreSides = Sides (Known (List Batch))

-- the extractor of prefixes of a length
abbrev pub fixed_extractor : ℕ → Extractor
fixed_extractor length = record { name = codes "fixed-" ++ decimal length; prefix_of = fixed_prefix length }

-- what the commands of a session are run with, by its words: the operator that appends and the extractor of prefixes of a length,
-- where they ask for them
abbrev pub settings_of : RunOptions → Settings
settings_of words =
    record { merge = option_map (λ operator. concat) words.operator; extractor = option_map fixed_extractor words.segments; options = words.options }

-- what the commands of the generator are run with: no operator and no extractor, and the options where no word says one
abbrev pub generator_settings : Settings
generator_settings = settings_of (run_options nothing_given)

-- The words were refused: nothing was read, run or written.
pub record RefusesWords (words : Option SessionWords) (replies : List Reply) (ending : Outcome) (s s' : StoreSides) : Type 0 where
  pub refused : words ≡ None
  pub ending_is : ending ≡ WordsRefused
  pub nothing : s' ≡ s
  pub no_reply : replies ≡ []

-- Why nothing was run: no script came of the source, or memory ran out. The generator doesn't look at the source.
abbrev pub Stops : SessionWords → Outcome → StoreSides → StoreSides → Type 0
Stops (Script options) ending s s' = StopsReading script_of ending s.left s'.left s.source_faults s'.source_faults
Stops (Generator seed count) ending s s' = (ending ≡ NoMemory) × KeepsSource s s'

-- Nothing was run or written.
pub record RunsNothing (words : Option SessionWords) (replies : List Reply) (ending : Outcome) (s s' : StoreSides) : Type 0 where
  pub asked : SessionWords
  pub accepted : words ≡ Some asked
  pub stops : Stops asked ending s s'
  pub output : KeepsOutput s s'
  pub no_reply : replies ≡ []

-- Commands are run with these replies, whose text is this.
pub record RunsCommands (options : RunOptions) (replies : List Reply) (commands : List Command) (text : List ℕ) (before after : Known (List Batch)) : Type 0 where
  pub text_is : text ≡ replies_text replies
  pub done : DidAll (settings_of options) commands replies before after
  pub run : IsRun (settings_of options) commands replies before after

-- The script was read whole, its commands were run, and the text of the replies was written, or writing it ended.
pub record RunsScript (words : Option SessionWords) (replies : List Reply) (ending : Outcome) (s s' : StoreSides) : Type 0 where
  pub options : RunOptions
  pub accepted : words ≡ Some (Script options)
  pub whole : RunsWhole script_of (RunsCommands options replies) ending s s'

-- The commands of the generator were run, and the summary of the replies was written, or writing it ended. The source wasn't
-- looked at.
pub record RunsGenerator (words : Option SessionWords) (replies : List Reply) (ending : Outcome) (s s' : StoreSides) : Type 0 where
  pub seed : ℕ
  pub count : ℕ
  pub accepted : words ≡ Some (Generator seed count)
  pub source : KeepsSource s s'
  pub done : DidAll generator_settings (generated seed count) replies s.store s'.store
  pub run : IsRun generator_settings (generated seed count) replies s.store s'.store
  pub writing : EndsWriting ending (summary_text (length (generated seed count)) replies) s.written s'.written s.sink_faults s'.sink_faults

abbrev pub Ends : Option SessionWords → List Reply → Outcome → StoreSides → StoreSides → Type 0
Ends words replies ending s s' =
    RefusesWords words replies ending s s' ⊎ (RunsNothing words replies ending s s' ⊎ (RunsScript words replies ending s s' ⊎ RunsGenerator words replies ending s s'))

-- what a session that meets no fault needs, by its words
abbrev pub IsGiven : Option SessionWords → StoreSides → StoreSides → Type 0
IsGiven None s s' = ⊥
IsGiven (Some (Script options)) s s' = HasScript script_of s s'
IsGiven (Some (Generator seed count)) s s' = HasRisen s.sink_faults s'.sink_faults → ⊥
