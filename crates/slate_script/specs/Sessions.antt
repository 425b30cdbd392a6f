-- What a session does, by how it ended: whatever its lines spell, and whatever its run does.
use Rattle.std.specs.Prelude.{◌≡◌, ℕ, ◌<◌, ◌≤◌, ◌⊎◌, List, [], ◌++◌, length, take, Option, Some, Result, Ok, Err}
use Rattle.std.specs.Global.{Vec}
use Rattle.slate_types.specs.Counts.{HasRisen}
use Rattle.slate_types.specs.Modelled.{WhereModelled}
use Rattle.slate_streams.specs.declared.whole.InputFault.{InputFault}
use Rattle.slate_streams.specs.declared.whole.InputFault.TheVariants as inputs
use Rattle.slate_script.specs.declared.lines.TheConstants.{MAX_SCRIPT}
use Rattle.slate_script.specs.declared.commands.ScriptFault.{ScriptFault}
use Rattle.slate_script.specs.declared.commands.ScriptFault.TheVariants as scripts
use Rattle.slate_script.specs.declared.sessions.Outcome.{Outcome}
use Rattle.slate_script.specs.declared.sessions.Outcome.TheVariants.{Done, LineRefused, ReadFault, WriteFault, NoMemory, TooLong, WordsRefused}

-- the status of an ending, and the number of the line that was refused
abbrev pub status_of : Outcome → ℕ
status_of Done = 0
status_of (LineRefused number) = 2
status_of ReadFault = 3
status_of WriteFault = 4
status_of NoMemory = 5
status_of TooLong = 6
status_of WordsRefused = 64

abbrev pub refused_line : Outcome → ℕ
refused_line Done = 0
refused_line (LineRefused number) = number
refused_line ReadFault = 0
refused_line WriteFault = 0
refused_line NoMemory = 0
refused_line TooLong = 0
refused_line WordsRefused = 0

-- how a fault of reading a source, or a script, ends a session
abbrev pub input_ending : InputFault → Outcome
input_ending inputs.Failed = ReadFault
input_ending inputs.TooLong = TooLong
input_ending inputs.NoMemory = NoMemory

abbrev pub script_ending : ScriptFault → Outcome
script_ending (scripts.Line number) = LineRefused number
script_ending scripts.NoMemory = NoMemory

-- what is known of a source, a sink and a store: the bytes that are left, and those that were written, how often each has
-- failed, and K of the store
pub record Sides (K : Type 0) : Type 0 where
  pub left : Option (List ℕ)
  pub source_faults : ℕ
  pub written : Option (List ℕ)
  pub sink_faults : ℕ
  pub store : K

-- the sides of a session, by the models of its source and its sink
abbrev pub sides : {I O K : Type 0} → (I → Option (List ℕ)) → (I → ℕ) → (O → Option (List ℕ)) → (O → ℕ) → I → O → K → Sides K
sides left source_faults written sink_faults source sink store =
    record { left = left source; source_faults = source_faults source; written = written sink; sink_faults = sink_faults sink; store = store }

-- the source was read to its end: it had these bytes left, within the limit
pub record WasRead (bytes : List ℕ) (left left' : Option (List ℕ)) : Type 0 where
  pub limit : length bytes ≤ MAX_SCRIPT
  pub where_modelled : WhereModelled (λ old new. (old ≡ bytes) × (new ≡ [])) left left'

-- why no script came of a source, where `script` gives the commands of bytes, or the number of the first line that spells none
abbrev pub StopsReading : {C : Type 0} → (script : List ℕ → Result (List C) ℕ) → Outcome → (left left' : Option (List ℕ)) → (faults faults' : ℕ) → Type 0
StopsReading script (LineRefused number) left left' faults faults' = (bytes : List ℕ) × WasRead bytes left left' × (script bytes ≡ Err number)
StopsReading script ReadFault left left' faults faults' = HasRisen faults faults'
StopsReading script TooLong left left' faults faults' = WhereModelled (λ old new. (taken : List ℕ) × (old ≡ taken ++ new) × (MAX_SCRIPT < length taken)) left left'
StopsReading script NoMemory left left' faults faults' = Unit {0}
StopsReading script Done left left' faults faults' = ⊥
StopsReading script WriteFault left left' faults faults' = ⊥
StopsReading script WordsRefused left left' faults faults' = ⊥

-- what reading a script gave: its commands, or why none came
abbrev pub ReadsScript : {C : Type 0} → (script : List ℕ → Result (List C) ℕ) → Result (Vec C) Outcome → (left left' : Option (List ℕ)) → (faults faults' : ℕ) → Type 0
ReadsScript script (Ok commands) left left' faults faults' = (bytes : List ℕ) × WasRead bytes left left' × (script bytes ≡ Ok commands.items)
ReadsScript script (Err ending) left left' faults faults' = StopsReading script ending left left' faults faults'

-- how writing a text ends: all of it is written, or a part of it, or none
abbrev pub EndsWriting : Outcome → List ℕ → (written written' : Option (List ℕ)) → (faults faults' : ℕ) → Type 0
EndsWriting Done text written written' faults faults' = WhereModelled (λ old new. new ≡ old ++ text) written written'
EndsWriting WriteFault text written written' faults faults' =
    HasRisen faults faults' × WhereModelled (λ old new. (count : ℕ) × (count < length text) × (new ≡ old ++ take count text)) written written'
EndsWriting NoMemory text written written' faults faults' = (written' ≡ written) × (faults' ≡ faults)
EndsWriting (LineRefused number) text written written' faults faults' = ⊥
EndsWriting ReadFault text written written' faults faults' = ⊥
EndsWriting TooLong text written written' faults faults' = ⊥
EndsWriting WordsRefused text written written' faults faults' = ⊥

-- the source stays as it is
pub record KeepsSource {K : Type 0} (s s' : Sides K) : Type 0 where
  pub left : s'.left ≡ s.left
  pub source_faults : s'.source_faults ≡ s.source_faults

-- the sink and the store stay as they are
pub record KeepsOutput {K : Type 0} (s s' : Sides K) : Type 0 where
  pub written : s'.written ≡ s.written
  pub sink_faults : s'.sink_faults ≡ s.sink_faults
  pub store : s'.store ≡ s.store

-- Nothing was run or written: no script came of the source, or memory ran out.
pub record RunsNone {C K : Type 0} (script : List ℕ → Result (List C) ℕ) (ending : Outcome) (s s' : Sides K) : Type 0 where
  pub stops : StopsReading script ending s.left s'.left s.source_faults s'.source_faults
  pub output : KeepsOutput s s'

-- The script was read whole, its commands were run, which `Runs` says of the text that they came to and of the store, and that
-- text was written, or writing it ended.
pub record RunsWhole {C K : Type 0} (script : List ℕ → Result (List C) ℕ) (Runs : List C → List ℕ → K → K → Type 0) (ending : Outcome) (s s' : Sides K) : Type 0 where
  pub bytes : List ℕ
  pub read : WasRead bytes s.left s'.left
  pub commands : List C
  pub spelled : script bytes ≡ Ok commands
  pub text : List ℕ
  pub runs : Runs commands text s.store s'.store
  pub writing : EndsWriting ending text s.written s'.written s.sink_faults s'.sink_faults

-- how a session ends that needs no words
abbrev pub EndsBy : {C K : Type 0} → (script : List ℕ → Result (List C) ℕ) → (Runs : List C → List ℕ → K → K → Type 0) → Outcome → Sides K → Sides K → Type 0
EndsBy script Runs ending s s' = RunsNone script ending s s' ⊎ RunsWhole script Runs ending s s'

-- a script within the limit, of script lines, that is read and whose text is written without a fault
pub record HasScript {C K : Type 0} (script : List ℕ → Result (List C) ℕ) (s s' : Sides K) : Type 0 where
  pub bytes : List ℕ
  pub left : s.left ≡ Some bytes
  pub limit : length bytes ≤ MAX_SCRIPT
  pub commands : List C
  pub spelled : script bytes ≡ Ok commands
  pub reading : HasRisen s.source_faults s'.source_faults → ⊥
  pub writing : HasRisen s.sink_faults s'.sink_faults → ⊥
