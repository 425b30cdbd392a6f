-- The lines of a script, the fields of a line, and the commands that they spell.
use Rattle.std.specs.Prelude.{◌≡◌, ℕ, ◌==◌, ◌+◌, Bool, List, [], ◌∷◌, ◌++◌, map, Option, Some, None, Result, Ok, Err, if◌then◌else◌}
use Rattle.std.specs.Global.{Vec}
use Rattle.std.specs.List.{slice_split, onto_first}
use Rattle.std.specs.Str.Lines.{strip_carriage_return}
use Rattle.slate_script.specs.declared.commands.LineAnswer.{LineAnswer}
use Rattle.slate_script.specs.declared.commands.LineAnswer.TheVariants as answers
use Rattle.slate_script.specs.declared.commands.ScriptFault.{ScriptFault}
use Rattle.slate_script.specs.declared.commands.ScriptFault.TheVariants as faults

abbrev pub is_newline : ℕ → Bool
is_newline b = b == 10

abbrev pub is_space : ℕ → Bool
is_space b = b == 32

-- what stands before each newline, and behind the last one where bytes do
abbrev pub parts_of : List ℕ → List (List ℕ)
parts_of [] = []
parts_of (b ∷ bs) = if is_newline b then [] ∷ parts_of bs else onto_first b (parts_of bs)

-- the lines of a script: one carriage return at the end of each is dropped
abbrev pub lines_of : List ℕ → List (List ℕ)
lines_of bytes = map strip_carriage_return (parts_of bytes)

-- the fields of a line: what stands between single spaces
abbrev pub fields_of : List ℕ → List (List ℕ)
fields_of line = slice_split is_space line

abbrev pub answer_of : {C : Type 0} → Option C → LineAnswer C
answer_of None = answers.Refused
answer_of (Some command) = answers.Command command

-- what a line is, by what fields spell: one without bytes and one that begins with `#` hold no command
abbrev pub line_by : {C : Type 0} → (List (List ℕ) → Option C) → List ℕ → LineAnswer C
line_by spelled [] = answers.Blank
line_by spelled (b ∷ bs) = if b == 35 then answers.Blank else answer_of (spelled (fields_of (b ∷ bs)))

-- commands before those that are still to come
abbrev pub with_commands : {C : Type 0} → List C → Result (List C) ℕ → Result (List C) ℕ
with_commands front (Ok commands) = Ok (front ++ commands)
with_commands front (Err number) = Err number

-- a line with this number, and what comes of the lines behind it
abbrev pub line_then : {C : Type 0} → ℕ → LineAnswer C → Result (List C) ℕ → Result (List C) ℕ
line_then number answers.Blank behind = behind
line_then number (answers.Command command) behind = with_commands (command ∷ []) behind
line_then number answers.Refused behind = Err number

-- the commands of lines that are numbered from here on, or the number of the first one that isn't a script line
abbrev pub commands_from : {C : Type 0} → (List (List ℕ) → Option C) → ℕ → List (List ℕ) → Result (List C) ℕ
commands_from spelled number [] = Ok []
commands_from spelled number (line ∷ lines) = line_then number (line_by spelled line) (commands_from spelled (number + 1) lines)

-- the commands of a script, by what fields spell
abbrev pub script_by : {C : Type 0} → (List (List ℕ) → Option C) → List ℕ → Result (List C) ℕ
script_by spelled bytes = commands_from spelled 1 (lines_of bytes)

-- what was read is what a script holds, unless memory ran out
abbrev pub ReadsCommands : {C : Type 0} → Result (Vec C) ScriptFault → Result (List C) ℕ → Type 0
ReadsCommands (Ok commands) script = script ≡ Ok commands.items
ReadsCommands (Err (faults.Line number)) script = script ≡ Err number
ReadsCommands (Err faults.NoMemory) script = Unit {0}
