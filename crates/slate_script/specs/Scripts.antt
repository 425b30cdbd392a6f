-- The commands of a script, or the first line that isn't a script line.
use Rattle.std.specs.Prelude.{ℕ, List, Result}
use Rattle.slate_script.specs.Lines.{script_by}
use Rattle.slate_script.specs.Forms.{command_of}
use Rattle.slate_script.specs.declared.commands.Command.{Command}

-- the commands of a script
abbrev pub script_of : List ℕ → Result (List Command) ℕ
script_of bytes = script_by command_of bytes
