-- The lines of a router's script.
use Rattle.std.specs.Prelude.{ℕ, List, [], ◌∷◌, Option, Some, None, Result, codes, if◌then◌else◌}
use Rattle.std.specs.Str.{bytes_eq}
use Rattle.slate_text.specs.Numbers.{moment_of, number_of}
use Rattle.slate_text.specs.Words.{word_of}
use Rattle.slate_script.specs.Lines.{script_by}
use Rattle.slate_script.specs.Values.{◌>>=◌}
use Rattle.slate_route.specs.declared.commands.RouteAction.{RouteAction}
use Rattle.slate_route.specs.declared.commands.RouteAction.TheVariants.{Put, Flush, Add, Read}
use Rattle.slate_route.specs.declared.commands.RouteCommand.{RouteCommand}

-- put KEY VALUE
abbrev pub put_form : List (List ℕ) → Option RouteAction
put_form (k ∷ v ∷ []) = do
  key ← word_of k
  value ← word_of v
  Some (Put key value)
put_form fields = None

-- flush
abbrev pub flush_form : List (List ℕ) → Option RouteAction
flush_form [] = Some Flush
flush_form fields = None

-- add LIFETIME INTERVAL
abbrev pub add_form : List (List ℕ) → Option RouteAction
add_form (l ∷ i ∷ []) = do
  lifetime ← number_of l
  interval ← number_of i
  Some (Add lifetime interval)
add_form fields = None

-- read N KEY
abbrev pub read_form : List (List ℕ) → Option RouteAction
read_form (n ∷ k ∷ []) = do
  at_least ← number_of n
  key ← word_of k
  Some (Read at_least key)
read_form fields = None

-- the action of a name and the fields behind it
abbrev pub action_of : List ℕ → List (List ℕ) → Option RouteAction
action_of name fields =
    if bytes_eq name (codes "put") then put_form fields
    else (if bytes_eq name (codes "flush") then flush_form fields
    else (if bytes_eq name (codes "add") then add_form fields
    else (if bytes_eq name (codes "read") then read_form fields
    else None)))

-- the command that the fields of a line spell: its moments, the name, and the fields of its form
abbrev pub route_command_of : List (List ℕ) → Option RouteCommand
route_command_of [] = None
route_command_of (m ∷ []) = None
route_command_of (m ∷ name ∷ fields) = do
  moments ← moment_of m
  action ← action_of name fields
  Some (record { moment = moments.0; second = moments.1; action = action })

-- the commands of a script
abbrev pub route_script : List ℕ → Result (List RouteCommand) ℕ
route_script bytes = script_by route_command_of bytes
