-- The forms of the commands that ask when a batch was written, and which one was written at a time.
use Rattle.std.specs.Prelude.{ℕ, List, [], ◌∷◌, Option, Some, None, codes, if◌then◌else◌}
use Rattle.std.specs.Str.{bytes_eq}
use Rattle.slate_seqtrack.specs.declared.pairs.FindOption.{FindOption}
use Rattle.slate_seqtrack.specs.declared.pairs.FindOption.TheVariants.{RoundUp, RoundDown}
use Rattle.slate_text.specs.Numbers.{number_of, time_of}
use Rattle.slate_script.specs.declared.commands.Action.{Action}
use Rattle.slate_script.specs.declared.commands.Action.TheVariants as actions
use Rattle.slate_script.specs.Values.{◌>>=◌}

-- which entry answers where none is equal to what is sought
abbrev pub find_of : List ℕ → Option FindOption
find_of word = if bytes_eq word (codes "up") then Some RoundUp else (if bytes_eq word (codes "down") then Some RoundDown else None)

-- ts H NUMBER up, ts H NUMBER down
abbrev pub ts_form : List (List ℕ) → Option Action
ts_form (h ∷ n ∷ f ∷ []) = do
  handle ← number_of h
  number ← number_of n
  find ← find_of f
  Some (actions.Ts handle number find)
ts_form fields = None

-- seq H SECONDS up, seq H SECONDS down
abbrev pub seq_form : List (List ℕ) → Option Action
seq_form (h ∷ s ∷ f ∷ []) = do
  handle ← number_of h
  seconds ← time_of s
  find ← find_of f
  Some (actions.Seq handle seconds find)
seq_form fields = None

-- the command of a name and the fields behind it, where that asks for the time of a number or the number at a time
abbrev pub lookup_of : List ℕ → List (List ℕ) → Option Action
lookup_of name fields =
    if bytes_eq name (codes "ts") then ts_form fields
    else (if bytes_eq name (codes "seq") then seq_form fields
    else None)
