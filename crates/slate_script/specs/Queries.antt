-- The forms of the commands that read rows.
use Rattle.std.specs.Prelude.{ℕ, List, ◌∷◌, Option, Some, None, codes, if◌then◌else◌}
use Rattle.std.specs.Str.{bytes_eq}
use Rattle.slate_text.specs.Numbers.{number_of}
use Rattle.slate_text.specs.Words.{word_of}
use Rattle.slate_script.specs.declared.commands.Action.{Action}
use Rattle.slate_script.specs.declared.commands.Action.TheVariants as actions
use Rattle.slate_script.specs.Values.{◌>>=◌, range_of, order_of, after_order, remote_of}

-- get O KEY, get O KEY remote
abbrev pub get_form : List (List ℕ) → Option Action
get_form (o ∷ k ∷ fields) = do
  object ← number_of o
  remote ← remote_of fields
  key ← word_of k
  Some (actions.Get object key remote)
get_form fields = None

-- scan O LOW HIGH, and then `desc` and `remote`
abbrev pub scan_form : List (List ℕ) → Option Action
scan_form (o ∷ l ∷ h ∷ fields) = do
  object ← number_of o
  remote ← remote_of (after_order fields)
  range ← range_of l h
  Some (actions.Scan object range (order_of fields) remote)
scan_form fields = None

-- seek O LOW HIGH TAKE KEY, and then `desc` and `remote`
abbrev pub seek_form : List (List ℕ) → Option Action
seek_form (o ∷ l ∷ h ∷ t ∷ k ∷ fields) = do
  object ← number_of o
  take ← number_of t
  remote ← remote_of (after_order fields)
  key ← word_of k
  range ← range_of l h
  Some (actions.Seek object range take key (order_of fields) remote)
seek_form fields = None

-- the command of a name and the fields behind it, where that reads rows
abbrev pub query_of : List ℕ → List (List ℕ) → Option Action
query_of name fields =
    if bytes_eq name (codes "get") then get_form fields
    else (if bytes_eq name (codes "scan") then scan_form fields
    else (if bytes_eq name (codes "seek") then seek_form fields
    else None))
