-- The lines of a script with feeds.
use Rattle.std.specs.Prelude.{ℕ, ◌^◌, List, [], ◌∷◌, Option, Some, None, Result, codes, if◌then◌else◌}
use Rattle.std.specs.Option.{option_map}
use Rattle.std.specs.Str.{bytes_eq}
use Rattle.slate_text.specs.Numbers.{moment_of, number_below, number_of}
use Rattle.slate_script.specs.Forms.{command_of}
use Rattle.slate_script.specs.Lines.{script_by}
use Rattle.slate_script.specs.Values.{◌>>=◌}
use Rattle.slate_feed.specs.declared.commands.FeedCommand.{FeedCommand}
use Rattle.slate_feed.specs.declared.commands.FeedCommand.TheVariants.{Run, Open, Next}

-- feed AFTER
abbrev pub open_form : List (List ℕ) → Option FeedCommand
open_form (a ∷ []) = do
  after ← number_of a
  Some (Open after)
open_form fields = None

-- a number below 2^32
abbrev pub short_of : List ℕ → Option ℕ
short_of field = number_below (2 ^ 32) field

-- next I LIMIT
abbrev pub next_form : List (List ℕ) → Option FeedCommand
next_form (i ∷ l ∷ []) = do
  feed ← number_of i
  limit ← short_of l
  Some (Next feed limit)
next_form fields = None

-- a command behind a moment
abbrev pub timed : List ℕ → Option FeedCommand → Option FeedCommand
timed m form = do
  moment ← moment_of m
  form

-- the command that the fields of a line spell: one of a feed, or one of a script without feeds
abbrev pub feed_command_of : List (List ℕ) → Option FeedCommand
feed_command_of [] = None
feed_command_of (m ∷ []) = None
feed_command_of (m ∷ name ∷ fields) =
    if bytes_eq name (codes "feed") then timed m (open_form fields)
    else (if bytes_eq name (codes "next") then timed m (next_form fields)
    else option_map (λ command. Run command) (command_of (m ∷ name ∷ fields)))

-- the commands of a script
abbrev pub feed_script : List ℕ → Result (List FeedCommand) ℕ
feed_script bytes = script_by feed_command_of bytes
