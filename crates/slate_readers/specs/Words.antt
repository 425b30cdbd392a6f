-- The words of a live session.
use Rattle.std.specs.Prelude.{ℕ, ◌&&◌, nat_lt, List, [], ◌∷◌, Option, Some, None, codes, if◌then◌else◌}
use Rattle.std.specs.Str.{bytes_eq}
use Rattle.slate_text.specs.Numbers.{number_of}
use Rattle.slate_script.specs.Options.{words_of}
use Rattle.slate_script.specs.declared.options.SessionWords.{SessionWords}
use Rattle.slate_script.specs.declared.options.SessionWords.TheVariants.{Script, Generator}
use Rattle.slate_readers.specs.declared.words.LiveWords.{LiveWords}

-- a number of readers, from 1 to 16, where there is one
abbrev pub in_range : Option ℕ → Option ℕ
in_range None = None
in_range (Some count) = if nat_lt 0 count && nat_lt count 17 then Some count else None

-- the number of readers that digits spell
abbrev pub reader_count : List ℕ → Option ℕ
reader_count digits = in_range (number_of digits)

-- so many readers, and the options of a script
abbrev pub with_options : Option ℕ → Option SessionWords → Option LiveWords
with_options (Some readers) (Some (Script options)) = Some (record { readers = readers; options = options })
with_options readers words = None

-- what words ask for: `live --readers N`, and then options
abbrev pub live_words_of : List (List ℕ) → Option LiveWords
live_words_of (first ∷ option ∷ count ∷ others) =
    if bytes_eq first (codes "live") && bytes_eq option (codes "--readers") then with_options (reader_count count) (words_of others) else None
live_words_of words = None
