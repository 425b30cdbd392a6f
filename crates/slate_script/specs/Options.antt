-- The words of the command line: options in any order, each at most once, or those of the generator.
use Rattle.std.specs.Prelude.{ℕ, Bool, false, not, true, ◌&&◌, nat_le, nat_lt, List, [], ◌∷◌, Option, Some, None, codes, is_none, unwrap_or, if◌then◌else◌}
use Rattle.std.specs.Option.{option_map}
use Rattle.std.specs.Str.{bytes_eq}
use Rattle.slate_types.specs.declared.operators.ConcatOperator.{ConcatOperator}
use Rattle.slate_text.specs.Numbers.{number_of}
use Rattle.slate_script.specs.declared.options.Given.{Given}
use Rattle.slate_script.specs.declared.options.RunOptions.{RunOptions}
use Rattle.slate_script.specs.declared.options.SessionWords.{SessionWords}
use Rattle.slate_script.specs.declared.options.SessionWords.TheVariants.{Script, Generator}
use Rattle.slate_script.specs.Values.{◌>>=◌}

-- no option
abbrev pub nothing_given : Given
nothing_given = record { operator = None; segments = None; limit = None; is_bare = false }

-- the operator with this name
abbrev pub operator_of : List ℕ → Option ConcatOperator
operator_of name = if bytes_eq name (codes "concat") then Some (record {}) else None

-- the length of a prefix that digits spell: from 1 to 255
abbrev pub length_of : List ℕ → Option ℕ
length_of digits = do
  length ← number_of digits
  if nat_lt 0 length && nat_lt length 256 then Some length else None

-- with the option that a word and its value spell, unless it is given already
abbrev pub with_option : Given → List ℕ → List ℕ → Option Given
with_option given word value =
    if bytes_eq word (codes "--merge") && is_none given.operator then option_map (λ operator. record given { operator = Some operator }) (operator_of value)
    else (if bytes_eq word (codes "--segments") && is_none given.segments then option_map (λ length. record given { segments = Some length }) (length_of value)
    else (if bytes_eq word (codes "--limit") && is_none given.limit then option_map (λ limit. record given { limit = Some limit }) (number_of value)
    else None))

-- whether a word is the option without a value, `--bare`, and it isn't given already
abbrev pub takes_bare : Given → List ℕ → Bool
takes_bare given word = bytes_eq word (codes "--bare") && not given.is_bare

-- With the options that words spell, behind one that waits for its value, where there is one: `--bare` has none, and behind
-- every other word stands its value.
abbrev pub with_words : Given → Option (List ℕ) → List (List ℕ) → Option Given
with_words given None [] = Some given
with_words given (Some word) [] = None
with_words given None (word ∷ words) =
    if takes_bare given word then with_words (record given { is_bare = true }) None words else with_words given (Some word) words
with_words given (Some word) (value ∷ words) = do
  more ← with_option given word value
  with_words more None words

-- The options of a run to which these are given: without `--limit` the limit is 1,073,741,824 bytes, and without `--bare` a
-- compactor, a compaction worker and a collector are registered.
abbrev pub run_options : Given → RunOptions
run_options given = record {
  operator = given.operator;
  segments = given.segments;
  options = record { max_unflushed_bytes = unwrap_or given.limit 1073741824; compactor = not given.is_bare; compaction_worker = not given.is_bare; collector = not given.is_bare };
}

-- the options that words spell
abbrev pub options_of : List (List ℕ) → Option RunOptions
options_of words = option_map run_options (with_words nothing_given None words)

-- ---- the words of a session
-- the seed and the count of puts of a generator
abbrev pub generator_of : List (List ℕ) → Option SessionWords
generator_of (s ∷ c ∷ []) = do
  seed ← number_of s
  count ← number_of c
  if nat_le count 20000 then Some (Generator seed count) else None
generator_of words = None

-- what words ask for: `gen SEED COUNT` for the commands of the generator, or the options of a script
abbrev pub words_of : List (List ℕ) → Option SessionWords
words_of [] = option_map Script (options_of [])
words_of (word ∷ words) = if bytes_eq word (codes "gen") then generator_of words else option_map Script (options_of (word ∷ words))
