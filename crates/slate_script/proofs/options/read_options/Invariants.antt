-- the options so far and those of the rest are those of the words
use Rattle.std.proofs.Common.{◌≡◌, None, length, map}
use Rattle.std.specs.Prelude.{string_bytes}
use Rattle.slate_script.specs.Options.{nothing_given, with_words}
use Rattle.slate_script.proofs.options.read_options.Given as goal

abbrev pub invariant-loop-rest : goal.invariant-loop-rest
invariant-loop-rest l = with_words l.given None (map string_bytes l.rest) ≡ with_words nothing_given None (map string_bytes l.fn.words)

abbrev pub decreases-loop-rest : goal.decreases-loop-rest
decreases-loop-rest l = length l.rest
