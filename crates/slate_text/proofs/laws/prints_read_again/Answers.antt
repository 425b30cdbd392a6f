use Rattle.std.proofs.Common.{◌^◌}
use Rattle.slate_text.proofs.NumberLemmas.{number_again, moment_again}
use Rattle.slate_text.proofs.WordLemmas.{word_again}
use Rattle.slate_text.proofs.laws.prints_read_again.Goals as goal

pub returns-clause-words : goal.returns-clause-words
returns-clause-words c = word_again

pub returns-clause-numbers : goal.returns-clause-numbers
returns-clause-numbers c = λ n lt. number_again (2 ^ 64) n lt lt

pub returns-clause-moments : goal.returns-clause-moments
returns-clause-moments c = moment_again
