use Rattle.std.proofs.Common.{ap, length, ◌∙◌}
use Rattle.slate_directory.proofs.NameLemmas.{length_stem, stem_found, stem_none}
use Rattle.slate_directory.proofs.names.U64FileId.from_stem.Goals as goal

pub returns-then-name-eq-DIGITS-clause-found : goal.returns-then-name-eq-DIGITS-clause-found
returns-then-name-eq-DIGITS-clause-found c = stem_found c.args.name.now c.read_number.result c.if-name-eq-DIGITS.true c.read_number.ensures

pub returns-then-name-eq-DIGITS-clause-none : goal.returns-then-name-eq-DIGITS-clause-none
returns-then-name-eq-DIGITS-clause-none c = stem_none c.args.name.now c.read_number.result c.read_number.ensures

pub returns-else-name-eq-DIGITS-clause-none : goal.returns-else-name-eq-DIGITS-clause-none
returns-else-name-eq-DIGITS-clause-none c = λ none id fits same. c.if-name-eq-DIGITS.false (ap length same ∙ length_stem id fits)
