use Rattle.slate_directory.proofs.NameLemmas.{suffix_found, suffix_none}
use Rattle.slate_directory.proofs.names.strip_extension.Goals as goal

pub returns-clause-found : goal.returns-clause-found
returns-clause-found c = suffix_found c.args.name.now c.args.extension.now c.strip_suffix.result c.strip_suffix.ensures.cases

pub returns-clause-none : goal.returns-clause-none
returns-clause-none c = suffix_none c.args.name.now c.args.extension.now c.strip_suffix.result c.strip_suffix.ensures.cases
