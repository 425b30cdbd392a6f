use Rattle.slate_script.proofs.BoundLemmas.{bound_again}
use Rattle.slate_script.proofs.laws.bounds_read_again.Goals as goal

pub returns : goal.returns
returns c = bound_again
