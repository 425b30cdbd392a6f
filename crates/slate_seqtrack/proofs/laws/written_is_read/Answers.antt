use Rattle.slate_seqtrack.proofs.Lists.{written-again}
use Rattle.slate_seqtrack.proofs.laws.written_is_read.Goals as goal

pub returns : goal.returns
returns c = written-again
