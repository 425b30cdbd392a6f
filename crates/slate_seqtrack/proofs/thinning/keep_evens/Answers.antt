use Rattle.std.proofs.Common.{◌∙◌, arith}
use Rattle.slate_seqtrack.proofs.Evens.{evens-halved}
use Rattle.slate_seqtrack.proofs.thinning.keep_evens.Goals as goal

pub returns-clause-items : goal.returns-clause-items
returns-clause-items g c =
    c.truncate.ensures.items ∙ evens-halved _ _ _ _ c.loop-i.invariant.0 (omega arith) (omega arith) (omega arith)
