use Rattle.slate_seqtrack.proofs.Rising.{rises-answer}
use Rattle.slate_seqtrack.proofs.bytes.never_falls.Goals as goal

pub returns : goal.returns
returns g c = rises-answer g.K.Ord.cmp g.K.PartialOrd.partial_cmp g.met.K.Ord.matches_partial_cmp _ _ c.is_sorted.ensures.cases
