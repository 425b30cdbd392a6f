use Rattle.std.proofs.Common.{arith}
use Rattle.slate_seqtrack.proofs.Searching.{AnswersAt-up, AnswersAt-down}
use Rattle.slate_seqtrack.proofs.lookups.place_of.Goals as goal

pub returns-then-place-keys : goal.returns-then-place-keys
returns-then-place-keys g c = rw c.in-RoundUp.is (AnswersAt-up g.met.K.Ord.total _ c.requires _ _ c.if-place-keys.true c.count_below-place.ensures.point)

pub returns-else-end-eq0 : goal.returns-else-end-eq0
returns-else-end-eq0 g c =
    rw c.in-RoundDown.is
    (AnswersAt-down g.met.K.Ord.total _ c.requires _ _ _ _ (omega arith) c.count_up_to-end.ensures.bound c.index-keys-end.is c.count_up_to-end.ensures.point c.count_below.ensures.bound c.count_below.ensures.point)
