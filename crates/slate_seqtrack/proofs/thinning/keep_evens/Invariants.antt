use Rattle.std.specs.Vec.{vec_capacity}
use Rattle.std.proofs.Common.{◌≡◌}
use Rattle.slate_seqtrack.proofs.Evens.{IsHalved}
use Rattle.slate_seqtrack.proofs.thinning.keep_evens.Given as goal

abbrev pub invariant-loop-i : goal.invariant-loop-i
invariant-loop-i g l = IsHalved l.fn.list.items l.list.items l.i × (vec_capacity l.list ≡ vec_capacity l.fn.list)
