use Rattle.std.specs.Vec.{vec_capacity}
use Rattle.slate_rows.proofs.Leb128.{IsHalfway}
use Rattle.slate_rows.proofs.varints.encode_varint.Given as goal

abbrev pub invariant-loop-rest : goal.invariant-loop-rest
invariant-loop-rest l = IsHalfway l.initial.buf.items l.value l.rest l.buf.items (vec_capacity l.buf)

abbrev pub decreases-loop-rest : goal.decreases-loop-rest
decreases-loop-rest l = l.rest
