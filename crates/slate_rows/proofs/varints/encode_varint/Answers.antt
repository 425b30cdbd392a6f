use Rattle.std.proofs.Common.{refl, arith}
use Rattle.slate_rows.proofs.Leb128.{IsHalfway-init, IsHalfway-more, IsHalfway-end}
use Rattle.slate_rows.proofs.varints.encode_varint.Goals as goal

pub loop-rest-init : goal.loop-rest-init
loop-rest-init c = IsHalfway-init _ c.varint_len.result _ _ c.varint_len.ensures (omega (arith, c.in_ok-reserve.ensures.ok))

pub loop-rest-preserved : goal.loop-rest-preserved
loop-rest-preserved c =
    IsHalfway-more _ _ c.loop-rest.rest _ _ _ _ _ c.loop-rest.invariant c.loop-rest-test.true refl c.push_reserved.ensures.items c.push_reserved.ensures.capacity

pub returns-clause-ok : goal.returns-clause-ok
returns-clause-ok c =
    rw (← c.in_ok-reserve.ensures.items)
    (IsHalfway-end _ _ c.loop-rest.rest _ _ _ _ c.loop-rest.invariant c.loop-rest-test.false (omega arith) refl c.push_reserved-2.ensures.items)
