use Rattle.std.proofs.Common.{◌≡◌, ◌∙◌, ap, not, w64, rules, arith}
use mir.Val.{of_z, to_z, SFits}
use Rattle.std.proofs.lemmas.Int.{to_z-of_z}
use Rattle.slate_seqtrack.proofs.Coding.{end_at, go_on, is_absent, is_present}
use Rattle.slate_seqtrack.proofs.encoding.is_encodable.Goals as goal

pub returns-then-is_none : goal.returns-then-is_none
returns-then-is_none g c =
    let fits : SFits w64 c.signed-value.result = search rules in
    let value : to_z w64 (of_z w64 c.signed-value.result) ≡ g.T.Word.signed c.value-item.result = to_z-of_z w64 _ fits ∙ c.signed-value.ensures in
    let wide = is_absent _ _ c.delta_of_deltas.result c.delta_of_deltas.ensures (c.is_none.ensures ∙ ap not c.if-is_none.true) in
    end_at g.T.Word.signed c.in-Some.later.now c.loop-value.value-index c.value-item.result _ _ _ (rw (c.loop-value.previous-is, c.loop-value.before-is) at c.loop-value.invariant) (omega arith) c.value-item.is (rw (value, c.loop-value.previous-is, c.loop-value.before-is) at wide)

pub loop-value-preserved : goal.loop-value-preserved
loop-value-preserved g c =
    let fits : SFits w64 c.signed-value.result = search rules in
    let value : to_z w64 (of_z w64 c.signed-value.result) ≡ g.T.Word.signed c.value-item.result = to_z-of_z w64 _ fits ∙ c.signed-value.ensures in
    let narrow = is_present _ _ _ c.delta_of_deltas.result c.delta_of_deltas.ensures (c.is_none.ensures ∙ ap not c.if-is_none.false) in
    rw (value, c.loop-value.previous-is)
    (go_on g.T.Word.signed c.in-Some.later.now c.loop-value.value-index c.value-item.result _ _ _ (rw (c.loop-value.previous-is, c.loop-value.before-is) at c.loop-value.invariant) (omega arith) c.value-item.is (rw (value, c.loop-value.previous-is, c.loop-value.before-is) at narrow))
