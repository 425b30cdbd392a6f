use Rattle.std.proofs.Common.{◌≡◌, sym, ◌∙◌, inl, w32, w64, rules}
use mir.Val.{of_z, to_z, SFits}
use Rattle.std.proofs.lemmas.Int.{to_z-of_z}
use Rattle.slate_seqtrack.proofs.Grammar.{later-init, later-more, later-short, later-overflows, later-end, behind-fault}
use Rattle.slate_seqtrack.proofs.decoding.read_later.Goals as goal

pub loop-init : goal.loop-init
loop-init c = later-init _ _ _ _

pub returns-in_default : goal.returns-in_default
returns-in_default c =
    let kept = rw (to_z-of_z w64 c.args.first c.ranges.first) at c.loop.invariant in
    inl (behind-fault _ _ _ (sym kept ∙ later-short _ _ _ _ c.loop.values.items _ c.loop-test.true c.in_default.ensures))

pub returns-in_default-next_value : goal.returns-in_default-next_value
returns-in_default-next_value c =
    let kept = rw (to_z-of_z w64 c.args.first c.ranges.first) at c.loop.invariant in
    let fits : SFits w32 c.in-Some.code = search rules in
    let code : to_z w32 (of_z w32 c.in-Some.code) ≡ c.in-Some.code = to_z-of_z w32 c.in-Some.code fits in
    inl (behind-fault _ _ _ (sym kept ∙ later-overflows _ _ _ _ c.in-Some.code c.loop.values.items _ _ c.loop-test.true c.in-Some.ensures (rw code at c.in_default-next_value.ensures)))

pub loop-preserved : goal.loop-preserved
loop-preserved c =
    let fits : SFits w32 c.in-Some.code = search rules in
    let code : to_z w32 (of_z w32 c.in-Some.code) ≡ c.in-Some.code = to_z-of_z w32 c.in-Some.code fits in
    let fits_value : SFits w64 c.in-Some-next_value.value = search rules in
    let value : to_z w64 (of_z w64 c.in-Some-next_value.value) ≡ c.in-Some-next_value.value = to_z-of_z w64 c.in-Some-next_value.value fits_value in
    later-more _ _ _ _ c.in-Some.code _ c.loop.values.items _ _ _ c.loop-test.true c.in-Some.ensures
    (value ∙ (rw code at c.in-Some-next_value.ensures.0)) (rw code at c.in-Some-next_value.ensures.1) c.in_ok-push.ensures.items ∙ c.loop.invariant

pub returns : goal.returns
returns c =
    let kept = rw (to_z-of_z w64 c.args.first c.ranges.first) at c.loop.invariant in
    sym kept ∙ later-end _ _ _ _ c.loop.values.items c.loop.reader c.loop-test.false
