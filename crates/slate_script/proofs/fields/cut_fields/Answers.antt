use Rattle.std.proofs.Common.{◌≡◌, ◌<◌, ℕ, Some, None, length, arith, sym, ap, ◌∙◌}
use Rattle.std.specs.List.{position}
use Rattle.std.proofs.lemmas.List.{length-drop}
use Rattle.slate_script.specs.Lines.{is_space}
use Rattle.slate_script.proofs.LineLemmas.{field_cut, last_field, behind_place}
use Rattle.slate_script.proofs.fields.cut_fields.Goals as goal

pub loop-space-smaller : goal.loop-space-smaller
loop-space-smaller c =
    let behind = behind_place c.in-Some.space c.loop-space.rest c.split_to.new.self c.advance.new.self c.in_ok-split_to.ensures.rest c.advance.ensures in
    let smaller : length c.advance.new.self < length c.loop-space.rest = omega (arith, ap length behind, length-drop {A = ℕ}, c.in-Some.ensures.within, ap length c.as_slice.ensures) in
    smaller

pub loop-space-preserved : goal.loop-space-preserved
loop-space-preserved c =
    let place : position is_space c.loop-space.rest ≡ Some c.in-Some.space = ap (position is_space) (sym c.as_slice.ensures) ∙ sym c.in-Some.ensures.place in
    let behind = behind_place c.in-Some.space c.loop-space.rest c.split_to.new.self c.advance.new.self c.in_ok-split_to.ensures.rest c.advance.ensures in
    field_cut c.loop-space.fields.items c.push.new.self.items c.loop-space.rest c.advance.new.self c.in_ok-split_to.field-0 _ c.in-Some.space place c.in_ok-split_to.ensures.front behind c.in_ok-push.ensures.items c.loop-space.invariant

pub returns : goal.returns
returns c =
    let place : position is_space c.loop-space.rest ≡ None = ap (position is_space) (sym c.as_slice.ensures) ∙ sym c.in_default.ensures.place in
    last_field c.loop-space.fields.items c.push-2.new.self.items c.loop-space.rest _ place c.in_ok-push-2.ensures.items c.loop-space.invariant
