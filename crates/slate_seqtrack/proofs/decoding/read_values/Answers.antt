use Rattle.std.proofs.Common.{◌≡◌, sym, ◌∙◌, ap, ◌<◌, ◌++◌, ◌∷◌, [], inl, Ok, w64, rules, arith}
use mir.Val.{of_z, to_z, SFits}
use Rattle.std.proofs.lemmas.Int.{to_z-of_z}
use Rattle.slate_seqtrack.specs.Reading.{values_at}
use Rattle.slate_seqtrack.proofs.Grammar.{counted-short, counted-next, first-short, first-next, counted-behind}
use Rattle.slate_seqtrack.proofs.decoding.read_values.Goals as goal

pub returns-in_default : goal.returns-in_default
returns-in_default c = inl (counted-short _ c.in_default.ensures.0)

pub returns-then-count-eq0 : goal.returns-then-count-eq0
returns-then-count-eq0 c =
    counted-next _ _ _ c.in-Some.ensures.0 c.in-Some.ensures.1 ∙ ap (λ n. values_at n c.read32.new.self) c.if-count-eq0.true ∙ ap (λ values. Ok (values, c.read32.new.self)) (sym c.new-values.ensures.items)

pub returns-in_default-read64 : goal.returns-in_default-read64
returns-in_default-read64 c =
    let some : 0 < c.in-Some.count = omega arith in
    inl (counted-next _ _ _ c.in-Some.ensures.0 c.in-Some.ensures.1 ∙ first-short _ _ some c.in_default-read64.ensures.0)

pub returns : goal.returns
returns c =
    let some : 0 < c.in-Some.count = omega arith in
    let fits : SFits w64 c.cast_signed-first.result = search rules in
    let first : to_z w64 (of_z w64 c.cast_signed-first.result) ≡ to_z w64 c.in-Some-read64.first = to_z-of_z w64 c.cast_signed-first.result fits ∙ c.cast_signed-first.ensures in
    let start : c.push.new.self.items ≡ to_z w64 c.in-Some-read64.first ∷ [] = c.in_ok-push.ensures.items ∙ ap (λ items. items ++ to_z w64 (of_z w64 c.cast_signed-first.result) ∷ []) c.new-values.ensures.items ∙ ap (λ v. v ∷ []) first in
    counted-behind c.read_later.result (λ v. v.items) c.read_later.new.reader _ _ _ c.push.new.self.items
    (counted-next _ _ _ c.in-Some.ensures.0 c.in-Some.ensures.1 ∙ first-next _ _ _ _ some c.in-Some-read64.ensures.0 c.in-Some-read64.ensures.1)
    start (rw first at c.read_later.ensures)
