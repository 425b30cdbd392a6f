use Rattle.std.proofs.Common.{map, sym, ap, ◌∙◌}
use Rattle.std.proofs.lemmas.List.{map_push, take_rest}
use Rattle.slate_script.proofs.LineLemmas.{field_cut, last_field, behind_place}
use Rattle.slate_script.proofs.fields.script_fields.Goals as goal

pub loop-space-preserved : goal.loop-space-preserved
loop-space-preserved c =
    field_cut (map (λ field. field.now) c.loop-space.fields.items) (map (λ field. field.now) c.push.new.self.items) c.loop-space.rest.now _ _ _ c.in-Some.space (sym c.in-Some.ensures.place) c.split_at.ensures.front (behind_place c.in-Some.space c.loop-space.rest.now c.split_at.result.1.now _ c.split_at.ensures.back (take_rest c.split_at.result.1.now 1)) (ap (map (λ field. field.now)) c.in_ok-push.ensures.items ∙ map_push _ _ _) c.loop-space.invariant

pub returns : goal.returns
returns c =
    last_field (map (λ field. field.now) c.loop-space.fields.items) (map (λ field. field.now) c.push-2.new.self.items) c.loop-space.rest.now _ (sym c.in_default.ensures.place) (ap (map (λ field. field.now)) c.in_ok-push-2.ensures.items ∙ map_push _ _ _) c.loop-space.invariant
