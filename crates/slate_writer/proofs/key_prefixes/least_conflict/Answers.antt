use Rattle.std.proofs.Common.{◌+◌, ◌∷◌, [], take, ap, subst, sym, ◌∙◌}
use Rattle.std.specs.Option.{option_copied}
use Rattle.slate_model.specs.Segments.{nest}
use Rattle.slate_writer.specs.Segments.{IsConflict}
use Rattle.slate_writer.proofs.Prefixes.{conflict-more, conflict-pass, single-none, single-some}
use Rattle.slate_writer.proofs.key_prefixes.least_conflict.Goals as goal
use Rattle.slate_writer.proofs.key_prefixes.least_conflict.Goals.{then-nest, else-nest}

pub loop-other-preserved : goal.loop-other-preserved
loop-other-preserved c =
    let p = c.args.prefix.now in
    let ks = c.args.known.now in
    let i = c.loop-other.other-index in
    let k = c.other-item.result in
    let tested = ap (nest p) (sym c.as_slice.ensures) ∙ sym c.nest.ensures in
    elim c.if-nest.branch [
      | then-nest w ↦
          let found = w.lesser-least.ensures p (take i ks) (k ∷ []) c.loop-other.invariant (single-some p k (tested ∙ w.if-nest.true)) in
          subst (λ l. IsConflict (take (i + 1) ks) p (option_copied l)) (sym w.least-is) (conflict-more p ks i k _ c.loop-other-test.true c.other-item.is found)
      | else-nest w ↦
          let found = conflict-pass p (take i ks) (k ∷ []) (option_copied c.loop-other.least) c.loop-other.invariant (single-none p k (tested ∙ w.if-nest.false)) in
          subst (λ l. IsConflict (take (i + 1) ks) p (option_copied l)) (sym w.least-is) (conflict-more p ks i k _ c.loop-other-test.true c.other-item.is found)
    ]
