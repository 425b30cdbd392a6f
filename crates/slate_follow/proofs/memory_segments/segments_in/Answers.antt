use Rattle.std.proofs.Common.{inl, inr, sym, subst, ◌∙◌}
use Rattle.std.proofs.lemmas.Result.{err_from_is_err_and}
use Rattle.slate_model.proofs.Reopened.{segments-none}
use Rattle.slate_follow.specs.Rebuilding.{Lacks}
use Rattle.slate_follow.proofs.Segmented.{lacks-in}
use Rattle.slate_follow.proofs.memory_segments.segments_in.Goals as goal

pub loop-table-init : goal.loop-table-init
loop-table-init g c x lawful = c.new-all.ensures.items ∙ sym (segments-none x)

pub returns-in_err-all-clause-err : goal.returns-in_err-all-clause-err
returns-in_err-all-clause-err g c x lawful =
    let p = err_from_is_err_and c.from_residual.result c.from_residual.ensures.1 in
    rw (p.1, p.2) (elim (c.in_err-all.ensures.err x lawful) [
      | inl memory ↦ inl memory
      | inr lacks ↦ inr (lacks-in x c.args.tables.now c.loop-table.table-index c.table-item.result c.loop-table-test.true c.table-item.is lacks.0 (subst (λ bs. Lacks x bs lacks.0) c.batches.ensures.value lacks.1))
    ])
