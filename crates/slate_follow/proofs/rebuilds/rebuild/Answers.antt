use Rattle.std.proofs.Common.{◌≡◌, None, Err, inl, inr, ap, subst, sym, ◌∙◌, arith}
use Rattle.std.proofs.lemmas.Result.{err_from_is_err_and}
use Rattle.slate_errors.specs.declared.errors.SlateError.TheVariants.{EmptySegmentPrefix}
use Rattle.slate_follow.proofs.Answering.{refused-some}
use Rattle.slate_follow.proofs.Refusing.{err-same}
use Rattle.slate_types.proofs.Lines.{above-all}
use Rattle.slate_model.specs.Segments.{ops_of, segments_of, unsegmented_refusal}
use Rattle.slate_follow.proofs.rebuilds.rebuild.Goals as goal

pub returns-clause-segments : goal.returns-clause-segments
returns-clause-segments g c x lawful =
    let floor = c.args.view.manifest.last_l0_seq in
    let memory = c.in_ok-memory.memory in
    let s = c.in_ok-segments.ensures.ok x lawful in
    let above = above-all floor floor memory c.in_ok-memory.ensures.numbered (omega arith) in (
      c.of.ensures ∙ (s.1 ∙ (ap (segments_of x) c.batches.ensures.value ∙ ap (segments_of x) (sym above))),
      subst (λ bs. unsegmented_refusal x (ops_of bs) ≡ None) c.batches.ensures.value s.0,
    )

pub returns-in_err-segments-clause-named : goal.returns-in_err-segments-clause-named
returns-in_err-segments-clause-named g c x key lawful is =
    let p = err_from_is_err_and c.from_residual-in_err-segments.result c.from_residual-in_err-segments.ensures.1 in
    let e = c.in_err-segments.field-0.0 in
    let named : e ≡ EmptySegmentPrefix key = err-same _ e (EmptySegmentPrefix key) (sym (p.1 ∙ ap Err p.2) ∙ is) in
    elim (c.in_err-segments.ensures.err x lawful) [
      | inl memory ↦ absurd (cc (memory, named))
      | inr refused ↦ refused-some x _ e refused
    ]
