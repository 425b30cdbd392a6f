use Rattle.std.proofs.Common.{◌∙◌, sym, ap, subst, Err}
use Rattle.std.specs.Option.{IfSome}
use Rattle.std.proofs.lemmas.Result.{err_from_is_err_and}
use Rattle.slate_model.specs.Open.{manifest_refusal, mark_of}
use Rattle.slate_writer.specs.Opening.{FindsLog, IsOfManifest}
use Rattle.slate_writer.proofs.Answering.{undecided}
use Rattle.slate_writer.proofs.Openings.{refused-fits, unlogged-fits}
use Rattle.slate_writer.proofs.opens.find_next.Goals as goal

pub returns-in-Some-clause-fits : goal.returns-in-Some-clause-fits
returns-in-Some-clause-fits g c x lawful named =
    let is = ap (manifest_refusal x) (sym c.as_ref-2.ensures.value) ∙ sym (c.in_ok-error.ensures.refusal x lawful) ∙ c.in-Some.is in
    refused-fits _ x c.in_ok-latest.latest c.in-Some.error c.in_ok-latest.ensures.found is (subst (λ o. IfSome o IsOfManifest) c.in-Some.is c.in_ok-error.ensures.kind)

pub returns-in_err-last-clause-fits : goal.returns-in_err-last-clause-fits
returns-in_err-last-clause-fits g c x lawful named =
    let p = err_from_is_err_and c.from_residual-in_err-last.result c.from_residual-in_err-last.ensures.1 in
    let is = ap (manifest_refusal x) (sym c.as_ref-2.ensures.value) ∙ sym (c.in_ok-error.ensures.refusal x lawful) ∙ c.in_default.is in
    rw (p.1, p.2) (unlogged-fits _ (g.S.Store.objects c.latest_manifest.new.self) x c.in_ok-latest.latest c.in_err-last.field-0.0 c.in_ok-latest.ensures.found is c.in_ok-latest.ensures.kept (subst (λ m. IfSome (g.S.Store.objects c.latest_manifest.new.self) (λ o. FindsLog (mark_of m) o (Err c.in_err-last.field-0.0))) c.as_ref-3.ensures.value c.in_err-last.ensures.where_modelled))

pub returns-in_err-last-clause-first : goal.returns-in_err-last-clause-first
returns-in_err-last-clause-first g c x o lawful is decided =
    let none = ap (manifest_refusal x) (sym c.as_ref-2.ensures.value) ∙ sym (c.in_ok-error.ensures.refusal x lawful) ∙ c.in_default.is in
    undecided _ x c.in_ok-latest.latest c.in_ok-latest.ensures.found none o is decided

pub returns-clause-first : goal.returns-clause-first
returns-clause-first g c x o lawful is decided =
    let none = ap (manifest_refusal x) (sym c.as_ref-2.ensures.value) ∙ sym (c.in_ok-error.ensures.refusal x lawful) ∙ c.in_default.is in
    undecided _ x c.in_ok-latest.latest c.in_ok-latest.ensures.found none o is decided
