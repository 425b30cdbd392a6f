use Rattle.std.proofs.Common.{◌≡◌, inr, ap, refl, sym, subst, ◌∙◌, length, None}
use Rattle.slate_types.specs.Operator.{concat}
use Rattle.slate_reads.specs.Read.{IsOperator}
use Rattle.slate_script.specs.Generator.{generated, summary_text}
use Rattle.slate_script.specs.declared.options.RunOptions.{RunOptions}
use Rattle.slate_live.specs.Run.{DidAll, IsRun}
use Rattle.slate_script.specs.Sessions.{EndsWriting}
use Rattle.slate_live.specs.Session.{generator_settings}
use Rattle.slate_script.specs.declared.sessions.Outcome.TheVariants.{NoMemory}
use Rattle.slate_model.specs.Known.{known}
use Rattle.slate_live.proofs.Endings.{ends-ungenerated}
use Rattle.slate_live.proofs.sessions.run_generator.Goals as goal

pub returns-in_default-clause-ends : goal.returns-in_default-clause-ends
returns-in_default-clause-ends g c left faults = (
  NoMemory,
  c.finished.ensures.status,
  c.finished.ensures.line,
  ends-ungenerated c.args.seed c.args.count _ _ _ (record { left = refl; source_faults = refl }) (record { written = refl; sink_faults = refl; store = refl })
      (c.finished.ensures.replies ∙ c.new.ensures.items),
)

pub returns-in_default-run-clause-ends : goal.returns-in_default-run-clause-ends
returns-in_default-run-clause-ends g c left faults =
    let kept = c.in_default-run.ensures.nothing in (
      NoMemory,
      c.finished-in_default-run.ensures.status,
      c.finished-in_default-run.ensures.line,
      ends-ungenerated c.args.seed c.args.count _ _ _ (record { left = refl; source_faults = refl })
          (record { written = refl; sink_faults = refl; store = ap (known g.S.Store.objects g.S.Store.faults) kept })
          (c.finished-in_default-run.ensures.replies ∙ c.new-in_default-run.ensures.items),
    )

pub returns-clause-ends : goal.returns-clause-ends
returns-clause-ends g c left faults =
    let before = known g.S.Store.objects g.S.Store.faults c.args.store.now in
    let after = known g.S.Store.objects g.S.Store.faults c.run.new.store in
    let written = g.O.Sink.written c.args.sink.now in
    let written-after = g.O.Sink.written c.write_summary-ending.new.sink in
    let failed = g.O.Sink.faults c.args.sink.now in
    let failed-after = g.O.Sink.faults c.write_summary-ending.new.sink in
    let commands : c.as_slice.result.now ≡ generated c.args.seed c.args.count = c.as_slice.ensures.value ∙ c.in-Ok.ensures in
    let counted : c.len.result ≡ length (generated c.args.seed c.args.count) = c.len.ensures ∙ sym c.as_slice.ensures.len ∙ ap length commands in
    let replied : c.as_slice-2.result.now ≡ c.finished-2.result.replies = c.as_slice-2.ensures.value ∙ sym c.finished-2.ensures.replies in
    let lawful = subst (λ o. IsOperator (λ operator key existing operand answer. answer ≡ concat key existing operand) o None) (sym (c.as_ref.ensures.value ∙ ap (λ (o : RunOptions). o.operator) c.default-options.ensures)) tt in
    let same = sym (ap (λ (o : RunOptions). o.options) c.default-options.ensures) in (
      c.write_summary-ending.result,
      c.finished-2.ensures.status,
      c.finished-2.ensures.line,
      inr (inr (inr (record {
        seed = c.args.seed;
        count = c.args.count;
        accepted = refl;
        source = record { left = refl; source_faults = refl };
        done = subst (λ commands. DidAll generator_settings commands c.finished-2.result.replies before after) commands
            (subst (λ replies. DidAll generator_settings c.as_slice.result.now replies before after) (sym c.finished-2.ensures.replies) (c.in-Ok-run.ensures.does generator_settings (record { operator_is = λ _. lawful; extractor_is = λ _. tt }) same));
        run = subst (λ commands. IsRun generator_settings commands c.finished-2.result.replies before after) commands
            (subst (λ replies. IsRun generator_settings c.as_slice.result.now replies before after) (sym c.finished-2.ensures.replies) (c.in-Ok-run.ensures.leads generator_settings (record { operator_is = λ _. lawful; extractor_is = λ _. tt }) same));
        writing = subst (λ count. EndsWriting c.write_summary-ending.result (summary_text count c.finished-2.result.replies) written written-after failed failed-after) counted
            (subst (λ replies. EndsWriting c.write_summary-ending.result (summary_text c.len.result replies) written written-after failed failed-after) replied c.write_summary-ending.ensures.writes);
      }))),
    )
