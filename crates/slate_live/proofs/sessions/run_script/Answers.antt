use Rattle.std.proofs.Common.{◌≡◌, ◌++◌, codes, inl, inr, ap, refl, sym, subst, ◌∙◌}
use Rattle.std.specs.Fmt.{decimal}
use Rattle.std.specs.Option.{option_map}
use Rattle.slate_types.specs.Operator.{concat}
use Rattle.slate_types.specs.Prefix.{fixed_prefix}
use Rattle.slate_model.specs.Segments.{IsExtractor}
use Rattle.slate_reads.specs.Read.{IsOperator}
use Rattle.slate_script.specs.Replies.{replies_text}
use Rattle.slate_live.specs.Run.{DidAll, IsRun}
use Rattle.slate_script.specs.Sessions.{EndsWriting}
use Rattle.slate_live.specs.Session.{fixed_extractor, settings_of}
use Rattle.slate_script.specs.declared.sessions.Outcome.TheVariants.{NoMemory}
use Rattle.slate_model.specs.Known.{known}
use Rattle.slate_live.proofs.Endings.{appends, ends-unrun, extracts}
use Rattle.slate_live.proofs.sessions.run_script.Goals as goal

pub returns-in_default-clause-ends : goal.returns-in_default-clause-ends
returns-in_default-clause-ends g c = (
  NoMemory,
  c.finished-in_default.ensures.status,
  c.finished-in_default.ensures.line,
  ends-unrun c.args.options _ _ _
      (record { written = refl; sink_faults = refl; store = refl })
      (c.finished-in_default.ensures.replies ∙ c.new-in_default.ensures.items),
)

pub returns-in_default-run-clause-ends : goal.returns-in_default-run-clause-ends
returns-in_default-run-clause-ends g c =
    let kept = c.in_default-run.ensures.nothing in (
      NoMemory,
      c.finished-in_default-run.ensures.status,
      c.finished-in_default-run.ensures.line,
      ends-unrun c.args.options _ _ _
          (record { written = refl; sink_faults = refl; store = ap (known g.S.Store.objects g.S.Store.faults) kept })
          (c.finished-in_default-run.ensures.replies ∙ c.new-in_default-run.ensures.items),
    )

pub returns-clause-ends : goal.returns-clause-ends
returns-clause-ends g c =
    let words = c.args.options in
    let script = c.in-Ok.ensures.reads in
    let merge = option_map (λ operator. concat) words.operator in
    let lawful = subst (λ o. IsOperator (λ operator key existing operand answer. answer ≡ concat key existing operand) o merge) (sym c.as_ref.ensures.value) (appends words.operator) in
    let extractor = option_map fixed_extractor words.segments in
    let cuts = subst (λ o. IsExtractor (λ length name. name ≡ codes "fixed-" ++ decimal length) (λ length key answer. answer ≡ fixed_prefix length key) o extractor) (sym (c.as_ref-2.ensures.value ∙ c.in-Ok-extractor_of.ensures)) (extracts words.segments) in
    let before = known g.S.Store.objects g.S.Store.faults c.args.store.now in
    let after = known g.S.Store.objects g.S.Store.faults c.run.new.store in
    let same : c.as_slice-2.result.now ≡ c.finished-2.result.replies = c.as_slice-2.ensures.value ∙ sym c.finished-2.ensures.replies in (
      c.write_replies-ending.result,
      c.finished-2.ensures.status,
      c.finished-2.ensures.line,
      inr (inr (inl (record {
        options = words;
        accepted = refl;
        whole = record {
          bytes = script.0;
          read = script.1;
          commands = c.in-Ok.commands.items;
          spelled = script.2;
          text = replies_text c.finished-2.result.replies;
          runs = record {
            text_is = refl;
            done = subst (λ commands. DidAll (settings_of words) commands c.finished-2.result.replies before after) c.as_slice.ensures.value
                (subst (λ replies. DidAll (settings_of words) c.as_slice.result.now replies before after) (sym c.finished-2.ensures.replies) (c.in-Ok-run.ensures.does (settings_of words) (record { operator_is = λ _. lawful; extractor_is = λ _. cuts }) refl));
            run = subst (λ commands. IsRun (settings_of words) commands c.finished-2.result.replies before after) c.as_slice.ensures.value
                (subst (λ replies. IsRun (settings_of words) c.as_slice.result.now replies before after) (sym c.finished-2.ensures.replies) (c.in-Ok-run.ensures.leads (settings_of words) (record { operator_is = λ _. lawful; extractor_is = λ _. cuts }) refl));
          };
          writing = subst (λ replies. EndsWriting c.write_replies-ending.result (replies_text replies) (g.O.Sink.written c.args.sink.now) (g.O.Sink.written c.write_replies-ending.new.sink) (g.O.Sink.faults c.args.sink.now) (g.O.Sink.faults c.write_replies-ending.new.sink)) same c.write_replies-ending.ensures.writes;
        };
      }))),
    )
