use Rattle.std.proofs.Common.{rules, sym, ◌∙◌}
use Rattle.slate_script.specs.declared.sessions.Outcome.TheVariants.{WordsRefused}
use Rattle.slate_live.proofs.Endings.{ends-refused}
use Rattle.slate_live.proofs.sessions.session.Goals as goal

pub returns-in-None-clause-ends : goal.returns-in-None-clause-ends
returns-in-None-clause-ends g c = (
  WordsRefused,
  c.finished.ensures.status,
  c.finished.ensures.line,
  ends-refused _ _ _ (sym c.read_words.ensures ∙ c.in-None.is) (c.finished.ensures.replies ∙ c.new.ensures.items),
)

pub returns-in-Some-Generator-clause-ends : goal.returns-in-Some-Generator-clause-ends
returns-in-Some-Generator-clause-ends g c =
    let ends = c.run_generator.ensures.ends (g.I.Source.left c.args.source.now) (g.I.Source.faults c.args.source.now) in
    search (rules, ends)
