use Rattle.std.proofs.Common.{◌∙◌, sym, refl}
use Rattle.slate_script.specs.declared.sessions.Outcome.TheVariants.{NoMemory, WordsRefused}
use Rattle.slate_readers.proofs.Endings.{ends-refused, ends-unrun}
use Rattle.slate_readers.proofs.sessions.live_session.Goals as goal

pub returns-in_default-clause-ends : goal.returns-in_default-clause-ends
returns-in_default-clause-ends g c = (
  WordsRefused,
  c.stopped.ensures.status,
  c.stopped.ensures.line,
  ends-refused c.stopped.result _ _ (sym c.read_live_words.ensures ∙ c.in_default.is) c.stopped.ensures.nothing,
)

pub returns-in_default-open-clause-ends : goal.returns-in_default-open-clause-ends
returns-in_default-open-clause-ends g c = (
  NoMemory,
  c.stopped-in_default-open.ensures.status,
  c.stopped-in_default-open.ensures.line,
  ends-unrun c.stopped-in_default-open.result _ _ _ _ (sym c.read_live_words.ensures ∙ c.in-Some.is)
      (record { written = refl; sink_faults = refl; store = refl }) c.stopped-in_default-open.ensures.nothing,
)
