use Rattle.slate_text.proofs.AppendLemmas.{kept_front, always_on_err}
use Rattle.slate_route.specs.Texts.{answers_text}
use Rattle.std.proofs.Common.{take}
use Rattle.slate_route.proofs.texts.write_answers.Goals as goal

pub returns-in_err-write_answer-clause-err : goal.returns-in_err-write_answer-clause-err
returns-in_err-write_answer-clause-err c =
    always_on_err _ (kept_front c.args.out.now.items (answers_text (take c.loop-answer.answer-index c.args.answers.now)) c.loop-answer.out.items c.write_answer.new.out.items c.loop-answer.invariant c.in_err-write_answer.ensures.err)
