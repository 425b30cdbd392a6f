-- the answers so far are written behind the old text
use Rattle.std.proofs.Common.{◌≡◌, ◌++◌, take}
use Rattle.slate_route.specs.Texts.{answers_text}
use Rattle.slate_route.proofs.texts.write_answers.Given as goal

abbrev pub invariant-loop-answer : goal.invariant-loop-answer
invariant-loop-answer l = l.out.items ≡ l.fn.out.items ++ answers_text (take l.answer-index l.answers)
