use Rattle.std.proofs.Common.{◌≡◌, ◌++◌, ◌∷◌, [], List, inr, ap, ◌∙◌}
use Rattle.slate_jobs.specs.declared.commands.JobAnswer.{JobAnswer}
use Rattle.slate_jobs.specs.declared.commands.JobAnswer.TheVariants.{Refused}
use Rattle.slate_jobs.proofs.sessions.run_commands.Goals as goal

pub returns-in-Err-clause-answers : goal.returns-in-Err-clause-answers
returns-in-Err-clause-answers g c =
    let one : c.push_reserved.new.self.items ≡ Refused c.in-Err.refusal ∷ [] = c.push_reserved.ensures.items ∙ ap (λ (xs : List JobAnswer). xs ++ Refused c.in-Err.refusal ∷ []) c.in_ok-answers.ensures.items in record {
      each = inr (c.in-Err.refusal, one);
      honest = λ o is sound.
          let opens = c.in-Err.ensures.opens o is sound in
          inr (record { refusal = c.in-Err.refusal; answers_are = one; left = opens.0; modelled = opens.1; opens = opens.2; cause = c.in-Err.ensures.causes o is sound });
    }
