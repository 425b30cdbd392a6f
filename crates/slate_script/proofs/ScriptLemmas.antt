-- Reading the lines of a script one after another.
use Rattle.std.proofs.Common.{◌≡◌, ℕ, ◌+◌, List, [], ◌∷◌, ◌++◌, Option, Result, Ok, Err, refl, sym, ap, ◌∙◌, append_assoc}
use Rattle.slate_script.specs.declared.commands.LineAnswer.{LineAnswer}
use Rattle.slate_script.specs.declared.commands.LineAnswer.TheVariants as answers
use Rattle.slate_script.specs.Lines.{line_by, with_commands, line_then, commands_from}

module _ {C : Type 0} (spelled : List (List ℕ) → Option C) where
  regroup : (front : List C) (command : C) (behind : Result (List C) ℕ) → with_commands (front ++ command ∷ []) behind ≡ with_commands front (with_commands (command ∷ []) behind)
  regroup front command (Ok commands) = ap (λ (cs : List C). Ok cs) (append_assoc front (command ∷ []) commands)
  regroup front command (Err number) = refl

  -- one more line that holds a command
  pub command_taken : (front out : List C) (number : ℕ) (line : List ℕ) (lines behind : List (List ℕ)) (command : C) (total : Result (List C) ℕ) → lines ≡ line ∷ behind → line_by spelled line ≡ answers.Command command → out ≡ front ++ command ∷ [] → with_commands front (commands_from spelled number lines) ≡ total → with_commands out (commands_from spelled (number + 1) behind) ≡ total
  command_taken front out number line lines behind command total lines-are line-is out-is so_far =
      let rest = commands_from spelled (number + 1) behind in
      let first : commands_from spelled number lines ≡ with_commands (command ∷ []) rest = ap (commands_from spelled number) lines-are ∙ ap (λ (answer : LineAnswer C). line_then number answer rest) line-is in
      ap (λ (cs : List C). with_commands cs rest) out-is ∙ regroup front command rest ∙ ap (with_commands front) (sym first) ∙ so_far
