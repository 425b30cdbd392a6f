use Rattle.std.proofs.Common.{◌∙◌, ap, length, unwrap_or, Option, ℕ}
use Rattle.slate_script.proofs.LineLemmas.{end_is}
use Rattle.slate_script.proofs.fields.end_of_line.Goals as goal

pub returns : goal.returns
returns c =
    c.unwrap_or.ensures ∙ ap (λ (place : Option ℕ). unwrap_or place (length c.args.bytes.now)) c.find_byte.ensures.place ∙ end_is c.args.bytes.now
