use Rattle.std.proofs.Common.{ap, ◌∙◌}
use Rattle.std.specs.Fmt.{styled_decimal}
use Rattle.slate_directory.proofs.NameLemmas.{styled_stem}
use Rattle.slate_directory.proofs.names.U64FileId.to_stem.Goals as goal

pub returns : goal.returns
returns c = c.in_ok-format.ensures.ok ∙ (ap (λ s. styled_decimal s c.args.self) c.laid_out.ensures ∙ styled_stem c.args.self)
