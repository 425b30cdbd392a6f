use Rattle.std.proofs.Common.{ℕ, List, ◌++◌, ◌∷◌, ap, ◌∙◌}
use Rattle.std.specs.Fmt.{styled_decimal}
use Rattle.slate_directory.specs.Names.{number_stem}
use Rattle.slate_directory.proofs.NameLemmas.{styled_stem}
use Rattle.slate_directory.proofs.names.TableIdFileId.to_stem.Goals as goal

pub returns : goal.returns
returns c =
    let epoch = ap (λ s. styled_decimal s c.args.self.epoch) c.laid_out.ensures ∙ styled_stem c.args.self.epoch in
    let index = ap (λ s. styled_decimal s c.args.self.index) c.laid_out-2.ensures ∙ styled_stem c.args.self.index in
    c.in_ok-format.ensures.ok
    ∙ (ap (λ (xs : List ℕ). xs ++ (45 ∷ styled_decimal c.laid_out-2.result c.args.self.index)) epoch
    ∙ ap (λ (xs : List ℕ). number_stem c.args.self.epoch ++ (45 ∷ xs)) index)
