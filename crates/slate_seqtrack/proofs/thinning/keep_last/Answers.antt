use Rattle.std.proofs.Common.{sym, ◌∙◌, ap, [], ◌∷◌, ◌++◌}
use Rattle.slate_seqtrack.specs.Thinning.{last_alone}
use Rattle.slate_seqtrack.proofs.Packing.{last_alone-push}
use Rattle.slate_seqtrack.proofs.thinning.keep_last.Goals as goal

pub returns-clause-items : goal.returns-clause-items
returns-clause-items g c =
    c.push_reserved.ensures.items ∙ ap (λ xs. xs ++ c.in-Some.last ∷ []) c.clear.ensures.items ∙ sym (ap last_alone c.in-Some.ensures.items ∙ last_alone-push c.pop.new.self.items c.in-Some.last)
