use Rattle.std.proofs.Common.{ℕ, List, ◌∙◌, subst, sym}
use Rattle.slate_status.specs.Segments.{PrefixesRise}
use Rattle.slate_status.proofs.Unions.{rising-nil}
use Rattle.slate_status.proofs.records.StatusRecord.new.Goals as goal

pub invariant_of-result : goal.invariant_of-result
invariant_of-result c = subst (λ (ps : List (List ℕ)). PrefixesRise ps) (sym (c.of.ensures ∙ c.new.ensures.items)) rising-nil
