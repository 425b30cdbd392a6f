use Rattle.std.proofs.Common.{◌∙◌, sym}
use Rattle.slate_status.proofs.Unions.{contains_found}
use Rattle.slate_status.proofs.segments.is_among.Goals as goal

pub returns : goal.returns
returns c = λ h. contains_found c.args.present.now c.args.prefix.now c.binary_search.result c.binary_search.ensures.bound c.binary_search.ensures.ok (sym c.is_ok.ensures.value ∙ h)
