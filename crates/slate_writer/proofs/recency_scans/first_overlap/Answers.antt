use Rattle.std.proofs.Common.{rules}
use Rattle.std.proofs.lemmas.Iterator.{YieldsList-from_slice}
use Rattle.std.proofs.lemmas.Iterator.Search.{find_from_yields_List}
use Rattle.slate_model.specs.Recency.{overlap}
use Rattle.slate_writer.proofs.recency_scans.first_overlap.Goals as goal

pub returns : goal.returns
returns c = find_from_yields_List (overlap c.args.prefix.now) _ _ _ c.find.ensures.ran (YieldsList-from_slice c.args.segments.now cc) (λ x b q k. search rules)
