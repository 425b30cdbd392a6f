use Rattle.std.proofs.Common.{◌≡◌, length, refl, rules, tests}
use Rattle.std.proofs.lemmas.Iterator.{YieldsList-from_map}
use Rattle.std.proofs.lemmas.Iterator.Adapters.{YieldsList-from_vec, items_from_extend}
use Rattle.std.proofs.lemmas.Iterator.Consumers.{YieldsList-at}
use Rattle.slate_rows.proofs.iterators.add_rows.Goals as goal

pub returns : goal.returns
returns c =
    let given = c.into_iter.ensures.into_iter_gives.0 in
    let items : c.into_iter.result.rest.items ≡ c.args.rows.items = rw given refl in
    let len : c.into_iter.result.rest.len ≡ length c.args.rows.items = rw given c.args.rows.ok.0 in
    let added = items_from_extend c.extend.result c.extend.ensures.ran (YieldsList-from_map _ (λ kept. kept.row) (YieldsList-at c.map.ensures.source (YieldsList-from_vec c.args.rows.items items len)) c.map.ensures.closure (λ x r q k. search (rules, tests))) in
    (rw c.in_ok-extend.was at added).0
