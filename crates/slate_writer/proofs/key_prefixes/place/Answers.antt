use Rattle.std.proofs.Common.{◌≡◌, rules}
use Rattle.std.proofs.lemmas.Fn.{always_returns_same}
use Rattle.slate_types.specs.Range.{key_cmp}
use Rattle.slate_writer.proofs.Orders.{place-is}
use Rattle.slate_writer.proofs.key_prefixes.place.Goals as goal

pub returns : goal.returns
returns c =
    let p = c.args.prefix.now in
    place-is c.args.known.now p c.binary_search_by.result c.binary_search_by.ensures.bound
    (c.binary_search_by.ensures.position (λ k. key_cmp k p) (always_returns_same _ (λ a r. r ≡ key_cmp a.0.now p) _ (λ a r f h. search rules))) c.requires
