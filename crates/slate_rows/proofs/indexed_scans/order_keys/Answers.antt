use Rattle.std.proofs.Common.{rules}
use Rattle.std.specs.Str.{bytes_eq}
use Rattle.std.proofs.lemmas.Fn.{always_returns_same}
use Rattle.std.proofs.lemmas.List.Filters.{dedup_is}
use Rattle.slate_rows.proofs.Walks.{key_before, key_before-order, keys-in_order, keys-same}
use Rattle.slate_rows.proofs.indexed_scans.order_keys.Goals as goal

pub returns-clause-in_order : goal.returns-clause-in_order
returns-clause-in_order c =
    keys-in_order c.args.order c.sort_by.new.self.items c.dedup.new.self.items
    (c.in_ok-sort_by.ensures.sorted (key_before c.args.order) (key_before-order c.args.order) (always_returns_same _ _ _ (λ a r g called. search rules)))
    (dedup_is (λ x y. bytes_eq x.now y.now) c.sort_by.new.self.items c.dedup.new.self.items c.dedup.ensures.filtered)

pub returns-clause-same : goal.returns-clause-same
returns-clause-same c =
    keys-same c.args.keys.now.items c.sort_by.new.self.items c.dedup.new.self.items c.in_ok-sort_by.ensures.permutation
    (dedup_is (λ x y. bytes_eq x.now y.now) c.sort_by.new.self.items c.dedup.new.self.items c.dedup.ensures.filtered)
