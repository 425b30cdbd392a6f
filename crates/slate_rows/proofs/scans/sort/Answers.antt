use Rattle.std.proofs.Common.{rules}
use Rattle.std.proofs.lemmas.Fn.{always_returns_same}
use Rattle.slate_rows.proofs.Grouping.{sorts_before, sorts_before-order, AreSorted-from_sort, of_key-sorted}
use Rattle.slate_rows.proofs.scans.sort.Goals as goal

pub returns-clause-sorted : goal.returns-clause-sorted
returns-clause-sorted c =
    AreSorted-from_sort c.args.order _ (c.in_ok-sort_by.ensures.sorted (sorts_before c.args.order) (sorts_before-order c.args.order) (always_returns_same _ _ _ (λ a r g called. search rules)))

pub returns-clause-same : goal.returns-clause-same
returns-clause-same c =
    of_key-sorted c.args.order _ _ c.in_ok-sort_by.ensures.permutation (c.in_ok-sort_by.ensures.stable (sorts_before c.args.order) (sorts_before-order c.args.order) (always_returns_same _ _ _ (λ a r g called. search rules)))
