use Rattle.std.proofs.Common.{rules}
use Rattle.std.proofs.lemmas.Fn.{always_returns_same}
use Rattle.slate_rows.proofs.Recent.{recency_cmp-order}
use Rattle.slate_rows.proofs.recency_scans.sort.Goals as goal

pub returns-clause-sorted : goal.returns-clause-sorted
returns-clause-sorted c = c.in_ok-sort_by.ensures.sorted _ (recency_cmp-order c.args.order) (always_returns_same _ _ _ (λ a r g called. search rules))

pub returns-clause-stable : goal.returns-clause-stable
returns-clause-stable c = c.in_ok-sort_by.ensures.stable _ (recency_cmp-order c.args.order) (always_returns_same _ _ _ (λ a r g called. search rules))
