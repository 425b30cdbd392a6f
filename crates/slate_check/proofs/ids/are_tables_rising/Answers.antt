use Rattle.std.proofs.Common.{rules}
use Rattle.std.proofs.lemmas.Fn.{always_returns_same}
use Rattle.std.specs.Ordering.{is_lt}
use Rattle.slate_store.specs.Objects.{table_cmp}
use Rattle.slate_check.proofs.Orders.{tables-answer}
use Rattle.slate_check.proofs.ids.are_tables_rising.Goals as goal

pub returns : goal.returns
returns c = tables-answer c.args.ids.now c.is_sorted_by.result (c.is_sorted_by.ensures.cases (λ x y. is_lt (table_cmp x y)) (always_returns_same _ _ _ (λ a r g called. search rules)))
