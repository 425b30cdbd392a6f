use Rattle.std.proofs.Common.{rules, ltb}
use Rattle.std.proofs.lemmas.Fn.{always_returns_same}
use Rattle.slate_check.proofs.Orders.{rising-answer}
use Rattle.slate_check.proofs.ids.are_rising.Goals as goal

pub returns : goal.returns
returns c = rising-answer c.args.ids.now c.is_sorted_by.result (c.is_sorted_by.ensures.cases ltb (always_returns_same _ _ _ (λ a r g called. search rules)))
