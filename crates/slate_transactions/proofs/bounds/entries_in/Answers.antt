use Rattle.std.proofs.Common.{sym, ◌∙◌}
use Rattle.slate_transactions.proofs.Ranges.{entries-between, entries-crossed}
use Rattle.slate_transactions.proofs.bounds.entries_in.Goals as goal

pub returns-then-is_crossed : goal.returns-then-is_crossed
returns-then-is_crossed g c =
    entries-crossed c.args.range.now _ c.args.map.now.entries _ (sym c.is_crossed.ensures ∙ c.if-is_crossed.true) c.new-least.ensures (c.range.ensures.between tt)

pub returns : goal.returns
returns g c =
    entries-between c.args.range.now _ _ c.args.map.now.entries _ c.as_bound.ensures c.as_bound-2.ensures (c.range-2.ensures.between tt)
