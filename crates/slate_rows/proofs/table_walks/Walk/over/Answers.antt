use Rattle.std.proofs.Common.{◌≡◌, sym, subst, true, Contains}
use Rattle.std.specs.List.{AllByRecursion}
use Rattle.slate_types.specs.Order.{AreInOrder}
use Rattle.slate_types.specs.Range.{contains}
use Rattle.slate_rows.proofs.Ahead.{turned-in_order, turned-all, turned-contains}
use Rattle.slate_rows.proofs.table_walks.Walk.over.Goals as goal

pub returns-clause-in_order : goal.returns-clause-in_order
returns-clause-in_order c = subst (AreInOrder c.args.order) (sym c.take_end-next.ensures) (turned-in_order c.args.order c.keys-later.result c.keys-later.ensures.in_order)

pub returns-clause-within : goal.returns-clause-within
returns-clause-within c =
    subst (AllByRecursion (λ key. contains c.args.range.now key ≡ true)) (sym c.take_end-next.ensures) (turned-all (λ key. contains c.args.range.now key ≡ true) c.args.order c.keys-later.result c.keys-later.ensures.within)

pub returns-clause-whole : goal.returns-clause-whole
returns-clause-whole c key within some = subst (λ keys. Contains keys key) (sym c.take_end-next.ensures) (turned-contains c.args.order c.keys-later.result key (c.keys-later.ensures.whole key within some))
