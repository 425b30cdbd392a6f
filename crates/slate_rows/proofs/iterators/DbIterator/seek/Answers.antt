use Rattle.std.proofs.Common.{◌≡◌, None, true, false}
use Rattle.slate_rows.specs.Iteration.{is_returned}
use Rattle.slate_types.specs.Range.{contains}
use Rattle.slate_rows.proofs.Passing.{AreKept-passed, kept_rows-filter}
use Rattle.slate_rows.proofs.iterators.DbIterator.seek.Goals as goal

pub invariant_of-self : goal.invariant_of-self
invariant_of-self c = AreKept-passed _ c.args.next_key.now _ _ c.pass.ensures c.self.invariant

pub returns-clause-ok : goal.returns-clause-ok
returns-clause-ok c =
    let none : c.self.inside.answered ≡ None = c.in_default.is in
    let in_range : contains c.self.inside.range c.args.next_key.now ≡ true = cc in
    let later : is_returned c.self.inside.returned c.args.next_key.now ≡ false = cc in
    rw (← c.self.view_is) (rw (none, in_range, later), rw (c.pass.ensures, kept_rows-filter c.self.inside.order c.args.next_key.now c.self.inside.rows.items c.self.invariant.copies))
