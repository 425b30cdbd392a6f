use Rattle.std.proofs.Common.{◌≡◌, ◌-◌, ◌++◌, take}
use Rattle.slate_rows.specs.Taken.{after_taking}
use Rattle.slate_rows.proofs.iterators.DbIterator.add_next_rows.Given as goal

abbrev pub invariant-rows : goal.invariant-rows
invariant-rows l = record {
  rows : l.list.items ++ take (l.count - l.counter) l.self.rows ≡ l.initial.list.items ++ take l.count l.initial.self.rows;
  after : after_taking (l.count - l.counter) l.self ≡ after_taking l.count l.initial.self;
}
